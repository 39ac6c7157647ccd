use mathlib.Core.Path.{◌≡◌, refl, sym, ap, ◌∙◌}
use Prim.Native.Nat.{◌+◌, ◌*◌}
use native.Mathlib.Omega.{arith}
use Rattle.rules.specs.Text.{among}
use Rattle.rules.specs.Binding.{texts_of}
use Rattle.cells.specs.Text.{part_at}
use Rattle.cells.specs.Record.{pair_at}
use Rattle.builder.specs.declared.spec.DefParamIndices.{DefParamIndices}
use Rattle.findings.specs.Resolved.{named_at}
use Rattle.findings.specs.Resolve.{Naming, with_indices, pairs_from}
use Rattle.findings.specs.Entries.{held_names, repeats_by}
use Rattle.findings.proofs.LawsNames.{one_each, naming_few, naming_room, naming_repeats, naming_twice, naming_differ, naming_step}
use Rattle.findings.proofs.LawsLoop.{resolved_held}
use Rattle.findings.proofs.LawsEnded.{err_ok, same_err}
use Rattle.findings.proofs.resolve.resolve_names.Goals as goal
use Rattle.findings.proofs.resolve.resolve_names.Goals.{After-repeats}

pub loop-k-init : goal.loop-k-init
unfolding texts_of
loop-k-init c = (refl, λ o naming. (refl, naming.empty))

pub found_at-found-requires : goal.found_at-found-requires
found_at-found-requires c = one_each _ _ c.args.call.now.cells.now c.args.call.now.area.now c.requires.naming.list

pub repeats-requires : goal.repeats-requires
repeats-requires c =
    let naming = c.requires.naming in
    resolved_held _ _ _ _ _ _ _ (c.loop-k.invariant.1 c.requires.indices naming).1
    (omega (arith, naming_few _ _ _ _ _ _ _ _ naming c.loop-k.k c.loop-k-test.true))

-- the test says whether the name at k is one of those before it, whichever list has the parameters
tested : (c : After-repeats) (o : DefParamIndices) → let a = c.args in
    let cells = a.call.now.cells.now in
    let area = a.call.now.area.now in
    Naming a.list.now.area.now (with_indices a.list.now o) cells area a.from a.n a.resolved.now.sources a.resolved.now.rest
    → c.repeats.result ≡ among (named_at area cells (a.from + 4 * c.loop-k.k)).name.bytes (texts_of (pairs_from area cells a.from c.loop-k.k))
tested c o naming =
    let a = c.args in
    let at = c.loop-k in
    let cells = a.call.now.cells.now in
    let area = a.call.now.area.now in
    c.repeats.ensures
    ∙ ap (λ f. repeats_by f at.resolved.sources (held_names area cells at.resolved.rest at.resolved.count) (part_at area (pair_at cells (a.from + 4 * at.k)).payload)) c.found_at-found.ensures
    ∙ naming_repeats _ _ _ _ _ _ _ _ naming at.k c.loop-k-test.true _ _ _ (at.invariant.1 o naming).1

pub returns-then-repeats-clause-names : goal.returns-then-repeats-clause-names
returns-then-repeats-clause-names c o naming =
    let again = sym (tested (goal.at.returns-then-repeats-clause-names c).After-repeats o naming) ∙ c.if-repeats.true in
    record {
      all = λ m e. err_ok e;
      repeated = λ q e. (sym (same_err e), naming_twice _ _ _ _ _ _ _ _ naming c.loop-k.k c.loop-k-test.true again);
    }

pub enter-requires : goal.enter-requires
enter-requires c =
    let naming = c.requires.naming in
    let at = c.loop-k in (
      omega (arith, naming.pairs.few, naming.pairs.near, c.loop-k-test.true),
      naming_room _ _ _ _ _ _ _ _ naming at.k c.loop-k-test.true _ _ _ (at.invariant.1 c.requires.indices naming).1,
    )

pub loop-k-preserved : goal.loop-k-preserved
loop-k-preserved c =
    let at = c.loop-k in
    let below = c.loop-k-test.true in (
      c.enter.ensures.next ∙ at.invariant.0,
      λ o naming.
          let so_far = at.invariant.1 o naming in
          let fresh = sym (tested (goal.at.loop-k-preserved c).After-repeats o naming) ∙ c.if-repeats.false in (
            naming_differ _ _ _ _ _ _ _ _ naming at.k below so_far.0 fresh,
            rw (c.enter.ensures.count, c.enter.ensures.sources, c.enter.ensures.rest, c.found_at-found.ensures)
                (naming_step _ _ _ _ _ _ _ _ naming at.k below _ _ _ so_far.1 fresh),
          ),
    )
