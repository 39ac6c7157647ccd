use mathlib.Core.Path.{◌≡◌, sym, ap, subst, ◌∙◌}
use mathlib.Core.List.{◌++◌}
use Prim.Native.Nat.{◌+◌, ◌*◌, ◌≤◌}
use native.Mathlib.Omega.{arith}
use Rattle.std.proofs.lemmas.Result.{err_from_is_err_and}
use Rattle.rules.specs.Binding.{ask_entries}
use Rattle.builder.specs.Params.{parameters_in}
use Rattle.cells.proofs.LawsListed.{listed_end}
use Rattle.calls.specs.Head.{head_of, entries_from}
use Rattle.findings.specs.Resolved.{Resolved}
use Rattle.findings.specs.Resolve.{pairs_from}
use Rattle.findings.specs.EntriesDone.{written_names, entry_at}
use Rattle.findings.specs.Entries.{entered_in}
use Rattle.findings.proofs.LawsNames.{one_each}
use Rattle.findings.proofs.LawsLoop.{entries_near, resolved_held, before_few, before_room, asked_refused, asked_free, resolved_free}
use Rattle.findings.proofs.LawsEnded.{err_ok, same_ok}
use Rattle.findings.proofs.entries.resolve_entries.Goals as goal
use Rattle.findings.proofs.entries.resolve_entries.Goals.{After-entries_from-from, After-entry_at}

-- where the entries begin is near
from_near : (c : After-entries_from-from) → c.entries_from-from.result ≤ 1024
from_near c = omega (arith, c.entries_from-from.ensures, entries_near (head_of c.args.call.now.head) c.requires.ready.few)

-- what was answered for entry k
entered_is : (c : After-entry_at) → let a = c.args in let at = c.loop-k in
    c.entry_at.result
    ≡ entered_in a.list.now.area.now a.list.now.params a.call.now.area.now a.call.now.cells.now (entries_from (head_of a.call.now.head) + 4 * at.k) a.resolved.now.next at.resolved.sources at.resolved.rest at.resolved.count
entered_is c =
    let a = c.args in
    let at = c.loop-k in
    c.entry_at.ensures
    ∙ ap (λ next. entered_in a.list.now.area.now a.list.now.params a.call.now.area.now a.call.now.cells.now (c.entries_from-from.result + 4 * at.k) next at.resolved.sources at.resolved.rest at.resolved.count) at.invariant.0
    ∙ ap (λ n. entered_in a.list.now.area.now a.list.now.params a.call.now.area.now a.call.now.cells.now (n + 4 * at.k) a.resolved.now.next at.resolved.sources at.resolved.rest at.resolved.count) c.entries_from-from.ensures

pub overflow_add-pair : goal.overflow_add-pair
overflow_add-pair c = omega (arith, from_near (goal.at.overflow_add-pair c).After-entries_from-from)

pub entry_at-requires : goal.entry_at-requires
entry_at-requires c =
    let at = c.loop-k in
    let ready = c.requires.ready in (
      resolved_held _ _ _ _ _ _ _ (at.invariant.1 c.requires.indices ready).0 (before_few _ _ _ _ _ _ _ _ _ ready at.k at.auto.k-end),
      one_each _ _ c.args.call.now.cells.now c.args.call.now.area.now ready.list,
    )

pub returns-in_err-found-clause-entries : goal.returns-in_err-found-clause-entries
returns-in_err-found-clause-entries c o ready =
    let at = c.loop-k in
    let so_far = at.invariant.1 o ready in
    let answered = sym (entered_is (goal.at.returns-in_err-found-clause-entries c).After-entry_at) ∙ c.in_err-found.was in
    let p = err_from_is_err_and c.from_residual.result c.from_residual.ensures.1 in
    rw (p.1, p.2)
    record {
      answer = λ P u. sym (so_far.1 P u ∙ asked_refused _ _ _ _ _ _ _ _ _ ready at.k c.loop-k-test.true _ _ _ so_far.0 P u c.in_err-found.field-0.0 answered);
      resolved = λ n e. err_ok e;
    }

pub enter-requires : goal.enter-requires
enter-requires c =
    let at = c.loop-k in
    let ready = c.requires.ready in
    let below = c.loop-k-test.true in (
      omega (arith, from_near (goal.at.enter-requires c).After-entries_from-from, ready.few.few_d, below),
      omega (arith, (at.invariant.1 c.requires.indices ready).0.in_rest, before_room _ _ _ _ _ _ _ _ _ ready at.k below),
    )

pub loop-k-preserved : goal.loop-k-preserved
loop-k-preserved c =
    let at = c.loop-k in
    let below = c.loop-k-test.true in
    let found = c.in_ok-found.found in
    let free = sym (entered_is (goal.at.loop-k-preserved c).After-entry_at) ∙ c.in_ok-found.was in (
      c.enter.ensures.next ∙ at.invariant.0,
      λ o ready.
          let so_far = at.invariant.1 o ready in (
            rw (c.enter.ensures.count, c.enter.ensures.sources, c.enter.ensures.rest, c.entries_from-from.ensures)
                (resolved_free _ _ _ _ _ _ _ _ _ ready at.k below _ _ _ so_far.0 found free),
            λ P u. so_far.1 P u ∙ asked_free _ _ _ _ _ _ _ _ _ ready at.k below _ _ _ so_far.0 found free P u,
          ),
    )

pub returns-clause-entries : goal.returns-clause-entries
returns-clause-entries c o ready =
    let a = c.args in
    let at = c.loop-k in
    let cells = a.call.now.cells.now in
    let area = a.call.now.area.now in
    let h = head_of a.call.now.head in
    let qs = parameters_in a.list.now.area.now a.list.now.params in
    let written = written_names area cells h in
    let whole : at.k ≡ h.d = omega (arith, at.auto.k-end, c.loop-k-test.false) in
    let so_far = at.invariant.1 o ready in
    record {
      answer = λ P u. sym (so_far.1 P u ∙ ap (ask_entries qs P (written ++ pairs_from area cells (entries_from h) at.k)) (listed_end (λ j. entry_at area cells (entries_from h + 4 * j)) at.k h.d c.loop-k-test.false));
      resolved = λ n e.
          let same : at.resolved.count ≡ n = same_ok e in
          subst (λ m. Resolved qs cells area (written ++ pairs_from area cells (entries_from h) h.d) at.resolved.sources at.resolved.rest m) same
          (subst (λ m. Resolved qs cells area (written ++ pairs_from area cells (entries_from h) m) at.resolved.sources at.resolved.rest at.resolved.count) whole so_far.0);
    }
