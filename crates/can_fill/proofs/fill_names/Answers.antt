-- `can_fill::fill_names` meets its contract: one name more is counted in each turn, or is why the call cannot. Assumes nothing.
use mathlib.Core.Path.{◌≡◌, sym, ap, ap₂, subst, ◌∙◌}
use mathlib.Core.Bool.{true, false≢true}
use Prim.Native.Nat.{ℕ, ◌+◌, ◌*◌}
use native.Mathlib.Omega.{arith}
use Rattle.rules.specs.Value.{value_width}
use Rattle.rules.specs.CallRecord.{head_width}
use Rattle.builder.specs.Params.{parameters_in}
use Rattle.calls.specs.Head.{head_of, named_from}
use Rattle.std.specs.Prelude.{Option}
use Rattle.std.specs.Prelude as std
use Rattle.findings.specs.Resolve.{found_at}
use Rattle.findings.proofs.LawsNames.{one_each}
use Rattle.can_fill.specs.CanFill.{bytes_from, written_in, free_for}
use Rattle.can_fill.proofs.LawsFilling.{Counted}
use Rattle.can_fill.proofs.LawsCanFill.{names_none, names_more, names_stop, names_end}
use Rattle.can_fill.proofs.fill_names.Goals as goal
use Rattle.can_fill.proofs.fill_names.Goals.{After-fill}

pub loop-k-init : goal.loop-k-init
loop-k-init c =
    let a = c.args in
    names_none a.list.now.area.now a.list.now a.call.now.cells.now a.call.now.area.now (head_of a.call.now.head) a.next a.named.now c.requires

-- the pairs begin near the front
pub overflow_add-from : goal.overflow_add-from
unfolding named_from head_width value_width
overflow_add-from c = omega arith

pub found_at-found-requires : goal.found_at-found-requires
found_at-found-requires c =
    let a = c.args in
    one_each a.list.now.area.now a.list.now a.call.now.cells.now a.call.now.area.now c.requires.call.list

-- what was found for the name, whether that is free, and what is named after it
module _ (c : After-fill) where
  abbrev found : Option ℕ
  found =
      let a = c.args in
      found_at a.list.now.area.now a.list.now a.call.now.area.now a.call.now.cells.now (named_from (head_of a.call.now.head) + 4 * c.loop-k.k)

  found_there : c.found_at-found.result ≡ found
  found_there =
      let a = c.args in
      c.found_at-found.ensures ∙ ap (λ n. found_at a.list.now.area.now a.list.now a.call.now.area.now a.call.now.cells.now (n + 4 * c.loop-k.k)) c.named_from-from.ensures

  tested
      : let a = c.args in
      free_for found (std.is_some a.list.now.indices.kwargs) a.next c.loop-k.named ≡ c.fill.result
  tested =
      let a = c.args in
      sym (c.fill.ensures.free ∙ ap₂ (λ f b. free_for f b a.next c.loop-k.named) found_there c.is_some-kwargs.ensures)

pub returns-then-not-fill : goal.returns-then-not-fill
returns-then-not-fill c =
    let a = c.args in
    let below = c.loop-k-test.true in
    let at = c.loop-k in
    record {
      answer = sym (names_stop a.list.now.area.now a.list.now a.call.now.cells.now a.call.now.area.now (head_of a.call.now.head) a.next a.named.now c.requires at.k below at.named at.invariant (tested (goal.at.returns-then-not-fill c).After-fill ∙ c.if-not-fill.true));
      counts = λ e. absurd (false≢true e);
    }

pub loop-k-preserved : goal.loop-k-preserved
loop-k-preserved c =
    let a = c.args in
    let below = c.loop-k-test.true in
    let at = c.loop-k in
    let yes_free : c.fill.result ≡ true = c.if-not-fill.false in
    rw (c.fill.ensures.named yes_free, found_there (goal.at.loop-k-preserved c).After-fill)
    (names_more a.list.now.area.now a.list.now a.call.now.cells.now a.call.now.area.now (head_of a.call.now.head) a.next a.named.now c.requires at.k below at.named at.invariant (tested (goal.at.loop-k-preserved c).After-fill ∙ yes_free))

pub returns : goal.returns
returns c =
    let a = c.args in
    let at = c.loop-k in
    let whole : at.k ≡ a.call.now.head.n = omega arith in
    let done : Counted (parameters_in a.list.now.area.now a.list.now.params) a.next (written_in a.call.now.area.now a.call.now.cells.now (head_of a.call.now.head)) at.named =
    subst (λ n. Counted (parameters_in a.list.now.area.now a.list.now.params) a.next (bytes_from a.call.now.area.now a.call.now.cells.now (named_from (head_of a.call.now.head)) 0 n) at.named) whole at.invariant in
    record {
      answer = sym (names_end a.list.now.area.now a.list.now a.call.now.cells.now a.call.now.area.now (head_of a.call.now.head) a.next a.named.now c.requires at.named done);
      counts = λ e. done.counts;
    }
