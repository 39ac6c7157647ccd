-- `calls::place::position_at` meets its contract: the two runs of P, the counts being few.
-- Assumes nothing.
use mathlib.Core.Path.{sym, ◌∙◌}
use native.Mathlib.Omega.{arith}
use Rattle.rules.specs.Value.{value_width}
use Rattle.rules.specs.CallRecord.{head_width, pair_width}
use Rattle.calls.specs.Head.{head_of, Few, named_from, items_from}
use Rattle.calls.specs.Places.{position_at}
use Rattle.calls.proofs.LawsCall.{few_bounds}
use Rattle.calls.proofs.place.position_at.Goals as goal

pub returns-then-not-few : goal.returns-then-not-few
unfolding position_at
returns-then-not-few c = rw (sym c.few.ensures ∙ c.if-not-few.true)

pub items_from-requires : goal.items_from-requires
items_from-requires c = few_bounds 64 _ (sym c.few.ensures ∙ c.if-not-few.false)

pub in_runs-requires : goal.in_runs-requires
unfolding items_from named_from head_width value_width pair_width
in_runs-requires c =
    let few : Few 64 (head_of c.args.h) = few_bounds 64 _ (sym c.few.ensures ∙ c.if-not-few.false) in
    omega (arith, c.items_from.ensures)

pub returns : goal.returns
unfolding position_at head_width value_width
returns c =
    c.in_runs.ensures ∙ sym (rw (sym c.few.ensures ∙ c.if-not-few.false, sym c.items_from.ensures))
