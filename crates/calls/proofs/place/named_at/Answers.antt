-- `calls::place::named_at` meets its contract: the two runs of N, the counts being few.
-- Assumes nothing.
use mathlib.Core.Path.{sym, ◌∙◌}
use native.Mathlib.Omega.{arith}
use Rattle.rules.specs.Value.{value_width}
use Rattle.rules.specs.CallRecord.{head_width, pair_width}
use Rattle.calls.specs.Head.{head_of, Few, named_from, items_from, entries_from}
use Rattle.calls.specs.Places.{named_at}
use Rattle.calls.proofs.LawsCall.{few_bounds}
use Rattle.calls.proofs.place.named_at.Goals as goal

pub returns-then-not-few : goal.returns-then-not-few
unfolding named_at
returns-then-not-few c = rw (sym c.few.ensures ∙ c.if-not-few.true)

pub named_from-requires : goal.named_from-requires
named_from-requires c = few_bounds 64 _ (sym c.few.ensures ∙ c.if-not-few.false)

pub entries_from-requires : goal.entries_from-requires
entries_from-requires c = few_bounds 64 _ (sym c.few.ensures ∙ c.if-not-few.false)

pub in_runs-requires : goal.in_runs-requires
unfolding entries_from items_from named_from head_width value_width pair_width
in_runs-requires c =
    let few : Few 64 (head_of c.args.h) = few_bounds 64 _ (sym c.few.ensures ∙ c.if-not-few.false) in
    omega (arith, c.named_from.ensures, c.entries_from.ensures)

pub returns : goal.returns
unfolding named_at pair_width
returns c =
    c.in_runs.ensures
    ∙ sym (rw (sym c.few.ensures ∙ c.if-not-few.false, sym c.named_from.ensures, sym c.entries_from.ensures))
