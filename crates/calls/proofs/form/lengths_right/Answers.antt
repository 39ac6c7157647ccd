-- `calls::form::lengths_right` meets its contract: question 9 by the head that was read.
-- Assumes nothing.
use mathlib.Core.Path.{sym, ◌∙◌}
use native.Mathlib.Omega.{arith}
use Rattle.rules.specs.Value.{value_width}
use Rattle.rules.specs.CallRecord.{head_width, pair_width, call_length}
use Rattle.calls.specs.Head.{head_of, Few, named_from, items_from, entries_from}
use Rattle.calls.proofs.LawsCall.{few_bounds, lengths_by}
use Rattle.calls.proofs.form.lengths_right.Goals as goal
use Rattle.calls.proofs.form.lengths_right.Goals.{Then-few}

few : (c : Then-few) → Few 64 (head_of c.read_head-h.result)
few c = few_bounds 64 _ (sym c.few.ensures ∙ c.if-few.true)

pub entries_from-requires : goal.entries_from-requires
entries_from-requires c = few (goal.at.entries_from-requires c).Then-few

pub overflow_mul-result : goal.overflow_mul-result
overflow_mul-result c = omega (arith, few (goal.at.overflow_mul-result c).Then-few)

pub overflow_add-result : goal.overflow_add-result
unfolding entries_from items_from named_from head_width value_width pair_width
overflow_add-result c = omega (arith, few (goal.at.overflow_add-result c).Then-few, c.entries_from.ensures)

pub returns-then-few : goal.returns-then-few
unfolding call_length entries_from items_from named_from head_width value_width pair_width
returns-then-few c =
    sym
    (lengths_by _ _ c.read_head-h.ensures 64
    ∙ rw (sym c.few.ensures ∙ c.if-few.true, c.entries_from.ensures))

pub returns-else-few : goal.returns-else-few
returns-else-few c =
    c.if-few.false ∙ sym (lengths_by _ _ c.read_head-h.ensures 64 ∙ rw (sym c.few.ensures ∙ c.if-few.false))
