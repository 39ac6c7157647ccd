-- `sheet_judge::call::count_line` meets its contract: the row that was read is judged and counted by the laws of one line.
-- Assumes nothing.
use mathlib.Core.Path.{◌∙◌}
use Rattle.sheet_judge.proofs.LawsValues.{counted_short, counted_unknown, counted_bad, counted_right}
use Rattle.sheet_judge.proofs.call.count_line.Goals as goal

pub returns-in_err-row : goal.returns-in_err-row
returns-in_err-row c = c.from_residual.ensures ∙ counted_short _ _ _ c.in_err-row.ensures

pub returns-in_err-part : goal.returns-in_err-part
returns-in_err-part c =
    c.from_residual-in_err-part.ensures ∙ counted_unknown _ _ _ c.in_ok-row.ensures.0 c.in_ok-row.ensures.1 c.in_err-part.ensures

pub returns-then-not-call_row_right : goal.returns-then-not-call_row_right
returns-then-not-call_row_right c =
    counted_bad _ _ _ c.in_ok-row.ensures.0 c.in_ok-row.ensures.1 c.in_ok-part.ensures c.call_row_right.ensures c.if-not-call_row_right.true

pub returns : goal.returns
returns c =
    counted_right _ _ _ c.in_ok-row.ensures.0 c.in_ok-row.ensures.1 c.in_ok-part.ensures c.call_row_right.ensures
    c.if-not-call_row_right.false _ c.counts_after.ensures
