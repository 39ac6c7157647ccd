-- `sheet_lines::line::three_cells` meets its contract: a line with three cells is right if each passes the test of its length.
-- Assumes nothing.
use mathlib.Core.Path.{sym, ◌∙◌}
use Rattle.rules.proofs.LawsListing.{and_no_left, and_no_right}
use Rattle.sheet_lines.proofs.LawsCells.{not_three, three_short}
use Rattle.sheet_lines.proofs.line.three_cells.Goals as goal
use Rattle.sheet_lines.proofs.line.three_cells.Goals.{else-short-via-then-short+then-short-2+else-short-3, else-short-via-then-short+else-short-2, else-short-via-else-short}

pub returns-in_err-cells : goal.returns-in_err-cells
returns-in_err-cells c = rw c.from_residual.ensures (not_three _ c.in_err-cells.ensures)

pub returns-then-short-3 : goal.returns-then-short-3
returns-then-short-3 c =
    let e = c.in_ok-cells.ensures.1 in
    (three_short _ e ∙ rw (← c.short.ensures, ← c.short-then-short.ensures, ← c.short-then-short-2.ensures, c.if-short.true, c.if-short-2.true, c.if-short-3.true), e)

pub returns : goal.returns
returns c =
    three_short _ c.in_ok-cells.ensures.1
    ∙ elim c.else-short.branch [
      | else-short-via-then-short+then-short-2+else-short-3 w ↦ and_no_right _ _ (sym w.short-then-short-2.ensures ∙ w.if-short-3.false)
      | else-short-via-then-short+else-short-2 w ↦ and_no_left _ _ (and_no_right _ _ (sym w.short-then-short.ensures ∙ w.if-short-2.false))
      | else-short-via-else-short w ↦ and_no_left _ _ (and_no_left _ _ (sym c.short.ensures ∙ w.if-short.false))
    ]
