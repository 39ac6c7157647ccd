-- `sheet_lines::row::Row::read` meets its contract: the row is the three cells that the columns name, and none of them is too long.
-- Assumes nothing.
use Rattle.rules.specs.SheetLines.{row_in}
use Rattle.sheet_lines.proofs.LawsRow.{short}
use Rattle.sheet_lines.proofs.row.Row.read.Goals as goal

pub invariant_of-result-clause-name_short : goal.invariant_of-result-clause-name_short
invariant_of-result-clause-name_short c = rw c.cell_at-name.ensures (short _ _ c.in_ok-cells.ensures _)

pub invariant_of-result-clause-value_short : goal.invariant_of-result-clause-value_short
invariant_of-result-clause-value_short c = rw c.cell_at-value.ensures (short _ _ c.in_ok-cells.ensures _)

pub returns : goal.returns
unfolding row_in
returns c =
    let told = c.in_ok-cells.ensures in
    (told.0, rw (told.1, c.cell_at-part.ensures, c.cell_at-name.ensures, c.cell_at-value.ensures))
