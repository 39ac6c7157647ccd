-- `sheet_lines::line::parted` meets its contract: each answer counts the cells by where the line was parted.
-- Assumes nothing.
use Rattle.sheet_lines.proofs.LawsCells.{one_cell, two_cells, more_cells, three_read}
use Rattle.sheet_lines.proofs.line.parted.Goals as goal

pub returns-in_err-first : goal.returns-in_err-first
returns-in_err-first c = rw c.from_residual.ensures (one_cell _ c.in_err-first.ensures)

pub returns-in_err-second : goal.returns-in_err-second
returns-in_err-second c = rw c.from_residual-in_err-second.ensures (two_cells _ c.in_ok-first.ensures c.in_err-second.ensures)

pub returns-in-Some : goal.returns-in-Some
returns-in-Some c = more_cells _ c.in_ok-first.ensures c.in_ok-second.ensures c.in-Some.ensures

pub returns-in-None : goal.returns-in-None
returns-in-None c =
    let e = three_read _ c.in_ok-first.ensures c.in_ok-second.ensures c.in-None.ensures in
    (rw e, e)
