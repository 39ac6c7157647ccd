-- `sheet_lines::piece::split_once` meets its contract: it parts the bytes where the search for the mark ended.
-- Assumes nothing.
use Rattle.sheet_lines.proofs.LawsCells.{halves_found, halves_none}
use Rattle.sheet_lines.proofs.piece.split_once.Goals as goal

pub returns-in_err-at : goal.returns-in_err-at
returns-in_err-at c = rw c.from_residual.ensures (halves_none c.in_err-at.ensures)

pub returns : goal.returns
returns c = halves_found c.in_ok-at.ensures.0 c.in_ok-at.ensures.1
