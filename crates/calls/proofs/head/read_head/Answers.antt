-- `calls::head::read_head` meets its contract: each field is the cell that `cell` ensures.
-- Assumes nothing.
use Rattle.rules.specs.CallRecord.{read_head}
use Rattle.calls.proofs.head.read_head.Goals as goal

pub returns : goal.returns
unfolding read_head
returns c =
    rw (c.cell-6.ensures, c.cell-5.ensures, c.cell-4.ensures, c.cell-3.ensures, c.cell-2.ensures, c.cell.ensures)
