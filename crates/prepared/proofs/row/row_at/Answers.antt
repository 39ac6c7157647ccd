-- `prepared::row::row_at` meets its contract: the six cells of a row.
-- Assumes nothing.
use Rattle.builder.specs.Params.{step_of}
use Rattle.prepared.specs.Rows.{row_in}
use Rattle.prepared.proofs.LawsRows.{row_at_cells}
use Rattle.prepared.proofs.row.row_at.Goals as goal

pub returns : goal.returns
unfolding row_in step_of
returns c = rw row_at_cells
