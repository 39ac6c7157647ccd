-- `builder::record::step_at` meets its contract: a step's four cells lie inside the record.
-- Assumes nothing.
use Rattle.builder.specs.Params.{step_of}
use Rattle.builder.proofs.LawsRecord.{step_at_cells}
use Rattle.builder.proofs.record.step_at.Goals as goal

pub returns : goal.returns
unfolding step_of
returns c = rw step_at_cells
