-- `reader::is_end` meets its contract: a position has a slot left exactly where it is below the number of slots.
-- Assumes nothing.
use Rattle.reader.proofs.LawsSlot.{end_at}
use Rattle.reader.proofs.is_end.Goals as goal

pub returns : goal.returns
returns c = end_at c.args.cells.now c.args.at
