-- `slots::board::write_board` meets its contract: the three parts stand one behind the other. Assumes nothing.
use Rattle.slots.proofs.LawsWritten.{board_written}
use Rattle.slots.proofs.board.write_board.Goals as goal

pub returns : goal.returns
returns c = board_written _ _ c.requires c.saturating_sub-star.ensures c.write_slots-filled.ensures c.write_values.ensures c.write_named.ensures
