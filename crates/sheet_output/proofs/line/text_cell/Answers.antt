-- `sheet_output::line::text_cell` meets its contract: the end behind the text. Assumes nothing.
use Rattle.cells.proofs.LawsOut.{wrote_room, wrote_both}
use Rattle.sheet_output.proofs.line.text_cell.Goals as goal

pub write-requires-2 : goal.write-requires-2
write-requires-2 c = wrote_room _ _ _ c.write.ensures _ c.requires

pub returns : goal.returns
returns c = wrote_both _ _ _ c.write.ensures _ _ c.requires c.write-2.ensures
