-- `sheet_values::print::write_marked` meets its contract. Assumes nothing.
use lib.ListN.{length}
use Rattle.cells.proofs.LawsOut.{wrote_room, wrote_both}
use Rattle.sheet_values.proofs.print.write_marked.Goals as goal

pub write-requires-2 : goal.write-requires-2
write-requires-2 c =
    let a = c.args in
    wrote_room a.mark.now a.line.now c.write.new.self c.write.ensures (length a.text.now) c.requires

pub returns : goal.returns
returns c =
    let a = c.args in
    wrote_both a.mark.now a.line.now c.write.new.self c.write.ensures a.text.now c.write-2.new.self c.requires c.write-2.ensures
