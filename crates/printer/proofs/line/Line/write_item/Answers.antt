-- `printer::line::Line::write_item` meets its contract: its three parts stand behind each other. Assumes nothing.
use Rattle.printer.specs.Line.{mark_for}
use Rattle.printer.proofs.LawsLine.{item_between, item_name, item_mark, item_added}
use Rattle.printer.proofs.line.Line.write_item.Goals as goal

pub write_between-requires : goal.write_between-requires
write_between-requires c = let a = c.args in item_between a.name.now (mark_for a.code) a.self.now c.requires

pub write-requires : goal.write-requires
write-requires c = let a = c.args in item_name a.name.now (mark_for a.code) a.self.now c.requires c.write_between.new.self c.write_between.ensures.wrote

pub write_mark-requires : goal.write_mark-requires
write_mark-requires c =
    let a = c.args in
    item_mark a.name.now (mark_for a.code) a.self.now c.requires c.write_between.new.self c.write_between.ensures.wrote c.write.new.self c.write.ensures.wrote

pub returns : goal.returns
returns c =
    let a = c.args in
    item_added a.name.now (mark_for a.code) a.self.now c.requires c.write_between.new.self c.write_between.ensures.wrote c.write.new.self c.write.ensures.wrote
    c.write_mark.new.self c.write_mark.ensures.wrote
