-- `printer::write_list` meets its contract: one half behind the other, from byte 0 on. Assumes nothing.
use borrow.Author.Rules.{rules}
use Rattle.builder.specs.Params.{parameters_in}
use Rattle.printer.specs.Printed.{positional_items, named_items}
use Rattle.printer.proofs.LawsLine.{room_front, room_rest, added_then}
use Rattle.printer.proofs.LawsList.{list_room, list_written}
use Rattle.printer.proofs.write_list.Goals as goal

pub write_positional-requires : goal.write_positional-requires
write_positional-requires c =
    let l = c.args.list.now in
    let qs = parameters_in l.area.now l.params in
    let line = c.new-line in
    (c.requires.count, room_front (positional_items qs) (named_items qs) line.result (list_room line.result line.ensures.begins line.ensures.begun qs c.requires.room))

pub write_named-requires : goal.write_named-requires
write_named-requires c =
    let l = c.args.list.now in
    let qs = parameters_in l.area.now l.params in
    let line = c.new-line in
    record {
      count = c.requires.count;
      args = c.requires.args;
      kwargs = c.requires.kwargs;
      room =
          room_rest (positional_items qs) (named_items qs) line.result (list_room line.result line.ensures.begins line.ensures.begun qs c.requires.room)
          c.write_positional.new.line c.write_positional.ensures;
    }

pub returns : goal.returns
returns c =
    let l = c.args.list.now in
    let qs = parameters_in l.area.now l.params in
    let line = c.new-line in
    let first = c.write_positional in
    let second = c.write_named in
    list_written line.result line.ensures.begins line.ensures.begun l.area.now l second.new.line _ c.requires.room
    (added_then (positional_items qs) (named_items qs) line.result (list_room line.result line.ensures.begins line.ensures.begun qs c.requires.room)
    first.new.line first.ensures second.new.line second.ensures)
    (search (rules, second.ensures.wrote.same_reference, first.ensures.wrote.same_reference, line.ensures.begins.same_reference))
