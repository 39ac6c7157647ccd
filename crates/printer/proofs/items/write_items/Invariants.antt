-- `printer::items::write_items` meets its contract. The loop's invariant: the items of the parameters before i are written. Assumes nothing.
use Rattle.rules.specs.Printed.{items_of}
use Rattle.cells.specs.Listed.{listed}
use Rattle.builder.specs.Params.{style_of, parameter_at}
use Rattle.printer.specs.Items.{under}
use Rattle.printer.specs.Line.{Added}
use Rattle.printer.proofs.items.write_items.Given as goal

abbrev pub invariant-loop-i : goal.invariant-loop-i
invariant-loop-i l = Added (items_of (under (style_of l.style)) (listed (parameter_at l.list.area.now l.list.params) 0 l.i)) l.initial.line l.line
