use native.Mathlib.Omega.{arith}
use Rattle.builder.specs.Params.{style_of}
use Rattle.printer.proofs.LawsItems.{items_none, items_room, items_more, items_whole}
use borrow.Author.Rules.{rules}
use Rattle.printer.proofs.items.write_items.Goals as goal

pub loop-i-init : goal.loop-i-init
loop-i-init c =
    let a = c.args in
    items_none (style_of a.style) a.list.now.area.now a.list.now.params a.line.now c.requires.2

pub write_parameter-requires : goal.write_parameter-requires
write_parameter-requires c =
    let a = c.args in (
      search rules,
      c.requires.1,
      items_room (style_of a.style) a.list.now.area.now a.list.now.params a.line.now c.requires.2 c.loop-i.i c.loop-i-test.true c.loop-i.line c.loop-i.invariant,
    )

pub loop-i-preserved : goal.loop-i-preserved
loop-i-preserved c =
    let a = c.args in
    items_more (style_of a.style) a.list.now.area.now a.list.now.params a.line.now c.requires.2 c.loop-i.i c.loop-i-test.true c.loop-i.line c.loop-i.invariant _ c.write_parameter.ensures

pub returns : goal.returns
returns c =
    let a = c.args in
    items_whole (style_of a.style) a.list.now.area.now a.list.now.params a.line.now c.loop-i.i (omega arith) c.loop-i.line c.loop-i.invariant
