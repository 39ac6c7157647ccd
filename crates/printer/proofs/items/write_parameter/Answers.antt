-- `printer::items::write_parameter` meets its contract: nothing more where the parameter is not of the style, or its one item. Assumes nothing.
use mathlib.Core.Path.{sym, ◌∙◌}
use mathlib.Core.List.{[], ◌∷◌}
use Rattle.rules.specs.Printed.{items_of}
use Rattle.builder.specs.Params.{style_of, parameter_at}
use Rattle.printer.specs.Items.{under}
use Rattle.printer.proofs.LawsLine.{added_nothing, room_same, added_same}
use Rattle.printer.proofs.LawsItems.{Under-at, items_miss, items_at}
use Rattle.printer.proofs.items.write_parameter.Goals as goal

pub returns-else-is_under : goal.returns-else-is_under
returns-else-is_under c =
    let a = c.args in
    let s = style_of a.style in
    added_nothing (items_of (under s) (parameter_at a.list.now.area.now a.list.now.params a.i ∷ [])) a.line.now
    (items_miss (under s) (parameter_at a.list.now.area.now a.list.now.params a.i)
    (Under-at s a.list.now.area.now a.list.now.params a.i c.requires.1 ∙ sym c.is_under.ensures ∙ c.if-is_under.false))
    c.requires.2

pub write_item-requires : goal.write_item-requires
write_item-requires c =
    let a = c.args in
    let s = style_of a.style in
    room_same (items_of (under s) (parameter_at a.list.now.area.now a.list.now.params a.i ∷ [])) _ a.line.now
    (items_at s a.list.now.area.now a.list.now.params a.i c.printed_name-name.result.now c.requires.1
    (sym c.is_under.ensures ∙ c.if-is_under.true) c.printed_name-name.ensures)
    c.requires.2

pub returns-then-is_under : goal.returns-then-is_under
returns-then-is_under c =
    let a = c.args in
    let s = style_of a.style in
    added_same _ (items_of (under s) (parameter_at a.list.now.area.now a.list.now.params a.i ∷ []))
    (sym
    (items_at s a.list.now.area.now a.list.now.params a.i c.printed_name-name.result.now c.requires.1
    (sym c.is_under.ensures ∙ c.if-is_under.true) c.printed_name-name.ensures))
    c.write_item.ensures
