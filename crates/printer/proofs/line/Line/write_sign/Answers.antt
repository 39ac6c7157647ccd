-- `printer::line::Line::write_sign` meets its contract: nothing more, or one item. Assumes nothing.
use mathlib.Core.Path.{sym, ap, ◌∙◌}
use Rattle.std.specs.Prelude.{option_copied, option_to_list}
use Rattle.printer.proofs.LawsLine.{added_nothing, room_same, added_same, sign_item}
use Rattle.printer.proofs.line.Line.write_sign.Goals as goal

pub write_item-requires : goal.write_item-requires
write_item-requires c =
    let a = c.args in
    room_same (option_to_list (option_copied a.sign)) _ a.self.now
    (ap (λ s. option_to_list (option_copied s)) c.in-Some.is ∙ sign_item c.in-Some.text.now) c.requires

pub returns-in-Some : goal.returns-in-Some
returns-in-Some c =
    let a = c.args in
    added_same _ (option_to_list (option_copied a.sign))
    (sym (ap (λ s. option_to_list (option_copied s)) c.in-Some.is ∙ sign_item c.in-Some.text.now)) c.write_item.ensures

pub returns-in_default : goal.returns-in_default
returns-in_default c =
    let a = c.args in
    added_nothing (option_to_list (option_copied a.sign)) a.self.now (ap (λ s. option_to_list (option_copied s)) c.in_default.is) c.requires
