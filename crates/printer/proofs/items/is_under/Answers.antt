-- `printer::items::is_under` meets its contract: each answer by the range in which the code lies. Assumes nothing.
use mathlib.Core.Path.{sym, ap, ◌∙◌}
use native.Mathlib.Omega.{arith}
use lib.Dec.{eqb}
use Rattle.builder.specs.Params.{style_of}
use Rattle.printer.proofs.LawsItems.{is_under_plain, is_under_below, is_under_above}
use Rattle.printer.proofs.items.is_under.Goals as goal

pub returns-in-1-to-3 : goal.returns-in-1-to-3
returns-in-1-to-3 c =
    let a = c.args in
    ap (eqb a.number) c.number.ensures
    ∙ sym (is_under_plain (style_of a.style) a.code a.number (omega arith) (omega arith))

pub returns-in_default : goal.returns-in_default
returns-in_default c = let a = c.args in sym (is_under_below (style_of a.style) a.code a.number (omega arith))

pub returns-in_default-2 : goal.returns-in_default-2
returns-in_default-2 c = let a = c.args in sym (is_under_above (style_of a.style) a.code a.number (omega arith))
