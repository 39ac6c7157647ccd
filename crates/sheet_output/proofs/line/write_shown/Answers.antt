-- `sheet_output::line::write_shown` meets its contract: what was read is a value of these two cells, or there is none. Assumes nothing.
use mathlib.Core.Path.{sym, ◌∙◌}
use native.Mathlib.Omega.{arith}
use Rattle.cells.proofs.LawsOut.{wrote_same, wrote_none}
use Rattle.cells.specs.Value.{pair_of}
use Rattle.sheet_output.specs.Line.{shown_value}
use Rattle.sheet_output.proofs.LawsLine.{value_shown, value_inside, value_hidden, shown_value_length}
use borrow.Author.Rules.{rules}
use Rattle.sheet_output.proofs.line.write_shown.Goals as goal

pub write_value-requires : goal.write_value-requires
write_value-requires c =
    let a = c.args in
    record { at_in_bounds = search rules; printable = value_inside a.bound.now.spec.now a.bound.now.call.now a.pair.kind a.pair.payload _ (sym c.read_slot.ensures ∙ c.in-Some.is) }

pub returns-in-Some : goal.returns-in-Some
returns-in-Some c =
    let a = c.args in
    wrote_same _ (shown_value a.bound.now.spec.now a.bound.now.call.now (pair_of a.pair))
    (value_shown a.bound.now.spec.now a.bound.now.call.now a.pair.kind a.pair.payload _ (omega arith) (sym c.read_slot.ensures ∙ c.in-Some.is))
    c.write_value.ensures

pub returns-in_default : goal.returns-in_default
returns-in_default c =
    let a = c.args in
    wrote_none (shown_value a.bound.now.spec.now a.bound.now.call.now (pair_of a.pair)) a.line.now
    (sym (value_hidden a.bound.now.spec.now a.bound.now.call.now a.pair.kind a.pair.payload (sym c.read_slot.ensures ∙ c.in_default.is)))
    (omega (arith, shown_value_length a.bound.now.spec.now a.bound.now.call.now (pair_of a.pair)))
