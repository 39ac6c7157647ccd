-- `cells::value::read_slot` meets its contract: a default's reading at kind 5, an argument's at any other. Assumes nothing.
use mathlib.Core.Path.{◌∙◌}
use Rattle.cells.proofs.LawsReading.{slot_default, slot_argument}
use Rattle.cells.proofs.value.read_slot.Goals as goal

pub returns-then-kind-eq-SPEC_TEXT : goal.returns-then-kind-eq-SPEC_TEXT
returns-then-kind-eq-SPEC_TEXT c =
    c.read_default.ensures ∙ slot_default c.args.spec.now c.args.call.now c.args.kind c.args.payload c.if-kind-eq-SPEC_TEXT.true

pub returns : goal.returns
returns c =
    c.read_argument.ensures ∙ slot_argument c.args.spec.now c.args.call.now c.args.kind c.args.payload c.if-kind-eq-SPEC_TEXT.false
