-- `sheet_values::print::write_value` meets its contract: each arm is told the case that the value is, and what is written for it is what the
-- value prints. Assumes nothing.
use mathlib.Core.Path.{◌≡◌, ap, ◌∙◌}
use mathlib.Core.List.{List, ◌∷◌}
use Prim.Native.Nat.{ℕ}
use native.Mathlib.Omega.{arith}
use lib.ListN.{length}
use Rattle.rules.specs.SheetValue.{print_value}
use Rattle.cells.specs.Value.{pair_of, cells_of}
use Rattle.cells.specs.declared.value.Value.{Value}
use Rattle.cells.specs.declared.value.Value.TheVariants.{Nothing, Flag, Whole, Real, Nan, SpecText, CallText, Handle}
use Rattle.cells.proofs.LawsOut.{wrote_same}
use Rattle.sheet_values.proofs.LawsPrint.{form_of, printed_as, part_length}
use Rattle.sheet_values.proofs.print.write_value.Goals as goal
use Rattle.sheet_values.proofs.print.write_value.Goals.{After-from-payload}

pub write_marked-requires : goal.write_marked-requires
write_marked-requires c =
    omega (arith, ap length c.part.ensures.bytes, part_length c.args.spec.now c.from-payload.result.payload, c.requires.at_in_bounds)

pub write_marked-requires-in-CallText : goal.write_marked-requires-in-CallText
write_marked-requires-in-CallText c =
    omega (arith, ap length c.part-in-CallText.ensures.bytes, part_length c.args.call.now c.from-payload.result.payload, c.requires.at_in_bounds)

-- where the cells are known and the case is told: what the case prints is what the value prints
prints_as : (k : After-from-payload) (case : Value) → let a = k.args in
    a.value ≡ case → form_of a.spec.now a.call.now k.from-payload.result.payload case ≡ print_value a.spec.now a.call.now (pair_of (cells_of a.value))
prints_as k case told =
    let a = k.args in
    printed_as a.spec.now a.call.now a.value case k.from-payload.result told k.from-payload.ensures k.requires.printable

pub returns-in-Nothing : goal.returns-in-Nothing
returns-in-Nothing c = wrote_same _ _ (prints_as (goal.at.returns-in-Nothing c).After-from-payload Nothing c.in-Nothing.is) c.write.ensures

pub returns-in-Flag : goal.returns-in-Flag
returns-in-Flag c = wrote_same _ _ (prints_as (goal.at.returns-in-Flag c).After-from-payload (Flag _) c.in-Flag.is) c.write_number.ensures

pub returns-in-Whole : goal.returns-in-Whole
returns-in-Whole c = wrote_same _ _ (prints_as (goal.at.returns-in-Whole c).After-from-payload (Whole _) c.in-Whole.is) c.write_whole.ensures

pub returns-in-Real : goal.returns-in-Real
returns-in-Real c = wrote_same _ _ (prints_as (goal.at.returns-in-Real c).After-from-payload (Real _) c.in-Real.is) c.write_bits.ensures

pub returns-in-Nan : goal.returns-in-Nan
returns-in-Nan c = wrote_same _ _ (prints_as (goal.at.returns-in-Nan c).After-from-payload (Nan _) c.in-Nan.is) c.write_bits-in-Nan.ensures

pub returns-in-SpecText : goal.returns-in-SpecText
returns-in-SpecText c =
    wrote_same _ _ (ap (λ (l : List ℕ). 115 ∷ l) c.part.ensures.bytes ∙ prints_as (goal.at.returns-in-SpecText c).After-from-payload (SpecText _) c.in-SpecText.is) c.write_marked.ensures

pub returns-in-CallText : goal.returns-in-CallText
returns-in-CallText c =
    wrote_same _ _ (ap (λ (l : List ℕ). 115 ∷ l) c.part-in-CallText.ensures.bytes ∙ prints_as (goal.at.returns-in-CallText c).After-from-payload (CallText _) c.in-CallText.is) c.write_marked-in-CallText.ensures

pub returns-in-Handle : goal.returns-in-Handle
returns-in-Handle c = wrote_same _ _ (prints_as (goal.at.returns-in-Handle c).After-from-payload (Handle _) c.in-Handle.is) c.write_number-in-Handle.ensures
