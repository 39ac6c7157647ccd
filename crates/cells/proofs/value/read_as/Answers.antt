-- `cells::value::read_as` meets its contract: at each kind the chain of tests of a well-formed value computes to the one of that kind; a text is what
-- was read of it.
-- Assumes nothing.
use mathlib.Core.Path.{◌≡◌, refl, sym, ap, ◌∙◌}
use Prim.Native.Nat.{ℕ, ◌≤◌}
use native.Mathlib.Omega.{arith}
use mir.ValLaws.{of_z-to_z}
use mir.Syntax.{w64}
use borrow.Author.Tests.{ne_eqb, lt-ltb, le-ltb}
use Rattle.rules.specs.Value.{well_formed}
use Rattle.cells.specs.Text.{text_of}
use Rattle.cells.specs.Value.{value_as, read_as}
use Rattle.cells.specs.declared.text.Text.{Text}
use Rattle.cells.specs.declared.value.Value.{Value}
use Rattle.cells.specs.declared.value.Value.TheVariants.{SpecText, CallText}
use Rattle.cells.proofs.LawsReading.{as_value, text_read}
use Rattle.cells.proofs.value.read_as.Goals as goal
use Rattle.cells.proofs.value.read_as.Goals.{After-read_text}

pub returns-then-payload-eq0 : goal.returns-then-payload-eq0
unfolding read_as well_formed
returns-then-payload-eq0 c = rw (c.in-1.is, c.if-payload-eq0.true)

pub returns-then-payload-lt2 : goal.returns-then-payload-lt2
unfolding read_as well_formed
returns-then-payload-lt2 c = rw (c.in-2.is, lt-ltb _ _ c.if-payload-lt2.true)

pub returns-then-payload-lt4294967296 : goal.returns-then-payload-lt4294967296
unfolding read_as well_formed
returns-then-payload-lt4294967296 c = rw (c.in-7.is, ne_eqb 7 c.args.text (λ e. omega arith), lt-ltb _ _ c.if-payload-lt4294967296.true)

pub returns-then-kind-text : goal.returns-then-kind-text
unfolding read_as well_formed
returns-then-kind-text c =
    let k = c.args.kind in
    let r = c.in_default.in_default-own.rest in
    rw
    (ne_eqb k 1 r.0.0.0.0.1, ne_eqb k 2 r.0.0.0.1, ne_eqb k 3 r.0.0.1, ne_eqb k 4 r.0.1, ne_eqb k _ c.if-kind-text.true, ne_eqb k 7 r.1)

-- what was read of a text; `make` is the case of a value that holds it
told : (c : After-read_text) (make : Text → Value) → let a = c.args in
    value_as a.text a.payload ≡ make (text_of a.payload) → as_value make c.read_text.result ≡ read_as a.text a.area.now a.kind a.payload
told c make same =
    let a = c.args in
    ap (as_value make) c.read_text.ensures
    ∙ sym (text_read a.text c.requires.0 c.requires.1 a.area.now a.payload make same)
    ∙ ap (λ k. read_as a.text a.area.now k a.payload) (sym c.if-kind-text.false)

pub returns-in_err-t-in_default : goal.returns-in_err-t-in_default
returns-in_err-t-in_default c =
    let a = c.args in
    c.from_residual.ensures ∙ ap (as_value (λ t. value_as a.text a.payload)) (sym c.in_err-t-in_default.was) ∙ told (goal.at.returns-in_err-t-in_default c).After-read_text (λ t. value_as a.text a.payload) refl

pub returns-then-text-eq-SPEC_TEXT : goal.returns-then-text-eq-SPEC_TEXT
returns-then-text-eq-SPEC_TEXT c =
    let a = c.args in
    ap (as_value SpecText) (sym c.in_ok-t-in_default.was) ∙ told (goal.at.returns-then-text-eq-SPEC_TEXT c).After-read_text SpecText (ap (λ k. value_as k a.payload) c.if-text-eq-SPEC_TEXT.true)

pub returns-else-payload-eq0 : goal.returns-else-payload-eq0
unfolding read_as well_formed
returns-else-payload-eq0 c = rw (c.in-1.is, ne_eqb _ _ c.if-payload-eq0.false, ne_eqb 1 c.args.text (λ e. omega arith))

pub returns-else-payload-lt2 : goal.returns-else-payload-lt2
unfolding read_as well_formed
returns-else-payload-lt2 c = rw (c.in-2.is, le-ltb _ _ c.if-payload-lt2.false, ne_eqb 2 c.args.text (λ e. omega arith))

pub returns-in-3 : goal.returns-in-3
unfolding read_as well_formed
returns-in-3 c = rw (c.cast_signed.ensures, of_z-to_z w64 c.args.payload c.ranges.payload, c.in-3.is)

pub returns-in-4 : goal.returns-in-4
unfolding read_as well_formed
returns-in-4 c = rw (c.real_of.ensures, c.in-4.is)

pub returns-else-payload-lt4294967296 : goal.returns-else-payload-lt4294967296
unfolding read_as well_formed
returns-else-payload-lt4294967296 c = rw (c.in-7.is, ne_eqb 7 c.args.text (λ e. omega arith), le-ltb _ _ c.if-payload-lt4294967296.false)

six : (n : ℕ) → 5 ≤ n → n ≤ 6 → (n ≡ 5 → ⊥) → n ≡ 6
six n l h d = omega arith

pub returns-else-text-eq-SPEC_TEXT : goal.returns-else-text-eq-SPEC_TEXT
returns-else-text-eq-SPEC_TEXT c =
    ap (as_value CallText) (sym c.in_ok-t-in_default.was) ∙ told (goal.at.returns-else-text-eq-SPEC_TEXT c).After-read_text CallText (ap (λ k. value_as k c.args.payload) (six c.args.text c.requires.0 c.requires.1 c.if-text-eq-SPEC_TEXT.false))
