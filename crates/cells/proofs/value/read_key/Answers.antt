-- `cells::value::read_key` meets its contract: a key by the value that was read (`key_of_argument`).
-- Assumes nothing.
use Rattle.std.specs.Prelude.{Some, None}
use mathlib.Core.Path.{◌≡◌, refl, sym, ap, ◌∙◌}
use lib.IntN.{ℤ}
use borrow.Author.Rules.{rules}
use mir.ValLaws.{to_z-of_z}
use mir.Syntax.{w64}
use Rattle.cells.specs.declared.value.Key.TheVariants.{Number}
use Rattle.cells.specs.declared.value.Value.TheVariants.{Nothing, Flag, Whole, Real, Nan, SpecText, CallText, Handle}
use Rattle.cells.specs.declared.value.Value.{Value}
use Rattle.cells.specs.declared.text.Text.{Text}
use Rattle.cells.proofs.LawsReading.{key_of, key_of_argument}
use Rattle.cells.proofs.value.read_key.Goals as goal

-- a value that is neither a whole number nor a text of the call is no key
no_key : (v : Value) → ((z : ℤ) → v ≡ Whole z → ⊥) → ((t : Text) → v ≡ CallText t → ⊥) → key_of (Some v) ≡ None
no_key Nothing w t = refl
no_key (Flag b) w t = refl
no_key (Whole z) w t = absurd (w z refl)
no_key (Real x) w t = refl
no_key (Nan bits) w t = refl
no_key (SpecText s) w t = refl
no_key (CallText s) w t = absurd (t s refl)
no_key (Handle n) w t = refl

pub returns-in_err-t : goal.returns-in_err-t
returns-in_err-t c =
    c.from_residual.ensures ∙ ap key_of (sym c.in_err-t.was ∙ c.read_argument.ensures) ∙ key_of_argument _ _ c.args.kind

pub returns-in-CallText : goal.returns-in-CallText
returns-in-CallText c =
    ap key_of (sym (c.in_ok-t.was ∙ ap Some c.in-CallText.is) ∙ c.read_argument.ensures)
    ∙ key_of_argument _ _ c.args.kind

pub returns-in-Whole : goal.returns-in-Whole
returns-in-Whole c =
    ap (λ z. Some (Number z)) (to_z-of_z w64 c.in-Whole.z (search rules))
    ∙ ap key_of (sym (c.in_ok-t.was ∙ ap Some c.in-Whole.is) ∙ c.read_argument.ensures)
    ∙ key_of_argument _ _ c.args.kind

pub returns-in_default : goal.returns-in_default
returns-in_default c =
    sym (no_key _ c.in_default.not-Whole c.in_default.not-CallText)
    ∙ ap key_of (sym c.in_ok-t.was ∙ c.read_argument.ensures)
    ∙ key_of_argument _ _ c.args.kind
