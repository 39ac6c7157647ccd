-- The Rust's can-fill and its check for unique names at work on a short list, `f(a, /, b)`, alone and with *args or **kwargs; and can-fill at
-- lists that no builder finishes, at which it panics. The proof is `fill_examples` of proofs/.
use Rattle.std.specs.Prelude.{◌≡◌, Bool, true, false, List, [], ◌∷◌, ℕ}
use Rattle.std.proofs.Math.Option.{Option, none, some}
use Rattle.rules.specs.Text.{Text}
use Rattle.rules.specs.Parameters.{Parameter, Style, pos_only, pos_or_named, ParameterKind, required, args, kwargs}
use Rattle.original.specs.Spec.{ParametersSpec, spec_of}
use Rattle.original.specs.CanFill.{can_fill_with_args}
use Rattle.original.specs.CheckUnique.{unique, occurs_twice, new_check_unique}

-- names of one byte: `a`, `b` and `x`
abbrev pub a : List ℕ
a = 97 ∷ []

abbrev pub b : List ℕ
b = 98 ∷ []

abbrev pub x : List ℕ
x = 120 ∷ []

abbrev pub text : List ℕ → Text
text bytes = record { payload = 0; bytes = bytes }

abbrev pub parameter : ParameterKind → Style → List ℕ → Parameter
parameter k s bytes = record { kind = k; style = s; name = text bytes }

-- `f(a, /, b)` with some more behind
abbrev pub fills : List Parameter → ℕ → List (List ℕ) → Option Bool
fills more p names = can_fill_with_args (spec_of (parameter required pos_only a ∷ parameter required pos_or_named b ∷ more)) p names

abbrev pub star : List Parameter
star = parameter args pos_or_named [] ∷ []

abbrev pub double_star : List Parameter
double_star = parameter kwargs pos_or_named [] ∷ []

-- `f(b)` as a list whose index of the name and number of positionals are given
abbrev pub hand_made : ℕ → ℕ → ParametersSpec
hand_made index positional =
    record {
      param_kinds = required ∷ [];
      param_names = text b ∷ [];
      names = record { bytes = b; index = index } ∷ [];
      num_positional_only = 0;
      num_positional = positional;
      args = none;
      kwargs = none;
    }

pub record FillExamples : Type 0 where
  pub by_position : fills [] 2 [] ≡ some true
  pub by_name : fills [] 1 (b ∷ []) ≡ some true
  pub surplus : fills double_star 3 [] ≡ some false
  pub surplus_taken : fills star 3 [] ≡ some true
  pub filled_and_named : fills [] 2 (b ∷ []) ≡ some false
  pub named_twice : fills [] 1 (b ∷ b ∷ []) ≡ some false
  pub positional_only_named : fills double_star 0 (a ∷ b ∷ []) ≡ some false
  pub unknown : fills star 2 (x ∷ []) ≡ some false
  pub unknown_twice : fills double_star 2 (x ∷ x ∷ []) ≡ some true
  pub missing : fills [] 1 [] ≡ some false
  -- with all indices inside, then the name's (872) or the second positional's (859) past the one parameter
  pub made_inside : can_fill_with_args (hand_made 0 1) 0 (b ∷ []) ≡ some true
  pub name_past : can_fill_with_args (hand_made 1 1) 0 (b ∷ []) ≡ none
  pub positional_past : can_fill_with_args (hand_made 0 2) 2 [] ≡ none
  pub names_differ : new_check_unique (text a ∷ text b ∷ []) ≡ unique (text a ∷ text b ∷ [])
  pub name_again : new_check_unique (text a ∷ text b ∷ text a ∷ []) ≡ occurs_twice a
  pub first_again : new_check_unique (text a ∷ text b ∷ text b ∷ text a ∷ []) ≡ occurs_twice b
