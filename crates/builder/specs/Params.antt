-- The parameters as the code holds them, read as the list of `rules`.
use Rattle.std.specs.Prelude.{Bool, not, ◌&&◌, ◌||◌, List, [], ◌∷◌, ◌++◌, ◌≡◌, ℕ, zero, suc, ◌+◌, ltb, get_or, replicate}
use Rattle.rules.specs.Answer.{Answer, ask, ◌then◌}
use Rattle.rules.specs.Listing.{any}
use Rattle.rules.specs.Text.{same_bytes, bytes_at, text_in}
use Rattle.rules.specs.Value.{Value, no_value}
use Rattle.rules.specs.ParameterRecord.{Step as RecordStep}
use Rattle.rules.specs.Parameters.{Style, pos_only, pos_or_named, named_only, no_more, ParameterKind, kwargs, Act, adds, slash, bare_star, unknown_code, act_of, act, Parameter, plain, takes_name}
use Rattle.cells.specs.Listed.{listed}
use Rattle.builder.specs.declared.params.CurrentParameterStyle.{CurrentParameterStyle}
use Rattle.builder.specs.declared.params.CurrentParameterStyle.TheVariants.{PosOnly, PosOrNamed, NamedOnly, NoMore}
use Rattle.builder.specs.declared.params.Parameters.{Parameters}
use Rattle.builder.specs.declared.params.Step.{Step}

abbrev pub style_of : CurrentParameterStyle → Style
style_of PosOnly = pos_only
style_of PosOrNamed = pos_or_named
style_of NamedOnly = named_only
style_of NoMore = no_more

-- a style by its number; no builder stores one above 2
abbrev pub style_for : ℕ → Style
style_for zero = pos_only
style_for (suc zero) = pos_or_named
style_for (suc (suc zero)) = named_only
style_for (suc (suc (suc n))) = no_more

-- what a parameter needs, by the code of its step; no builder stores a code that adds none
abbrev pub kind_for : Act → ParameterKind
kind_for (adds k) = k
kind_for slash = kwargs
kind_for bare_star = kwargs
kind_for unknown_code = kwargs

-- a step of the code as one of `rules`
unfoldable pub step_of : Step → RecordStep
step_of s =
    record {
      code = s.code;
      name = s.name;
      default = record { kind = s.default_kind; payload = s.default_payload };
    }

unfoldable pub parameter_of : List ℕ → ℕ → ℕ → ℕ → Value → Parameter
parameter_of area code style name v =
    record { kind = kind_for (act_of code v); style = style_for style; name = text_in area name }

unfoldable pub parameter_at : List ℕ → Parameters → ℕ → Parameter
parameter_at area p i =
    parameter_of area (get_or p.codes i 0) (get_or p.styles i 0) (get_or p.names i 0)
    (record { kind = get_or p.default_kinds i 0; payload = get_or p.default_payloads i 0 })

-- the list that they are
unfoldable pub parameters_in : List ℕ → Parameters → List Parameter
parameters_in area p = listed (parameter_at area p) 0 p.len

-- no parameter, in columns of zeros
abbrev pub no_parameters : Parameters
no_parameters =
    record {
      codes = replicate 64 0;
      styles = replicate 64 0;
      names = replicate 64 0;
      default_kinds = replicate 64 0;
      default_payloads = replicate 64 0;
      len = 0;
    }

-- the list is one longer, by the parameter that a step describes, under a style
pub record Longer (p : Parameters) (s : Step) (style : Style) (r : Parameters) : Type 0 where
  pub len : r.len ≡ p.len + 1
  pub list
      : (area : List ℕ)
      → parameters_in area r
      ≡ parameters_in area p
      ++ (record { kind = kind_for (act (step_of s)); style = style; name = text_in area s.name } ∷ [])

-- nameable: of codes 1 to 3, under a style that takes a name
unfoldable pub may_be_named : ℕ → ℕ → Bool
may_be_named code style = plain (kind_for (act_of code no_value)) && takes_name (style_for style)

-- the parameter at an index is nameable and has these bytes
unfoldable pub named_at : List ℕ → Parameters → List ℕ → ℕ → Bool
named_at area p bytes i =
    same_bytes bytes (bytes_at area (get_or p.names i 0)) && may_be_named (get_or p.codes i 0) (get_or p.styles i 0)

-- one of them is so
unfoldable pub known_in : List ℕ → Parameters → List ℕ → Bool
known_in area p bytes = any (named_at area p bytes) (listed (λ i. i) 0 p.len)

-- the name of a parameter of codes 1 to 3 is new among them, where the style takes a name
abbrev pub new_in : List ℕ → Parameters → Style → ℕ → Bool
new_in area p style name = not (takes_name style) || not (known_in area p (bytes_at area name))

-- 6 and 7 of a parameter of codes 1 to 3
abbrev pub ask_adding : List ℕ → Parameters → Style → ℕ → Answer
ask_adding area p style name =
    ask 6 (ltb p.len 64) then ask 7 (new_in area p style name)
