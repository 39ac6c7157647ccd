-- The Rust's builder at work on short lists, over an area that has the names `a`, `b` and `c`. The proof is `builder_examples` of proofs/.
use Rattle.std.specs.Prelude.{◌≡◌, true, List, [], ◌∷◌, ◌++◌, ℕ, replicate}
use Rattle.std.proofs.Math.Option.{Option, none, some}
use Rattle.rules.specs.Text.{Text}
use Rattle.rules.specs.Answer.{refuse, Detail}
use Rattle.rules.specs.ParameterRecord.{Step, encode_parameters}
use Rattle.rules.specs.Parameters as kind
use Rattle.rules.specs.ParameterQuestions.{ask_parameters}
use Rattle.original.specs.Spec.{is_some, Symbol, ParametersSpec}
use Rattle.original.specs.Builder.{built, star_args, star_star_kwargs}

abbrev pub area : List ℕ
area = 97 ∷ 98 ∷ 99 ∷ []

abbrev pub step : ℕ → ℕ → Step
step code name = record { code = code; name = name; default = record { kind = 0; payload = 0 } }

-- required parameters `a`, `b`, `c`; the marks; *args and **kwargs
abbrev pub a : Step
a = step 1 1

abbrev pub b : Step
b = step 1 257

abbrev pub c : Step
c = step 1 513

abbrev pub slash : Step
slash = step 4 0

abbrev pub star : Step
star = step 5 0

abbrev pub args : Step
args = step 6 0

abbrev pub kwargs : Step
kwargs = step 7 0

-- the record of these steps, for a function with the name `a`
abbrev pub cells : List Step → List ℕ
cells ts = encode_parameters (record { function = 1; steps = ts })

abbrev pub run : List Step → Option ParametersSpec
run ts = built (cells ts) area

-- positional-only parameters, which may all have one name: 65 are one too many for 01
abbrev pub too_many_steps : List Step
too_many_steps = replicate 65 a

-- here *args is one too many for 01, and what comes after it may not stand there
abbrev pub too_many_and_wrong_steps : List Step
too_many_and_wrong_steps = replicate 64 a ++ (args ∷ star ∷ [])

abbrev pub text : ℕ → ℕ → Text
text payload byte = record { payload = payload; bytes = byte ∷ [] }

abbrev pub symbol : ℕ → ℕ → Symbol
symbol byte index = record { bytes = byte ∷ []; index = index }

-- `a, /, b, *args, c, **kwargs`
abbrev pub all_styles : ParametersSpec
all_styles =
    record {
      param_kinds = kind.required ∷ kind.required ∷ kind.args ∷ kind.required ∷ kind.kwargs ∷ [];
      param_names = text 1 97 ∷ text 257 98 ∷ star_args ∷ text 513 99 ∷ star_star_kwargs ∷ [];
      names = symbol 98 1 ∷ symbol 99 3 ∷ [];
      num_positional_only = 1;
      num_positional = 2;
      args = some 2;
      kwargs = some 4;
    }

-- `a, a, *, b`
abbrev pub named_after_star : ParametersSpec
named_after_star =
    record {
      param_kinds = kind.required ∷ kind.required ∷ kind.required ∷ [];
      param_names = text 1 97 ∷ text 1 97 ∷ text 257 98 ∷ [];
      names = symbol 98 2 ∷ [];
      num_positional_only = 2;
      num_positional = 2;
      args = none;
      kwargs = none;
    }

-- `a` optional and `b` with the whole number 5 for its default
abbrev pub optional_and_defaulted : ParametersSpec
optional_and_defaulted =
    record {
      param_kinds = kind.optional ∷ kind.defaulted (record { kind = 3; payload = 5 }) ∷ [];
      param_names = text 1 97 ∷ text 257 98 ∷ [];
      names = [];
      num_positional_only = 2;
      num_positional = 2;
      args = none;
      kwargs = none;
    }

pub record BuilderExamples : Type 0 where
  pub all_styles : run (a ∷ slash ∷ b ∷ args ∷ c ∷ kwargs ∷ []) ≡ some all_styles
  pub named_after_star : run (a ∷ a ∷ star ∷ b ∷ []) ≡ some named_after_star
  pub optional_defaulted :
      run (step 2 1 ∷ record { code = 3; name = 257; default = record { kind = 3; payload = 5 } } ∷ []) ≡ some optional_and_defaulted
  -- codes that name no method
  pub below_codes : run (step 0 0 ∷ []) ≡ none
  pub above_codes : run (step 8 0 ∷ []) ≡ none
  pub name_repeated : run (slash ∷ a ∷ star ∷ a ∷ []) ≡ none
  pub slash_twice : run (slash ∷ slash ∷ []) ≡ none
  pub star_after_args : run (args ∷ star ∷ []) ≡ none
  pub args_after_star : run (star ∷ args ∷ []) ≡ none
  pub after_kwargs : run (kwargs ∷ a ∷ []) ≡ none
  pub kwargs_twice : run (kwargs ∷ kwargs ∷ []) ≡ none
  -- of two records that 6 refuses the Rust builds one, and panics at the other
  pub too_many : ask_parameters 64 (cells too_many_steps) area ≡ refuse 6 Detail.none
  pub too_many_built : is_some (run too_many_steps) ≡ true
  pub too_many_and_wrong : ask_parameters 64 (cells too_many_and_wrong_steps) area ≡ refuse 6 Detail.none
  pub too_many_panics : run too_many_and_wrong_steps ≡ none
