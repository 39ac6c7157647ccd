-- What a step of the builder and its end promise (01, on the parameter list, and questions 5 to 7), for every state of the builder.
use Rattle.std.specs.Prelude.{Option, Some, None, Ok, Err, List, [], ◌++◌, ◌≡◌, ℕ, ◌≤◌}
use Rattle.std.specs.Borrow.{Bor}
use Rattle.std.proofs.Math.Option as math
use Rattle.rules.specs.ParameterRecord.{Step as RecordStep}
use Rattle.rules.specs.Parameters.{Style, pos_only, pos_or_named, named_only, no_more, Parameter, act, next_style, added, positional_only_count, positional_count, args_index, kwargs_index}
use Rattle.rules.specs.ParameterQuestions.{ask_step}
use Rattle.cells.specs.Question.{answer_of}
use Rattle.builder.specs.Params.{style_of, parameters_in, Longer}
use Rattle.builder.specs.declared.params.CurrentParameterStyle.{CurrentParameterStyle}
use Rattle.builder.specs.declared.params.Step.{Step}
use Rattle.cells.specs.declared.question.Question.{Question}
use Rattle.builder.specs.declared.spec.ParametersSpecBuilder.{ParametersSpecBuilder}
use Rattle.builder.specs.declared.spec.Stepped.{Stepped}
use Rattle.builder.specs.declared.spec.ParametersSpec.{ParametersSpec}

-- the index of a parameter, where there is such a parameter, as `rules` has it
abbrev pub index_of : Option ℕ → math.Option ℕ
index_of (Some i) = math.some i
index_of None = math.none

-- the answer that hands back the state as it was
abbrev pub refused_by : Question → ParametersSpecBuilder → Stepped
refused_by q b = record { answer = Err q; builder = b }

-- the answer that changes the style alone
abbrev pub under_style : CurrentParameterStyle → ParametersSpecBuilder → Stepped
under_style style b =
    record {
      answer = Ok tt;
      builder =
          record {
            params = b.params;
            positional_only = b.positional_only;
            positional = b.positional;
            current_style = style;
            args = b.args;
            kwargs = b.kwargs;
          };
    }

-- the builder's style, as `rules` has it
abbrev pub style_in : ParametersSpecBuilder → Style
style_in b = style_of b.current_style

-- the list of its parameters
abbrev pub list_in : List ℕ → ParametersSpecBuilder → List Parameter
list_in area b = parameters_in area b.params

-- what the style says of the parameters so far: under PosOnly all are positional-only, before NamedOnly all are positional and
-- there is no *args, before NoMore there is no **kwargs
abbrev pub SoFar : Style → ParametersSpecBuilder → Type 0
SoFar pos_only b =
    (b.positional_only ≡ b.params.len)
    × (b.positional ≡ b.params.len)
    × (b.args ≡ None)
    × (b.kwargs ≡ None)
SoFar pos_or_named b = (b.positional ≡ b.params.len) × (b.args ≡ None) × (b.kwargs ≡ None)
SoFar named_only b = b.kwargs ≡ None
SoFar no_more b = Unit

-- the state is one that steps lead to: its counts and indices are those of its list, and no more parameters are positional-only than
-- positional (02, §8)
pub record Built (area : List ℕ) (b : ParametersSpecBuilder) : Type 0 where
  pub room : b.params.len ≤ 64
  pub positional_only : b.positional_only ≡ positional_only_count (list_in area b)
  pub positional : b.positional ≡ positional_count (list_in area b)
  pub within : b.positional_only ≤ b.positional
  pub args : index_of b.args ≡ args_index (list_in area b)
  pub kwargs : index_of b.kwargs ≡ kwargs_index (list_in area b)
  pub sofar : SoFar (style_in b) b

-- the builder without a parameter
pub record Empty (b : ParametersSpecBuilder) : Type 0 where
  pub style : style_in b ≡ pos_only
  pub list : (area : List ℕ) → list_in area b ≡ []
  pub built : (area : List ℕ) → Built area b

-- the list is one longer, by the parameter that the step describes under the style so far, and counts, style and indices are as they were
pub record Pushed (b : ParametersSpecBuilder) (s : Step) (r : ParametersSpecBuilder) : Type 0 where
  pub longer : Longer b.params s (style_in b) r.params
  pub positional_only : r.positional_only ≡ b.positional_only
  pub positional : r.positional ≡ b.positional
  pub style : r.current_style ≡ b.current_style
  pub args : r.args ≡ b.args
  pub kwargs : r.kwargs ≡ b.kwargs

-- a step: questions 5 to 7, the state as it was where one says no, and otherwise the next style and the parameter added
pub record Stepping (area : List ℕ) (b : ParametersSpecBuilder) (t : RecordStep) (r : Stepped) : Type 0 where
  pub answer : answer_of r.answer ≡ ask_step 64 area (style_in b) (list_in area b) t
  pub refused : (q : Question) → r.answer ≡ Err q → r.builder ≡ b
  pub style : r.answer ≡ Ok tt → style_in r.builder ≡ next_style (style_in b) (act t)
  pub list
      : r.answer ≡ Ok tt
      → list_in area r.builder
      ≡ list_in area b ++ added area (style_in b) (act t) t.name
  pub built : Built area b → Built area r.builder

-- the list of a state, with its counts and indices, and the area lent with it
abbrev pub finished : Bor (List ℕ) → ParametersSpecBuilder → ParametersSpec
finished area b =
    record {
      params = b.params;
      indices =
          record {
            num_positional_only = b.positional_only;
            num_positional = b.positional;
            args = b.args;
            kwargs = b.kwargs;
          };
      area = area;
    }
