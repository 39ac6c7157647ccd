-- What building a list from a parameter record promises (01, questions 1 to 7).
use Rattle.std.specs.Prelude.{Result, Ok, Err, List, [], ◌≡◌, ℕ, ◌≤◌}
use Rattle.rules.specs.Answer.{Answer, fine}
use Rattle.rules.specs.ParameterRecord.{read_parameters}
use Rattle.rules.specs.Parameters.{pos_only, Parameter, positional_only_count, positional_count, args_index, kwargs_index}
use Rattle.rules.specs.ParameterQuestions.{ask_steps, ask_parameters, list_of}
use Rattle.builder.specs.Params.{parameters_in}
use Rattle.cells.specs.Question.{answer_of, refused}
use Rattle.cells.specs.declared.question.Question.{Question}
use Rattle.builder.specs.Spec.{index_of, list_in, Built}
use Rattle.builder.specs.declared.spec.Stepped.{Stepped}
use Rattle.builder.specs.declared.spec.ParametersSpec.{ParametersSpec}

-- the steps of a record: the first "no" of questions 5 to 7, or all the parameters that they add
pub record Taking (cells area : List ℕ) (r : Stepped) : Type 0 where
  pub answer : answer_of r.answer ≡ ask_steps 64 area pos_only [] (read_parameters cells).steps
  pub list : r.answer ≡ Ok tt → list_in area r.builder ≡ list_of cells area
  pub built : Built area r.builder

-- a list of the code is this list of `rules`: each parameter's kind, style, name and default; both counts; and the indices of
-- *args and **kwargs
pub record IsList (area : List ℕ) (l : ParametersSpec) (qs : List Parameter) : Type 0 where
  pub room : l.params.len ≤ 64
  pub parameters : parameters_in area l.params ≡ qs
  pub positional_only : l.indices.num_positional_only ≡ positional_only_count qs
  pub positional : l.indices.num_positional ≡ positional_count qs
  pub args : index_of l.indices.args ≡ args_index qs
  pub kwargs : index_of l.indices.kwargs ≡ kwargs_index qs

-- nothing against the record, or the first question that was answered by "no"
abbrev pub asked_of : Result ParametersSpec Question → Answer
asked_of (Ok l) = fine
asked_of (Err q) = refused q

-- the first "no" of questions 1 to 7, or the list that the record describes
pub record Building (cells area : List ℕ) (r : Result ParametersSpec Question) : Type 0 where
  pub answer : asked_of r ≡ ask_parameters 64 cells area
  pub fine : (l : ParametersSpec) → r ≡ Ok l → IsList area l (list_of cells area)
  -- what the Rust asserts of a list that it finishes; it holds of every list of steps, so nothing asks for it (02, §8)
  pub within : (l : ParametersSpec) → r ≡ Ok l → l.indices.num_positional_only ≤ l.indices.num_positional
  -- its texts lie in the record's area
  pub in_area : (l : ParametersSpec) → r ≡ Ok l → l.area.now ≡ area
