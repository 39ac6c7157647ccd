-- What printing a list promises (01, printed list): the answer and the output of the definition.
use Rattle.std.specs.Prelude.{Result, Ok, Err, List, ◌++◌, ◌≡◌, ℕ, ◌≤◌, length}
use Rattle.rules.specs.Answer.{none}
use Rattle.rules.specs.Cells.{over}
use Rattle.rules.specs.Parameters.{Parameter, positional_only, args_index, kwargs_index}
use Rattle.rules.specs.ParameterQuestions.{list_of}
use Rattle.rules.specs.Accessors.{Access, denied, gives, left_by}
use Rattle.rules.specs.Printed.{items_of, either_way, name_only, slash_item, star_item, kwargs_item, printed, parameters_str}
use Rattle.builder.specs.Params.{parameters_in}
use Rattle.builder.specs.Spec.{index_of}
use Rattle.cells.specs.Question.{number_of}
use Rattle.cells.specs.declared.question.Question.{Question}
use Rattle.builder.specs.declared.spec.ParametersSpec.{ParametersSpec}
use Rattle.printer.specs.Line.{Room}
use Rattle.printer.specs.declared.line.Line.{Line}

-- the answer, as `rules` has it; no detail goes with these numbers
abbrev pub access_in : Result ℕ Question → Access
access_in (Ok k) = gives k
access_in (Err q) = denied (number_of q) none

-- the answer is the definition's, and so is what the output holds: the list and behind it what it held, or all that it held
pub record Printing (cells area before after : List ℕ) (r : Result ℕ Question) : Type 0 where
  pub answer : access_in r ≡ parameters_str 64 cells area before
  pub held : after ≡ left_by (parameters_str 64 cells area before) (printed (list_of cells area)) before

-- the two halves of the items: what is given by position, and what is not
unfoldable pub positional_items : List Parameter → List (List ℕ)
positional_items qs = items_of positional_only qs ++ (slash_item qs ++ items_of either_way qs)

unfoldable pub named_items : List Parameter → List (List ℕ)
named_items qs = star_item qs ++ (items_of name_only qs ++ kwargs_item qs)

-- a list whose indices are its own, and room for the second half
pub record NamedReady (area : List ℕ) (l : ParametersSpec) (line : Line) : Type 0 where
  pub count : l.params.len ≤ 64
  pub args : index_of l.indices.args ≡ args_index (parameters_in area l.params)
  pub kwargs : index_of l.indices.kwargs ≡ kwargs_index (parameters_in area l.params)
  pub room : Room (named_items (parameters_in area l.params)) line

-- a list whose indices are its own, and room for all of it
pub record ListReady (area : List ℕ) (l : ParametersSpec) (out : List ℕ) : Type 0 where
  pub count : l.params.len ≤ 64
  pub args : index_of l.indices.args ≡ args_index (parameters_in area l.params)
  pub kwargs : index_of l.indices.kwargs ≡ kwargs_index (parameters_in area l.params)
  pub room : length (printed (parameters_in area l.params)) ≤ length out

pub record ListWritten (area : List ℕ) (l : ParametersSpec) (before after : List ℕ) (r : ℕ) : Type 0 where
  pub held : after ≡ over (printed (parameters_in area l.params)) before
  pub ends : r ≡ length (printed (parameters_in area l.params))
