-- A list that `build` hands out is one that binding can lean on.
-- Assumes nothing.
use Rattle.std.specs.Prelude.{Result, Ok}
use mathlib.Core.Path.{◌≡◌, sym, ap, subst, ◌∙◌}
use mathlib.Core.List.{List, []}
use Prim.Native.Nat.{ℕ}
use Rattle.rules.specs.Listing.{all}
use Rattle.rules.specs.Answer.{fine}
use Rattle.rules.specs.ParameterQuestions.{ask_parameters, list_of}
use Rattle.rules.specs.Passed.{positional_first, names_apart, name_inside}
use Rattle.rules.proofs.LawsParameters.{list_positional_first, list_names_apart, list_name_inside}
use Rattle.cells.specs.declared.question.Question.{Question}
use Rattle.builder.specs.Params.{parameters_in}
use Rattle.builder.specs.Build.{asked_of, Building, IsList}
use Rattle.builder.specs.declared.spec.ParametersSpec.{ParametersSpec}
use Rattle.findings.specs.Resolve.{Prepared}

module _ (cells area : List ℕ) (r : Result ParametersSpec Question) (built : Building cells area r) (l : ParametersSpec) (is_built : r ≡ Ok l) where
  pub built_fine : ask_parameters 64 cells area ≡ fine
  built_fine = sym built.answer ∙ ap asked_of is_built

  pub built_list : parameters_in area l.params ≡ list_of cells area
  built_list = (built.fine l is_built).parameters

  pub built_prepared : Prepared area l
  built_prepared =
      record {
        is_list = subst (IsList area l) (sym built_list) (built.fine l is_built);
        first = ap positional_first built_list ∙ list_positional_first 64 cells area built_fine;
        apart = ap (names_apart []) built_list ∙ list_names_apart 64 cells area built_fine;
        inside = ap (all (name_inside area)) built_list ∙ list_name_inside 64 cells area built_fine;
      }
