-- The list that the Rust's builder finishes, asked by the Rust's can-fill, answers as 01's can-fill: of the two names that `spec_of` has not
-- got nothing is read there.
-- Assumes nothing.
use mathlib.Core.Path.{◌≡◌, refl, ap, ap₂, ◌∙◌}
use mathlib.Core.Bool.{Bool, true, false, cond, ◌&&◌}
use mathlib.Core.List.{List, [], ◌∷◌, map}
use mathlib.Core.Option.{Option, none, some}
use Prim.Native.Nat.{ℕ, zero, suc}
use lib.Dec.{ltb}
use lib.ListN.{length, replicate}
use Rattle.rules.specs.Answer.{fine}
use Rattle.rules.specs.Parameters.{Parameter, positional_count, args_index}
use Rattle.rules.specs.ParameterQuestions.{ask_parameters, list_of}
use Rattle.rules.specs.CanFill.{can_fill}
use Rattle.original.specs.Spec.{is_some, is_none, ParametersSpec, spec_of, get, symbols_from}
use Rattle.original.specs.Builder.{next, built, finished_of}
use Rattle.original.specs.Slices.{store_at}
use Rattle.original.specs.CanFill.{Loop, returns_false, goes_on, fill_positions, fill_name, fill_names, then_names, unless_returned, can_fill_with_args}
use Rattle.original.proofs.LawsCanFill.{answer_after}
use Rattle.original.proofs.CanFill.{can_fill_original}
use Rattle.original.proofs.Builder.{builder_original}

module _ (qs : List Parameter) where
  same_positions : (p left : ℕ) (filled : List Bool) → fill_positions (finished_of qs) p left filled ≡ fill_positions (spec_of qs) p left filled
  unfolding finished_of spec_of
  same_positions p zero filled = refl
  same_positions p (suc left) filled =
      ap₂ (λ x y. cond (ltb p (positional_count qs)) x (cond (is_some (args_index qs)) y (some returns_false))) (go (store_at filled p true) (same_positions (suc p) left)) (same_positions (suc p) left filled)
    where
      go : (o : Option (List Bool)) → ((f : List Bool) → fill_positions (finished_of qs) (suc p) left f ≡ fill_positions (spec_of qs) (suc p) left f)
          → next o (fill_positions (finished_of qs) (suc p) left) ≡ next o (fill_positions (spec_of qs) (suc p) left)
      go none later = refl
      go (some f) later = later f

  same_names : (names : List (List ℕ)) (filled : List Bool) → fill_names (finished_of qs) names filled ≡ fill_names (spec_of qs) names filled
  unfolding finished_of spec_of
  same_names [] filled = refl
  same_names (name ∷ names) filled =
      ap (λ o. then_names o (fill_names (finished_of qs) names)) (same_name (get (symbols_from 0 qs) name)) ∙ go (fill_name (spec_of qs) (get (symbols_from 0 qs) name) filled) (same_names names)
    where
      same_name : (o : Option ℕ) → fill_name (finished_of qs) o filled ≡ fill_name (spec_of qs) o filled
      same_name none = refl
      same_name (some i) = refl

      go : (o : Option Loop) → ((f : List Bool) → fill_names (finished_of qs) names f ≡ fill_names (spec_of qs) names f) → then_names o (fill_names (finished_of qs) names) ≡ then_names o (fill_names (spec_of qs) names)
      go none later = refl
      go (some returns_false) later = refl
      go (some (goes_on f)) later = later f

  pub same_fill : (p : ℕ) (names : List (List ℕ)) → can_fill_with_args (finished_of qs) p names ≡ can_fill_with_args (spec_of qs) p names
  unfolding can_fill_with_args finished_of spec_of
  same_fill p names = ap (λ o. unless_returned o (after (finished_of qs))) (same_positions 0 p slots) ∙ go (fill_positions (spec_of qs) 0 p slots)
    where
      slots : List Bool
      slots = replicate (length (map (λ q. q.kind) qs)) false

      after : ParametersSpec → List Bool → Option Bool
      after self filled = cond (ltb (positional_count qs) p && is_none (args_index qs)) (some false) (answer_after qs (fill_names self names filled))

      go : (o : Option Loop) → unless_returned o (after (finished_of qs)) ≡ unless_returned o (after (spec_of qs))
      go none = refl
      go (some returns_false) = refl
      go (some (goes_on filled)) = ap (λ o. cond (ltb (positional_count qs) p && is_none (args_index qs)) (some false) (answer_after qs o)) (same_names names filled)

pub can_fill_built : (cells area : List ℕ) → ask_parameters 64 cells area ≡ fine → (spec : ParametersSpec) → built cells area ≡ some spec
    → (p : ℕ) (written : List (List ℕ)) → can_fill_with_args spec p written ≡ some (can_fill (list_of cells area) p written)
can_fill_built cells area passes spec e p written =
    let same : spec ≡ finished_of (list_of cells area) = cc ((builder_original cells area).finishes passes) in
    ap (λ s. can_fill_with_args s p written) same ∙ same_fill (list_of cells area) p written ∙ can_fill_original 64 cells area passes p written
