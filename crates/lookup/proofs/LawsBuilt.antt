-- What a lookup means: in columns whose nameable names lie inside the area it is a lookup in the list that they are (`lookup_columns`), and
-- so in a list that `build` hands out it finds the index of the nameable parameter with these bytes, or none (`lookup_built`). Where no two
-- of its parameters have one name, a name fits one of them at the most (`one_fits`).
-- Before them: a candidate fits where `rules` says that the bytes name it, and so does the first.
-- Assumes nothing.
use Rattle.std.specs.Prelude.{Option, Some, None, Result, Ok}
use mathlib.Core.Path.{◌≡◌, refl, sym, ap, ◌∙◌}
use mathlib.Core.Bool.{Bool, true, false, cond, not, ◌&&◌, ◌||◌, false≢true}
use mathlib.Core.List.{List, []}
use Prim.Native.Nat.{ℕ, zero, suc, min, ◌≤◌}
use native.Mathlib.Nat.{zero-add}
use native.Mathlib.Omega.{arith}
use lib.ListN.{length, get_or}
use borrow.Author.Tests.{eqb-true}
use Rattle.rules.specs.Listing.{all}
use Rattle.rules.specs.Text.{same_bytes, bytes_at, inside, text_in}
use Rattle.rules.specs.Lookup.{names, find, find_from}
use Rattle.rules.specs.ParameterQuestions.{list_of}
use Rattle.rules.proofs.LawsListing.{and_left, and_right}
use Rattle.rules.specs.Passed.{name_inside, names_apart}
use Rattle.rules.specs.Parameters.{Parameter}
use Rattle.rules.proofs.LawsFound.{is_at, names_at as names-at-index}
use Rattle.cells.proofs.LawsListed.{length_listed, all_at, get_d_listed}
use Rattle.rules.proofs.LawsParameters.{list_name_inside}
use Rattle.builder.specs.declared.params.Parameters.{Parameters}
use Rattle.cells.specs.declared.question.Question.{Question}
use Rattle.builder.specs.declared.spec.ParametersSpec.{ParametersSpec}
use Rattle.cells.specs.Listed.{listed}
use Rattle.builder.specs.Params.{may_be_named, parameter_of, parameter_at, parameters_in}
use Rattle.builder.specs.Build.{asked_of, Building}
use Rattle.builder.proofs.LawsParams.{nameable_at, names_at}
use Rattle.lookup.specs.Lookup.{finding_of, fits, fits_at, first_at, find_in, OneFits}

-- ---- the first that fits

module _ (area bytes : List ℕ) (p : Parameters) where
  name_inside_lem
      : (i : ℕ) → name_inside area (parameter_at area p i) ≡ true
      → not (may_be_named (get_or p.codes i 0) (get_or p.styles i 0)) || inside area (get_or p.names i 0) ≡ true
  unfolding name_inside parameter_at parameter_of text_in
  name_inside_lem i e = rw (← nameable_at area p i) e

  fits_names
      : (i : ℕ) → name_inside area (parameter_at area p i) ≡ true
      → fits_at area p bytes i ≡ names bytes (parameter_at area p i)
  unfolding fits_at fits name_inside
  fits_names i e =
      go (may_be_named (get_or p.codes i 0) (get_or p.styles i 0)) (inside area (get_or p.names i 0))
      (same_bytes bytes (bytes_at area (get_or p.names i 0)))
      (name_inside_lem i e)
      ∙ sym (names_at area bytes p i)
    where
      go : (b i s : Bool) → not b || i ≡ true → b && (i && s) ≡ b && s
      go false i s e = refl
      go true true s e = refl
      go true false s e = absurd (false≢true e)

  first_names
      : (i n : ℕ) → all (name_inside area) (listed (parameter_at area p) i n) ≡ true
      → finding_of (first_at (fits_at area p bytes) i n) ≡ find_from i (listed (parameter_at area p) i n) bytes
  first_names i zero e = refl
  first_names i (suc n) e =
      rw (fits_names i (and_left (name_inside area (parameter_at area p i)) (all (name_inside area) (listed (parameter_at area p) (suc i) n)) e))
      (go (names bytes (parameter_at area p i)) (first_names (suc i) n (and_right (name_inside area (parameter_at area p i)) (all (name_inside area) (listed (parameter_at area p) (suc i) n)) e)))
    where
      go : (b : Bool)
          → finding_of (first_at (fits_at area p bytes) (suc i) n) ≡ find_from (suc i) (listed (parameter_at area p) (suc i) n) bytes
          → finding_of (cond b (Some i) (first_at (fits_at area p bytes) (suc i) n))
          ≡ cond b (Rattle.rules.specs.Lookup.at i) (find_from (suc i) (listed (parameter_at area p) (suc i) n) bytes)
      go true r = refl
      go false r = r

  -- a lookup in columns whose nameable names lie inside the area is one in the list that they are
  pub lookup_columns
      : p.len ≤ 64 → all (name_inside area) (parameters_in area p) ≡ true
      → finding_of (find_in area p bytes) ≡ find (parameters_in area p) bytes
  unfolding find_in find parameters_in
  lookup_columns room e =
      let m : min p.len 64 ≡ p.len = omega arith in
      rw m (first_names 0 p.len e)

  -- where no two of its parameters have one name, whichever a name fits is what is found
  pub one_fits
      : p.len ≤ 64 → all (name_inside area) (parameters_in area p) ≡ true → names_apart [] (parameters_in area p) ≡ true
      → OneFits area p bytes
  unfolding parameters_in find
  one_fits room e apart i below f = found (find_in area p bytes) (lookup_columns room e)
    where
      qs : List Parameter
      qs = listed (parameter_at area p) 0 p.len

      size : length qs ≡ p.len
      size = length_listed (parameter_at area p) 0 p.len

      here : get_or qs i (parameter_at area p 0) ≡ parameter_at area p i
      here = get_d_listed (parameter_at area p) 0 p.len i (parameter_at area p 0) (omega arith) ∙ ap (parameter_at area p) (zero-add i)

      named : is_at i (find_from 0 qs bytes) ≡ true
      named =
          ap (λ k. is_at k (find_from 0 qs bytes)) (sym (zero-add i))
          ∙ sym (names-at-index [] 0 qs bytes apart i (parameter_at area p 0) (omega (arith, size)))
          ∙ ap (names bytes) here
          ∙ sym (fits_names i (sym (ap (name_inside area) here) ∙ all_at (name_inside area) qs i (parameter_at area p 0) (omega (arith, size)) e))
          ∙ f

      found : (g : Option ℕ) → finding_of g ≡ find_from 0 qs bytes → g ≡ Some i
      found (Some k) q = ap Some (eqb-true k i (ap (is_at i) q ∙ named))
      found None q = absurd (false≢true (ap (is_at i) q ∙ named))

-- a lookup in a list that is built is a lookup in the list that the record describes
pub lookup_built
    : (cells area bytes : List ℕ) (r : Result ParametersSpec Question) → Building cells area r → (l : ParametersSpec) → r ≡ Ok l
    → finding_of (find_in area l.params bytes) ≡ find (list_of cells area) bytes
lookup_built cells area bytes r b l e =
    let is = b.fine l e in
    lookup_columns area bytes l.params is.room (rw is.parameters (list_name_inside 64 cells area (sym b.answer ∙ ap asked_of e)))
    ∙ ap (λ qs. find qs bytes) is.parameters
