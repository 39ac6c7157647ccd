-- Laws of questions that look for the first parameter of a kind, 16 and 20 to 22: each is what a search over indices finds.
-- Assumes nothing.
use mathlib.Core.Path.{◌≡◌, refl, ap, subst, ◌∙◌}
use mathlib.Core.Bool.{Bool, true, false, cond, ◌&&◌, ◌||◌}
use mathlib.Core.List.{List, [], ◌∷◌}
use mathlib.Core.Option.{Option, none, some}
use Prim.Native.Nat.{ℕ, suc, ◌+◌, ◌<◌, suc-le-suc}
use native.Mathlib.Nat.{add-zero}
use native.Mathlib.Omega.{arith}
use lib.ListN.{length, get_or}
use Rattle.rules.specs.Listing.{first_index, any_from, map_from}
use Rattle.rules.specs.Value.{Value}
use Rattle.rules.specs.Answer.{Answer, fine, refuse, name, part_of, spec_area}
use Rattle.rules.specs.CallRecord.{Named}
use Rattle.rules.specs.Parameters.{Parameter, is_required}
use Rattle.rules.specs.Placement.{Slot, is_unfilled, from_p}
use Rattle.rules.specs.Binding.{named_by, ask_repeats, missing, ask_required}

-- the refusal for the parameter at an index
abbrev pub repeated_at : (ℕ → Parameter) → Option ℕ → Answer
repeated_at q none = fine
repeated_at q (some k) = refuse 16 (name (part_of spec_area (q k).name))

abbrev pub missing_at : (ℕ → Parameter) → Option ℕ → Answer
missing_at q none = fine
missing_at q (some k) = refuse (missing (q k).style) (name (part_of spec_area (q k).name))

abbrev pub is_some : Option ℕ → Bool
is_some none = false
is_some (some k) = true

module _ (q : ℕ → Parameter) (test : ℕ → Bool) where
  -- the hypotheses of both: what stands at an index, and what is tested there
  next_of : {X : Type 0} (i : ℕ) (x : X) (xs : List X) (d : X) (P : ℕ → X → Type 0) → ((k : ℕ) → k < length (x ∷ xs) → P (i + k) (get_or (x ∷ xs) k d)) → (k : ℕ) → k < length xs → P (suc i + k) (get_or xs k d)
  next_of i x xs d P h k l = subst (λ (n : ℕ). P n (get_or xs k d)) (step i k) (h (suc k) (suc-le-suc l))
    where
      step : (a b : ℕ) → a + suc b ≡ suc a + b
      step a b = omega arith

  here_of : {X : Type 0} (i : ℕ) (x : X) (xs : List X) (d : X) (P : ℕ → X → Type 0) → ((k : ℕ) → k < length (x ∷ xs) → P (i + k) (get_or (x ∷ xs) k d)) → P i x
  here_of i x xs d P h = subst (λ (n : ℕ). P n x) (add-zero i) (h 0 (omega arith))

  -- is there one at all?
  pub any_first : (f : ℕ → Parameter → Bool) (i : ℕ) (ps : List Parameter) (d : Parameter) → ((k : ℕ) → k < length ps → f (i + k) (get_or ps k d) ≡ test (i + k))
      → any_from f i ps ≡ is_some (first_index test i (length ps))
  any_first f i [] d tested = refl
  any_first f i (p ∷ ps) d tested = go (f i p) (here_of i p ps d (λ n x. f n x ≡ test n) tested) (any_first f (suc i) ps d (next_of i p ps d (λ n x. f n x ≡ test n) tested))
    where
      go : (b : Bool) → b ≡ test i → any_from f (suc i) ps ≡ is_some (first_index test (suc i) (length ps)) → (b || any_from f (suc i) ps) ≡ is_some (cond (test i) (some i) (first_index test (suc i) (length ps)))
      go true e ih = ap (λ b. is_some (cond b (some i) (first_index test (suc i) (length ps)))) e
      go false e ih = ih ∙ ap (λ b. is_some (cond b (some i) (first_index test (suc i) (length ps)))) e

  pub repeats_first : (P : List Value) (W : List Named) (i : ℕ) (ps : List Parameter) (d : Parameter)
      → ((k : ℕ) → k < length ps → get_or ps k d ≡ q (i + k)) → ((k : ℕ) → k < length ps → (from_p P (i + k) (get_or ps k d) && named_by W (get_or ps k d)) ≡ test (i + k))
      → ask_repeats P W i ps ≡ repeated_at q (first_index test i (length ps))
  repeats_first P W i [] d stands tested = refl
  repeats_first P W i (p ∷ ps) d stands tested =
      go (from_p P i p && named_by W p) (here_of i p ps d (λ n x. (from_p P n x && named_by W x) ≡ test n) tested)
      (repeats_first P W (suc i) ps d (next_of i p ps d (λ n x. x ≡ q n) stands) (next_of i p ps d (λ n x. (from_p P n x && named_by W x) ≡ test n) tested))
    where
      go : (b : Bool) → b ≡ test i → ask_repeats P W (suc i) ps ≡ repeated_at q (first_index test (suc i) (length ps))
          → cond b (refuse 16 (name (part_of spec_area p.name))) (ask_repeats P W (suc i) ps) ≡ repeated_at q (cond (test i) (some i) (first_index test (suc i) (length ps)))
      go true e ih =
          ap (λ x. refuse 16 (name (part_of spec_area x.name))) (here_of i p ps d (λ n x. x ≡ q n) stands)
          ∙ ap (λ b. repeated_at q (cond b (some i) (first_index test (suc i) (length ps)))) e
      go false e ih = ih ∙ ap (λ b. repeated_at q (cond b (some i) (first_index test (suc i) (length ps)))) e

  pub required_first : (f : ℕ → Parameter → Slot) (i : ℕ) (ps : List Parameter) (d : Parameter)
      → ((k : ℕ) → k < length ps → get_or ps k d ≡ q (i + k)) → ((k : ℕ) → k < length ps → (is_required (get_or ps k d).kind && is_unfilled (f (i + k) (get_or ps k d))) ≡ test (i + k))
      → ask_required ps (map_from f i ps) ≡ missing_at q (first_index test i (length ps))
  required_first f i [] d stands tested = refl
  required_first f i (p ∷ ps) d stands tested =
      go (is_required p.kind && is_unfilled (f i p)) (here_of i p ps d (λ n x. (is_required x.kind && is_unfilled (f n x)) ≡ test n) tested)
      (required_first f (suc i) ps d (next_of i p ps d (λ n x. x ≡ q n) stands) (next_of i p ps d (λ n x. (is_required x.kind && is_unfilled (f n x)) ≡ test n) tested))
    where
      go : (b : Bool) → b ≡ test i → ask_required ps (map_from f (suc i) ps) ≡ missing_at q (first_index test (suc i) (length ps))
          → cond b (refuse (missing p.style) (name (part_of spec_area p.name))) (ask_required ps (map_from f (suc i) ps)) ≡ missing_at q (cond (test i) (some i) (first_index test (suc i) (length ps)))
      go true e ih =
          ap (λ x. refuse (missing x.style) (name (part_of spec_area x.name))) (here_of i p ps d (λ n x. x ≡ q n) stands)
          ∙ ap (λ b. missing_at q (cond b (some i) (first_index test (suc i) (length ps)))) e
      go false e ih = ih ∙ ap (λ b. missing_at q (cond b (some i) (first_index test (suc i) (length ps)))) e
