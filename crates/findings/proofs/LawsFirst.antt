-- The first index that passes a test, of n from k on: by what holds of it and of those before it, and as the library finds it in a range.
-- Assumes nothing.
use Rattle.std.specs.Prelude.{Option, Some, None, MatchOption}
use Rattle.std.specs.List.{AllWithin, HoldsAt, range_with_len}
use Rattle.std.proofs.lemmas.List.FromFn.{get_or-range_with_len, length-range_with_len}
use mathlib.Core.Path.{◌≡◌, refl, sym, ap, ◌∙◌}
use mathlib.Core.Bool.{Bool, true, false, cond, true≢false}
use mathlib.Core.List.{List}
use mathlib.Core.Option.{none, some}
use Prim.Native.Nat.{ℕ, zero, suc, ◌+◌, ◌-◌, ◌≤◌, ◌<◌}
use native.Mathlib.Omega.{arith}
use borrow.Author.Tests.{eqb-true, eqb-false}
use lib.Dec.{eqb}
use lib.ListN.{length, get_or}
use Rattle.rules.specs.Listing.{first_index}
use Rattle.builder.specs.Spec.{index_of}

module _ (test : ℕ → Bool) where
  pub first_at : (k n i : ℕ) → k ≤ i → i < k + n → test i ≡ true → ((j : ℕ) → k ≤ j → j < i → test j ≡ false) → first_index test k n ≡ some i
  first_at k zero i l h t before = absurd (omega arith)
  first_at k (suc n) i l h t before = go (test k) refl (λ m. first_at (suc k) n i m (omega arith) t (λ j o u. before j (omega arith) u))
    where
      here : test k ≡ true → (b : Bool) → eqb k i ≡ b → k ≡ i
      here p true e = eqb-true k i e
      here p false e = absurd (true≢false (sym p ∙ before k (omega arith) (omega (arith, eqb-false k i e))))

      go : (b : Bool) → test k ≡ b → (suc k ≤ i → first_index test (suc k) n ≡ some i) → cond b (some k) (first_index test (suc k) n) ≡ some i
      go true p later = ap some (here p (eqb k i) refl)
      go false p later =
          let other : k ≡ i → ⊥ = λ e. true≢false (sym t ∙ ap test (sym e) ∙ p) in
          later (omega arith)

  pub nowhere : (k n : ℕ) → ((j : ℕ) → k ≤ j → j < k + n → test j ≡ false) → first_index test k n ≡ none
  nowhere k zero h = refl
  nowhere k (suc n) h =
      ap (λ b. cond b (some k) (first_index test (suc k) n)) (h k (omega arith) (omega arith))
      ∙ nowhere (suc k) n (λ j l u. h j (omega arith) (omega arith))

  module _ (k n : ℕ) where
    abbrev numbers : List ℕ
    numbers = range_with_len k n

    number : (j : ℕ) → k ≤ j → j < k + n → get_or numbers (j - k) 0 ≡ j
    number j l u = let e : k + (j - k) ≡ j = omega arith in get_or-range_with_len k n (j - k) 0 (omega arith) ∙ e

    pub first_found
        : (r : Option ℕ)
        → MatchOption r (AllWithin (λ j. test j ≡ false) numbers 0 (length numbers)) (λ x. (test x ≡ true) × (i : ℕ) × (i < length numbers) × HoldsAt (λ y. y ≡ x) numbers i × AllWithin (λ j. test j ≡ false) numbers 0 i)
        → index_of r ≡ first_index test k n
    first_found (Some x) m =
        let within : m.1 < n = omega (arith, m.2, length-range_with_len k n) in
        let is : x ≡ k + m.1 = sym (m.3 0) ∙ get_or-range_with_len k n m.1 0 within in
        sym
        (first_at k n x (omega arith) (omega arith) m.0
        (λ j l u. ap test (sym (number j l (omega arith))) ∙ m.4 (j - k) 0 (omega arith) (omega arith)))
    first_found None m =
        sym
        (nowhere k n
        (λ j l u. ap test (sym (number j l u)) ∙ m (j - k) 0 (omega arith) (omega (arith, length-range_with_len k n))))
