-- A test of all numbers below n, as the library makes it over a range, is a test of all elements of a list of n. Assumes nothing.
use Rattle.std.specs.Prelude.{MatchBool}
use Rattle.std.specs.List.{AllWithin, HoldsAt, range_with_len}
use Rattle.std.proofs.lemmas.List.FromFn.{get_or-range_with_len, length-range_with_len}
use mathlib.Core.Path.{◌≡◌, refl, sym, ap, ◌∙◌}
use mathlib.Core.Bool.{Bool, true, false, ◌&&◌, and-false}
use mathlib.Core.List.{List, [], ◌∷◌}
use Prim.Native.Nat.{ℕ, zero, suc, ◌<◌}
use native.Mathlib.Nat.{zero-add}
use native.Mathlib.Omega.{arith}
use lib.ListN.{length, get_or}
use Rattle.rules.specs.Listing.{all}

module _ {X : Type 0} (test : X → Bool) (d : X) where
  each_passes : (xs : List X) → ((k : ℕ) → k < length xs → test (get_or xs k d) ≡ true) → all test xs ≡ true
  each_passes [] h = refl
  each_passes (x ∷ xs) h = ap (λ b. b && all test xs) (h 0 (omega arith)) ∙ each_passes xs (λ k l. h (suc k) (omega arith))

  one_fails : (xs : List X) (k : ℕ) → k < length xs → test (get_or xs k d) ≡ false → all test xs ≡ false
  one_fails [] k l e = absurd (omega arith)
  one_fails (x ∷ xs) zero l e = ap (λ b. b && all test xs) e
  one_fails (x ∷ xs) (suc k) l e = ap (λ b. test x && b) (one_fails xs k (omega arith) e) ∙ and-false (test x)

  module _ (xs : List X) (n : ℕ) (size : length xs ≡ n) (f : ℕ → Bool) (same : (k : ℕ) → k < n → test (get_or xs k d) ≡ f k) where
    numbers : length (range_with_len 0 n) ≡ n
    numbers = length-range_with_len 0 n

    number : (k : ℕ) → k < n → get_or (range_with_len 0 n) k 0 ≡ k
    number k l = get_or-range_with_len 0 n k 0 l ∙ zero-add k

    pub all_by
        : (r : Bool) → MatchBool r (AllWithin (λ k. f k ≡ true) (range_with_len 0 n) 0 (length (range_with_len 0 n))) ((k : ℕ) × (k < length (range_with_len 0 n)) × HoldsAt (λ k. f k ≡ false) (range_with_len 0 n) k)
        → r ≡ all test xs
    all_by true m =
        sym
        (each_passes xs
        (λ k l. same k (omega (arith, size)) ∙ ap f (sym (number k (omega (arith, size)))) ∙ m k 0 (omega arith) (omega (arith, size, numbers))))
    all_by false m =
        sym
        (one_fails xs m.0 (omega (arith, m.1, size, numbers))
        (same m.0 (omega (arith, m.1, numbers)) ∙ ap f (sym (number m.0 (omega (arith, m.1, numbers)))) ∙ m.2 0))
