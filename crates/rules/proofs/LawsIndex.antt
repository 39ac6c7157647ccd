-- Laws of a search over indices. In order: one more index looked at and none left, as a loop asks for them; what an answer says of the indices
-- looked at; a search in two parts of the indices.
-- Assumes nothing.
use mathlib.Core.Path.{◌≡◌, refl, sym, ap, ap₂, ◌∙◌}
use mathlib.Core.Bool.{Bool, true, false, cond, not, ◌&&◌}
use mathlib.Core.Option.{none, some}
use Prim.Native.Nat.{ℕ, zero, suc, ◌+◌, ◌-◌, ◌≤◌, ◌<◌}
use native.Mathlib.Numerals.{add-one}
use native.Mathlib.Omega.{arith}
use borrow.Author.Tests.{ltb-true, ltb-false, le-ltb}
use lib.Dec.{ltb}
use Rattle.rules.specs.Listing.{first_index}

first_index_next : (test : ℕ → Bool) (k n : ℕ) → k < n → first_index test k (n - k) ≡ cond (test k) (some k) (first_index test (k + 1) (n - (k + 1)))
first_index_next test k n h = ap (first_index test k) left ∙ rw (add-one k)
  where
    left : n - k ≡ suc (n - (k + 1))
    left = omega arith

pub first_index_hit : (test : ℕ → Bool) (k n : ℕ) → k < n → test k ≡ true → first_index test k (n - k) ≡ some k
first_index_hit test k n h e = first_index_next test k n h ∙ ap (λ b. cond b (some k) (first_index test (k + 1) (n - (k + 1)))) e

pub first_index_miss : (test : ℕ → Bool) (k n : ℕ) → k < n → test k ≡ false → first_index test k (n - k) ≡ first_index test (k + 1) (n - (k + 1))
first_index_miss test k n h e = first_index_next test k n h ∙ ap (λ b. cond b (some k) (first_index test (k + 1) (n - (k + 1)))) e

pub first_index_none : (test : ℕ → Bool) (k n : ℕ) → n ≤ k → first_index test k (n - k) ≡ none
first_index_none test k n h = let z : n - k ≡ 0 = omega arith in ap (first_index test k) z

-- ---- what an answer says

-- index i is the first that passes of n indices from k on
pub record FirstOf (test : ℕ → Bool) (k n i : ℕ) : Type 0 where
  pub from : k ≤ i
  pub within : i < k + n
  pub passes : test i ≡ true
  pub none_before : (j : ℕ) → k ≤ j → j < i → test j ≡ false

-- what holds of k and of all indices behind it up to i holds from k on
from_next : (test : ℕ → Bool) (k i : ℕ) → test k ≡ false → ((j : ℕ) → suc k ≤ j → j < i → test j ≡ false) → (j : ℕ) → k ≤ j → j < i → test j ≡ false
from_next test k i e later j h l = go (ltb k j) refl
  where
    go : (b : Bool) → ltb k j ≡ b → test j ≡ false
    go true p = later j (ltb-true k j p) l
    go false p = let here : j ≡ k = omega (arith, ltb-false k j p) in ap test here ∙ e

pub first_index_some : (test : ℕ → Bool) (k n i : ℕ) → first_index test k n ≡ some i → FirstOf test k n i
first_index_some test k zero i e = let z : ◌≡◌ {A = ℕ} 0 1 = cc in absurd (omega arith)
first_index_some test k (suc n) i e = go (test k) refl e (first_index_some test (suc k) n i)
  where
    go : (b : Bool) → test k ≡ b → cond b (some k) (first_index test (suc k) n) ≡ some i → (first_index test (suc k) n ≡ some i → FirstOf test (suc k) n i)
        → FirstOf test k (suc n) i
    go true p f later =
        let here : k ≡ i = cc in
        record { from = omega arith; within = omega arith; passes = sym (ap test here) ∙ p; none_before = λ j h l. absurd (omega arith) }
    go false p f later =
        let r = later f in
        record { from = omega arith; within = omega arith; passes = r.passes; none_before = from_next test k i p r.none_before }

pub first_index_nowhere : (test : ℕ → Bool) (k n : ℕ) → first_index test k n ≡ none → (j : ℕ) → k ≤ j → j < k + n → test j ≡ false
first_index_nowhere test k zero e j h l = absurd (omega arith)
first_index_nowhere test k (suc n) e j h l = go (test k) refl e (first_index_nowhere test (suc k) n)
  where
    go : (b : Bool) → test k ≡ b → cond b (some k) (first_index test (suc k) n) ≡ none
        → (first_index test (suc k) n ≡ none → (m : ℕ) → suc k ≤ m → m < suc k + n → test m ≡ false)
        → test j ≡ false
    go true p f later = let z : ◌≡◌ {A = ℕ} 0 1 = cc in absurd (omega arith)
    go false p f later =
        let end : suc k + n ≡ k + suc n = omega arith in
        from_next test k (k + suc n) p (rw end at (later f)) j h l

-- ---- a search in two parts of the indices

module _ (test : ℕ → Bool) (next : ℕ) where
  -- those below `next` alone
  pub first_index_below : (k count : ℕ) → next ≤ k + count → first_index (λ i. ltb i next && test i) k count ≡ first_index test k (next - k)
  first_index_below k zero h = let z : next - k ≡ 0 = omega arith in sym (ap (first_index test k) z)
  first_index_below k (suc count) h = go (ltb k next) refl (first_index_below (suc k) count (omega arith))
    where
      go : (b : Bool) → ltb k next ≡ b → first_index (λ i. ltb i next && test i) (suc k) count ≡ first_index test (suc k) (next - suc k)
          → cond (b && test k) (some k) (first_index (λ i. ltb i next && test i) (suc k) count) ≡ first_index test k (next - k)
      go true e ih =
          let z : next - k ≡ suc (next - suc k) = omega (arith, ltb-true k next e) in
          ap (cond (test k) (some k)) ih ∙ sym (ap (first_index test k) z)
      go false e ih =
          let z : next - suc k ≡ 0 = omega (arith, ltb-false k next e) in
          let y : next - k ≡ 0 = omega (arith, ltb-false k next e) in
          ih ∙ ap (first_index test (suc k)) z ∙ sym (ap (first_index test k) y)

  -- those from `next` on alone
  pub first_index_from : (k count : ℕ) → k ≤ next → first_index (λ i. not (ltb i next) && test i) k count ≡ first_index test next (k + count - next)
  first_index_from k zero h = let z : k + 0 - next ≡ 0 = omega arith in sym (ap (first_index test next) z)
  first_index_from k (suc count) h = go (ltb k next) refl (first_index_from (suc k) count)
    where
      all_from : (c j : ℕ) → next ≤ j → first_index (λ i. not (ltb i next) && test i) j c ≡ first_index test j c
      all_from zero j l = refl
      all_from (suc c) j l = ap₂ (λ b r. cond b (some j) r) (ap (λ b. not b && test j) (le-ltb j next l)) (all_from c (suc j) (omega arith))

      go : (b : Bool) → ltb k next ≡ b → (suc k ≤ next → first_index (λ i. not (ltb i next) && test i) (suc k) count ≡ first_index test next (suc k + count - next))
          → cond (not b && test k) (some k) (first_index (λ i. not (ltb i next) && test i) (suc k) count) ≡ first_index test next (k + suc count - next)
      go true e ih =
          let z : suc k + count - next ≡ k + suc count - next = omega arith in
          ih (ltb-true k next e) ∙ ap (first_index test next) z
      go false e ih =
          let here : k ≡ next = omega (arith, ltb-false k next e) in
          let z : suc count ≡ k + suc count - next = omega arith in
          ap (cond (test k) (some k)) (all_from count (suc k) (omega arith)) ∙ ap (λ j. first_index test j (suc count)) here ∙ ap (first_index test next) z
