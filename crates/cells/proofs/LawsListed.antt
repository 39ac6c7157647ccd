-- Laws of lists given by their elements and of what `rules` computes over a list, in this order: how long such a list is; its first
-- element and the rest; one more element at the end; equal elements; counts and first indices after one more element at the end;
-- tests of all or any of the elements, as a loop over the list asks for them; one element; a list that has these elements. Assumes nothing.
use mathlib.Core.Path.{◌≡◌, refl, sym, ap, ap₂, ◌∙◌}
use mathlib.Core.Bool.{Bool, true, false, cond}
use mathlib.Core.List.{List, [], ◌∷◌, ◌++◌}
use mathlib.Core.Option.{Option, none, some}
use Prim.Native.Nat.{ℕ, zero, suc, ◌+◌, ◌-◌, ◌<◌, ◌≤◌}
use native.Mathlib.Nat.{zero-add, add-zero, add-suc, suc-add}
use native.Mathlib.Numerals.{add-one}
use native.Mathlib.Omega.{arith}
use lib.ListN.{length, get_or}
use Rattle.rules.specs.Listing.{all, tally, first_from}
use Rattle.rules.proofs.LawsListing.{and_left, and_right}
use Rattle.cells.specs.Listed.{listed}

-- the first index over one more element
abbrev pub or_first : Option ℕ → Bool → ℕ → Option ℕ
or_first (some j) b i = some j
or_first none true i = some i
or_first none false i = none

module _ {X : Type 0} where
  pub length_listed : (at : ℕ → X) (i count : ℕ) → length (listed at i count) ≡ count
  length_listed at i zero = refl
  length_listed at i (suc count) = ap suc (length_listed at (suc i) count)

  -- what is left from index i on, where there is something left: the element and what is left from the next index on
  pub listed_next : (at : ℕ → X) (i n : ℕ) → i < n → listed at i (n - i) ≡ at i ∷ listed at (i + 1) (n - (i + 1))
  listed_next at i n h =
      let e : n - i ≡ suc (n - (i + 1)) = omega arith in
      rw (e, add-one)

  pub listed_end : (at : ℕ → X) (i n : ℕ) → n ≤ i → listed at i (n - i) ≡ []
  listed_end at i n h =
      let e : n - i ≡ 0 = omega arith in
      rw e

  pub listed_snoc : (at : ℕ → X) (i count : ℕ) → listed at i (suc count) ≡ listed at i count ++ at (i + count) ∷ []
  listed_snoc at i zero = rw (add-zero i)
  listed_snoc at i (suc count) =
      let e : suc i + count ≡ i + suc count = omega arith in
      ap (λ (l : List X). at i ∷ l) (listed_snoc at (suc i) count ∙ rw e)

  pub listed_more : (at : ℕ → X) (n : ℕ) → listed at 0 (n + 1) ≡ listed at 0 n ++ at n ∷ []
  listed_more at n = rw add-one (listed_snoc at 0 n ∙ rw zero-add)

  pub listed_append : (at : ℕ → X) (i m n : ℕ) → listed at i (m + n) ≡ listed at i m ++ listed at (i + m) n
  listed_append at i zero n = rw (zero-add n, add-zero i)
  listed_append at i (suc m) n =
      let e : i + suc m ≡ suc i + m = omega arith in
      rw (suc-add m n, e) (ap {B = List X} (λ l. at i ∷ l) (listed_append at (suc i) m n))

  pub snoc_same : {xs ys : List X} {x y : X} → xs ≡ ys → x ≡ y → xs ++ x ∷ [] ≡ ys ++ y ∷ []
  snoc_same d e = rw (d, e)

  pub Listed-same
      : (at to : ℕ → X) (i count : ℕ)
      → ((j : ℕ) → i ≤ j → j < i + count → at j ≡ to j)
      → listed at i count ≡ listed to i count
  Listed-same at to i zero h = refl
  Listed-same at to i (suc count) h =
      let rest : listed at (suc i) count ≡ listed to (suc i) count =
      Listed-same at to (suc i) count (λ j l u. h j (omega arith) (omega arith)) in
      rw (h i (omega arith) (omega arith), rest)

  pub tally_snoc : (test : X → Bool) (xs : List X) (x : X) → tally test (xs ++ x ∷ []) ≡ cond (test x) (tally test xs + 1) (tally test xs)
  tally_snoc test [] x = refl
  tally_snoc test (y ∷ ys) x = go (test y) (test x) (tally_snoc test ys x)
    where
      go : (a b : Bool) → tally test (ys ++ x ∷ []) ≡ cond b (tally test ys + 1) (tally test ys) → cond a (suc (tally test (ys ++ x ∷ []))) (tally test (ys ++ x ∷ [])) ≡ cond b (cond a (suc (tally test ys)) (tally test ys) + 1) (cond a (suc (tally test ys)) (tally test ys))
      go true true e = rw e (omega arith)
      go true false e = rw e
      go false true e = e
      go false false e = e

  pub first_snoc
      : (test : X → Bool) (i : ℕ) (xs : List X) (x : X)
      → first_from test i (xs ++ x ∷ []) ≡ or_first (first_from test i xs) (test x) (i + length xs)
  first_snoc test i [] x = go (test x)
    where
      go : (b : Bool) → cond b (some i) none ≡ or_first none b (i + 0)
      go true = rw (add-zero i)
      go false = refl
  first_snoc test i (y ∷ ys) x = go (test y) (first_snoc test (suc i) ys x)
    where
      go : (a : Bool) → first_from test (suc i) (ys ++ x ∷ []) ≡ or_first (first_from test (suc i) ys) (test x) (suc i + length ys)
          → cond a (some i) (first_from test (suc i) (ys ++ x ∷ [])) ≡ or_first (cond a (some i) (first_from test (suc i) ys)) (test x) (i + suc (length ys))
      go true e = refl
      go false e = e ∙ rw (suc-add, add-suc)

-- a test of all is a test of each
pub all_at : {X : Type 0} (test : X → Bool) (xs : List X) (k : ℕ) (x : X) → k < length xs → all test xs ≡ true → test (get_or xs k x) ≡ true
all_at test [] k x h e = absurd (omega arith)
all_at test (y ∷ ys) zero x h e = and_left (test y) (all test ys) e
all_at test (y ∷ ys) (suc k) x h e = all_at test ys k x (omega arith) (and_right (test y) (all test ys) e)

-- the element at an index
pub get_d_listed : {X : Type 0} (f : ℕ → X) (i n k : ℕ) (d : X) → k < n → get_or (listed f i n) k d ≡ f (i + k)
get_d_listed f i zero k d h = absurd (omega arith)
get_d_listed f i (suc n) zero d h = ap f (sym (add-zero i))
get_d_listed f i (suc n) (suc k) d h = get_d_listed f (suc i) n k d (omega arith) ∙ ap f (step i k)
  where
    step : (a b : ℕ) → suc a + b ≡ a + suc b
    step a b = omega arith

-- a list by its elements
pub elements : {X : Type 0} (f : ℕ → X) (d : X) (i : ℕ) (xs : List X) → ((k : ℕ) → k < length xs → get_or xs k d ≡ f (i + k)) → xs ≡ listed f i (length xs)
elements f d i [] each = refl
elements {X} f d i (x ∷ xs) each =
    ap₂ {C = List X} (λ y ys. y ∷ ys) (each 0 (omega arith) ∙ ap f (add-zero i))
    (elements f d (suc i) xs (λ k h. each (suc k) (omega arith) ∙ ap f (next i k)))
  where
    next : (a b : ℕ) → a + suc b ≡ suc a + b
    next a b = omega arith
