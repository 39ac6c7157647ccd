-- The columns of a header that is right (01, sheets): a name stands elsewhere than its value, as is asked of the columns of rows.
-- Assumes nothing.
use mathlib.Core.Path.{◌≡◌, refl}
use mathlib.Core.Bool.{Bool, true, false, cond, ◌&&◌, ◌||◌, false≢true}
use mathlib.Core.List.{List, [], ◌∷◌}
use mathlib.Core.Option.{some}
use Prim.Native.Nat.{ℕ, suc, ◌≤◌}
use native.Mathlib.Omega.{arith}
use lib.Dec.{eqb}
use lib.ListN.{length}
use borrow.Author.Tests.{eqb-true}
use Rattle.rules.specs.Listing.{any, first_from}
use Rattle.rules.specs.Text.{same_bytes}
use Rattle.rules.specs.SheetLines.{cells_in, part_word, name_word, value_word, or_three, column_of, columns_in, header_right}
use Rattle.rules.proofs.LawsListing.{and_left, and_right}

-- the first that passes a test stands where the count began, or behind it
first_least : (test : List ℕ → Bool) (i : ℕ) (cells : List (List ℕ)) → any test cells ≡ true → i ≤ or_three (first_from test i cells)
first_least test i [] e = absurd (false≢true e)
first_least test i (x ∷ xs) e = go (test x) e (first_least test (suc i) xs)
  where
    go : (b : Bool) → (b || any test xs) ≡ true → (any test xs ≡ true → suc i ≤ or_three (first_from test (suc i) xs)) → i ≤ or_three (cond b (some i) (first_from test (suc i) xs))
    go true e rest = omega arith
    go false e rest = omega (arith, rest e)

-- two tests that nothing passes both are first passed at two indices
module _ (v w : List ℕ → Bool) (never : (x : List ℕ) → v x ≡ true → w x ≡ true → ⊥) where
  first_apart : (i : ℕ) (cells : List (List ℕ)) → any v cells ≡ true → any w cells ≡ true → or_three (first_from v i cells) ≡ or_three (first_from w i cells) → ⊥
  first_apart i [] p q e = false≢true p
  first_apart i (x ∷ xs) p q e = go (v x) (w x) (never x) p q (first_least v (suc i) xs) (first_least w (suc i) xs) (first_apart (suc i) xs) e
    where
      go : (b d : Bool) → (b ≡ true → d ≡ true → ⊥) → (b || any v xs) ≡ true → (d || any w xs) ≡ true
          → (any v xs ≡ true → suc i ≤ or_three (first_from v (suc i) xs))
          → (any w xs ≡ true → suc i ≤ or_three (first_from w (suc i) xs))
          → (any v xs ≡ true → any w xs ≡ true → or_three (first_from v (suc i) xs) ≡ or_three (first_from w (suc i) xs) → ⊥)
          → or_three (cond b (some i) (first_from v (suc i) xs)) ≡ or_three (cond d (some i) (first_from w (suc i) xs)) → ⊥
      go true true no_both p q least-v least-w rest e = no_both refl refl
      go true false no_both p q least-v least-w rest e = omega (arith, least-w q)
      go false true no_both p q least-v least-w rest e = omega (arith, least-v p)
      go false false no_both p q least-v least-w rest e = rest p q e

words_apart : (x : List ℕ) → same_bytes name_word x ≡ true → same_bytes value_word x ≡ true → ⊥
unfolding name_word value_word
words_apart [] p q = false≢true p
words_apart (y ∷ ys) p q =
    omega
    (arith, eqb-true 110 y (and_left (eqb 110 y) (same_bytes (97 ∷ 109 ∷ 101 ∷ []) ys) p), eqb-true 118 y (and_left (eqb 118 y) (same_bytes (97 ∷ 108 ∷ 117 ∷ 101 ∷ []) ys) q))

pub columns_apart : (header : List ℕ) → header_right header ≡ true → (columns_in header).name ≡ (columns_in header).value → ⊥
unfolding header_right columns_in column_of
columns_apart header h e =
    let a : Bool = eqb (length (cells_in header)) 3 in
    let b : Bool = any (same_bytes part_word) (cells_in header) in
    let c : Bool = any (same_bytes name_word) (cells_in header) in
    let d : Bool = any (same_bytes value_word) (cells_in header) in
    first_apart (same_bytes name_word) (same_bytes value_word) words_apart 0 (cells_in header) (and_right (a && b) c (and_left (a && b && c) d h)) (and_right (a && b && c) d h) e
