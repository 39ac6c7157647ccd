-- Lines of a sheet judged one by one (01, sheets), as a loop over them asks: lines that are right and then more (`rows_passed`), one more
-- that is right (`rows_more`) or the first that is not (`rows_bad`); and what right lines are: three cells each, and so none is blank.
-- Assumes nothing.
use mathlib.Core.Path.{◌≡◌, refl, ◌∙◌}
use mathlib.Core.Bool.{Bool, true, false, ◌&&◌, false≢true}
use mathlib.Core.List.{List, [], ◌∷◌, ◌++◌, map, append-nil}
use Prim.Native.Nat.{ℕ, suc, ◌+◌}
use native.Mathlib.Omega.{arith}
use lib.ListN.{length}
use lib.Seq.{append_snoc}
use Rattle.rules.specs.Listing.{all}
use Rattle.rules.specs.SheetLines.{cells_in, three_cells, Columns, Row, row_in}
use Rattle.rules.specs.SheetRows.{is_empty}
use Rattle.rules.specs.SheetInput.{right, bad, unless, judge_rows, before_blank, behind_blank}
use Rattle.rules.proofs.LawsListing.{and_left, and_right, and_both}
use Rattle.rules.proofs.LawsSheetRows.{else_left, else_right, unless_true}

-- ---- right lines, and more

-- is a line right behind these rows?
abbrev pub line_right : (List Row → Row → Bool) → Columns → List Row → List ℕ → Bool
line_right row_right c before line = three_cells (cells_in line) && row_right before (row_in c line)

module _ (row_right : List Row → Row → Bool) (c : Columns) where
  after : (at : ℕ) (before : List Row) (xs ys : List (List ℕ)) → judge_rows row_right c at before xs ≡ right
      → judge_rows row_right c at before (xs ++ ys) ≡ judge_rows row_right c (at + length xs) (before ++ map (row_in c) xs) ys
  after at before [] ys e = let n : at + 0 ≡ at = omega arith in rw (n, append-nil before)
  after at before (x ∷ xs) ys e =
      let l = unless_true (line_right row_right c before x) at
      (else_left (unless (line_right row_right c before x) at) (judge_rows row_right c (suc at) (before ++ (row_in c x ∷ [])) xs) e) in
      let n : at + suc (length xs) ≡ suc at + length xs = omega arith in
      rw (l, n, ← append_snoc before (row_in c x) (map (row_in c) xs))
      (after (suc at) (before ++ (row_in c x ∷ [])) xs ys
      (else_right (unless (line_right row_right c before x) at) (judge_rows row_right c (suc at) (before ++ (row_in c x ∷ [])) xs) e))

  pub rows_passed : (at : ℕ) (xs ys : List (List ℕ)) → judge_rows row_right c at [] xs ≡ right
      → judge_rows row_right c at [] (xs ++ ys) ≡ judge_rows row_right c (at + length xs) (map (row_in c) xs) ys
  rows_passed at xs ys e = after at [] xs ys e

  pub rows_more : (at : ℕ) (xs : List (List ℕ)) (line : List ℕ) → judge_rows row_right c at [] xs ≡ right
      → line_right row_right c (map (row_in c) xs) line ≡ true → judge_rows row_right c at [] (xs ++ (line ∷ [])) ≡ right
  rows_more at xs line e h = rows_passed at xs (line ∷ []) e ∙ rw h

  pub rows_bad : (at : ℕ) (xs : List (List ℕ)) (line : List ℕ) (ys : List (List ℕ)) → judge_rows row_right c at [] xs ≡ right
      → line_right row_right c (map (row_in c) xs) line ≡ false → judge_rows row_right c at [] (xs ++ line ∷ ys) ≡ bad 30 (at + length xs)
  rows_bad at xs line ys e h = rows_passed at xs (line ∷ ys) e ∙ rw h

  pub rows_three : (at : ℕ) (before : List Row) (xs : List (List ℕ)) → judge_rows row_right c at before xs ≡ right
      → all (λ line. three_cells (cells_in line)) xs ≡ true
  rows_three at before [] e = refl
  rows_three at before (x ∷ xs) e =
      let l = unless_true (line_right row_right c before x) at
      (else_left (unless (line_right row_right c before x) at) (judge_rows row_right c (suc at) (before ++ (row_in c x ∷ [])) xs) e) in
      and_both (three_cells (cells_in x)) (all (λ line. three_cells (cells_in line)) xs)
      (and_left (three_cells (cells_in x)) (row_right before (row_in c x)) l)
      (rows_three (suc at) (before ++ (row_in c x ∷ [])) xs
      (else_right (unless (line_right row_right c before x) at) (judge_rows row_right c (suc at) (before ++ (row_in c x ∷ [])) xs) e))

-- ---- the blank line

pub three_full : (line : List ℕ) → three_cells (cells_in line) ≡ true → is_empty line ≡ false
unfolding three_cells cells_in
three_full [] e = absurd (false≢true e)
three_full (b ∷ bs) e = refl

module _ (ys : List (List ℕ)) where
  pub before_passed : (xs : List (List ℕ)) → all (λ line. three_cells (cells_in line)) xs ≡ true → before_blank (xs ++ ys) ≡ xs ++ before_blank ys
  before_passed [] e = refl
  before_passed (x ∷ xs) e =
      rw (
        three_full x (and_left (three_cells (cells_in x)) (all (λ line. three_cells (cells_in line)) xs) e),
        before_passed xs (and_right (three_cells (cells_in x)) (all (λ line. three_cells (cells_in line)) xs) e),
      )

  pub behind_passed : (xs : List (List ℕ)) → all (λ line. three_cells (cells_in line)) xs ≡ true → behind_blank (xs ++ ys) ≡ behind_blank ys
  behind_passed [] e = refl
  behind_passed (x ∷ xs) e =
      rw (three_full x (and_left (three_cells (cells_in x)) (all (λ line. three_cells (cells_in line)) xs) e))
      (behind_passed xs (and_right (three_cells (cells_in x)) (all (λ line. three_cells (cells_in line)) xs) e))
