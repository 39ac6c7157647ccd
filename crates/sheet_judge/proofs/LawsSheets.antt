-- The verdict over an input, half by half (01, sheets; 30 and its line), as it is read: `parameters_` are the parameter sheet's lines from its
-- header on, `steps_` those behind the header, `call_` and `values_` the same of the call sheet, `input_` the halves together.
-- Assumes nothing.
use mathlib.Core.Path.{◌≡◌, refl, sym, ap, ap₂, ◌∙◌}
use mathlib.Core.Bool.{true, false, ◌&&◌, false≢true}
use mathlib.Core.List.{List, [], ◌∷◌, ◌++◌, map, append-nil}
use Prim.Native.Nat.{ℕ, suc, ◌+◌, ◌≤◌, ◌<◌}
use native.Mathlib.Omega.{arith}
use lib.Dec.{leb, ltb}
use lib.ListN.{length, length-append}
use borrow.Author.Tests.{leb-true, le-leb, lt-leb, ltb-true, lt-ltb, le-ltb}
use Rattle.rules.specs.SheetLines.{lines_in, unended, cells_in, header_right, Columns, columns_in, row_in}
use Rattle.rules.specs.SheetRows.{is_empty, parameter_row_right, call_row_right}
use Rattle.rules.specs.SheetInput.{Verdict, right, bad, ◌else◌, unless, judge_rows, judge_sheet, before_blank, input_most, parameter_lines, call_lines, judge_input}
use Rattle.rules.proofs.LawsListing.{same_test, and_no_right}
use Rattle.sheet_judge.specs.Sheets.{judge_parameters, judge_steps, judge_call, judge_values}
use Rattle.sheet_judge.proofs.LawsRows.{line_right, rows_bad, rows_three, before_passed, behind_passed}

-- ---- the parameter sheet

-- a header is no blank line
header_full : (h : List ℕ) → header_right h ≡ true → is_empty h ≡ false
unfolding header_right cells_in
header_full [] e = absurd (false≢true e)
header_full (b ∷ bs) e = refl

module _ (A : ℕ) where
  pub parameters_none : judge_parameters A [] ≡ bad 30 1
  unfolding judge_parameters
  parameters_none = refl

  -- a blank line in its place is no header either
  pub parameters_header : (h : List ℕ) (lines : List (List ℕ)) → header_right h ≡ false → judge_parameters A (h ∷ lines) ≡ bad 30 1
  unfolding judge_parameters
  parameters_header [] lines e = refl
  parameters_header (b ∷ bs) lines e = rw e

  pub parameters_steps : (h : List ℕ) (lines : List (List ℕ)) → header_right h ≡ true
      → judge_parameters A (h ∷ lines) ≡ judge_steps A (columns_in h) lines
  unfolding judge_parameters judge_steps
  parameters_steps h lines e =
      rw (header_full h e, e)
      (ap (λ v. judge_rows (parameter_row_right A) (columns_in h) 2 [] (before_blank lines) else v)
      (ap₂ unless (ap₂ (λ a b. a && b) (least (length (before_blank lines))) (below (length (before_blank lines)) (length lines))) (line (length (before_blank lines)))))
    where
      least : (n : ℕ) → leb 2 (suc n) ≡ leb 1 n
      least n =
          same_test (leb 2 (suc n)) (leb 1 n) (λ p. le-leb 1 n (omega (arith, leb-true 2 (suc n) p))) (λ p. le-leb 2 (suc n) (omega (arith, leb-true 1 n p)))

      below : (m n : ℕ) → ltb (suc m) (suc n) ≡ ltb m n
      below m n =
          same_test (ltb (suc m) (suc n)) (ltb m n) (λ p. lt-ltb m n (omega (arith, ltb-true (suc m) (suc n) p))) (λ p. lt-ltb (suc m) (suc n) (omega (arith, ltb-true m n p)))

      line : (n : ℕ) → suc n + 1 ≡ n + 2
      line n = omega arith

  module _ (c : Columns) where
    -- the lines end, and no blank one came
    pub steps_end : (xs : List (List ℕ)) → judge_rows (parameter_row_right A) c 2 [] xs ≡ right → judge_steps A c xs ≡ bad 30 (length xs + 2)
    unfolding judge_steps
    steps_end xs e =
        let b : before_blank xs ≡ xs =
        ap before_blank (sym (append-nil xs)) ∙ before_passed [] xs (rows_three (parameter_row_right A) c 2 [] xs e) ∙ append-nil xs in
        rw (b, e, le-ltb (length xs) (length xs) (omega arith), and_no_right (leb 1 (length xs)) false refl)

    pub steps_bad : (xs : List (List ℕ)) (line : List ℕ) (ys : List (List ℕ)) → judge_rows (parameter_row_right A) c 2 [] xs ≡ right → is_empty line ≡ false
        → line_right (parameter_row_right A) c (map (row_in c) xs) line ≡ false → judge_steps A c (xs ++ line ∷ ys) ≡ bad 30 (length xs + 2)
    unfolding judge_steps
    steps_bad xs line ys e f h =
        let b : before_blank (xs ++ line ∷ ys) ≡ xs ++ line ∷ before_blank ys =
        before_passed (line ∷ ys) xs (rows_three (parameter_row_right A) c 2 [] xs e) ∙ rw f in
        let n : 2 + length xs ≡ length xs + 2 = omega arith in
        rw (b, rows_bad (parameter_row_right A) c 2 xs line (before_blank ys) e h, n)

    -- a blank line, and no row came
    pub steps_none : (ys : List (List ℕ)) → judge_steps A c ([] ∷ ys) ≡ bad 30 2
    unfolding judge_steps
    steps_none ys = refl

-- ---- the call sheet

module _ (B at : ℕ) where
  pub call_none : (rest : List ℕ) → judge_call B at [] rest ≡ bad 30 at
  unfolding judge_call
  call_none rest = let n : at + 0 ≡ at = omega arith in rw n

  pub call_header : (h : List ℕ) (lines : List (List ℕ)) (rest : List ℕ) → header_right h ≡ false → judge_call B at (h ∷ lines) rest ≡ bad 30 at
  unfolding judge_call
  call_header h lines rest e = rw e

  pub call_values : (h : List ℕ) (lines : List (List ℕ)) (rest : List ℕ) → header_right h ≡ true
      → judge_call B at (h ∷ lines) rest ≡ judge_values B (columns_in h) (at + 1) lines rest
  unfolding judge_call judge_values
  call_values h lines rest e =
      let m : at + 1 ≡ suc at = omega arith in
      let n : at + suc (length lines) ≡ suc at + length lines = omega arith in
      rw (e, le-leb 1 (suc (length lines)) (omega arith), m, n)

module _ (B : ℕ) (c : Columns) (at : ℕ) (xs : List (List ℕ)) (e : judge_rows (call_row_right B) c at [] xs ≡ right) where
  pub values_bad : (line : List ℕ) (ys : List (List ℕ)) (rest : List ℕ) → line_right (call_row_right B) c (map (row_in c) xs) line ≡ false
      → judge_values B c at (xs ++ line ∷ ys) rest ≡ bad 30 (at + length xs)
  unfolding judge_values
  values_bad line ys rest h = rw (rows_bad (call_row_right B) c at xs line ys e h)

  -- bytes behind the last line's end
  pub values_unended : (rest : List ℕ) → is_empty rest ≡ false → judge_values B c at xs rest ≡ bad 30 (at + length xs)
  unfolding judge_values
  values_unended rest h = rw (e, h)

  pub values_right : (rest : List ℕ) → is_empty rest ≡ true → judge_values B c at xs rest ≡ right
  unfolding judge_values
  values_right rest h = rw (e, h)

-- ---- the input

module _ (A B : ℕ) (input : List ℕ) where
  pub input_long : input_most < length input → judge_input A B input ≡ bad 30 0
  unfolding judge_input
  input_long h = rw (lt-leb (length input) input_most h)

  pub input_parameters : length input ≤ input_most → (n line : ℕ) → judge_parameters A (lines_in input) ≡ bad n line → judge_input A B input ≡ bad n line
  unfolding judge_input judge_parameters parameter_lines
  input_parameters short n line e =
      rw (le-leb (length input) input_most short)
      (first_bad (judge_sheet (parameter_row_right A) 1 (before_blank (lines_in input)))
      (unless (leb 2 (length (before_blank (lines_in input))) && ltb (length (before_blank (lines_in input))) (length (lines_in input))) (length (before_blank (lines_in input)) + 1))
      (judge_sheet (call_row_right B) (length (before_blank (lines_in input)) + 2) (call_lines input)
      else unless (leb 1 (length (call_lines input)) && is_empty (unended input)) (length (lines_in input) + 1))
      e)
    where
      first_bad : (v w x : Verdict) → (v else w) ≡ bad n line → (v else w else x) ≡ bad n line
      first_bad right w x p = rw p
      first_bad (bad m k) w x p = p

  -- a header that is right, some right rows, a blank line and the lines behind it
  module _ (h : List ℕ) (rs lines : List (List ℕ)) (e : lines_in input ≡ h ∷ (rs ++ [] ∷ lines)) (p : header_right h ≡ true)
      (q : judge_rows (parameter_row_right A) (columns_in h) 2 [] rs ≡ right) where
    pub lines_parameters : parameter_lines input ≡ h ∷ rs
    unfolding parameter_lines
    lines_parameters =
        rw (e, header_full h p, before_passed ([] ∷ lines) rs (rows_three (parameter_row_right A) (columns_in h) 2 [] rs q), append-nil rs)

    pub lines_call : call_lines input ≡ lines
    unfolding call_lines
    lines_call = rw (e, header_full h p, behind_passed ([] ∷ lines) rs (rows_three (parameter_row_right A) (columns_in h) 2 [] rs q))

    pub input_call : length input ≤ input_most → 1 ≤ length rs → judge_input A B input ≡ judge_call B (length rs + 3) lines (unended input)
    unfolding judge_input judge_call
    input_call short l =
        let n : suc (length rs) + 2 ≡ length rs + 3 = omega arith in
        let m : suc (length (rs ++ [] ∷ lines)) + 1 ≡ length rs + 3 + length lines = omega (arith, length-append rs ([] ∷ lines)) in
        rw (
          le-leb (length input) input_most short,
          lines_parameters,
          lines_call,
          e,
          p,
          q,
          le-leb 2 (suc (length rs)) (omega arith),
          lt-ltb (suc (length rs)) (suc (length (rs ++ [] ∷ lines))) (omega (arith, length-append rs ([] ∷ lines))),
          n,
          m,
        )
