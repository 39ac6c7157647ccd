-- The rows of a parameter sheet read one by one (01, sheets): what a line behind those passed is, and each of the answers where the loop over
-- them stops. Assumes nothing.
use mathlib.Core.Path.{◌≡◌, refl, ap, ◌∙◌}
use mathlib.Core.Bool.{Bool, true, false, cond, ◌&&◌}
use mathlib.Core.List.{List, [], ◌∷◌, ◌++◌, map}
use Prim.Native.Nat.{ℕ, ◌+◌, ◌≤◌}
use native.Mathlib.Omega.{arith}
use lib.Dec.{ltb, eqb}
use lib.ListN.{length, drop, length-map}
use borrow.Author.Tests.{ltb-true, eqb-true}
use Rattle.rules.specs.SheetLines.{lines_in, cells_in, three_cells, Columns, Row, row_in}
use Rattle.rules.specs.SheetRows.{is_empty, is_def, step_right, parameter_row_right}
use Rattle.rules.specs.SheetInput.{bad}
use Rattle.rules.proofs.LawsListing.{and_right}
use Rattle.sheet_lines.specs.Lines.{LineAt, NoLine}
use Rattle.sheet_judge.specs.Counts.{parameter_fits}
use Rattle.sheet_judge.specs.Sheets.{judge_steps}
use Rattle.sheet_judge.specs.Read.{line_fits, StepsAre}
use Rattle.sheet_judge.proofs.LawsCounts.{parameter_fits_lem}
use Rattle.sheet_judge.proofs.LawsRows.{line_right}
use Rattle.sheet_judge.proofs.LawsSheets.{steps_end, steps_bad, steps_none}
use Rattle.sheet_judge.proofs.LawsPassed.{Passed, passed_left, passed_all, passed_next}

-- no row stands behind 66 steps
pub line_most : (c : Columns) (rows : ℕ) (line : List ℕ) → line_fits c rows line ≡ true → rows + 1 ≤ 67
unfolding parameter_fits
line_most c rows line e = go (row_in c line) (eqb rows 0) refl (and_right (three_cells (cells_in line)) (parameter_fits 64 rows (row_in c line)) e)
  where
    go : (r : Row) (b : Bool) → eqb rows 0 ≡ b → cond b (is_def r && is_empty r.value) (step_right r && ltb rows 67) ≡ true → rows + 1 ≤ 67
    go r true p h = omega (arith, eqb-true rows 0 p)
    go r false p h = omega (arith, ltb-true rows 67 (and_right (step_right r) (ltb rows 67) h))

empty_is : (line : List ℕ) → is_empty line ≡ true → line ≡ []
empty_is [] e = refl
empty_is (b ∷ bs) e = cc

nil : {X : Type 0} (xs : List X) → length xs ≡ 0 → xs ≡ []
nil [] e = refl
nil (x ∷ xs) e = absurd (omega arith)

module _ {c : Columns} {input : List ℕ} {from : ℕ} (rows : ℕ) {at : ℕ} (p : Passed (parameter_row_right 64) c input 2 from (rows + 2) at) where
  many : length p.lines ≡ rows
  many = omega (arith, p.many)

  line_fits_lem : (line : List ℕ) → line_right (parameter_row_right 64) c (map (row_in c) p.lines) line ≡ line_fits c rows line
  line_fits_lem line =
      ap (λ b. three_cells (cells_in line) && b)
      (parameter_fits_lem 64 (map (row_in c) p.lines) (row_in c line)
      ∙ ap (λ n. parameter_fits 64 n (row_in c line)) (length-map p.lines (row_in c) ∙ many))

  ended : lines_in (drop from input) ≡ p.lines → judge_steps 64 c (lines_in (drop from input)) ≡ bad 30 (rows + 2)
  ended e = ap (judge_steps 64 c) e ∙ steps_end 64 c p.lines p.judged ∙ ap (λ n. bad 30 (n + 2)) many

  pub steps_ended : NoLine input at → judge_steps 64 c (lines_in (drop from input)) ≡ bad 30 (rows + 2)
  steps_ended none = ended (passed_all p none)

  module _ {line : List ℕ} {behind : ℕ} (r : LineAt input at line behind) where
    pub steps_wrong : is_empty line ≡ false → line_fits c rows line ≡ false → judge_steps 64 c (lines_in (drop from input)) ≡ bad 30 (rows + 2)
    steps_wrong n e =
        ap (judge_steps 64 c) (passed_left p r)
        ∙ steps_bad 64 c p.lines line (lines_in (drop behind input)) p.judged n (line_fits_lem line ∙ e)
        ∙ ap (λ m. bad 30 (m + 2)) many

    pub steps_next : line_fits c rows line ≡ true → Passed (parameter_row_right 64) c input 2 from (rows + 1 + 2) behind
    steps_next e =
        let n : rows + 2 + 1 ≡ rows + 1 + 2 = omega arith in
        rw n at (passed_next p r (line_fits_lem line ∙ e))

    -- the blank line
    module _ (blank : is_empty line ≡ true) where
      parted : lines_in (drop from input) ≡ p.lines ++ [] ∷ lines_in (drop behind input)
      parted = passed_left p r ∙ rw (empty_is line blank)

      pub steps_blank_first : rows ≡ 0 → judge_steps 64 c (lines_in (drop from input)) ≡ bad 30 2
      steps_blank_first z = ap (judge_steps 64 c) (parted ∙ rw (nil p.lines (many ∙ z))) ∙ steps_none 64 c (lines_in (drop behind input))

      pub steps_blank : (rows ≡ 0 → ⊥) → rows ≤ 67 → StepsAre c input from rows behind
      steps_blank n m =
          record {
            lines = p.lines;
            parted = parted;
            rest = p.rest ∙ r.rest;
            judged = p.judged;
            many = many;
            some = omega (arith, n);
            most = m;
            within = r.within;
          }
