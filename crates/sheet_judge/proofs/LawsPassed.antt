-- Lines of an input that a loop has passed (01, sheets): the rows of a sheet from `from` on, each of them right, up to `at`. `passed_none`
-- and `passed_next` are how a loop begins and goes on; `passed_left` says which lines there are if one more is read, `passed_all` if none is left,
-- `passed_end` if the input is at its end.
-- Assumes nothing.
use mathlib.Core.Path.{◌≡◌, refl, sym, ap, ◌∙◌}
use mathlib.Core.Bool.{Bool, true}
use mathlib.Core.List.{List, [], ◌∷◌, ◌++◌, map, append-nil}
use Prim.Native.Nat.{ℕ, ◌+◌, ◌≤◌}
use native.Mathlib.Omega.{arith}
use lib.ListN.{length, drop, length-append}
use lib.Seq.{append_snoc, drop-length}
use Rattle.rules.specs.SheetLines.{lines_in, unended, Columns, Row, row_in}
use Rattle.rules.specs.SheetInput.{right, judge_rows}
use Rattle.sheet_lines.specs.Lines.{LineAt, NoLine}
use Rattle.sheet_judge.proofs.LawsRows.{line_right, rows_more}

-- `first` is the number of the first line passed, `next` that of the line at `at`
pub record Passed (row_right : List Row → Row → Bool) (c : Columns) (input : List ℕ) (first from next at : ℕ) : Type 0 where
  pub lines : List (List ℕ)
  pub parted : lines_in (drop from input) ≡ lines ++ lines_in (drop at input)
  pub rest : unended (drop from input) ≡ unended (drop at input)
  pub judged : judge_rows row_right c first [] lines ≡ right
  pub many : first + length lines ≡ next
  pub within : at ≤ length input
  pub gone : from + length lines ≤ at

module _ (row_right : List Row → Row → Bool) (c : Columns) (input : List ℕ) (first from : ℕ) where
  unfoldable pub passed_none : from ≤ length input → Passed row_right c input first from first from
  passed_none h =
      record { lines = []; parted = refl; rest = refl; judged = refl; many = omega arith; within = h; gone = omega arith }

module _ {row_right : List Row → Row → Bool} {c : Columns} {input : List ℕ} {first from next at : ℕ} (p : Passed row_right c input first from next at) where
  pub passed_all : NoLine input at → lines_in (drop from input) ≡ p.lines
  passed_all none = p.parted ∙ ap (λ l. p.lines ++ l) none.lines ∙ append-nil p.lines

  module _ {line : List ℕ} {behind : ℕ} (r : LineAt input at line behind) where
    pub passed_left : lines_in (drop from input) ≡ p.lines ++ line ∷ lines_in (drop behind input)
    passed_left = p.parted ∙ ap (λ l. p.lines ++ l) r.lines

    unfoldable pub passed_next : line_right row_right c (map (row_in c) p.lines) line ≡ true → Passed row_right c input first from (next + 1) behind
    passed_next e =
        record {
          lines = p.lines ++ (line ∷ []);
          parted = passed_left ∙ sym (append_snoc p.lines line (lines_in (drop behind input)));
          rest = p.rest ∙ r.rest;
          judged = rows_more row_right c first p.lines line p.judged e;
          many = omega (arith, p.many, length-append p.lines (line ∷ []));
          within = r.within;
          gone = omega (arith, r.width, p.gone, length-append p.lines (line ∷ []));
        }

  pub passed_end : length input ≤ at → lines_in (drop from input) ≡ p.lines
  unfolding lines_in
  passed_end h =
      let e : at ≡ length input = omega (arith, p.within) in
      let d : drop at input ≡ [] = rw e (drop-length input) in
      p.parted ∙ rw d (append-nil p.lines)

  pub rest_end : length input ≤ at → unended (drop from input) ≡ []
  unfolding unended
  rest_end h =
      let e : at ≡ length input = omega (arith, p.within) in
      let d : drop at input ≡ [] = rw e (drop-length input) in
      p.rest ∙ rw d
