-- The rows of a call sheet read one by one (01, sheets): what a line behind those passed is and what it counts, and each of the answers where
-- the loop over them stops. Assumes nothing.
use mathlib.Core.Path.{◌≡◌, refl, sym, ap, ◌∙◌}
use mathlib.Core.Bool.{Bool, true, false, cond, ◌&&◌}
use mathlib.Core.List.{List, [], ◌∷◌, map}
use Prim.Native.Nat.{ℕ, ◌+◌, ◌≤◌, ◌<◌}
use native.Mathlib.Omega.{arith}
use lib.ListN.{length, drop, length-drop}
use Rattle.rules.specs.SheetLines.{lines_in, unended, cells_in, three_cells, Columns, Row, row_in}
use Rattle.rules.specs.SheetRows.{is_empty, CallPart, unknown_part, call_part, call_row_right}
use Rattle.rules.specs.SheetInput.{right, bad, judge_rows}
use Rattle.rules.proofs.LawsListing.{and_right, map_append}
use Rattle.rules.proofs.LawsSheetRows.{CallRows, call_rows}
use Rattle.sheet_lines.specs.Lines.{LineAt, NoLine}
use Rattle.sheet_judge.specs.Counts.{counts_of, fits, fits_as, more, more_as}
use Rattle.sheet_judge.specs.Sheets.{judge_values}
use Rattle.sheet_judge.specs.Read.{line_counts, counted_in, ValuesAre}
use Rattle.rules.specs.CallRecord as rules
use Rattle.calls.specs.Head.{head_of, no_head, Few}
use Rattle.calls.specs.declared.head.Head.{Head}
use Rattle.std.specs.Prelude.{Some, None}
use Rattle.sheet_judge.proofs.LawsCell.{empty_no}
use Rattle.sheet_judge.proofs.LawsCounts.{counts_few, counts_fit, counts_more}
use Rattle.sheet_judge.proofs.LawsRows.{line_right}
use Rattle.sheet_judge.proofs.LawsSheets.{values_bad, values_unended}
use Rattle.sheet_judge.proofs.LawsPassed.{Passed, passed_none, passed_left, passed_all, passed_next, passed_end, rest_end}

-- ---- one line

module _ (c : Columns) (k : Head) (line : List ℕ) where
  pub counted_short : three_cells (cells_in line) ≡ false → None ≡ counted_in c k line
  unfolding counted_in
  counted_short e = rw e

  -- its row, and the code's answers
  module _ {row : Row} (e : three_cells (cells_in line) ≡ true) (r : row ≡ row_in c line) where
    pub counted_unknown : unknown_part ≡ call_part row.part → None ≡ counted_in c k line
    unfolding counted_in fits
    counted_unknown is = let f : fits_as 64 k (call_part row.part) row.name row.value ≡ false = rw (← is) in rw (e, ← r, f)

    -- its part as the code has it
    module _ {q : CallPart} (is : q ≡ call_part row.part) {b : Bool} (judged : b ≡ fits_as 64 k q row.name row.value) where
      pub counted_bad : b ≡ false → None ≡ counted_in c k line
      unfolding counted_in fits
      counted_bad h = let f : fits_as 64 k (call_part row.part) row.name row.value ≡ false = rw (← is) (sym judged ∙ h) in rw (e, ← r, f)

      pub counted_right : b ≡ true → (m : Head) → m ≡ more_as k q row.value → Some m ≡ counted_in c k line
      unfolding counted_in fits more
      counted_right h m g = let f : fits_as 64 k (call_part row.part) row.name row.value ≡ true = rw (← is) (sym judged ∙ h) in rw (e, ← r, f, g, is)

  pub bad_counted : counted_in c k line ≡ None → line_counts c k line ≡ false
  unfolding counted_in
  bad_counted e = go (line_counts c k line) e
    where
      go : (b : Bool) → cond b (Some (more k (row_in c line))) None ≡ None → b ≡ false
      go true p = cc
      go false p = refl

  pub right_counted : (m : Head) → counted_in c k line ≡ Some m → (line_counts c k line ≡ true) × (more k (row_in c line) ≡ m)
  unfolding counted_in
  right_counted m e = go (line_counts c k line) e
    where
      go : (b : Bool) → cond b (Some (more k (row_in c line))) None ≡ Some m → (b ≡ true) × (more k (row_in c line) ≡ m)
      go true p = (refl, cc)
      go false p = cc

-- ---- the lines passed

pub record CountedTo (c : Columns) (input : List ℕ) (first from next at : ℕ) (k : Head) : Type 0 where
  pub passed : Passed (call_row_right 64) c input first from next at
  pub counts : k ≡ counts_of (map (row_in c) passed.lines)

-- right lines have few rows of each part
pub judged_few : (c : Columns) (first : ℕ) (lines : List (List ℕ)) {k : Head} → judge_rows (call_row_right 64) c first [] lines ≡ right
    → k ≡ counts_of (map (row_in c) lines) → Few 64 (head_of k)
judged_few c first lines e counts = rw counts (counts_few 64 (map (row_in c) lines) (call_rows 64 c first lines e))

pub values_none : (c : Columns) (input : List ℕ) (first from : ℕ) → from ≤ length input → (k : Head) → head_of k ≡ no_head
    → CountedTo c input first from first from k
unfolding passed_none counts_of
values_none c input first from h k none =
    record {
      passed = passed_none (call_row_right 64) c input first from h;
      counts =
          ap
          {B = Head}
          (λ (h : rules.Head). record { p = h.p; n = h.n; star_kind = h.star_kind; s = h.s; double_kind = h.double_kind; d = h.d })
          none;
    }

module _ {c : Columns} {input : List ℕ} {first from next at : ℕ} {k : Head} (s : CountedTo c input first from next at k) where
  rows_right : CallRows 64 (map (row_in c) s.passed.lines)
  rows_right = call_rows 64 c first s.passed.lines s.passed.judged

  line_counts_lem : (line : List ℕ) → line_right (call_row_right 64) c (map (row_in c) s.passed.lines) line ≡ line_counts c k line
  line_counts_lem line =
      ap (λ b. three_cells (cells_in line) && b) (counts_fit 64 (map (row_in c) s.passed.lines) rows_right (row_in c line) ∙ ap (λ j. fits 64 j (row_in c line)) (sym s.counts))

  pub values_ended : at < length input → NoLine input at → judge_values 64 c first (lines_in (drop from input)) (unended (drop from input)) ≡ bad 30 next
  values_ended l none =
      let u : unended (drop from input) ≡ drop at input = s.passed.rest ∙ none.rest in
      let f : is_empty (drop at input) ≡ false = empty_no (drop at input) (λ e. omega (arith, length-drop at input)) in
      rw (passed_all s.passed none, u, ← s.passed.many)
      (values_unended 64 c first s.passed.lines s.passed.judged (drop at input) f)

  module _ {line : List ℕ} {behind : ℕ} (r : LineAt input at line behind) where
    pub values_wrong : counted_in c k line ≡ None → judge_values 64 c first (lines_in (drop from input)) (unended (drop from input)) ≡ bad 30 next
    values_wrong e =
        rw (passed_left s.passed r, ← s.passed.many)
        (values_bad 64 c first s.passed.lines s.passed.judged line (lines_in (drop behind input)) (unended (drop from input))
        (line_counts_lem line ∙ bad_counted c k line e))

    pub values_next : (m : Head) → counted_in c k line ≡ Some m → CountedTo c input first from (next + 1) behind m
    unfolding passed_next
    values_next m e =
        let told = right_counted c k line m e in
        record {
          passed = passed_next s.passed r (line_counts_lem line ∙ told.0);
          counts =
              sym told.1
              ∙ ap (λ j. more j (row_in c line)) s.counts
              ∙ counts_more 64 (map (row_in c) s.passed.lines) (row_in c line)
              (ap (λ j. fits 64 j (row_in c line)) (sym s.counts) ∙ and_right (three_cells (cells_in line)) (fits 64 k (row_in c line)) told.0)
              ∙ ap counts_of (sym (map_append (row_in c) s.passed.lines (line ∷ [])));
        }

  pub values_all : length input ≤ at → ValuesAre c input from first k
  values_all h =
      record {
        judged = rw (passed_end s.passed h) s.passed.judged;
        ended = rw (rest_end s.passed h);
        counts = rw (passed_end s.passed h) s.counts;
      }
