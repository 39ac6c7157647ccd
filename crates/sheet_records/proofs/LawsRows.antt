-- The rows of a sheet one by one (01, sheets), as a walk over its lines asks: the row of the next line and the rows behind it. Then how many rows
-- there are.
-- Assumes nothing.
use mathlib.Core.Path.{◌≡◌, ap, ◌∙◌}
use mathlib.Core.List.{List, [], ◌∷◌}
use Prim.Native.Nat.{ℕ, suc, ◌≤◌}
use native.Mathlib.Omega.{arith}
use borrow.Author.Rules.{rules}
use lib.ListN.{length, take, drop, length-map}
use lib.Seq.{length-take-le, take-length}
use Rattle.rules.specs.SheetLines.{lines_in, Columns, Row, row_in}
use Rattle.sheet_lines.specs.Lines.{LineAt}
use Rattle.std.specs.Prelude.{Option, Some, None, IsSome, MatchOption}
use Rattle.sheet_lines.specs.Row.{row_of}
use Rattle.sheet_lines.specs.declared.row.Row as code
use Rattle.sheet_records.specs.Rows.{rows_from, all_rows, RowsAhead}

-- the next of `n` lines was read
pub rows_next : {input : List ℕ} (c : Columns) {at n m : ℕ} → n ≡ suc m → {line : List ℕ} {next : ℕ} → LineAt input at line next
    → rows_from input c at n ≡ row_in c line ∷ rows_from input c next m
unfolding rows_from
rows_next c e r = rw (e, r.lines)

-- ---- how many there are

pub rows_length : (input : List ℕ) (c : Columns) (from n : ℕ) → RowsAhead input c from n → length (rows_from input c from n) ≡ n
unfolding rows_from
rows_length input c from n ahead = length-map (take n (lines_in (drop from input))) (row_in c) ∙ length-take-le n (lines_in (drop from input)) ahead.enough

-- none
pub rows_none : (input : List ℕ) (c : Columns) (from n : ℕ) → n ≡ 0 → rows_from input c from n ≡ []
unfolding rows_from
rows_none input c from n e = rw e

-- all of them
pub rows_all : (input : List ℕ) (c : Columns) (from n : ℕ) → n ≡ length (lines_in (drop from input)) → rows_from input c from n ≡ all_rows input c from
unfolding rows_from all_rows
rows_all input c from n e = rw (e, take-length (lines_in (drop from input)))

-- a walk that has one row at least yields one
pub row_there : (before after : List Row) (r : Option code.Row) → MatchOption r ((before ≡ []) × (after ≡ [])) (λ row. before ≡ row_of row ∷ after) → 1 ≤ length before → IsSome r
row_there before after (Some row) e h = search rules
row_there before after None e h = absurd (omega (arith, h, ap length e.0))
