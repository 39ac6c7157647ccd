-- The rows of a sheet that was judged right (01, sheets): which lines they stand in.
use Rattle.std.specs.Prelude.{◌≡◌, true, List, map, ℕ, ◌≤◌, length, take, drop}
use Rattle.rules.specs.Listing.{all}
use Rattle.rules.specs.SheetLines.{Columns, Row, lines_in, cells_in, three_cells, row_in}

-- the rows in the next `count` lines from byte `from` on, and in all of them
unfoldable pub rows_from : List ℕ → Columns → ℕ → ℕ → List Row
rows_from input c from count = map (row_in c) (take count (lines_in (drop from input)))

unfoldable pub all_rows : List ℕ → Columns → ℕ → List Row
all_rows input c from = map (row_in c) (lines_in (drop from input))

-- there are `count` lines more from byte `from` on, each of three cells that are short enough, in an input that is not too long; a name
-- stands elsewhere than its value, so that a row's texts are no longer than its line
pub record RowsAhead (input : List ℕ) (c : Columns) (from count : ℕ) : Type 0 where
  pub apart : c.name ≡ c.value → ⊥
  pub short : length input ≤ 16384
  pub start : from ≤ length input
  pub enough : count ≤ length (lines_in (drop from input))
  pub cells : all (λ line. three_cells (cells_in line)) (take count (lines_in (drop from input))) ≡ true
