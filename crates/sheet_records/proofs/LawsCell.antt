-- A row of a sheet and the cells that it becomes (01, sheets; cells, texts and records): whether its part is the wanted one, and which cells it
-- brings. Assumes nothing.
use mathlib.Core.Path.{◌≡◌, sym, ap, ◌∙◌}
use mathlib.Core.Bool.{Bool, true, false, not, ◌||◌}
use mathlib.Core.List.{List, [], ◌++◌}
use Prim.Native.Nat.{ℕ}
use lib.Dec.{eqb}
use Rattle.rules.specs.Value.{value_cells}
use Rattle.rules.specs.SheetLines.{Row}
use Rattle.rules.specs.SheetRows.{CallPart, call_part, part_number, is_part}
use Rattle.sheet_records.specs.Run.{key_cells, last_value, row_cells}

-- ---- a row's part

-- whether it is the one that is wanted, by the test of the code
pub part_told : (part : CallPart) (r : Row) (bytes : List ℕ) (b : Bool) → bytes ≡ r.part → b ≡ eqb (part_number (call_part bytes)) (part_number part) → is_part part r ≡ b
unfolding is_part
part_told part r bytes b e h = ap (λ x. eqb (part_number (call_part x)) (part_number part)) (sym e) ∙ sym h

-- ---- a row's cells

module _ (keyed : Bool) (part : CallPart) (at : ℕ) (r : Row) where
  pub row_wanted : (not keyed || is_part part r) ≡ true → key_cells keyed part at r ++ value_cells (last_value keyed at r) ≡ row_cells keyed part at r
  unfolding row_cells
  row_wanted e = rw e

  pub row_other : keyed ≡ true → is_part part r ≡ false → row_cells keyed part at r ≡ []
  unfolding row_cells
  row_other k e = rw (k, e)
