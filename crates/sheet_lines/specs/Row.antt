-- A row (01, sheets): what its part, its name and its value hold, as `rules` has them.
use Rattle.std.specs.Prelude.{Option, Some, None, ◌≡◌, true, false, List, ℕ}
use Rattle.rules.specs.SheetLines as rules
use Rattle.sheet_lines.specs.declared.row.Row.{Row}

abbrev pub row_of : Row → rules.Row
row_of r = record { part = r.part.now; name = r.name.now; value = r.value.now }

-- what reading a row answers: whether the line is right, and if so the row
abbrev pub RowIs : rules.Columns → List ℕ → Option Row → Type 0
RowIs columns line (Some r) = (rules.three_cells (rules.cells_in line) ≡ true) × (row_of r ≡ rules.row_in columns line)
RowIs columns line None = rules.three_cells (rules.cells_in line) ≡ false
