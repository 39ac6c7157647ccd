-- A header (01, sheets): which cell of a row is its part, its name and its value, as the code has it and as `rules` has it.
use Rattle.std.specs.Prelude.{Option, Some, None, ◌≡◌, true, false, List, ℕ, ◌<◌}
use Rattle.rules.specs.SheetLines as rules
use Rattle.sheet_lines.specs.declared.header.Columns.{Columns}

abbrev pub columns_of : Columns → rules.Columns
columns_of c = record { part = c.part; name = c.name; value = c.value }

-- three cells have the indices 0, 1 and 2
pub record Below (c : Columns) : Type 0 where
  pub part : c.part < 3
  pub name : c.name < 3
  pub value : c.value < 3

-- the columns that a right header names
pub record ColumnsRead (line : List ℕ) (c : Columns) : Type 0 where
  pub told : rules.header_right line ≡ true
  pub columns : columns_of c ≡ rules.columns_in line
  pub below : Below c

-- what reading a header answers: whether it is right, and if so its columns
abbrev pub HeaderRead : List ℕ → Option Columns → Type 0
HeaderRead line (Some c) = ColumnsRead line c
HeaderRead line None = rules.header_right line ≡ false
