-- The three cells of a line (01, sheets).
use Rattle.std.specs.Prelude.{Option, Some, None, ◌≡◌, Bool, true, false, List, [], ◌∷◌, ℕ}
use Rattle.rules.specs.SheetLines.{cells_in}
use Rattle.sheet_lines.specs.declared.line.Cells.{Cells}

-- what the three hold
abbrev pub cells_of : Cells → List (List ℕ)
cells_of c = c.first.now ∷ c.second.now ∷ c.third.now ∷ []

-- what reading the cells of a line answers: whether the line is right, and if so its cells
abbrev pub CellsRead : Bool → List ℕ → Option Cells → Type 0
CellsRead right line (Some c) = (right ≡ true) × (cells_in line ≡ cells_of c)
CellsRead right line None = right ≡ false
