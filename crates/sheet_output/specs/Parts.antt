-- The lines of an accepted call (01, sheets), off the list's columns and the board, one at each index.
use Rattle.std.specs.Prelude.{List, [], ◌∷◌, ◌++◌, ℕ, zero, suc, ◌+◌, ◌*◌, ◌≤◌, get_or}
use Rattle.rules.specs.Value.{Value}
use Rattle.rules.specs.SheetValue.{decimal}
use Rattle.rules.specs.SheetOutput.{line}
use Rattle.cells.specs.Record.{pair_at}
use Rattle.builder.specs.declared.params.Parameters.{Parameters}
use Rattle.sheet_output.specs.Line.{shown_name, shown_value, name_for, shown_for}
use Rattle.sheet_output.specs.declared.parts.Remainder.{Remainder}
use Rattle.sheet_output.specs.declared.parts.Sort.{Sort}
use Rattle.sheet_output.specs.declared.parts.Sort.TheVariants.{Star, Named}

-- the lines at the indices below a number
abbrev pub lines_to : (ℕ → List ℕ) → ℕ → List ℕ
lines_to at zero = []
lines_to at (suc k) = lines_to at k ++ at k

unfoldable pub slot_line : List ℕ → List ℕ → ℕ → ℕ → ℕ → Value → List ℕ
slot_line spec call i code name v = line (decimal i) (name_for code (shown_name spec name)) (shown_for spec call code v)

unfoldable pub slot_line_at : List ℕ → List ℕ → Parameters → List ℕ → ℕ → List ℕ
slot_line_at spec call p board i = slot_line spec call i (get_or p.codes i 0) (get_or p.names i 0) (pair_at board (2 * i))

-- `star` and the value of two cells
unfoldable pub star_line : List ℕ → List ℕ → Value → List ℕ
star_line spec call v = line (115 ∷ 116 ∷ 97 ∷ 114 ∷ []) [] (shown_value spec call v)

-- `named`, the name of two cells and the value of two more
unfoldable pub named_line : List ℕ → List ℕ → Value → Value → List ℕ
named_line spec call key v = line (110 ∷ 97 ∷ 109 ∷ 101 ∷ 100 ∷ []) (shown_name call key.payload) (shown_value spec call v)

-- a remainder of `count` elements whose cells begin at `from`
unfoldable pub star_line_at : List ℕ → List ℕ → List ℕ → ℕ → ℕ → List ℕ
star_line_at spec call board from k = star_line spec call (pair_at board (from + 2 * k))

unfoldable pub named_line_at : List ℕ → List ℕ → List ℕ → ℕ → ℕ → List ℕ
named_line_at spec call board from k = named_line spec call (pair_at board (from + 4 * k)) (pair_at board (from + 4 * k + 2))

-- element k of a remainder of either sort
abbrev pub element_line : Sort → List ℕ → List ℕ → List ℕ → ℕ → ℕ → List ℕ
element_line Star spec call board from k = star_line_at spec call board from k
element_line Named spec call board from k = named_line_at spec call board from k

-- the two sorts
abbrev pub stars : ℕ → ℕ → Remainder
stars from count = record { sort = Star; from = from; count = count }

abbrev pub names : ℕ → ℕ → Remainder
names from count = record { sort = Named; from = from; count = count }

abbrev pub remainder_text : List ℕ → List ℕ → List ℕ → Remainder → List ℕ
remainder_text spec call board r = lines_to (element_line r.sort spec call board r.from) r.count

-- how many bytes an element's line has at the most, and a remainder's lines
abbrev pub element_most : Sort → ℕ
element_most Star = 72
element_most Named = 137

abbrev pub remainder_most : Remainder → ℕ
remainder_most r = element_most r.sort * r.count

-- a remainder's cells are near: no index of them is past a number of the machine
abbrev pub Near : Remainder → Type 0
Near r = (r.from ≤ 1024) × (r.count ≤ 128)
