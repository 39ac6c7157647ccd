-- From bytes to rows (01, sheets): lines are what byte 10 ends, cells are what commas part, a header says which column is which. Nothing here
-- knows what a row means.
use Rattle.std.specs.Prelude.{Bool, cond, ◌&&◌, List, [], ◌∷◌, ℕ, leb, eqb, length, get_or}
use Rattle.std.proofs.Math.Option.{Option, none, some}
use Rattle.rules.specs.Listing.{all, any, first_from}
use Rattle.rules.specs.Text.{same_bytes}

-- a byte in front of the first piece
abbrev pub before : ℕ → List (List ℕ) → List (List ℕ)
before b [] = (b ∷ []) ∷ []
before b (piece ∷ pieces) = (b ∷ piece) ∷ pieces

-- the pieces between the marks: one more than there are marks, and any of them may be empty
abbrev pub split : ℕ → List ℕ → List (List ℕ)
split mark [] = [] ∷ []
split mark (b ∷ bs) = cond (eqb b mark) ([] ∷ split mark bs) (before b (split mark bs))

-- all but the last, and the last
abbrev pub front : List (List ℕ) → List (List ℕ)
front [] = []
front (x ∷ []) = []
front (x ∷ y ∷ ys) = x ∷ front (y ∷ ys)

abbrev pub last : List (List ℕ) → List ℕ
last [] = []
last (x ∷ []) = x
last (x ∷ y ∷ ys) = last (y ∷ ys)

-- the lines of an input, and what stands behind its last byte 10
unfoldable pub lines_in : List ℕ → List (List ℕ)
lines_in input = front (split 10 input)

unfoldable pub unended : List ℕ → List ℕ
unended input = last (split 10 input)

-- the cells of a line
unfoldable pub cells_in : List ℕ → List (List ℕ)
cells_in line = split 44 line

-- a line has three cells, none over 255 bytes
unfoldable pub three_cells : List (List ℕ) → Bool
three_cells cells = eqb (length cells) 3 && all (λ c. leb (length c) 255) cells

-- `part`, `name`, `value`
unfoldable pub part_word : List ℕ
part_word = 112 ∷ 97 ∷ 114 ∷ 116 ∷ []

unfoldable pub name_word : List ℕ
name_word = 110 ∷ 97 ∷ 109 ∷ 101 ∷ []

unfoldable pub value_word : List ℕ
value_word = 118 ∷ 97 ∷ 108 ∷ 117 ∷ 101 ∷ []

-- where each of the three columns stands
pub record Columns : Type 0 where
  pub part : ℕ
  pub name : ℕ
  pub value : ℕ

-- the index of a word among cells, 3 where it is none of them
abbrev pub or_three : Option ℕ → ℕ
or_three none = 3
or_three (some i) = i

unfoldable pub column_of : List ℕ → List (List ℕ) → ℕ
column_of word cells = or_three (first_from (same_bytes word) 0 cells)

unfoldable pub columns_in : List ℕ → Columns
columns_in header =
    record { part = column_of part_word (cells_in header); name = column_of name_word (cells_in header); value = column_of value_word (cells_in header) }

-- a header names the three columns, in any order: three cells among which each of the three words stands
unfoldable pub header_right : List ℕ → Bool
header_right line =
    eqb (length (cells_in line)) 3
    && any (same_bytes part_word) (cells_in line)
    && any (same_bytes name_word) (cells_in line)
    && any (same_bytes value_word) (cells_in line)

-- a row: its three cells by what they are
pub record Row : Type 0 where
  pub part : List ℕ
  pub name : List ℕ
  pub value : List ℕ

unfoldable pub row_in : Columns → List ℕ → Row
row_in c line =
    record { part = get_or (cells_in line) c.part []; name = get_or (cells_in line) c.name []; value = get_or (cells_in line) c.value [] }
