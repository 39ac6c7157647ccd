-- What reading a cell answers (01, sheets), in the terms of `rules`.
use Rattle.std.specs.Prelude.{Option, Some, None, Bool, cond, List, ℕ, zero, suc, ◌-◌, ◌^◌, ltb, drop}
use Rattle.std.proofs.Math.Option as rules
use Rattle.std.proofs.Math.Option.{some, none}
use Rattle.rules.specs.Listing.{all}
use Rattle.rules.specs.SheetValue.{CellValue, written, quoted, is_hex_digit, worth, number_from}
use Rattle.cells.specs.Value.{pair_of, cells_of}
use Rattle.sheet_values.specs.declared.read.Cell.{Cell}
use Rattle.sheet_values.specs.declared.read.Cell.TheVariants as cell

-- a number, if there is one, as `rules` has it
abbrev pub number_of : Option ℕ → rules.Option ℕ
number_of (Some n) = some n
number_of None = none

-- a text's bytes are those behind the cell's first
abbrev pub cell_of : List ℕ → Option Cell → rules.Option CellValue
cell_of bytes (Some (cell.Value v)) = some (written (pair_of (cells_of v)))
cell_of bytes (Some cell.Text) = some (quoted (drop 1 bytes))
cell_of bytes None = none

-- digits of a base, behind a number that was read so far
abbrev pub taken : (ℕ → Bool) → ℕ → ℕ → List ℕ → rules.Option ℕ
taken test base before bs = cond (all test bs) (some (number_from base before bs)) none

-- a number below a limit
abbrev pub below : ℕ → rules.Option ℕ → rules.Option ℕ
below limit none = none
below limit (some n) = cond (ltb n limit) (some n) none

-- a number behind `-`, which is not 0, in two's complement
abbrev pub negated : rules.Option ℕ → rules.Option ℕ
negated none = none
negated (some zero) = none
negated (some (suc n)) = some (2 ^ 64 - suc n)

-- what a hexadecimal digit is worth
unfoldable pub hex_worth : ℕ → rules.Option ℕ
hex_worth b = cond (is_hex_digit b) (some (worth b)) none
