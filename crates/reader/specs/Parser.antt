-- What an answer of the code means in 01's numbers and pairs, what a parser has left, and what it is after a read (01, slot reader).
-- One read itself is defined in `rules`.
use Rattle.std.specs.Prelude.{Option, Some, None, Result, Ok, Err, ◌≡◌, cond, List, [], ◌∷◌, ℕ}
use Rattle.rules.specs.Value.{Value}
use Rattle.rules.specs.Reader.{Read, unread, holds, vacant, is_vacant, left_at, position_after}
use Rattle.cells.specs.Value.{pair_of}
use Rattle.cells.specs.declared.value.Pair.{Pair}
use Rattle.reader.specs.declared.ReadError.{ReadError}
use Rattle.reader.specs.declared.ReadError.TheVariants.{NoMore, Unfilled}
use Rattle.reader.specs.declared.Reading.{Reading}
use Rattle.reader.specs.declared.ParametersParser.{ParametersParser}

-- an answer: the pair of a filled slot, an empty slot, or 01's number
abbrev pub read_of : Result (Option Pair) ReadError → Read
read_of (Ok (Some pair)) = holds (pair_of pair)
read_of (Ok None) = vacant
read_of (Err NoMore) = unread 27
read_of (Err Unfilled) = unread 28

-- a read of either sort: `empty` is its answer for an empty slot
abbrev pub read_or : Read → List Value → Read
read_or empty [] = unread 27
read_or empty (v ∷ vs) = cond (is_vacant v) empty (holds v)

-- the slots that a parser has left
abbrev pub left_of : ParametersParser → List Value
left_of parser = left_at parser.slots.now parser.at

-- a parser after a read of either sort: the same slots, at the next position
abbrev pub moved_on : ParametersParser → ParametersParser
moved_on parser = record { slots = parser.slots; at = position_after parser.slots.now parser.at }

-- what is promised of a read from a position of some cells: its answer is that of the slots left there, and it leaves the reader at the
-- next position
abbrev pub Reads : (List Value → Read) → List ℕ → ℕ → Reading → Type 0
Reads read cells position r = (read_of r.next ≡ read (left_at cells position)) × (r.at ≡ position_after cells position)
