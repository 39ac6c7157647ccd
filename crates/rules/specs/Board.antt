-- The board (01, cells, texts and records): two cells for each parameter's slot, both 0 for an empty one, kind 8 or 9 with a count for *args
-- and **kwargs; behind the slots the values of the star remainder and then the pairs of the named one; nothing after that is touched.
-- The layout rests on 01 alone.
use Rattle.std.specs.Prelude.{◌≡◌, refl, List, ◌++◌, ℕ, ◌+◌, ◌*◌, max}
use Rattle.rules.specs.Cells.{write_each, over}
use Rattle.rules.specs.Value.{Value, value_cells, no_value, call_text}
use Rattle.rules.specs.CallRecord.{Named, pair_cells}
use Rattle.rules.specs.Parameters.{Parameter}
use Rattle.rules.specs.Placement.{Slot, empty, taken, from_default, star_count, named_count, place, star_remainder, named_remainder}

abbrev pub slot_value : Slot → Value
slot_value empty = no_value
slot_value (taken v) = v
slot_value (from_default v) = v
slot_value (star_count n) = record { kind = 8; payload = n }
slot_value (named_count n) = record { kind = 9; payload = n }

unfoldable pub slot_cells : Slot → List ℕ
slot_cells s = value_cells (slot_value s)

-- a named value as the call record has it: the name's kind and payload, the value
unfoldable pub named_cells : Named → List ℕ
named_cells v = pair_cells (record { key = record { kind = call_text; payload = v.name.payload }; value = v.value })

-- the cells that an accepted collection writes
unfoldable pub written : List Parameter → List Value → List Named → List ℕ
written qs P N =
    write_each slot_cells (place qs P N) ++ (write_each value_cells (star_remainder qs P) ++ write_each named_cells (named_remainder qs N))

-- the board after an accepted collection
unfoldable pub board_after : List Parameter → List Value → List Named → List ℕ → List ℕ
board_after qs P N board = over (written qs P N) board

-- how many cells a board has at the least: 12B, and the greater of 2A and 6 more
unfoldable pub board_least : ℕ → ℕ → ℕ
board_least A B = 12 * B + max (2 * A) 6

pub board_least_64 : board_least 64 64 ≡ 896
unfolding board_least
board_least_64 = refl
