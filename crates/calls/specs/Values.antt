-- The values of P that a call record holds, by their numbers.
use Rattle.std.specs.Prelude.{List, ℕ}
use Rattle.rules.specs.Value.{Value}
use Rattle.rules.specs.CallRecord.{Head}
use Rattle.cells.specs.Record.{pair_at}
use Rattle.cells.specs.Listed.{listed}
use Rattle.calls.specs.Places.{position_at}

-- value k of P
unfoldable pub positional_at : List ℕ → Head → ℕ → Value
positional_at cells h k = pair_at cells (position_at 64 h k)

abbrev pub values_in : List ℕ → Head → ℕ → ℕ → List Value
values_in cells h from count = listed (positional_at cells h) from count
