-- `calls::values::copy_named` meets its contract. The loop's invariant: the values of the first k pairs are stored.
-- Assumes nothing.
use mathlib.Core.Path.{◌≡◌}
use Prim.Native.Nat.{◌+◌, ◌*◌}
use Rattle.rules.specs.Cells.{write_each}
use Rattle.rules.specs.Value.{value_cells}
use Rattle.cells.specs.Out.{stored}
use Rattle.cells.specs.Record.{pair_at}
use Rattle.cells.specs.Listed.{listed}
use Rattle.calls.proofs.values.copy_named.Given as goal

abbrev pub invariant-loop-k : goal.invariant-loop-k
invariant-loop-k l = l.board ≡ stored l.initial.board l.at (write_each value_cells (listed (λ j. pair_at l.cells (l.from + 4 * j + 2)) 0 l.k))
