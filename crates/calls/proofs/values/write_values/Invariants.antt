-- `calls::values::write_values` meets its contract. The loop's invariant: the first k values are stored.
-- Assumes nothing.
use mathlib.Core.Path.{◌≡◌}
use Rattle.rules.specs.Cells.{write_each}
use Rattle.rules.specs.Value.{value_cells}
use Rattle.cells.specs.Out.{stored}
use Rattle.calls.specs.Head.{head_of}
use Rattle.calls.specs.Values.{values_in}
use Rattle.calls.proofs.values.write_values.Given as goal

abbrev pub invariant-loop-k : goal.invariant-loop-k
invariant-loop-k l = l.board ≡ stored l.initial.board l.at (write_each value_cells (values_in l.call.cells.now (head_of l.call.head) l.from l.k))
