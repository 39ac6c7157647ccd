-- `calls::values::copy_values` meets its contract. The loop's invariant: the first k of the values' cells are stored. Assumes nothing.
use mathlib.Core.Path.{◌≡◌}
use Prim.Native.Nat.{◌*◌}
use lib.ListN.{length, take, drop}
use Rattle.cells.specs.Out.{stored}
use Rattle.calls.proofs.values.copy_values.Given as goal

abbrev pub invariant-loop-k : goal.invariant-loop-k
invariant-loop-k l = (length l.board ≡ length l.initial.board) × (l.board ≡ stored l.initial.board l.at (take l.k (take (2 * l.count) (drop l.from l.cells))))
