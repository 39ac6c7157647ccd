-- `accessors::names_map::write_named` meets its contract. The loop's invariant: the output is what it was with the first k pairs stored.
-- Assumes nothing.
use mathlib.Core.Path.{◌≡◌}
use mathlib.Core.List.{List}
use Prim.Native.Nat.{ℕ}
use Rattle.rules.specs.Cells.{write_each}
use Rattle.rules.specs.Board.{named_cells}
use Rattle.cells.specs.Out.{stored}
use Rattle.calls.specs.Head.{head_of}
use Rattle.calls.specs.Named.{names_in}
use Rattle.accessors.proofs.names_map.write_named.Given as goal

abbrev pub invariant-loop-k : goal.invariant-loop-k
invariant-loop-k l =
    (area : List ℕ) → l.out ≡ stored l.initial.out 0 (write_each named_cells (names_in area l.call.cells.now (head_of l.call.head) l.k))
