-- `slots::board::write_named` meets its contract: the first k pairs are stored. Assumes nothing.
use mathlib.Core.Path.{◌≡◌}
use mathlib.Core.List.{List}
use Prim.Native.Nat.{ℕ}
use lib.ListN.{get_or}
use Rattle.rules.specs.Cells.{write_each}
use Rattle.rules.specs.Board.{named_cells}
use Rattle.cells.specs.Out.{stored}
use Rattle.cells.specs.Listed.{listed}
use Rattle.findings.specs.Resolved.{named_at}
use Rattle.slots.proofs.board.write_named.Given as goal

abbrev pub invariant-loop-k : goal.invariant-loop-k
invariant-loop-k l =
    (area : List ℕ) → l.board ≡ stored l.initial.board l.at (write_each named_cells (listed (λ j. named_at area l.cells (get_or l.fn.resolved.rest j 0)) 0 l.k))
