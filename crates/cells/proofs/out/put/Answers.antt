-- `cells::out::put` meets its contract: where both cells fit they are stored by `put_inside`, and where they don't nothing is stored.
-- Assumes nothing.
use Prim.Native.Nat.{◌+◌}
use native.Mathlib.Omega.{arith}
use lib.ListN.{length}
use borrow.Author.Tests.{lt-leb}
use Rattle.rules.specs.Value.{value_cells}
use Rattle.cells.specs.Out.{stored}
use Rattle.cells.proofs.out.put.Goals as goal

pub returns-then-out-lt2 : goal.returns-then-out-lt2
unfolding stored value_cells
returns-then-out-lt2 c = let s = c.args in rw (lt-leb (s.at + 2) (length s.out.now) (omega arith))

pub returns-then-out-at : goal.returns-then-out-at
unfolding stored value_cells
returns-then-out-at c = let s = c.args in rw (lt-leb (s.at + 2) (length s.out.now) (omega arith))
