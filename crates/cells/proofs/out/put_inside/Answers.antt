-- `cells::out::put_inside` meets its contract: two stores in a row are a run of stores.
-- Assumes nothing.
use mathlib.Core.List.{[], ◌∷◌}
use Prim.Native.Nat.{◌+◌}
use native.Mathlib.Numerals.{add-one}
use native.Mathlib.Omega.{arith}
use lib.Seq.{sets-eq}
use lib.ListN.{length}
use borrow.Author.Tests.{le-leb}
use Rattle.rules.specs.Value.{value_cells}
use Rattle.cells.specs.Out.{stored}
use Rattle.cells.proofs.out.put_inside.Goals as goal

pub returns : goal.returns
unfolding stored value_cells
returns c =
    let s = c.args in
    rw (le-leb (s.at + 2) (length s.out.now) (omega arith), add-one) (sets-eq (s.pair.kind ∷ s.pair.payload ∷ []) s.out.now s.at (omega arith))
