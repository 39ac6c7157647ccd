-- `prepared::write::put_row` meets its contract: the row's cells stand between what stood before them and what stands behind them.
-- Assumes nothing.
use mathlib.Core.Path.{◌≡◌, sym}
use mathlib.Core.List.{append_assoc}
use Prim.Native.Nat.{ℕ, ◌+◌, ◌-◌}
use native.Mathlib.Omega.{arith}
use lib.Seq.{drop-drop}
use borrow.Author.Tests.{le-leb}
use Rattle.cells.specs.Out.{stored}
use Rattle.builder.specs.Params.{step_of}
use Rattle.prepared.specs.Prepared.{row_cells}
use Rattle.prepared.specs.Rows.{row_in}
use Rattle.prepared.proofs.write.put_row.Goals as goal

-- the end of a part that begins at `a` and has six elements
end : (a : ℕ) → a + (a + 6 - a) ≡ a + 6
end a = omega arith

pub returns : goal.returns
unfolding stored row_cells row_in step_of
returns c =
    let a = c.args in
    rw (c.copy_from_slice.ensures.after, le-leb _ _ c.requires, drop-drop, end a.at) (sym (append_assoc _ (row_cells (row_in a.row)) _))
