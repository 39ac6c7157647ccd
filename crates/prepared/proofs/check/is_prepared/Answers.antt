-- `prepared::check::is_prepared` meets its contract, from the answers of its callees, one after the other.
-- Assumes nothing.
use mathlib.Core.Path.{sym, ◌∙◌}
use Prim.Native.Nat.{◌+◌, ◌*◌, ◌≤◌}
use native.Mathlib.Omega.{arith}
use borrow.Author.Tests.{leb-true}
use lib.ListN.{length}
use Rattle.prepared.proofs.LawsCheck.{not_few, not_long, not_named, is_asked}
use Rattle.prepared.proofs.check.is_prepared.Goals as goal
use Rattle.prepared.proofs.check.is_prepared.Goals.{then-n-list, else-n-list}

pub returns-then-count : goal.returns-then-count
returns-then-count c =
    let a = c.args in
    not_few a.list.now.area.now a.list.now.cells.now c.cell-count.result c.cell-count.ensures c.if-count.true

pub returns-then-is_name : goal.returns-then-is_name
returns-then-is_name c =
    let a = c.args in
    elim c.if-n-list.branch [
      | then-n-list w ↦ is_asked a.list.now.area.now a.list.now.cells.now c.cell-count.result c.cell-count.ensures c.if-count.false w.if-n-list.true w.is_name.ensures
          (sym w.value-is ∙ c.if-is_name.true) c.rows_right.ensures
      | else-n-list w ↦ let l : 2 + 6 * c.cell-count.result ≤ length a.list.now.cells.now = leb-true _ _ (sym w.value-is ∙ c.if-is_name.true) in absurd (omega (arith, w.if-n-list.false))
    ]

pub returns-else-is_name : goal.returns-else-is_name
returns-else-is_name c =
    let a = c.args in
    elim c.if-n-list.branch [
      | then-n-list w ↦ c.if-is_name.false ∙ not_named a.list.now.area.now a.list.now.cells.now c.cell-count.result c.cell-count.ensures c.if-count.false w.if-n-list.true w.is_name.ensures (sym w.value-is ∙ c.if-is_name.false)
      | else-n-list w ↦ c.if-is_name.false ∙ not_long a.list.now.area.now a.list.now.cells.now c.cell-count.result c.cell-count.ensures c.if-count.false w.if-n-list.false
    ]
