-- `prepared::in_order::named_in_turn` meets its contract. The loop's invariant: the pairs that were looked at are named, each after its own row.
-- Assumes nothing.
use Rattle.std.specs.Prelude.{ℕ, ◌+◌, ◌*◌, ◌<◌, ◌≤◌}
use Rattle.prepared.specs.InOrder.{NamedAfter}
use Rattle.prepared.proofs.in_order.named_in_turn.Given as goal

abbrev pub invariant-loop-k : goal.invariant-loop-k
invariant-loop-k l = (j : ℕ) → l.k ≤ j → j < l.count → NamedAfter l.list.area.now l.list.cells.now l.call.cells.now l.call.area.now (l.from + 4 * j) (l.row + j)
