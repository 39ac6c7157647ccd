-- `calls::differ::keys_differ` meets its contract. The loop's invariant: the keys behind those that are left differ, and the slot of each has a
-- mark.
-- Assumes nothing.
use Prim.Native.Nat.{◌-◌}
use Rattle.calls.proofs.LawsSlots.{Walked}
use Rattle.calls.proofs.differ.keys_differ.Given as goal

abbrev pub invariant-loop-behind : goal.invariant-loop-behind
invariant-loop-behind l = Walked l.record.area.now l.record.cells.now l.marks l.from l.count (l.count - l.behind)
