-- `calls::differ::key_new` meets its contract: a key without a mark is new by what is required. The loop's invariant: what is left is well
-- formed, and the key is none of the run's if it is none of what is left.
-- Assumes nothing.
use mathlib.Core.Path.{◌≡◌}
use Prim.Native.Nat.{◌+◌, ◌-◌, ◌*◌}
use Rattle.rules.specs.CallQuestions.{well_formed_entry}
use Rattle.calls.specs.Runs.{Formed}
use Rattle.calls.proofs.LawsKeys.{new_at}
use Rattle.calls.proofs.differ.key_new.Given as goal

abbrev pub invariant-loop-k : goal.invariant-loop-k
invariant-loop-k l =
    Formed (well_formed_entry l.record.area.now) l.record.cells.now (l.first + 4 * l.k) (l.count - l.k)
    × (new_at l.record.area.now l.record.cells.now l.key l.first l.count ≡ new_at l.record.area.now l.record.cells.now l.key (l.first + 4 * l.k) (l.count - l.k))
