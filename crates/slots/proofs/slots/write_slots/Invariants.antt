-- `slots::slots::write_slots` meets its contract: the first k slots are written and counted, and no more are counted than are written.
-- Assumes nothing.
use Prim.Native.Nat.{◌≤◌}
use Rattle.calls.specs.Head.{head_of}
use Rattle.slots.specs.Slots.{slots_of, Filling}
use Rattle.slots.proofs.slots.write_slots.Given as goal

abbrev pub invariant-loop-k : goal.invariant-loop-k
invariant-loop-k l =
    record {
      taken : l.taken ≤ l.k;
      defaulted : l.defaulted ≤ l.k;
      filling : Filling (slots_of l.params l.resolved.sources l.call.cells.now (head_of l.call.head) l.resolved.next l.star l.resolved.count l.k) l.initial.board l.board (record { taken = l.taken; defaulted = l.defaulted });
    }
