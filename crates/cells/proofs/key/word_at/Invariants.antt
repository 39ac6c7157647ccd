-- `cells::key::word_at` meets its contract. The loop's invariant: the bytes so far, and what is left of the eight, give the key; once one is
-- read all are known to be bytes.
-- Assumes nothing.
use Prim.Native.Nat.{◌-◌, ◌≤◌}
use lib.ListN.{drop}
use Rattle.cells.proofs.LawsKey.{KeySoFar}
use Rattle.cells.proofs.LawsWord.{Bytes}
use Rattle.cells.proofs.key.word_at.Given as goal

abbrev pub invariant-loop-i : goal.invariant-loop-i
invariant-loop-i l = KeySoFar (drop l.at l.area) l.word l.i × (1 ≤ l.i → Bytes (drop l.at l.area))

abbrev pub decreases-loop-i : goal.decreases-loop-i
decreases-loop-i l = 8 - l.i
