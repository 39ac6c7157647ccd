-- `cells::text::key_of` meets its contract. The loop's invariant: the bytes so far, and what is left of the first eight, give the key.
-- Assumes nothing.
use Rattle.cells.proofs.LawsKey.{KeySoFar}
use Rattle.cells.proofs.text.key_of.Given as goal

abbrev pub invariant-loop-byte : goal.invariant-loop-byte
invariant-loop-byte l = KeySoFar l.initial.bytes l.key l.byte-index
