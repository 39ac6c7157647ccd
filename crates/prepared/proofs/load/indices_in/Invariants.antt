-- `prepared::load::indices_in` meets its contract. The loop's invariant: the counts and indices are those of the rows so far.
-- Assumes nothing.
use Rattle.prepared.proofs.LawsLoad.{Indexed}
use Rattle.prepared.proofs.load.indices_in.Given as goal

abbrev pub invariant-loop-i : goal.invariant-loop-i
invariant-loop-i l = Indexed l.cells l.i l.only l.positional l.args l.kwargs
