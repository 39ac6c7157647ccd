-- `prepared::write::write_list` meets its contract. The loop's invariant: the rows so far stand behind the front.
-- Assumes nothing.
use Rattle.prepared.proofs.LawsWritten.{Writing}
use Rattle.prepared.proofs.write.write_list.Given as goal

abbrev pub invariant-loop-i : goal.invariant-loop-i
invariant-loop-i l = Writing l.list.area.now l.list.params l.initial.out l.out l.i
