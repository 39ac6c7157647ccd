-- `prepared::check::rows_right` meets its contract. The loop's invariant: the answer is the answer for the rows that are left, from the
-- style on that the row before them leads to and against the names before them; each row before them is right, and its slot marked where
-- it is nameable. Assumes nothing.
use Rattle.prepared.proofs.LawsRowsLoop.{SoFar}
use Rattle.prepared.proofs.check.rows_right.Given as goal

abbrev pub invariant-loop-i : goal.invariant-loop-i
invariant-loop-i l = SoFar l.list.area.now l.list.cells.now l.n l.used l.least l.i
