-- `sheet_output::parts::write_slots` meets its contract. The loop's invariant: the lines before i are written. Assumes nothing.
use Rattle.cells.specs.Out.{Wrote}
use Rattle.sheet_output.specs.Parts.{lines_to, slot_line_at}
use Rattle.sheet_output.proofs.parts.write_slots.Given as goal

abbrev pub invariant-loop-i : goal.invariant-loop-i
invariant-loop-i l = Wrote (lines_to (slot_line_at l.bound.spec.now l.bound.call.now l.params l.bound.board.now) l.i) l.initial.output l.output
