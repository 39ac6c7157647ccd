-- `sheet_output::parts::write_remainder` meets its contract. The loop's invariant: the lines before k are written. Assumes nothing.
use Rattle.cells.specs.Out.{Wrote}
use Rattle.sheet_output.specs.Parts.{lines_to, element_line}
use Rattle.sheet_output.proofs.parts.write_remainder.Given as goal

abbrev pub invariant-loop-k : goal.invariant-loop-k
invariant-loop-k l = Wrote (lines_to (element_line l.rest.sort l.bound.spec.now l.bound.call.now l.bound.board.now l.rest.from) l.k) l.initial.output l.output
