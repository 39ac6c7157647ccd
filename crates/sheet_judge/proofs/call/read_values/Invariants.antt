-- `sheet_judge::call::read_values` meets its contract. The loop's invariant: the lines passed are right, and the counts are theirs.
-- Assumes nothing.
use mathlib.Core.Path.{◌≡◌}
use Rattle.sheet_lines.specs.Header.{columns_of}
use Rattle.sheet_judge.proofs.LawsValues.{CountedTo}
use Rattle.sheet_judge.proofs.call.read_values.Given as goal

abbrev pub invariant-loop-line : goal.invariant-loop-line
invariant-loop-line l =
    (l.rest.input ≡ l.lines.input) × CountedTo (columns_of l.columns) l.lines.input.now l.first l.lines.at l.number l.rest.at l.counts
