-- `sheet_judge::parameters::read_steps` meets its contract. The loop's invariant: the lines passed are right rows, and not too many.
-- Assumes nothing.
use mathlib.Core.Path.{◌≡◌}
use Prim.Native.Nat.{◌+◌, ◌≤◌}
use Rattle.rules.specs.SheetRows.{parameter_row_right}
use Rattle.sheet_lines.specs.Header.{columns_of}
use Rattle.sheet_judge.proofs.LawsPassed.{Passed}
use Rattle.sheet_judge.proofs.parameters.read_steps.Given as goal

abbrev pub invariant-loop-line : goal.invariant-loop-line
invariant-loop-line l =
    (l.rest.input ≡ l.lines.input) × (l.rows ≤ 67) × Passed (parameter_row_right 64) (columns_of l.columns) l.lines.input.now 2 l.lines.at (l.rows + 2) l.rest.at
