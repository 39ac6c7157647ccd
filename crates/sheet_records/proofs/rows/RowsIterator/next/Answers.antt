-- `sheet_records::rows::RowsIterator::next` meets its contract: a line that is there is ended, and right.
-- Assumes nothing.
use mathlib.Core.Path.{◌≡◌}
use Prim.Native.Nat.{suc, ◌-◌}
use native.Mathlib.Omega.{arith}
use Rattle.sheet_lines.specs.Header.{columns_of}
use Rattle.sheet_lines.specs.Lines.{LineAt}
use Rattle.sheet_records.proofs.LawsRows.{rows_next, rows_none}
use Rattle.sheet_records.proofs.rows.RowsIterator.next.Goals as goal
use Rattle.sheet_records.proofs.rows.RowsIterator.next.Goals.{After-unwrap-line}

pub returns-then-self-eq0-clause-steps : goal.returns-then-self-eq0-clause-steps
returns-then-self-eq0-clause-steps c =
    let s = c.args.self.now in
    let none = rows_none s.lines.input.now (columns_of s.columns) s.lines.at s.rows c.if-self-eq0.true in
    (none, none)

-- the line that was read
found : (c : After-unwrap-line) → let s = c.args.self.now in LineAt s.lines.input.now s.lines.at c.unwrap-line.result.now c.next.new.self.at × (c.next.new.self.input ≡ s.lines.input)
found c = rw c.unwrap-line.ensures at c.next.ensures.steps

pub returns-clause-steps : goal.returns-clause-steps
returns-clause-steps c =
    let s = c.args.self.now in
    let f = found (goal.at.returns-clause-steps c).After-unwrap-line in
    let e : s.rows ≡ suc (s.rows - 1) = omega arith in
    let read = rw c.unwrap-row.ensures at c.read.ensures in
    rw (f.1, read.1) (rows_next (columns_of s.columns) e f.0)
