-- `sheet_judge::parameters::read_parameters` meets its contract: a header that is missing or wrong, or what the rows behind it are.
-- Assumes nothing.
use mathlib.Core.Path.{◌≡◌}
use Rattle.std.proofs.lemmas.Result.{err_from_is_err_and}
use Rattle.sheet_lines.specs.Header.{ColumnsRead}
use Rattle.sheet_lines.specs.Lines.{LineAt}
use Rattle.sheet_judge.proofs.LawsInput.{refused, parameters_missing, parameters_wrong, parameters_bad, parameters_right}
use Rattle.sheet_judge.proofs.parameters.read_parameters.Goals as goal
use Rattle.sheet_judge.proofs.parameters.read_parameters.Goals.{In_ok-header, In_ok-columns}

pub returns-in_err-header : goal.returns-in_err-header
returns-in_err-header c =
    let p = err_from_is_err_and c.from_residual.result c.from_residual.ensures.1 in
    let q = refused c.next.result (record { 0 = 1 }) c.in_err-header.ensures.value in
    let none = rw q.0 at c.next.ensures.steps in
    rw (p.1, p.2, q.1) (parameters_missing none.0)

-- the header line
found : (c : In_ok-header) → LineAt c.args.input.now 0 c.in_ok-header.header.now c.next.new.self.at × (c.next.new.self.input ≡ c.args.input)
found c = rw c.in_ok-header.ensures.ok_part at c.next.ensures.steps

pub returns-in_err-columns : goal.returns-in_err-columns
returns-in_err-columns c =
    let p = err_from_is_err_and c.from_residual-in_err-columns.result c.from_residual-in_err-columns.ensures.1 in
    let q = refused c.read_header.result (record { 0 = 1 }) c.in_err-columns.ensures.value in
    let f = found (goal.at.returns-in_err-columns c).In_ok-header in
    rw (p.1, p.2, q.1) (parameters_wrong f.0 (rw q.0 at c.read_header.ensures))

read : (c : In_ok-columns) → ColumnsRead c.in_ok-header.header.now c.in_ok-columns.columns
read c = rw c.in_ok-columns.ensures.ok_part at c.read_header.ensures

pub returns-in_err-steps : goal.returns-in_err-steps
returns-in_err-steps c =
    let p = err_from_is_err_and c.from_residual-in_err-steps.result c.from_residual-in_err-steps.ensures.1 in
    let f = found (goal.at.returns-in_err-steps c).In_ok-header in
    rw (p.1, p.2) (parameters_bad f.0 (read (goal.at.returns-in_err-steps c).In_ok-columns) _ (rw f.1 at c.in_err-steps.ensures))

pub returns : goal.returns
returns c =
    let f = found (goal.at.returns c).In_ok-header in
    parameters_right f.0 (read (goal.at.returns c).In_ok-columns) _ (rw f.1 at c.in_ok-steps.ensures)
