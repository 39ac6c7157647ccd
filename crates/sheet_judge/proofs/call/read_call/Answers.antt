-- `sheet_judge::call::read_call` meets its contract: a header that is missing or wrong, or what the rows behind it are.
-- Assumes nothing.
use native.Mathlib.Omega.{arith}
use Rattle.std.specs.Prelude.{Some}
use Rattle.std.proofs.lemmas.Result.{err_from_is_err_and}
use Rattle.rules.specs.SheetInput.{input_most}
use Rattle.sheet_lines.specs.Header.{ColumnsRead}
use Rattle.sheet_lines.specs.Lines.{NextLine}
use Rattle.sheet_judge.proofs.LawsInput.{refused, call_missing, call_wrong, call_bad, call_right}
use Rattle.sheet_judge.proofs.call.read_call.Goals as goal
use Rattle.sheet_judge.proofs.call.read_call.Goals.{In_ok-header, In_ok-columns}

pub returns-in_err-header : goal.returns-in_err-header
returns-in_err-header c =
    let p = err_from_is_err_and c.from_residual.result c.from_residual.ensures.1 in
    let q = refused c.next.result (record { 0 = c.args.line }) c.in_err-header.ensures.value in
    let none = rw q.0 at c.next.ensures.steps in
    rw (p.1, p.2, q.1) (call_missing c.args.line none.0)

-- the header line
found : (c : In_ok-header) → NextLine c.args.lines (Some c.in_ok-header.header) c.next.new.self
found c = rw c.in_ok-header.ensures.ok_part at c.next.ensures.steps

pub returns-in_err-columns : goal.returns-in_err-columns
returns-in_err-columns c =
    let p = err_from_is_err_and c.from_residual-in_err-columns.result c.from_residual-in_err-columns.ensures.1 in
    let q = refused c.read_header.result (record { 0 = c.args.line }) c.in_err-columns.ensures.value in
    let f = found (goal.at.returns-in_err-columns c).In_ok-header in
    rw (p.1, p.2, q.1) (call_wrong c.args.line f.0 (rw q.0 at c.read_header.ensures))

read : (c : In_ok-columns) → ColumnsRead c.in_ok-header.header.now c.in_ok-columns.columns
read c = rw c.in_ok-columns.ensures.ok_part at c.read_header.ensures

pub read_values-requires : goal.read_values-requires
read_values-requires c = omega (arith, c.requires)

pub overflow_add-line : goal.overflow_add-line
unfolding input_most
overflow_add-line c = omega arith

pub returns-in_err-counts : goal.returns-in_err-counts
returns-in_err-counts c =
    let p = err_from_is_err_and c.from_residual-in_err-counts.result c.from_residual-in_err-counts.ensures.1 in
    let f = found (goal.at.returns-in_err-counts c).In_ok-header in
    rw (p.1, p.2) (call_bad c.args.line f.0 (read (goal.at.returns-in_err-counts c).In_ok-columns) _ (rw f.1 at c.in_err-counts.ensures))

pub returns : goal.returns
returns c =
    let f = found (goal.at.returns c).In_ok-header in
    call_right c.args.line f.0 (read (goal.at.returns c).In_ok-columns) _ (rw f.1 at c.in_ok-counts.ensures)
