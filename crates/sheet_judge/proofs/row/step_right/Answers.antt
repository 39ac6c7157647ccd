-- `sheet_judge::row::step_right` meets its contract: at each code the test computes to that code's.
-- Assumes nothing.
use mathlib.Core.Path.{sym, ◌∙◌}
use native.Mathlib.Omega.{arith}
use Rattle.sheet_lines.specs.Row.{row_of}
use Rattle.sheet_judge.proofs.LawsCell.{empty_test, step_code, step_named, step_mark}
use Rattle.sheet_judge.proofs.row.step_right.Goals as goal

pub returns-in-0 : goal.returns-in-0
returns-in-0 c = sym (step_code (row_of c.args.row) 0 (sym c.code_of.ensures ∙ c.in-0.is))

-- 1 and 2 alike
pub returns-in-1 : goal.returns-in-1
returns-in-1 c =
    let r = row_of c.args.row in
    c.is_empty.ensures ∙ sym (empty_test r.value) ∙ sym (step_named r _ (sym c.code_of.ensures) (omega arith) (omega arith))

pub returns-in-3 : goal.returns-in-3
returns-in-3 c = c.is_value.ensures ∙ sym (step_code (row_of c.args.row) 3 (sym c.code_of.ensures ∙ c.in-3.is))

pub returns-then-is_empty : goal.returns-then-is_empty
returns-then-is_empty c =
    let r = row_of c.args.row in
    let name = empty_test r.name ∙ sym c.is_empty-in_default.ensures ∙ c.if-is_empty.true in
    c.is_empty-then-is_empty.ensures ∙ sym (empty_test r.value)
    ∙ sym (step_mark r c.code_of.result (sym c.code_of.ensures) (omega arith) ∙ rw name)

pub returns-else-is_empty : goal.returns-else-is_empty
returns-else-is_empty c =
    let r = row_of c.args.row in
    let name = empty_test r.name ∙ sym c.is_empty-in_default.ensures ∙ c.if-is_empty.false in
    c.if-is_empty.false ∙ sym (step_mark r c.code_of.result (sym c.code_of.ensures) (omega arith) ∙ rw name)
