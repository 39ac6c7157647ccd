use mathlib.Core.Path.{refl, sym, ◌∙◌}
use native.Mathlib.Omega.{arith}
use Rattle.std.proofs.lemmas.Result.{err_from_is_err_and}
use Rattle.rules.specs.SheetInput.{input_most}
use Rattle.sheet_lines.specs.Header.{columns_of}
use Rattle.sheet_judge.proofs.LawsInput.{refused}
use Rattle.sheet_judge.proofs.LawsValues.{judged_few, values_none, values_ended, values_wrong, values_next, values_all}
use Rattle.sheet_judge.proofs.call.read_values.Goals as goal

pub loop-line-init : goal.loop-line-init
loop-line-init c =
    let a = c.args in
    (refl, values_none (columns_of a.columns) a.lines.input.now a.first a.lines.at a.lines.within c.none-counts.result c.none-counts.ensures)

pub count_line-requires : goal.count_line-requires
count_line-requires c =
    let s = c.loop-line.invariant.1 in
    judged_few _ _ s.passed.lines s.passed.judged s.counts

pub returns-in_err-counts : goal.returns-in_err-counts
returns-in_err-counts c =
    let p = err_from_is_err_and c.from_residual.result c.from_residual.ensures.1 in
    let q = refused c.count_line.result (record { 0 = c.loop-line.number }) c.in_err-counts.ensures.value in
    let r = rw c.loop-line.invariant.0 at c.in-Some.ensures.steps.0 in
    rw (p.1, p.2, q.1) (values_wrong c.loop-line.invariant.1 r (sym c.count_line.ensures ∙ q.0))

pub overflow_add-number : goal.overflow_add-number
unfolding input_most
overflow_add-number c =
    let p = c.loop-line.invariant.1.passed in
    omega (arith, p.many, p.gone, p.within)

pub loop-line-preserved : goal.loop-line-preserved
loop-line-preserved c =
    let r = rw c.loop-line.invariant.0 at c.in-Some.ensures.steps.0 in
    (c.in-Some.ensures.steps.1 ∙ c.loop-line.invariant.0, values_next c.loop-line.invariant.1 r _ (sym c.count_line.ensures ∙ c.in_ok-counts.ensures.ok_part))

-- what is left behind the last line
pub returns-then-rest : goal.returns-then-rest
returns-then-rest c =
    let l = c.loop-line in
    let e = c.in_default.ensures.steps in
    let h = rw (e.2, e.1, l.invariant.0) at c.if-rest.true in
    values_ended l.invariant.1 h (rw l.invariant.0 at e.0)

pub returns : goal.returns
returns c =
    let l = c.loop-line in
    let e = c.in_default.ensures.steps in
    values_all l.invariant.1 (rw (e.2, e.1, l.invariant.0) at c.if-rest.false)
