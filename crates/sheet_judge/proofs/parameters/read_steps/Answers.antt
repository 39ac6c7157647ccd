use mathlib.Core.Path.{sym, ◌∙◌}
use Rattle.sheet_lines.specs.Header.{columns_of}
use Rattle.sheet_judge.proofs.LawsCell.{empty_test}
use Rattle.sheet_judge.proofs.LawsSteps.{line_most, steps_ended, steps_wrong, steps_next, steps_blank_first, steps_blank}
use Rattle.sheet_judge.proofs.parameters.read_steps.Goals as goal

pub returns-then-rows-eq0 : goal.returns-then-rows-eq0
returns-then-rows-eq0 c =
    let l = c.loop-line in
    let r = rw l.invariant.0 at c.in-Some.ensures.steps.0 in
    steps_blank_first l.rows l.invariant.2 r (empty_test c.in-Some.line.now ∙ sym c.is_empty.ensures ∙ c.if-is_empty.true) c.if-rows-eq0.true

pub returns-then-is_empty : goal.returns-then-is_empty
returns-then-is_empty c =
    let l = c.loop-line in
    let r = rw l.invariant.0 at c.in-Some.ensures.steps.0 in
    steps_blank l.rows l.invariant.2 r (empty_test c.in-Some.line.now ∙ sym c.is_empty.ensures ∙ c.if-is_empty.true) c.if-rows-eq0.false l.invariant.1

pub returns-then-not-line_right : goal.returns-then-not-line_right
returns-then-not-line_right c =
    let l = c.loop-line in
    let r = rw l.invariant.0 at c.in-Some.ensures.steps.0 in
    steps_wrong l.rows l.invariant.2 r (empty_test c.in-Some.line.now ∙ sym c.is_empty.ensures ∙ c.if-is_empty.false) (sym c.line_right.ensures ∙ c.if-not-line_right.true)

pub loop-line-preserved : goal.loop-line-preserved
loop-line-preserved c =
    let l = c.loop-line in
    let r = rw l.invariant.0 at c.in-Some.ensures.steps.0 in
    let t = sym c.line_right.ensures ∙ c.if-not-line_right.false in
    (c.in-Some.ensures.steps.1 ∙ l.invariant.0, line_most (columns_of c.args.columns) l.rows _ t, steps_next l.rows l.invariant.2 r t)

pub returns : goal.returns
returns c = steps_ended c.loop-line.rows c.loop-line.invariant.2 (rw c.loop-line.invariant.0 at c.in_default.ensures.steps.0)
