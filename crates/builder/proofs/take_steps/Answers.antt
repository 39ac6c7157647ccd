-- Answers of `builder::take_steps`.
use mathlib.Core.Path.{refl, sym, ◌∙◌}
use Rattle.builder.specs.Params.{step_of}
use Rattle.builder.proofs.LawsBuild.{left_start, left_stop, left_next, left_end, stopped, passed}
use Rattle.builder.proofs.take_steps.Goals as goal

pub loop-i-init : goal.loop-i-init
loop-i-init c =
    let a = c.args.«record».now in
    record {
      fine = refl;
      left = left_start a.cells.now a.area.now c.step_count-m.result c.new.result c.step_count-m.ensures c.new.ensures;
    }

pub returns-then-is_err : goal.returns-then-is_err
returns-then-is_err c =
    let a = c.args.«record».now in
    let at = c.loop-i in
    let took = c.step_at in
    let step = c.step-stepped in
    let stop = stopped step.result.answer (sym c.is_err.ensures.value ∙ c.if-is_err.true) in
    left_stop a.cells.now a.area.now c.step_count-m.result at.stepped.builder at.i at.invariant.left c.loop-i-test.true
    (step_of took.result) took.ensures step.result step.ensures stop.0 stop.1

pub loop-i-preserved : goal.loop-i-preserved
loop-i-preserved c =
    let a = c.args.«record».now in
    let at = c.loop-i in
    let took = c.step_at in
    let step = c.step-stepped in
    let fine = passed step.result.answer (sym c.is_err.ensures.value ∙ c.if-is_err.false) in
    record {
      fine = fine;
      left = left_next a.cells.now a.area.now c.step_count-m.result at.stepped.builder at.i at.invariant.left c.loop-i-test.true
          (step_of took.result) took.ensures step.result step.ensures fine;
    }

pub returns : goal.returns
returns c =
    let a = c.args.«record».now in
    let at = c.loop-i in
    left_end a.cells.now a.area.now c.step_count-m.result at.stepped at.i at.invariant.fine at.invariant.left c.loop-i-test.false
