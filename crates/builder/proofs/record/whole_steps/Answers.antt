-- `builder::record::whole_steps` meets its contract: the two tests of question 1.
-- Assumes nothing.
use Prim.Native.Nat.{◌+◌, ◌*◌}
use native.Mathlib.Omega.{arith}
use lib.ListN.{length}
use borrow.Author.Tests.{eq-eqb, ne_eqb}
use Rattle.rules.specs.ParameterQuestions.{whole_steps}
use Rattle.rules.specs.ParameterRecord.{step_count, step_width, parameter_length}
use Rattle.builder.proofs.record.whole_steps.Goals as goal

pub overflow_mul-m : goal.overflow_mul-m
unfolding step_count step_width
overflow_mul-m c = omega (arith, c.step_count-m.ensures)

pub overflow_add-m : goal.overflow_add-m
unfolding step_count step_width
overflow_add-m c = omega (arith, c.step_count-m.ensures)

pub returns-then-cells-m : goal.returns-then-cells-m
unfolding whole_steps parameter_length step_width
returns-then-cells-m c =
    let cells = c.args.cells.now in
    rw (← c.step_count-m.ensures, eq-eqb (length cells) (1 + 4 * c.step_count-m.result) c.if-cells-m.true)

pub returns-else-cells-m : goal.returns-else-cells-m
unfolding whole_steps parameter_length step_width
returns-else-cells-m c =
    let cells = c.args.cells.now in
    rw (← c.step_count-m.ensures, ne_eqb (length cells) (1 + 4 * c.step_count-m.result) c.if-cells-m.false)
