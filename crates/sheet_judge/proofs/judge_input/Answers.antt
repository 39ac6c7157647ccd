-- `sheet_judge::judge_input` meets its contract: each answer by what reading the sheets answered.
-- Assumes nothing.
use native.Mathlib.Omega.{arith}
use Rattle.std.proofs.lemmas.Result.{err_from_is_err_and}
use Rattle.rules.specs.SheetInput.{input_most}
use Rattle.sheet_judge.specs.Read.{ParametersAre}
use Rattle.sheet_judge.proofs.LawsInput.{judging_long, judging_parameters, judging_call, judging_right}
use Rattle.sheet_judge.proofs.judge_input.Goals as goal

pub returns-then-input-gt-LONGEST : goal.returns-then-input-gt-LONGEST
returns-then-input-gt-LONGEST c = judging_long c.args.input.now c.if-input-gt-LONGEST.true

pub invariant_of-call : goal.invariant_of-call
invariant_of-call c =
    let p : ParametersAre c.args.input.now c.in_ok-p.p = c.in_ok-p.ensures in
    record { within = p.steps.within }

pub overflow_add-p : goal.overflow_add-p
overflow_add-p c =
    let p : ParametersAre c.args.input.now c.in_ok-p.p = c.in_ok-p.ensures in
    omega (arith, p.steps.most)

pub read_call-requires : goal.read_call-requires
unfolding input_most
read_call-requires c =
    let p : ParametersAre c.args.input.now c.in_ok-p.p = c.in_ok-p.ensures in
    omega (arith, p.steps.most)

pub returns-in_err-p : goal.returns-in_err-p
unfolding input_most
returns-in_err-p c =
    let p = err_from_is_err_and c.from_residual.result c.from_residual.ensures.1 in
    rw (p.1, p.2) (judging_parameters c.if-input-gt-LONGEST.false _ c.in_err-p.ensures)

pub returns-in_err-c : goal.returns-in_err-c
unfolding input_most
returns-in_err-c c =
    let p = err_from_is_err_and c.from_residual-in_err-c.result c.from_residual-in_err-c.ensures.1 in
    rw (p.1, p.2) (judging_call c.if-input-gt-LONGEST.false c.in_ok-p.ensures _ c.in_err-c.ensures)

pub returns : goal.returns
unfolding input_most
returns c = rw c.places_of.ensures (judging_right c.if-input-gt-LONGEST.false c.in_ok-p.ensures c.in_ok-c.ensures)
