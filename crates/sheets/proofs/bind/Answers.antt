-- `sheets::bind` meets its contract: a short output is left alone, and otherwise the verdict says which text is written.
-- Assumes nothing.
use Rattle.sheets.proofs.LawsBind.{binding_none, binding_bad, binding_right}
use Rattle.sheets.proofs.bind.Goals as goal

pub returns-then-out-lt-OUTPUT : goal.returns-then-out-lt-OUTPUT
returns-then-out-lt-OUTPUT c =
    let a = c.args in
    binding_none a.input.now a.out.now c.if-out-lt-OUTPUT.true _

pub bind_sheets-requires : goal.bind_sheets-requires
bind_sheets-requires c =
    (c.judge_input.ensures.places c.in-Ok.places c.in-Ok.is, c.if-out-lt-OUTPUT.false)

pub returns-in-Err : goal.returns-in-Err
returns-in-Err c =
    let a = c.args in
    binding_bad a.input.now a.out.now c.if-out-lt-OUTPUT.false c.judge_input.result c.judge_input.ensures.verdict
    c.write_refused_count.new.out c.write_refused_count.result _ c.in-Err.is c.write_refused_count.ensures

pub returns-in-Ok : goal.returns-in-Ok
returns-in-Ok c =
    let a = c.args in
    binding_right a.input.now a.out.now c.if-out-lt-OUTPUT.false c.judge_input.result c.judge_input.ensures.verdict
    c.bind_sheets.new.out c.bind_sheets.result c.in-Ok.places c.in-Ok.is c.bind_sheets.ensures
