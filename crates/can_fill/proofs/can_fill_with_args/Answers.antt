-- `can_fill::can_fill_with_args` meets its contract: a refusal of 1 to 7 or of 9 to 11 is handed on, and what passed them gives
-- the inner function what it requires. Assumes nothing.
use mathlib.Core.Path.{◌≡◌, sym, ap, subst, ◌∙◌}
use Rattle.std.proofs.lemmas.Result.{err_from_is_err_and}
use Rattle.rules.specs.Answer.{fine, none}
use Rattle.rules.specs.CallQuestions.{ask_form}
use Rattle.rules.specs.CanFill.{answered}
use Rattle.cells.specs.Question.{number_of, answer_of}
use Rattle.builder.specs.Build.{asked_of}
use Rattle.calls.specs.Head.{head_of}
use Rattle.findings.specs.Resolve.{Prepared}
use Rattle.findings.proofs.LawsPrepared.{built_fine, built_list, built_prepared}
use Rattle.can_fill.proofs.LawsFillable.{fill_ready, fillable_record, fillable_call, fillable_answered}
use Rattle.can_fill.proofs.can_fill_with_args.Goals as goal
use Rattle.can_fill.proofs.can_fill_with_args.Goals.{In_ok-ask_form}

pub returns-in_err-list : goal.returns-in_err-list
returns-in_err-list c =
    let a = c.args in
    let p = err_from_is_err_and c.from_residual.result c.from_residual.ensures.1 in
    rw (p.1, p.2) (sym (fillable_record a.call.now.cells.now a.call.now.area.now a.spec.now.cells.now a.spec.now.area.now (number_of c.in_err-list.field-0.0) none (sym c.build.ensures.answer ∙ ap asked_of c.in_err-list.was)))

pub returns-in_err-ask_form : goal.returns-in_err-ask_form
returns-in_err-ask_form c =
    let a = c.args in
    let p = err_from_is_err_and c.from_residual-in_err-ask_form.result c.from_residual-in_err-ask_form.ensures.1 in
    rw (p.1, p.2)
    (sym
    (fillable_call a.call.now.cells.now a.call.now.area.now a.spec.now.cells.now a.spec.now.area.now (built_fine a.spec.now.cells.now a.spec.now.area.now c.build.result c.build.ensures c.in_ok-list.list c.in_ok-list.was)
    (number_of c.in_err-ask_form.field-0.0) none (sym c.ask_form.ensures ∙ ap answer_of c.in_err-ask_form.was)))

-- 9 to 11 passed
form_passed : (c : In_ok-ask_form) → let a = c.args in ask_form 64 a.call.now.cells.now a.call.now.area.now ≡ fine
form_passed c = sym c.ask_form.ensures ∙ ap answer_of c.in_ok-ask_form.was

pub can_fill-requires : goal.can_fill-requires
can_fill-requires c =
    let a = c.args in
    let l = c.in_ok-list.list in
    rw (c.new.ensures.cells, c.new.ensures.area)
    (fill_ready a.call.now.cells.now a.call.now.area.now (head_of c.new.result.head) c.new.ensures.head (form_passed (goal.at.can_fill-requires c).In_ok-ask_form) l.area.now l
    (subst (λ area. Prepared area l) (sym (c.build.ensures.in_area l c.in_ok-list.was))
    (built_prepared a.spec.now.cells.now a.spec.now.area.now c.build.result c.build.ensures l c.in_ok-list.was)))

pub returns : goal.returns
returns c =
    let a = c.args in
    let l = c.in_ok-list.list in
    let filled = rw (c.new.ensures.cells, c.new.ensures.area, c.build.ensures.in_area l c.in_ok-list.was) at c.can_fill.ensures in
    ap answered filled
    ∙ sym
    (fillable_answered a.call.now.cells.now a.call.now.area.now a.spec.now.cells.now a.spec.now.area.now (built_fine a.spec.now.cells.now a.spec.now.area.now c.build.result c.build.ensures l c.in_ok-list.was)
    (head_of c.new.result.head) c.new.ensures.head (form_passed (goal.at.returns c).In_ok-ask_form) l
    (built_list a.spec.now.cells.now a.spec.now.area.now c.build.result c.build.ensures l c.in_ok-list.was))
