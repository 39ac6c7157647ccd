-- `collector::collect::collect` meets its contract: a refusal of 1 to 7 is handed on, and otherwise the list is one to bind against.
-- Assumes nothing.
use mathlib.Core.Path.{◌≡◌, sym, ap, subst, ◌∙◌}
use Rattle.std.proofs.lemmas.Result.{err_from_is_err_and}
use Rattle.rules.specs.ParameterQuestions.{list_of}
use Rattle.builder.specs.Params.{parameters_in}
use Rattle.collector.specs.Collect.{Ends}
use Rattle.findings.specs.Resolve.{Prepared}
use Rattle.findings.proofs.LawsPrepared.{built_fine, built_list, built_prepared}
use Rattle.collector.proofs.LawsEnds.{collection_refused, collection_bound}
use Rattle.collector.proofs.collect.collect.Goals as goal

pub returns-in_err-list : goal.returns-in_err-list
returns-in_err-list c =
    let a = c.args in
    let p = err_from_is_err_and c.from_residual.result c.from_residual.ensures.1 in
    rw (p.1, p.2) (collection_refused a.spec.now.cells.now a.spec.now.area.now a.call.now.cells.now a.call.now.area.now a.board.now c.in_err-list.field-0.0 (sym c.in_err-list.ensures.answer))

pub bind-requires : goal.bind-requires
bind-requires c =
    let a = c.args in
    let l = c.in_ok-list.list in
    let e = c.in_ok-list.was in
    subst (λ area. Prepared area l) (sym (c.build.ensures.in_area l e)) (built_prepared a.spec.now.cells.now a.spec.now.area.now c.build.result c.build.ensures l e)

pub returns : goal.returns
returns c =
    let a = c.args in
    let l = c.in_ok-list.list in
    let e = c.in_ok-list.was in
    let is : parameters_in l.area.now l.params ≡ list_of a.spec.now.cells.now a.spec.now.area.now =
    ap (λ area. parameters_in area l.params) (c.build.ensures.in_area l e) ∙ built_list a.spec.now.cells.now a.spec.now.area.now c.build.result c.build.ensures l e in
    subst (λ o. Ends o a.board.now c.bind.new.board c.bind.result)
    (collection_bound a.spec.now.cells.now a.spec.now.area.now a.call.now.cells.now a.call.now.area.now a.board.now (parameters_in l.area.now l.params) (built_fine a.spec.now.cells.now a.spec.now.area.now c.build.result c.build.ensures l e) is)
    c.bind.ensures
