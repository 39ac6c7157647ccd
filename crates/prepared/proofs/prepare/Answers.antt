-- `prepared::prepare` meets its contract: a refusal of 1 to 7 is handed on, and otherwise the built list is written where there is room.
-- Assumes nothing.
use mathlib.Core.Path.{refl, sym, ap, ◌∙◌}
use native.Mathlib.Omega.{arith}
use lib.ListN.{get_or}
use Rattle.std.proofs.lemmas.Result.{err_from_is_err_and}
use Rattle.rules.specs.Cells.{over}
use Rattle.builder.specs.Params.{parameters_in}
use Rattle.prepared.specs.Prepared.{prepared_cells}
use Rattle.prepared.proofs.LawsWritten.{preparing_refused, preparing_short, preparing_written}
use Rattle.prepared.proofs.prepare.Goals as goal

pub returns-in_err-list : goal.returns-in_err-list
returns-in_err-list c =
    let a = c.args in
    let p = err_from_is_err_and c.from_residual.result c.from_residual.ensures.1 in
    rw (p.1, p.2) (preparing_refused a.spec.now.cells.now a.spec.now.area.now a.out.now _ (sym c.in_err-list.ensures.answer))

pub returns-then-out-lt-PREPARED : goal.returns-then-out-lt-PREPARED
returns-then-out-lt-PREPARED c =
    let a = c.args in
    preparing_short a.spec.now.cells.now a.spec.now.area.now a.out.now (sym c.in_ok-list.ensures.answer) (omega (arith, c.if-out-lt-PREPARED.true))

pub write_list-requires : goal.write_list-requires
write_list-requires c =
    let room = (c.in_ok-list.ensures.fine c.in_ok-list.list refl).room in
    (room, omega (arith, room, c.if-out-lt-PREPARED.false))

pub returns : goal.returns
returns c =
    let a = c.args in
    let l = c.in_ok-list.list in
    let built = c.in_ok-list.ensures in
    preparing_written a.spec.now.cells.now a.spec.now.area.now a.out.now _ l.params (sym built.answer) c.if-out-lt-PREPARED.false (built.fine l refl).parameters
    (c.write_list.ensures
    ∙ ap (λ f. over (prepared_cells f (parameters_in l.area.now l.params)) a.out.now) c.cell.ensures
    ∙ ap (λ t. over (prepared_cells (get_or a.spec.now.cells.now 0 0) (parameters_in t l.params)) a.out.now) (built.in_area l refl))
