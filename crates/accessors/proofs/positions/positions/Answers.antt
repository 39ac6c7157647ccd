-- `accessors::positions::positions` meets its contract: each question as it is answered, and then P is written.
-- Assumes nothing.
use mathlib.Core.Path.{sym}
use native.Mathlib.Omega.{arith}
use Rattle.std.proofs.lemmas.Result.{err_from_is_err_and}
use Rattle.accessors.proofs.LawsPositions.{values_few, values_room, positions_refused, positions_star, positions_written}
use Rattle.accessors.proofs.positions.positions.Goals as goal

pub returns-in_err-ask_writing : goal.returns-in_err-ask_writing
returns-in_err-ask_writing c =
    let p = err_from_is_err_and c.from_residual.result c.from_residual.ensures.1 in
    rw (p.1, p.2) (positions_refused _ _ _ _ (sym c.in_err-ask_writing.ensures))

pub returns-then-h-eq2 : goal.returns-then-h-eq2
returns-then-h-eq2 c =
    positions_star _ _ _ _ c.new-call.ensures.head (sym c.in_ok-ask_writing.ensures) c.if-h-eq2.true

pub overflow_add-got : goal.overflow_add-got
overflow_add-got c =
    omega (arith, values_few _ _ _ _ c.new-call.ensures.head (sym c.in_ok-ask_writing.ensures))

pub write_values-requires : goal.write_values-requires
write_values-requires c =
    (omega arith, values_room _ _ _ _ c.new-call.ensures.head (sym c.in_ok-ask_writing.ensures))

pub returns : goal.returns
returns c =
    positions_written _ _ _ _ c.new-call.ensures.head (sym c.in_ok-ask_writing.ensures) c.if-h-eq2.false _ (rw c.new-call.ensures.cells at c.write_values.ensures)
