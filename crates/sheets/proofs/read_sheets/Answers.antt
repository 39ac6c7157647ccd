-- `sheets::read_sheets` meets its contract: without room and at a bad line nothing is written, and otherwise both records are.
-- Assumes nothing.
use mathlib.Core.Path.{sym}
use Rattle.std.proofs.lemmas.Result.{err_from_is_err_and}
use Rattle.sheets.proofs.LawsRead.{room_held, reading_none, reading_bad, reading_right}
use Rattle.sheets.proofs.read_sheets.Goals as goal

pub returns-then-not-has_room : goal.returns-then-not-has_room
returns-then-not-has_room c =
    let a = c.args in
    reading_none a.input.now a.spec_cells.now a.spec.now a.call_cells.now a.call.now (sym c.if-not-has_room.ensures)

pub returns-in_err-places : goal.returns-in_err-places
returns-in_err-places c =
    let a = c.args in
    let p = err_from_is_err_and c.from_residual.result c.from_residual.ensures.1 in
    rw (p.1, p.2)
    (reading_bad a.input.now a.spec_cells.now a.spec.now a.call_cells.now a.call.now (sym c.if-not-has_room.ensures) c.judge_input.result
    c.judge_input.ensures.verdict c.in_err-places.field-0.0 c.in_err-places.was)

pub write_records-requires : goal.write_records-requires
write_records-requires c =
    let a = c.args in (
      c.judge_input.ensures.places c.in_ok-places.places c.in_ok-places.was,
      room_held a.spec_cells.now a.spec.now a.call_cells.now a.call.now (sym c.if-not-has_room.ensures),
    )

pub returns : goal.returns
returns c =
    let a = c.args in
    reading_right a.input.now a.spec_cells.now a.spec.now a.call_cells.now a.call.now (sym c.if-not-has_room.ensures) c.judge_input.result
    c.judge_input.ensures.verdict c.in_ok-places.places c.in_ok-places.was c.write_records.ensures
