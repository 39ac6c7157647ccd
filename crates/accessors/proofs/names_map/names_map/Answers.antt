-- `accessors::names_map::names_map` meets its contract: each question as it is answered, and then N is written.
-- Assumes nothing.
use mathlib.Core.Path.{sym}
use native.Mathlib.Omega.{arith}
use Rattle.std.proofs.lemmas.Result.{err_from_is_err_and}
use Rattle.accessors.proofs.LawsAccess.{writing_call}
use Rattle.accessors.proofs.LawsNames.{entries_formed, names_inside, names_few, names_refused, names_double, names_entries, writing_texts, writing_room, names_written}
use Rattle.accessors.proofs.names_map.names_map.Goals as goal

pub returns-in_err-ask_writing : goal.returns-in_err-ask_writing
returns-in_err-ask_writing c =
    let p = err_from_is_err_and c.from_residual.result c.from_residual.ensures.1 in
    rw (p.1, p.2) (names_refused _ _ _ _ (sym c.in_err-ask_writing.ensures))

pub returns-then-h-eq2 : goal.returns-then-h-eq2
returns-then-h-eq2 c =
    names_double _ _ _ _ c.new-call.ensures.head (sym c.in_ok-ask_writing.ensures) c.if-h-eq2.true

pub ask_entries-requires : goal.ask_entries-requires
ask_entries-requires c =
    let p = writing_call _ _ _ (sym c.in_ok-ask_writing.ensures) in
    rw (c.new-call.ensures.cells, c.new-call.ensures.area) (entries_formed _ _ _ c.new-call.ensures.head p, names_inside _ _ _ c.new-call.ensures.head p)

pub returns-in_err-ask_entries : goal.returns-in_err-ask_entries
returns-in_err-ask_entries c =
    let p = err_from_is_err_and c.from_residual-in_err-ask_entries.result c.from_residual-in_err-ask_entries.ensures.1 in
    let q = rw (c.new-call.ensures.cells, c.new-call.ensures.area) at c.in_err-ask_entries.ensures in
    rw (p.1, p.2) (names_entries _ _ _ _ c.new-call.ensures.head (sym c.in_ok-ask_writing.ensures) c.if-h-eq2.false _ q)

pub overflow_add-count : goal.overflow_add-count
overflow_add-count c =
    omega (arith, names_few _ _ _ c.new-call.ensures.head (writing_call _ _ _ (sym c.in_ok-ask_writing.ensures)))

pub write_named-requires : goal.write_named-requires
write_named-requires c =
    let q = rw (c.new-call.ensures.cells, c.new-call.ensures.area) at c.in_ok-ask_entries.ensures in
    rw c.new-call.ensures.cells
    (writing_texts _ _ _ _ c.new-call.ensures.head (sym c.in_ok-ask_writing.ensures) c.if-h-eq2.false q, writing_room _ _ _ _ c.new-call.ensures.head (sym c.in_ok-ask_writing.ensures) c.if-h-eq2.false q)

pub returns : goal.returns
returns c =
    let q = rw (c.new-call.ensures.cells, c.new-call.ensures.area) at c.in_ok-ask_entries.ensures in
    let w = rw c.new-call.ensures.cells at (c.write_named.ensures c.args.record.now.area.now) in
    names_written _ _ _ _ c.new-call.ensures.head (sym c.in_ok-ask_writing.ensures) c.if-h-eq2.false q _ w
