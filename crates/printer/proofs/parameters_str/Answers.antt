-- `printer::parameters_str` meets its contract: each answer by the questions that led to it. Assumes nothing.
use Rattle.std.proofs.lemmas.Result.{err_from_is_err_and}
use Rattle.printer.proofs.LawsAsked.{print_refused, print_short, list_ready, print_list}
use Rattle.printer.proofs.parameters_str.Goals as goal

pub returns-in_err-list : goal.returns-in_err-list
returns-in_err-list c =
    let r = c.args.«record».now in
    let p = err_from_is_err_and c.from_residual.result c.from_residual.ensures.1 in
    rw (p.1, p.2) (print_refused r.cells.now r.area.now c.args.out.now _ c.build.ensures _ c.in_err-list.was)

pub returns-then-out-lt-PRINTED : goal.returns-then-out-lt-PRINTED
returns-then-out-lt-PRINTED c =
    let r = c.args.«record».now in
    print_short r.cells.now r.area.now c.args.out.now _ c.build.ensures c.in_ok-list.list c.in_ok-list.was c.if-out-lt-PRINTED.true

pub write_list-requires : goal.write_list-requires
write_list-requires c =
    let r = c.args.«record».now in
    list_ready r.cells.now r.area.now c.args.out.now _ c.build.ensures c.in_ok-list.list c.in_ok-list.was c.if-out-lt-PRINTED.false

pub returns : goal.returns
returns c =
    let r = c.args.«record».now in
    print_list r.cells.now r.area.now c.args.out.now _ c.build.ensures c.in_ok-list.list c.in_ok-list.was c.if-out-lt-PRINTED.false
    c.write_list.new.out c.write_list.result c.write_list.ensures
