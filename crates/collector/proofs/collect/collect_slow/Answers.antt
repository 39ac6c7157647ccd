-- `collector::collect::collect_slow` meets its contract: what 15 to 24 refuse is handed on, and otherwise the board is written. Assumes nothing.
use mathlib.Core.Path.{refl}
use Rattle.rules.specs.Collection.{call_of}
use Rattle.calls.specs.Head.{head_of}
use Rattle.collector.proofs.LawsEnds.{board_ready, slow_ends}
use Rattle.collector.proofs.collect.collect_slow.Goals as goal

pub write_board-requires : goal.write_board-requires
write_board-requires c =
    let a = c.args in
    let call = a.call.now in
    let r = c.judge.new.resolved in
    board_ready a.list.now.area.now a.list.now call.cells.now call.area.now (head_of call.head) a.resolved.now.next (call_of call.cells.now call.area.now) c.requires.call r.sources r.rest r.count
    (c.in_ok-judge.ensures.judged.resolved r.count refl) a.board.now c.requires.long

pub returns : goal.returns
returns c =
    let a = c.args in
    let call = a.call.now in
    let r = c.judge.new.resolved in
    let passed = c.in_ok-judge.ensures.judged in
    let written = rw c.judge.ensures.next at c.write_board.ensures in
    slow_ends a.list.now.area.now a.list.now call.cells.now call.area.now (head_of call.head) a.resolved.now.next (call_of call.cells.now call.area.now) c.requires.call r.sources r.rest r.count
    (passed.resolved r.count refl) a.board.now _ c.write_board.result c.requires.long passed.answer written
