-- `collector::collect::collect_inline` meets its contract: the values as they stand are the slots. Assumes nothing.
use Rattle.calls.specs.Head.{head_of}
use Rattle.collector.proofs.LawsEnds.{short_ends}
use Rattle.collector.proofs.collect.collect_inline.Goals as goal

pub returns : goal.returns
returns c =
    let a = c.args in
    λ qs call short.
    short_ends qs call a.call.now.cells.now (head_of a.call.now.head) short c.requires.few.few_p a.board.now _ c.requires.long c.copy_written.ensures
