-- `calls::values::copy_written` meets its contract: the written values' cells are those behind the head. Assumes nothing.
use mathlib.Core.Path.{sym, ap, ◌∙◌}
use Rattle.cells.specs.Out.{stored}
use Rattle.calls.specs.Head.{head_of}
use Rattle.calls.proofs.LawsWritten.{written_cells}
use Rattle.calls.proofs.values.copy_written.Goals as goal

pub returns : goal.returns
returns c =
    let a = c.args in
    c.copy_values.ensures ∙ ap (stored a.board.now 0) (sym (written_cells a.call.now.cells.now (head_of a.call.now.head) c.requires.0 c.requires.1))
