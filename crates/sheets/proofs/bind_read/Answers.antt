-- `sheets::bind_read` meets its contract: there is room, so the text of what was read is in front of the output, and it is that of the input.
-- Assumes nothing.
use mathlib.Core.Path.{sym}
use lib.Seq.{length-take-le}
use Rattle.sheets.proofs.LawsBind.{binding_some, binding_within, read_text}
use Rattle.sheets.proofs.bind_read.Goals as goal

pub unwrap-len-requires : goal.unwrap-len-requires
unwrap-len-requires c = binding_some _ _ c.requires.output _ c.bind.result c.bind.ensures

pub slice_bounds-result-end : goal.slice_bounds-result-end
slice_bounds-result-end c =
    sym (length-take-le _ _ (binding_within _ _ c.requires.output _ c.unwrap-len.result (rw c.unwrap-len.ensures at c.bind.ensures)))

pub returns : goal.returns
returns c =
    let a = c.args in
    read_text a.buffer.now a.n a.out.now c.requires c.bind.new.out c.unwrap-len.result (rw c.unwrap-len.ensures at c.bind.ensures)
