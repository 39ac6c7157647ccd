-- `cells::record::pair_at` meets its contract, by the laws of the two cells at an index.
-- Assumes nothing.
use mathlib.Core.Path.{sym, ap, ◌∙◌}
use lib.ListN.{get_or}
use Rattle.cells.specs.Value.{pair, pair_of}
use Rattle.cells.proofs.LawsRecord.{pair_at_is, pair_at_past}
use Rattle.cells.proofs.record.pair_at.Goals as goal

pub returns-then-at-cells : goal.returns-then-at-cells
returns-then-at-cells c =
    let s = c.args in
    ap pair_of (c.new.ensures ∙ ap (pair (get_or s.cells.now s.at 0)) c.cell.ensures) ∙ sym (pair_at_is s.cells.now s.at)

pub returns : goal.returns
returns c =
    let s = c.args in
    ap pair_of c.new-2.ensures ∙ sym (pair_at_past s.cells.now s.at c.if-at-cells.false)
