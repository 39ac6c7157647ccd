-- `prepared::check::is_named` meets its contract, from the answers to its two tests.
-- Assumes nothing.
use Rattle.prepared.specs.Rows.{param_at}
use Rattle.prepared.proofs.LawsRows.{row_at_cells, names_style, names_bytes}
use Rattle.prepared.proofs.check.is_named.Goals as goal

pub returns-then-may_be_named : goal.returns-then-may_be_named
unfolding param_at
returns-then-may_be_named c = rw row_at_cells (names_bytes _ _ _ c.may_be_named.ensures c.if-may_be_named.true c.bytes_at.ensures c.same.ensures)

pub returns-else-may_be_named : goal.returns-else-may_be_named
unfolding param_at
returns-else-may_be_named c = rw row_at_cells (names_style _ _ _ c.may_be_named.ensures c.if-may_be_named.false)
