-- `prepared::write::row_for` meets its contract, cell by cell.
-- Assumes nothing.
use mathlib.Core.Path.{ap, ◌∙◌}
use lib.ListN.{get_or}
use Rattle.cells.specs.Value.{pair_of}
use Rattle.builder.specs.Params.{step_of, parameter_at}
use Rattle.prepared.specs.Rows.{row_in}
use Rattle.prepared.specs.Written.{default_as}
use Rattle.prepared.proofs.LawsWritten.{row_for}
use Rattle.prepared.proofs.write.row_for.Goals as goal

pub returns : goal.returns
unfolding row_in step_of parameter_at
returns c =
    let a = c.args in
    let p = a.list.now.params in
    row_for a.list.now.area.now (get_or p.codes a.i 0) (get_or p.styles a.i 0) (get_or p.names a.i 0) _ _ _ _ _ c.code_for.ensures c.style_for.ensures
    (c.default_for-held.ensures ∙ ap (λ v. default_as (get_or p.codes a.i 0) (pair_of v)) c.new.ensures) c.key_of.ensures
