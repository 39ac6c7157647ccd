-- `sheet_judge::row::is_value` meets its contract: by what reading the cell answered.
-- Assumes nothing.
use mathlib.Core.Path.{◌∙◌}
use Rattle.sheet_judge.proofs.LawsCell.{value_read}
use Rattle.sheet_judge.proofs.row.is_value.Goals as goal

pub returns : goal.returns
returns c = c.is_some.ensures ∙ value_read _ c.read_cell.result c.read_cell.ensures
