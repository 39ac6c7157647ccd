-- `sheet_lines::word::is_list` meets its contract: it is the comparison that the definition names.
-- Assumes nothing.
use Rattle.rules.specs.SheetRows.{is_list}
use Rattle.sheet_lines.proofs.word.is_list.Goals as goal

pub returns : goal.returns
unfolding is_list
returns c = c.same.ensures
