-- `sheet_lines::word::is_other` meets its contract: it is the comparison that the definition names.
-- Assumes nothing.
use Rattle.rules.specs.SheetRows.{is_other}
use Rattle.sheet_lines.proofs.word.is_other.Goals as goal

pub returns : goal.returns
unfolding is_other
returns c = c.same.ensures
