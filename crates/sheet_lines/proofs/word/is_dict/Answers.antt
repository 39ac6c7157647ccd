-- `sheet_lines::word::is_dict` meets its contract: it is the comparison that the definition names.
-- Assumes nothing.
use Rattle.rules.specs.SheetRows.{is_dict}
use Rattle.sheet_lines.proofs.word.is_dict.Goals as goal

pub returns : goal.returns
unfolding is_dict
returns c = c.same.ensures
