-- `sheet_lines::word::is_def` meets its contract: it is the comparison that the definition names.
-- Assumes nothing.
use Rattle.rules.specs.SheetRows.{is_def}
use Rattle.sheet_lines.proofs.word.is_def.Goals as goal

pub returns : goal.returns
unfolding is_def
returns c = λ row e. rw e c.same.ensures
