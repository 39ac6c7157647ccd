-- `cells::value::read_default` meets its contract: it is `read_as` at its kind of text.
-- Assumes nothing.
use Rattle.rules.specs.Value.{well_formed_default, spec_text}
use Rattle.cells.specs.Value.{read_as, read_default}
use Rattle.cells.proofs.value.read_default.Goals as goal

pub returns : goal.returns
unfolding read_as read_default well_formed_default spec_text
returns c = c.read_as.ensures
