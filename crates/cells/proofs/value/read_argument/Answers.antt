-- `cells::value::read_argument` meets its contract: it is `read_as` at its kind of text.
-- Assumes nothing.
use Rattle.rules.specs.Value.{well_formed_argument, call_text}
use Rattle.cells.specs.Value.{read_as, read_argument}
use Rattle.cells.proofs.value.read_argument.Goals as goal

pub returns : goal.returns
unfolding read_as read_argument well_formed_argument call_text
returns c = c.read_as.ensures
