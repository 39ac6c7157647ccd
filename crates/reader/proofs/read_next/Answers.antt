-- `reader::read_next` meets its contract: it is `read_once` with its answer for an empty slot.
-- Assumes nothing.
use mathlib.Core.Path.{◌∙◌}
use Rattle.rules.specs.Reader.{left_at}
use Rattle.reader.proofs.LawsSlot.{read_or_needed}
use Rattle.reader.proofs.read_next.Goals as goal

pub returns : goal.returns
returns c =
    let s = c.args in
    (c.read_once.ensures.0 ∙ read_or_needed (left_at s.slots.now s.at), c.read_once.ensures.1)
