-- `prepared::row::key_of` meets its contract: it is the key of the name's bytes.
-- Assumes nothing.
use mathlib.Core.Path.{ap, ◌∙◌}
use Rattle.rules.specs.Text.{bytes_at, start_of, size_of}
use Rattle.cells.specs.Text.{key_of}
use Rattle.prepared.proofs.row.key_of.Goals as goal

pub returns-then-start-area : goal.returns-then-start-area
unfolding bytes_at start_of size_of
returns-then-start-area c = c.first_key.ensures

pub returns : goal.returns
returns c = c.key_of.ensures ∙ ap key_of c.bytes_at.ensures
