-- `cells::text::Text::payload` meets its contract: the sum fits, and is what the payload is.
-- Assumes nothing.
use mathlib.Core.Path.{refl}
use Rattle.rules.specs.Text.{payload_of}
use Rattle.cells.proofs.text.Text.payload.Goals as goal

pub returns : goal.returns
unfolding payload_of
returns c = refl
