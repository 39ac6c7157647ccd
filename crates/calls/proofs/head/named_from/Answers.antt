-- `calls::head::named_from` meets its contract: the bounds of the counts, and the widths written out.
-- Assumes nothing.
use Rattle.rules.specs.Value.{value_width}
use Rattle.rules.specs.CallRecord.{head_width}
use mathlib.Core.Path.{refl}
use Rattle.calls.specs.Head.{named_from}
use Rattle.calls.proofs.head.named_from.Goals as goal

pub returns : goal.returns
unfolding named_from head_width value_width
returns c = refl
