-- `prepared::write::default_for` meets its contract: code 3 and the others.
-- Assumes nothing.
use mathlib.Core.Path.{ap, ◌∙◌}
use Rattle.rules.specs.Value.{no_value}
use Rattle.cells.specs.Value.{pair_of}
use Rattle.prepared.proofs.LawsWritten.{default_3, default_none}
use Rattle.prepared.proofs.write.default_for.Goals as goal

pub returns-then-code-eq3 : goal.returns-then-code-eq3
returns-then-code-eq3 c = default_3 _ _ c.if-code-eq3.true

pub returns-else-code-eq3 : goal.returns-else-code-eq3
unfolding no_value
returns-else-code-eq3 c = ap pair_of c.new.ensures ∙ default_none _ _ c.if-code-eq3.false
