-- `prepared::write::style_for` meets its contract, by the last style's number.
-- Assumes nothing.
use mathlib.Core.Path.{◌∙◌}
use Rattle.prepared.proofs.LawsWritten.{least_style}
use Rattle.prepared.proofs.write.style_for.Goals as goal

pub returns : goal.returns
returns c = c.min.ensures ∙ least_style c.args.style
