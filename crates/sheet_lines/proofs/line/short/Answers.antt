-- `sheet_lines::line::short` meets its contract: it is the test that the definition names.
-- Assumes nothing.
use mathlib.Core.Path.{refl}
use Rattle.sheet_lines.proofs.line.short.Goals as goal

pub returns : goal.returns
returns c = refl
