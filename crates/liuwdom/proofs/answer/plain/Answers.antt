-- `liuwdom::answer::plain` meets its contract: no name stands at byte 0 and has no byte.
-- Assumes nothing.
use mathlib.Core.Path.{refl}
use Rattle.rules.specs.Text.{start_of, size_of}
use Rattle.liuwdom.proofs.answer.plain.Goals as goal

pub returns : goal.returns
unfolding start_of size_of
returns c = refl
