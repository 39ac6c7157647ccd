-- `liuwdom::answer::Told::write` meets its contract: the eight cells are stored as they are told, the name's payload as its start and length.
-- Assumes nothing.
use mathlib.Core.Path.{refl}
use Rattle.rules.specs.Text.{start_of, size_of}
use Rattle.liuwdom.proofs.answer.Told.write.Goals as goal

pub returns : goal.returns
unfolding start_of size_of
returns c = record { answer = refl; number = refl }
