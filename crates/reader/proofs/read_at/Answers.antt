-- `reader::read_at` meets its contract, by the laws of a read at a position.
-- Assumes nothing.
use mathlib.Core.Path.{ap, ◌∙◌}
use Rattle.rules.specs.Reader.{holds}
use Rattle.cells.specs.Value.{pair_of}
use Rattle.reader.specs.Parser.{read_of}
use Rattle.reader.proofs.LawsSlot.{none_read, empty_read, filled_read}
use Rattle.reader.proofs.read_at.Goals as goal

pub returns-then-slots-at : goal.returns-then-slots-at
returns-then-slots-at c =
    let s = c.args in
    none_read s.cells.now s.at (read_of s.empty) c.if-slots-at.true

pub returns-then-kind-eq0 : goal.returns-then-kind-eq0
returns-then-kind-eq0 c =
    let s = c.args in
    empty_read s.cells.now s.at (read_of s.empty) c.if-slots-at.false c.if-kind-eq0.true

pub returns : goal.returns
returns c =
    let s = c.args in
    let (answer, position) = filled_read s.cells.now s.at (read_of s.empty) c.if-slots-at.false c.if-kind-eq0.false in
    (ap (λ p. holds (pair_of p)) c.new.ensures ∙ answer, position)
