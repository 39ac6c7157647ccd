-- `prepared::row::Row::slot` meets its contract: the key of at most eight bytes is that of the last ones.
-- Assumes nothing.
use mathlib.Core.Path.{ap, ◌∙◌}
use Prim.Native.Nat.{◌%◌}
use Rattle.rules.specs.Text.{bytes_at}
use Rattle.cells.proofs.LawsWord.{last_few, bytes_few}
use Rattle.prepared.proofs.row.Row.slot.Goals as goal

pub returns-then-self-le8 : goal.returns-then-self-le8
returns-then-self-le8 c =
    let area = c.args.area.now in
    let name = c.args.self.step.name in
    ap (λ n. n % 929) (c.requires.1 ∙ last_few (bytes_at area name) (bytes_few area name c.if-self-le8.true))
