-- `cells::record::key_at` meets its contract: what reading ensures, at the two cells that `pair_at` ensures.
-- Assumes nothing.
use mathlib.Core.Path.{ap, ◌∙◌}
use Rattle.rules.specs.Value as rules
use Rattle.cells.specs.Record.{key_at}
use Rattle.cells.specs.Value.{read_key}
use Rattle.cells.proofs.record.key_at.Goals as goal

pub returns : goal.returns
unfolding key_at
returns c =
    c.read_key.ensures ∙ ap (λ (v : rules.Value). read_key c.args.area.now v.kind v.payload) c.pair_at-pair.ensures
