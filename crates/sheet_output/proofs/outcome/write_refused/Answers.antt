-- `sheet_output::outcome::write_refused` meets its contract: the number and the name are those of the answer. Assumes nothing.
use mathlib.Core.Path.{ap, ap₂}
use native.Mathlib.Omega.{arith}
use lib.ListN.{length}
use Rattle.rules.specs.SheetOutput.{refusal_text}
use Rattle.cells.proofs.LawsOut.{wrote_same}
use Rattle.sheet_output.specs.Outcome.{refused_shown}
use Rattle.sheet_output.proofs.LawsOutcome.{name_length}
use Rattle.sheet_output.proofs.outcome.write_refused.Goals as goal

pub refuse-requires : goal.refuse-requires
refuse-requires c = let a = c.args in omega (arith, ap length c.name_of-name.ensures.bytes, name_length a.bound.now.spec.now a.bound.now.call.now a.refusal)

pub returns : goal.returns
unfolding refused_shown
returns c = wrote_same _ _ (ap₂ refusal_text c.number_of.ensures c.name_of-name.ensures.bytes) c.refuse.ensures
