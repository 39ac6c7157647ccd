-- `sheet_output::outcome::write_refusal` meets its contract: the refusal is the whole of what is written. Assumes nothing.
use borrow.Author.Rules.{rules}
use Rattle.sheet_output.proofs.LawsOutcome.{wrote_whole}
use Rattle.sheet_output.proofs.outcome.write_refusal.Goals as goal

pub returns : goal.returns
returns c =
    wrote_whole c.new-output.ensures c.refuse.ensures (search (rules, c.refuse.ensures.same_reference, c.new-output.ensures.same_reference))
