-- `sheet_output::outcome::write_outcome` meets its contract: what the answer and the board show is the outcome's text. Assumes nothing.
use borrow.Author.Rules.{rules}
use Rattle.cells.proofs.LawsOut.{put_same}
use Rattle.sheet_output.proofs.LawsOutcome.{wrote_whole}
use Rattle.sheet_output.proofs.LawsReady.{outcome_shown_lem}
use Rattle.sheet_output.proofs.outcome.write_outcome.Goals as goal

pub returns : goal.returns
returns c =
    let a = c.args in
    λ qs P N asked before ready.
    put_same _ _ (outcome_shown_lem a.list.now.area.now a.call.now a.list.now a.board.now a.answer qs P N asked before ready)
    (wrote_whole c.new-output.ensures c.write_ending.ensures (search (rules, c.write_ending.ensures.same_reference, c.new-output.ensures.same_reference)))
