-- `liuwdom::liuwdom_prepare` meets its contract: the answer of `prepare` is told and written.
-- Assumes nothing.
use Rattle.liuwdom.specs.Answer.{preparation_answer, preparing_answer, preparing_left}
use Rattle.liuwdom.proofs.LawsAnswer.{says}
use Rattle.liuwdom.proofs.liuwdom_prepare.Goals as goal

pub returns : goal.returns
unfolding preparing_answer preparing_left
returns c =
    let did = c.prepare.ensures in
    record { answer = says preparation_answer did.answer c.prepared.ensures c.write.ensures; output = did.cells }
