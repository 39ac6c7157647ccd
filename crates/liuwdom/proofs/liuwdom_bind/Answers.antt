-- `liuwdom::liuwdom_bind` meets its contract: the answer of `bind` is told and written.
-- Assumes nothing.
use Rattle.liuwdom.specs.Answer.{bound_answer}
use Rattle.liuwdom.proofs.LawsAnswer.{says}
use Rattle.liuwdom.proofs.liuwdom_bind.Goals as goal

pub returns : goal.returns
returns c =
    let did = c.bind.ensures in
    record { answer = says bound_answer did.answer c.bound.ensures c.write.ensures; output = did.output }
