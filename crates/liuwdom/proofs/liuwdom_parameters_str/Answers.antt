-- `liuwdom::liuwdom_parameters_str` meets its contract: the answer of `parameters_str` is told and written.
-- Assumes nothing.
use Rattle.liuwdom.specs.Answer.{access_answer}
use Rattle.liuwdom.proofs.LawsAnswer.{says}
use Rattle.liuwdom.proofs.liuwdom_parameters_str.Goals as goal

pub returns : goal.returns
returns c =
    let did = c.parameters_str.ensures in
    record { answer = says access_answer did.answer c.printed.ensures c.write.ensures; output = did.held }
