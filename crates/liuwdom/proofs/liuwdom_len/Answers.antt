-- `liuwdom::liuwdom_len` meets its contract: the answer of `len` is told and written.
-- Assumes nothing.
use Rattle.liuwdom.specs.Answer.{access_answer}
use Rattle.liuwdom.proofs.LawsAnswer.{says}
use Rattle.liuwdom.proofs.liuwdom_len.Goals as goal

pub returns : goal.returns
returns c = says access_answer c.len.ensures.answer c.accessed.ensures c.write.ensures
