-- `liuwdom::liuwdom_no_named_args` meets its contract: the answer of `no_named_args` is told and written.
-- Assumes nothing.
use Rattle.liuwdom.specs.Answer.{access_answer}
use Rattle.liuwdom.proofs.LawsAnswer.{says}
use Rattle.liuwdom.proofs.liuwdom_no_named_args.Goals as goal

pub returns : goal.returns
returns c = says access_answer c.no_named_args.ensures.answer c.accessed.ensures c.write.ensures
