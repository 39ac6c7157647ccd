-- `liuwdom::liuwdom_can_fill` meets its contract: the answer of `can_fill_with_args` is told and written.
-- Assumes nothing.
use Rattle.liuwdom.specs.Answer.{filling_answer}
use Rattle.liuwdom.proofs.LawsAnswer.{says}
use Rattle.liuwdom.proofs.liuwdom_can_fill.Goals as goal

pub returns : goal.returns
returns c = says filling_answer c.can_fill_with_args.ensures c.filled.ensures c.write.ensures
