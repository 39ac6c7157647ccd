-- `liuwdom::liuwdom_window` meets its contract: the answer of `window` is told and written.
-- Assumes nothing.
use Rattle.liuwdom.specs.Answer.{window_answer}
use Rattle.liuwdom.proofs.LawsAnswer.{says}
use Rattle.liuwdom.proofs.liuwdom_window.Goals as goal

pub returns : goal.returns
returns c = says window_answer c.window.ensures c.exceeded.ensures c.write.ensures
