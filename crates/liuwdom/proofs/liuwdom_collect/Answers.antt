-- `liuwdom::liuwdom_collect` meets its contract: the answer of `collect` is told and written.
-- Assumes nothing.
use Rattle.liuwdom.proofs.LawsAnswer.{ends_says}
use Rattle.liuwdom.proofs.liuwdom_collect.Goals as goal

pub returns : goal.returns
returns c =
    let said = ends_says c.collect.ensures c.collected.ensures c.write.ensures in
    record { answer = said.0; board = said.1 }
