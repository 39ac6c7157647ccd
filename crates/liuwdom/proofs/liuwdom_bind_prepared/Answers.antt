-- `liuwdom::liuwdom_bind_prepared` meets its contract: the answer of `bind_prepared` is told and written.
-- Assumes nothing.
use Rattle.liuwdom.proofs.LawsAnswer.{bound_says}
use Rattle.liuwdom.proofs.liuwdom_bind_prepared.Goals as goal

pub returns : goal.returns
returns c =
    let said = bound_says c.bind_prepared.ensures c.prepared_bound.ensures c.write.ensures in
    record { answer = said.0; board = said.1 }
