-- `liuwdom::liuwdom_read_next_opt` meets its contract: the answer of `read_next_opt` and the position after it are told and written.
-- Assumes nothing.
use Rattle.liuwdom.proofs.LawsAnswer.{read_says}
use Rattle.liuwdom.proofs.liuwdom_read_next_opt.Goals as goal

pub returns : goal.returns
returns c =
    let did = c.read_next_opt-reading.ensures in
    read_says did.0 did.1 c.read.ensures c.write.ensures
