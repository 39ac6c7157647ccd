-- `liuwdom::liuwdom_positions` meets its contract: the answer of `positions` is told and written.
-- Assumes nothing.
use Rattle.liuwdom.proofs.LawsAnswer.{accessing_says}
use Rattle.liuwdom.proofs.liuwdom_positions.Goals as goal

pub returns : goal.returns
returns c =
    let said = accessing_says c.positions.ensures c.accessed.ensures c.write.ensures in
    record { answer = said.0; output = said.1 }
