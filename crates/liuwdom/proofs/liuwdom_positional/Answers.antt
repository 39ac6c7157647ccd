-- `liuwdom::liuwdom_positional` meets its contract: the answer of `positional` is told and written.
-- Assumes nothing.
use Rattle.liuwdom.proofs.LawsAnswer.{accessing_says}
use Rattle.liuwdom.proofs.liuwdom_positional.Goals as goal

pub returns : goal.returns
returns c =
    let said = accessing_says c.positional.ensures c.accessed.ensures c.write.ensures in
    record { answer = said.0; output = said.1 }
