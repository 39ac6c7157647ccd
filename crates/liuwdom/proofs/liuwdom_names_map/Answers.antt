-- `liuwdom::liuwdom_names_map` meets its contract: the answer of `names_map` is told and written.
-- Assumes nothing.
use Rattle.liuwdom.proofs.LawsAnswer.{accessing_says}
use Rattle.liuwdom.proofs.liuwdom_names_map.Goals as goal

pub returns : goal.returns
returns c =
    let said = accessing_says c.names_map.ensures c.accessed.ensures c.write.ensures in
    record { answer = said.0; output = said.1 }
