-- `liuwdom::liuwdom_read_sheets` meets its contract: the answer of `read_sheets` is told and written.
-- Assumes nothing.
use Rattle.liuwdom.proofs.LawsAnswer.{reading_says}
use Rattle.liuwdom.proofs.liuwdom_read_sheets.Goals as goal

pub returns : goal.returns
returns c =
    let said = reading_says c.read_sheets.ensures c.sheets_read.ensures c.write.ensures in
    record { answer = said.0; parameters = said.1.0; spec = said.1.1.0; arguments = said.1.1.1.0; call = said.1.1.1.1 }
