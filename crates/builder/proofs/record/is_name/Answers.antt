-- `builder::record::is_name` meets its contract: reading answers a text where the test holds.
-- Assumes nothing.
use Rattle.cells.specs.Text.{read_text}
use Rattle.builder.proofs.LawsRecord.{some_where}
use Rattle.builder.proofs.record.is_name.Goals as goal

pub returns : goal.returns
unfolding read_text
returns c = rw (c.is_some.ensures, c.read_text.ensures, some_where)
