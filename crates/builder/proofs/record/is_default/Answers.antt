-- `builder::record::is_default` meets its contract: reading answers a value where the test holds.
-- Assumes nothing.
use Rattle.cells.specs.Value.{read_default}
use Rattle.builder.proofs.LawsRecord.{some_where}
use Rattle.builder.proofs.record.is_default.Goals as goal

pub returns : goal.returns
unfolding read_default
returns c = rw (c.is_some.ensures, c.read_default.ensures, some_where)
