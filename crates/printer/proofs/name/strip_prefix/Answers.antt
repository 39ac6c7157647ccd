-- `printer::name::strip_prefix` meets its contract: the library's method takes a prefix off where it is one. Assumes nothing.
use Rattle.printer.proofs.LawsName.{behind_prefix}
use Rattle.printer.proofs.name.strip_prefix.Goals as goal

pub returns : goal.returns
returns c = rw c.unwrap_or.ensures (behind_prefix c.args.prefix.now c.args.name c.strip_prefix.result c.strip_prefix.ensures.cases)
