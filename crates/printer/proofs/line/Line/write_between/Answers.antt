-- `printer::line::Line::write_between` meets its contract. Assumes nothing.
use mathlib.Core.Path.{sym, ap}
use lib.ListN.{length}
use native.Mathlib.Omega.{arith}
use Rattle.rules.specs.Printed.{comma}
use Rattle.printer.specs.Line.{cursor_of, between}
use Rattle.cells.proofs.LawsOut.{wrote_same, wrote_none}
use Rattle.printer.proofs.line.Line.write_between.Goals as goal

pub write-requires : goal.write-requires
unfolding comma
write-requires c = omega (arith, c.requires, ap (λ b. length (between b)) c.if-self.true)

pub returns-then-self-clause-wrote : goal.returns-then-self-clause-wrote
unfolding comma
returns-then-self-clause-wrote c = wrote_same comma (between c.args.self.now.begun) (ap between (sym c.if-self.true)) c.write.ensures.wrote

pub returns-else-self-clause-wrote : goal.returns-else-self-clause-wrote
returns-else-self-clause-wrote c = wrote_none (between c.args.self.now.begun) (cursor_of c.args.self.now) (ap between c.if-self.false) c.requires
