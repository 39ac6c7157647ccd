-- `printer::line::Line::write_mark` meets its contract: the mark by the range in which the code lies. Assumes nothing.
use mathlib.Core.Path.{sym, ap}
use lib.ListN.{length}
use native.Mathlib.Omega.{arith}
use Rattle.printer.specs.Line.{cursor_of, mark_for}
use Rattle.cells.proofs.LawsOut.{wrote_same, wrote_none}
use Rattle.printer.proofs.LawsItems.{mark_left_out, mark_below, mark_above}
use Rattle.printer.proofs.line.Line.write_mark.Goals as goal

pub write-requires : goal.write-requires
write-requires c = omega (arith, c.requires, ap length (mark_left_out c.args.code (omega arith) (omega arith)))

pub returns-in-2-to-3-clause-wrote : goal.returns-in-2-to-3-clause-wrote
returns-in-2-to-3-clause-wrote c = wrote_same _ (mark_for c.args.code) (sym (mark_left_out c.args.code (omega arith) (omega arith))) c.write.ensures.wrote

pub returns-then-code-lt2-clause-wrote : goal.returns-then-code-lt2-clause-wrote
returns-then-code-lt2-clause-wrote c = wrote_none (mark_for c.args.code) (cursor_of c.args.self.now) (mark_below c.args.code (omega arith)) c.requires

pub returns-else-code-lt4-clause-wrote : goal.returns-else-code-lt4-clause-wrote
returns-else-code-lt4-clause-wrote c = wrote_none (mark_for c.args.code) (cursor_of c.args.self.now) (mark_above c.args.code (omega arith)) c.requires
