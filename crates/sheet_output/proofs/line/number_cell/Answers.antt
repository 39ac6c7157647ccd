-- `sheet_output::line::number_cell` meets its contract: the end behind the number. Assumes nothing.
use native.Mathlib.Omega.{arith}
use Rattle.rules.proofs.LawsDigits.{decimal_length}
use Rattle.cells.proofs.LawsOut.{wrote_room, wrote_both}
use Rattle.sheet_output.proofs.line.number_cell.Goals as goal

pub write-requires : goal.write-requires
write-requires c = wrote_room _ _ _ c.write_decimal.ensures _ (omega (arith, decimal_length c.args.n))

pub returns : goal.returns
returns c = wrote_both _ _ _ c.write_decimal.ensures _ _ (omega (arith, decimal_length c.args.n)) c.write.ensures
