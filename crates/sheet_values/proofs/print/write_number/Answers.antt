-- `sheet_values::print::write_number` meets its contract. Assumes nothing.
use native.Mathlib.Omega.{arith}
use Rattle.rules.specs.SheetValue.{decimal}
use Rattle.rules.proofs.LawsDigits.{decimal_length}
use Rattle.cells.proofs.LawsOut.{wrote_room, wrote_both}
use Rattle.sheet_values.proofs.print.write_number.Goals as goal

pub write_decimal-requires : goal.write_decimal-requires
write_decimal-requires c =
    let a = c.args in
    wrote_room a.mark.now a.line.now c.write.new.self c.write.ensures 20 c.requires

pub returns : goal.returns
returns c =
    let a = c.args in
    wrote_both a.mark.now a.line.now c.write.new.self c.write.ensures (decimal a.n) c.write_decimal.new.line (omega (arith, c.requires, decimal_length a.n)) c.write_decimal.ensures
