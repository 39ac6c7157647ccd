-- `sheet_values::print::write_decimal` meets its contract: what the kit spells is the shortest decimal. Assumes nothing.
use mathlib.Core.Path.{ap}
use native.Mathlib.Omega.{arith}
use lib.ListN.{length, take}
use Rattle.rules.specs.SheetValue.{decimal}
use Rattle.rules.proofs.LawsDigits.{decimal_length}
use Rattle.cells.proofs.LawsOut.{wrote_same}
use Rattle.sheet_values.proofs.LawsPrint.{spelled_decimal}
use Rattle.sheet_values.proofs.print.write_decimal.Goals as goal

pub returns : goal.returns
returns c =
    let n = c.args.n in
    let k = c.decimal-count.result in
    let held = c.decimal-count.new.out in
    wrote_same (take k held) (decimal n) (spelled_decimal n k c.ranges.n.fits c.decimal-count.ensures.len held c.decimal-count.ensures.digits) c.write.ensures
