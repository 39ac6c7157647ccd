-- `sheet_values::print::write_whole` meets its contract. Assumes nothing.
use mathlib.Core.List.{◌∷◌}
use native.Mathlib.Omega.{arith}
use Rattle.rules.specs.SheetValue.{decimal, print_whole}
use Rattle.cells.proofs.LawsOut.{wrote_same}
use Rattle.sheet_values.proofs.LawsPrint.{whole_from_zero, whole_below_zero}
use Rattle.sheet_values.proofs.print.write_whole.Goals as goal

pub returns-then-payload-lt9223372036854775808 : goal.returns-then-payload-lt9223372036854775808
returns-then-payload-lt9223372036854775808 c =
    let p = c.args.payload in
    wrote_same (105 ∷ decimal p) (105 ∷ print_whole p) (whole_from_zero p c.if-payload-lt9223372036854775808.true) c.write_number.ensures

pub returns-else-payload-lt9223372036854775808 : goal.returns-else-payload-lt9223372036854775808
returns-else-payload-lt9223372036854775808 c =
    let p = c.args.payload in
    let r = c.wrapping_neg.result in
    wrote_same (105 ∷ 45 ∷ decimal r) (105 ∷ print_whole p)
    (whole_below_zero p r c.if-payload-lt9223372036854775808.false c.ranges.payload.fits (omega arith) c.wrapping_neg.ensures)
    c.write_number-else-payload-lt9223372036854775808.ensures
