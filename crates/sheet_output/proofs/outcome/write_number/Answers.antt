-- `sheet_output::outcome::write_number` meets its contract: the number behind the word. Assumes nothing.
use native.Mathlib.Omega.{arith}
use mathlib.Core.List.{[], ◌∷◌}
use lib.ListN.{length-append}
use Rattle.rules.specs.SheetValue.{decimal}
use Rattle.rules.proofs.LawsDigits.{decimal_length}
use Rattle.cells.proofs.LawsOut.{wrote_room, wrote_both}
use Rattle.sheet_output.specs.Outcome.{refused_cells}
use Rattle.sheet_output.proofs.outcome.write_number.Goals as goal

pub number_cell-requires : goal.number_cell-requires
number_cell-requires c = omega (arith, wrote_room _ _ _ c.write.ensures 21 (omega arith))

pub returns : goal.returns
unfolding refused_cells
returns c =
    let n = c.args.number in
    wrote_both _ _ _ c.write.ensures _ _ (omega (arith, decimal_length n, length-append (decimal n) (44 ∷ []))) c.number_cell.ensures
