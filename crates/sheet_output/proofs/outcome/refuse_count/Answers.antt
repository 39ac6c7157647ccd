-- `sheet_output::outcome::refuse_count` meets its contract: the number behind the first two cells. Assumes nothing.
use native.Mathlib.Omega.{arith}
use Rattle.rules.specs.SheetValue.{decimal}
use Rattle.rules.proofs.LawsDigits.{decimal_length}
use Rattle.cells.proofs.LawsOut.{wrote_room}
use Rattle.sheet_output.proofs.LawsOutcome.{cells_length, refusal_wrote}
use Rattle.sheet_output.proofs.outcome.refuse_count.Goals as goal

pub number_cell-requires : goal.number_cell-requires
number_cell-requires c = omega (arith, wrote_room _ _ _ c.write_number.ensures 21 (omega (arith, cells_length c.args.number)))

pub returns : goal.returns
returns c = refusal_wrote c.args.number (decimal c.args.n) (omega (arith, decimal_length c.args.n)) c.write_number.ensures c.number_cell.ensures
