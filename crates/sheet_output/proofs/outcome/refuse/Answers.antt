-- `sheet_output::outcome::refuse` meets its contract: the detail behind the first two cells. Assumes nothing.
use Prim.Native.Nat.{◌+◌}
use native.Mathlib.Omega.{arith}
use lib.ListN.{length}
use Rattle.cells.proofs.LawsOut.{wrote_room}
use Rattle.sheet_output.proofs.LawsOutcome.{cells_length, refusal_wrote}
use Rattle.sheet_output.proofs.outcome.refuse.Goals as goal

pub text_cell-requires : goal.text_cell-requires
text_cell-requires c =
    omega (arith, wrote_room _ _ _ c.write_number.ensures (length c.args.detail.now + 1) (omega (arith, cells_length c.args.number)))

pub returns : goal.returns
returns c = refusal_wrote c.args.number c.args.detail.now (omega arith) c.write_number.ensures c.text_cell.ensures
