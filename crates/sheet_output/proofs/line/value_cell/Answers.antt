-- `sheet_output::line::value_cell` meets its contract: the line's end behind the value. Assumes nothing.
use native.Mathlib.Omega.{arith}
use Rattle.cells.specs.Value.{pair_of}
use Rattle.cells.proofs.LawsOut.{wrote_room, wrote_both}
use Rattle.sheet_output.proofs.LawsLine.{shown_value_length}
use Rattle.sheet_output.proofs.line.value_cell.Goals as goal

pub write-requires : goal.write-requires
write-requires c =
    let b = c.args.bound.now in
    wrote_room _ _ _ c.write_shown.ensures _ (omega (arith, shown_value_length b.spec.now b.call.now (pair_of c.args.pair)))

pub returns : goal.returns
returns c =
    let b = c.args.bound.now in
    wrote_both _ _ _ c.write_shown.ensures _ _ (omega (arith, shown_value_length b.spec.now b.call.now (pair_of c.args.pair))) c.write.ensures
