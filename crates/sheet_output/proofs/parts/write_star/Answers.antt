-- `sheet_output::parts::write_star` meets its contract: the literal and the value are a line. Assumes nothing.
use native.Mathlib.Omega.{arith}
use mathlib.Core.List.{[], ◌∷◌}
use lib.ListN.{length-append}
use Rattle.rules.specs.SheetOutput.{line}
use Rattle.cells.specs.Value.{pair_of}
use Rattle.sheet_output.specs.Line.{shown_value}
use Rattle.sheet_output.specs.Parts.{star_line}
use Rattle.cells.proofs.LawsOut.{wrote_room, wrote_both}
use Rattle.sheet_output.proofs.LawsLine.{shown_value_length}
use Rattle.sheet_output.proofs.parts.write_star.Goals as goal

pub value_cell-requires : goal.value_cell-requires
value_cell-requires c = wrote_room _ _ _ c.write.ensures _ (omega arith)

pub returns : goal.returns
unfolding star_line line
returns c =
    let b = c.args.bound.now in
    let shown = shown_value b.spec.now b.call.now (pair_of c.args.value) in
    wrote_both _ _ _ c.write.ensures _ _ (omega (arith, shown_value_length b.spec.now b.call.now (pair_of c.args.value), length-append shown (10 ∷ []))) c.value_cell.ensures
