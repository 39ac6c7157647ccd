-- `sheet_output::parts::write_name` meets its contract: three cells are a line. Assumes nothing.
use mathlib.Core.Path.{ap}
use native.Mathlib.Omega.{arith}
use mathlib.Core.List.{[], ◌∷◌, ◌++◌}
use lib.ListN.{length, length-append}
use Rattle.cells.specs.Value.{pair_of}
use Rattle.cells.proofs.LawsOut.{wrote_same, wrote_room}
use Rattle.sheet_output.specs.Line.{shown_name, shown_value}
use Rattle.sheet_output.specs.Parts.{named_line}
use Rattle.sheet_output.proofs.LawsLine.{wrote_line, shown_name_length, shown_value_length}
use Rattle.sheet_output.proofs.parts.write_name.Goals as goal

pub text_cell-requires : goal.text_cell-requires
text_cell-requires c =
    let short = shown_name_length c.args.bound.now.call.now c.args.key.payload in
    let name = ap length c.name_in.ensures in
    omega (arith, wrote_room _ _ _ c.write.ensures 506 (omega arith))

pub value_cell-requires : goal.value_cell-requires
value_cell-requires c =
    let short = shown_name_length c.args.bound.now.call.now c.args.key.payload in
    let name = ap length c.name_in.ensures in
    let cell = length-append c.name_in.result.now (44 ∷ []) in
    let behind = wrote_room _ _ _ c.write.ensures 506 (omega arith) in
    wrote_room _ _ _ c.text_cell.ensures _ (omega arith)

pub returns : goal.returns
unfolding named_line
returns c =
    let a = c.args in
    let b = a.bound.now in
    wrote_line (110 ∷ 97 ∷ 109 ∷ 101 ∷ 100 ∷ []) (shown_name b.call.now a.key.payload) (shown_value b.spec.now b.call.now (pair_of a.value)) a.output.now
    (omega (arith, shown_name_length b.call.now a.key.payload, shown_value_length b.spec.now b.call.now (pair_of a.value)))
    c.write.ensures (wrote_same _ _ (ap (λ l. l ++ (44 ∷ [])) c.name_in.ensures) c.text_cell.ensures) c.value_cell.ensures
