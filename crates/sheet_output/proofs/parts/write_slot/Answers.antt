-- `sheet_output::parts::write_slot` meets its contract: three cells are a line. Assumes nothing.
use mathlib.Core.Path.{ap}
use Prim.Native.Nat.{◌*◌}
use native.Mathlib.Omega.{arith}
use mathlib.Core.List.{[], ◌∷◌, ◌++◌}
use lib.ListN.{get_or, length-append}
use Rattle.rules.specs.SheetValue.{decimal}
use Rattle.rules.proofs.LawsDigits.{decimal_length}
use Rattle.cells.specs.Record.{pair_at}
use Rattle.cells.proofs.LawsOut.{wrote_same, wrote_room}
use Rattle.sheet_output.specs.Line.{shown_name, name_for, shown_for}
use Rattle.sheet_output.specs.Parts.{slot_line, slot_line_at}
use Rattle.sheet_output.proofs.LawsLine.{wrote_line, shown_name_length, name_for_length, shown_for_length}
use Rattle.sheet_output.proofs.parts.write_slot.Goals as goal

pub name_cell-requires : goal.name_cell-requires
name_cell-requires c =
    let number = length-append (decimal c.args.i) (44 ∷ []) in
    wrote_room _ _ _ c.number_cell.ensures _ (omega (arith, decimal_length c.args.i))

pub held_cell-requires : goal.held_cell-requires
held_cell-requires c =
    let a = c.args in
    let code = get_or a.params.now.codes a.i 0 in
    let payload = get_or a.params.now.names a.i 0 in
    let bytes = shown_name a.bound.now.spec.now payload in
    let number = length-append (decimal a.i) (44 ∷ []) in
    let name = length-append (name_for code bytes) (44 ∷ []) in
    let short = name_for_length code bytes (shown_name_length a.bound.now.spec.now payload) in
    let behind = wrote_room _ _ _ c.number_cell.ensures 322 (omega (arith, decimal_length a.i)) in
    wrote_room _ _ _ c.name_cell.ensures _ (omega arith)

pub returns : goal.returns
unfolding slot_line slot_line_at
returns c =
    let a = c.args in
    let b = a.bound.now in
    let code = get_or a.params.now.codes a.i 0 in
    let name = get_or a.params.now.names a.i 0 in
    let v = pair_at b.board.now (2 * a.i) in
    let bytes = shown_name b.spec.now name in
    wrote_line (decimal a.i) (name_for code bytes) (shown_for b.spec.now b.call.now code v) a.output.now
    (omega (
      arith,
      c.requires.1,
      decimal_length a.i,
      name_for_length code bytes (shown_name_length b.spec.now name),
      shown_for_length b.spec.now b.call.now code v,
    ))
    c.number_cell.ensures c.name_cell.ensures
    (wrote_same _ _ (ap (λ v. shown_for b.spec.now b.call.now code v ++ (10 ∷ [])) c.pair_at.ensures) c.held_cell.ensures)
