use native.Mathlib.Omega.{arith}
use Rattle.sheet_output.specs.Parts.{slot_line_at}
use Rattle.sheet_output.proofs.LawsParts.{lines_none, lines_room, lines_more, slot_short}
use Rattle.sheet_output.proofs.parts.write_slots.Goals as goal

pub loop-i-init : goal.loop-i-init
loop-i-init c =
    let a = c.args in
    let b = a.bound.now in
    lines_none (slot_line_at b.spec.now b.call.now a.params.now b.board.now) a.output.now (omega (arith, c.requires.1))

pub write_slot-requires : goal.write_slot-requires
write_slot-requires c =
    let a = c.args in
    let b = a.bound.now in
    let l = c.loop-i in (
      omega (arith, c.requires.0, c.loop-i-test.true),
      lines_room (slot_line_at b.spec.now b.call.now a.params.now b.board.now) 152 (slot_short b.spec.now b.call.now a.params.now b.board.now) l.i 512 a.output.now l.output
          (omega (arith, c.requires.1, c.loop-i-test.true)) l.invariant,
    )

pub loop-i-preserved : goal.loop-i-preserved
loop-i-preserved c =
    let a = c.args in
    let b = a.bound.now in
    let l = c.loop-i in
    lines_more (slot_line_at b.spec.now b.call.now a.params.now b.board.now) 152 (slot_short b.spec.now b.call.now a.params.now b.board.now) l.i a.output.now l.output _
    (omega (arith, c.requires.1, c.loop-i-test.true)) l.invariant c.write_slot.ensures
