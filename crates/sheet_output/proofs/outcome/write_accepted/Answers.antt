-- `sheet_output::outcome::write_accepted` meets its contract: the parts stand behind each other. Assumes nothing.
use native.Mathlib.Omega.{arith}
use Rattle.rules.specs.SheetOutput.{line}
use Rattle.cells.proofs.LawsOut.{wrote_room}
use Rattle.sheet_output.specs.Outcome.{heading}
use Rattle.sheet_output.proofs.LawsOutcome.{behind_slots, accepted_wrote}
use Rattle.sheet_output.proofs.outcome.write_accepted.Goals as goal

pub overflow_mul-from : goal.overflow_mul-from
overflow_mul-from c = omega (arith, c.requires.0.slots)

pub overflow_mul-named : goal.overflow_mul-named
overflow_mul-named c = omega (arith, c.requires.0.star)

pub overflow_add-named : goal.overflow_add-named
overflow_add-named c = omega (arith, c.requires.0.slots, c.requires.0.star)

pub write_slots-requires : goal.write_slots-requires
write_slots-requires c = (c.requires.0.slots, omega (arith, c.requires.0.slots, wrote_room _ _ _ c.write.ensures 40944 (omega (arith, c.requires.1))))

pub write_remainders-requires : goal.write_remainders-requires
unfolding heading line
write_remainders-requires c =
    let a = c.args in
    let b = a.bound.now in
    let l = c.requires.0 in (
      (omega (arith, l.slots, l.star), omega (arith, l.star, l.named)),
      (omega (arith, l.slots, l.star), omega (arith, l.star, l.named)),
      omega (arith, l.star, l.named, behind_slots b.spec.now b.call.now a.params.now b.board.now a.counts l _ _ c.requires.1 c.write.ensures _ c.write_slots.ensures),
    )

pub returns : goal.returns
unfolding heading line
returns c =
    let a = c.args in
    let b = a.bound.now in
    accepted_wrote b.spec.now b.call.now a.params.now b.board.now a.counts c.requires.0 _ _ c.requires.1 c.write.ensures _ c.write_slots.ensures
    c.write_remainders.ensures.wrote c.write_closing.ensures
