-- `slots::slots::write_slots` meets its contract: one slot more is written and counted in each turn. Assumes nothing.
use mathlib.Core.Path.{◌≡◌, ap, ◌∙◌}
use mathlib.Core.Bool.{cond}
use native.Mathlib.Omega.{arith}
use Rattle.rules.specs.Board.{slot_value}
use Rattle.rules.specs.Placement.{is_taken, is_defaulted}
use Rattle.calls.specs.Head.{head_of}
use Rattle.slots.specs.Slots.{slot_in, slot_at}
use Rattle.slots.proofs.LawsFilled.{at_most_one, slot_taken, slot_defaulted, filling_none, filling_more}
use Rattle.slots.proofs.slots.write_slots.Goals as goal

pub loop-k-init : goal.loop-k-init
loop-k-init c = record { taken = omega arith; defaulted = omega arith; filling = filling_none c.args.board.now }

pub loop-k-preserved : goal.loop-k-preserved
loop-k-preserved c =
    let at = c.loop-k in
    let a = c.args in
    let slot = c.slot_at-slot.result in
    let is : slot_in slot a.star a.resolved.now.count ≡ slot_at a.params.now a.resolved.now.sources a.call.now.cells.now (head_of a.call.now.head) a.resolved.now.next at.k a.star a.resolved.now.count = ap (λ g. g a.star a.resolved.now.count) c.slot_at-slot.ensures in
    let held = c.pair.ensures ∙ ap slot_value is in
    let t = c.taken-taken.ensures ∙ ap (λ b. cond b 1 0) (slot_taken slot a.star a.resolved.now.count ∙ ap is_taken is) in
    let d = c.defaulted-defaulted.ensures ∙ ap (λ b. cond b 1 0) (slot_defaulted slot a.star a.resolved.now.count ∙ ap is_defaulted is) in
    record {
      taken = omega (arith, at_most_one (is_taken (slot_in slot 0 0)));
      defaulted = omega (arith, at_most_one (is_defaulted (slot_in slot 0 0)));
      filling =
          rw (c.put_inside.ensures, held)
          (filling_more (λ k. slot_at a.params.now a.resolved.now.sources a.call.now.cells.now (head_of a.call.now.head) a.resolved.now.next k a.star a.resolved.now.count) at.k a.board.now at.board at.taken at.defaulted
          c.taken-taken.result c.defaulted-defaulted.result at.invariant.filling (omega arith) t d);
    }
