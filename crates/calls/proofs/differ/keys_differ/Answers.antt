use mathlib.Core.Path.{◌≡◌, sym, ap, subst, ◌∙◌}
use mathlib.Core.Bool.{Bool, true, false}
use Prim.Native.Nat.{ℕ, ◌+◌, ◌-◌, ◌*◌, ◌<◌}
use native.Mathlib.Nat.{sub-zero}
use native.Mathlib.Omega.{arith}
use lib.ListN.{set, length-replicate}
use Rattle.rules.specs.CallRecord.{pair_width}
use Rattle.rules.specs.CallQuestions.{well_formed_entry}
use Rattle.calls.specs.Runs.{Formed, key_there, keys_at, new_key}
use Rattle.calls.specs.Slots.{slots}
use Rattle.calls.proofs.LawsForm.{entry_key}
use Rattle.calls.proofs.LawsSlots.{slot_below, mark, Walked, formed_last, formed_behind, walked_start, walked_new, walked_next, walked_fails}
use Rattle.calls.proofs.differ.keys_differ.Goals as goal
use Rattle.calls.proofs.differ.keys_differ.Goals.{In-loop-behind, After-key_slot-slot, After-key_new}

pub loop-behind-init : goal.loop-behind-init
unfolding slots
loop-behind-init c = rw sub-zero (walked_start _ _ _ _ _ (length-replicate {A = Bool} 929 false))

pub overflow_mul-at : goal.overflow_mul-at
unfolding pair_width
overflow_mul-at c = omega (arith, c.requires.within)

pub overflow_add-at : goal.overflow_add-at
unfolding pair_width
overflow_add-at c = omega (arith, c.requires.within)

-- there are some left, no more than the run has, and what is behind those that are left
some : (c : In-loop-behind) → 0 < c.args.count - c.loop-behind.behind
some c = omega (arith, c.loop-behind-test.true)

rest : (count behind : ℕ) → behind < count → count - (count - behind) ≡ behind
rest count behind below = omega arith

pub key_slot-slot-requires : goal.key_slot-slot-requires
unfolding pair_width
key_slot-slot-requires c =
    entry_key _ _ _ (formed_last _ _ _ _ _ (some (goal.at.key_slot-slot-requires c).In-loop-behind) c.loop-behind.invariant.few c.requires)

-- the slot is one of the table's
below : (c : After-key_slot-slot) → c.key_slot-slot.result < 929
unfolding slots pair_width
below c =
    let a = c.args in
    subst (λ (n : ℕ). n < 929) (sym c.key_slot-slot.ensures) (slot_below (key_there a.record.now.area.now a.record.now.cells.now (a.from + pair_width * (a.count - c.loop-behind.behind - 1))))

pub bounds-marks-slot : goal.bounds-marks-slot
bounds-marks-slot c = below (goal.at.bounds-marks-slot c).After-key_slot-slot

pub bounds-marks-slot-in-loop-behind : goal.bounds-marks-slot-in-loop-behind
bounds-marks-slot-in-loop-behind c = below (goal.at.bounds-marks-slot-in-loop-behind c).After-key_slot-slot

pub key_new-requires : goal.key_new-requires
unfolding pair_width
key_new-requires c =
    let a = c.args in
    let few = c.loop-behind.invariant.few in
    let left = some (goal.at.key_new-requires c).In-loop-behind in
    let at = a.from + 4 * (a.count - c.loop-behind.behind - 1) in
    let e = rest a.count c.loop-behind.behind c.loop-behind-test.true in (
      entry_key _ _ _ (formed_last _ _ _ _ _ left few c.requires),
      subst (Formed (well_formed_entry a.record.now.area.now) a.record.now.cells.now (at + 4)) e (formed_behind _ _ _ _ _ left few c.requires),
      λ free. subst (λ n. new_key (key_there a.record.now.area.now a.record.now.cells.now at) (keys_at a.record.now.area.now a.record.now.cells.now (at + 4) n) ≡ true) e (walked_new _ _ _ _ _ _ left c.loop-behind.invariant (sym (ap (mark c.loop-behind.marks) c.key_slot-slot.ensures) ∙ free)),
    )

-- what was answered for the key, with how many are left in place of how many are behind
answered : (c : After-key_new) → let a = c.args in let left = a.count - c.loop-behind.behind in
    c.key_new.result ≡ new_key (key_there a.record.now.area.now a.record.now.cells.now (a.from + pair_width * (left - 1))) (keys_at a.record.now.area.now a.record.now.cells.now (a.from + pair_width * (left - 1) + pair_width) (a.count - left))
unfolding pair_width
answered c = rw (rest c.args.count c.loop-behind.behind c.loop-behind-test.true) c.key_new.ensures

pub returns-then-not-key_new : goal.returns-then-not-key_new
returns-then-not-key_new c =
    let places = goal.at.returns-then-not-key_new c in
    sym (walked_fails _ _ _ _ _ _ (some places.In-loop-behind) c.loop-behind.invariant (sym (answered places.After-key_new) ∙ c.if-not-key_new.true))

pub loop-behind-preserved : goal.loop-behind-preserved
unfolding pair_width
loop-behind-preserved c =
    let a = c.args in
    let places = goal.at.loop-behind-preserved c in
    let left : a.count - (c.loop-behind.behind + 1) ≡ a.count - c.loop-behind.behind - 1 = omega arith in
    subst (λ (slot : ℕ). Walked a.record.now.area.now a.record.now.cells.now (set c.loop-behind.marks slot true) a.from a.count (a.count - (c.loop-behind.behind + 1)))
    (sym c.key_slot-slot.ensures)
    (rw left (walked_next _ _ _ _ _ _ (some places.In-loop-behind) c.loop-behind.invariant (sym (answered places.After-key_new) ∙ c.if-not-key_new.false)))
