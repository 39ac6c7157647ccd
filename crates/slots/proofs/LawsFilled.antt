-- Laws of slots written in a loop: what each counts for, and one slot more written and counted.
-- Assumes nothing.
use mathlib.Core.Path.{◌≡◌, refl, sym, ap, ap₂, ◌∙◌}
use mathlib.Core.Bool.{Bool, true, false, cond}
use mathlib.Core.List.{List, []}
use Prim.Native.Nat.{ℕ, ◌+◌, ◌*◌, ◌≤◌}
use native.Mathlib.Nat.{zero-add}
use native.Mathlib.Omega.{arith}
use lib.ListN.{length}
use Rattle.rules.specs.Listing.{tally}
use Rattle.rules.specs.Cells.{write_each}
use Rattle.rules.specs.Value.{value_cells}
use Rattle.rules.specs.Placement as rules
use Rattle.rules.specs.Board.{slot_value, slot_cells}
use Rattle.cells.specs.Out.{stored}
use Rattle.cells.specs.Listed.{listed}
use Rattle.cells.proofs.LawsListed.{listed_more, tally_snoc}
use Rattle.cells.proofs.LawsOut.{stored_none}
use Rattle.cells.proofs.LawsWrite.{value_cells_two, written_more}
use Rattle.slots.specs.Slots.{slot_in, Filling}
use Rattle.slots.specs.declared.slots.Slot.{Slot}
use Rattle.slots.specs.declared.slots.Slot.TheVariants.{Empty, Taken, Default, Args, KWargs}

-- what a slot counts for does not depend on the remainders
pub slot_taken : (s : Slot) (a b : ℕ) → rules.is_taken (slot_in s 0 0) ≡ rules.is_taken (slot_in s a b)
slot_taken Empty a b = refl
slot_taken (Taken p) a b = refl
slot_taken (Default p) a b = refl
slot_taken Args a b = refl
slot_taken KWargs a b = refl

pub slot_defaulted : (s : Slot) (a b : ℕ) → rules.is_defaulted (slot_in s 0 0) ≡ rules.is_defaulted (slot_in s a b)
slot_defaulted Empty a b = refl
slot_defaulted (Taken p) a b = refl
slot_defaulted (Default p) a b = refl
slot_defaulted Args a b = refl
slot_defaulted KWargs a b = refl

pub at_most_one : (b : Bool) → cond b 1 0 ≤ 1
at_most_one true = omega arith
at_most_one false = omega arith

pub filling_none : (before : List ℕ) → Filling [] before before (record { taken = 0; defaulted = 0 })
filling_none before = record { board = sym (stored_none before 0 (omega arith)); taken = refl; defaulted = refl }

pub filling_more : (f : ℕ → rules.Slot) (k : ℕ) (before now : List ℕ) (taken defaulted t d : ℕ) → Filling (listed f 0 k) before now (record { taken = taken; defaulted = defaulted }) → 2 * k + 2 ≤ length before
    → t ≡ cond (rules.is_taken (f k)) 1 0 → d ≡ cond (rules.is_defaulted (f k)) 1 0
    → Filling (listed f 0 (k + 1)) before (stored now (2 * k) (value_cells (slot_value (f k)))) (record { taken = taken + t; defaulted = defaulted + d })
unfolding slot_cells
filling_more f k before now taken defaulted t d so fits et ed =
    record {
      board =
          ap (λ b. stored b (2 * k) (value_cells (slot_value (f k)))) so.board
          ∙ ap₂ (λ n j. stored (stored before 0 (write_each slot_cells (listed f 0 k))) n (slot_cells (f j))) (sym (zero-add (2 * k))) (sym (zero-add k))
          ∙ written_more 2 slot_cells slots_wide f 0 k 0 before (omega arith);
      taken = ap₂ (λ a b. a + b) so.taken et ∙ counted (rules.is_taken (f k)) (tally rules.is_taken (listed f 0 k)) ∙ sym (ap (tally rules.is_taken) (listed_more f k) ∙ tally_snoc rules.is_taken (listed f 0 k) (f k));
      defaulted = ap₂ (λ a b. a + b) so.defaulted ed ∙ counted (rules.is_defaulted (f k)) (tally rules.is_defaulted (listed f 0 k)) ∙ sym (ap (tally rules.is_defaulted) (listed_more f k) ∙ tally_snoc rules.is_defaulted (listed f 0 k) (f k));
    }
  where
    slots_wide : (s : rules.Slot) → length (slot_cells s) ≡ 2
    slots_wide s = value_cells_two (slot_value s)

    counted : (b : Bool) (n : ℕ) → n + cond b 1 0 ≡ cond b (n + 1) n
    counted true n = refl
    counted false n = omega arith
