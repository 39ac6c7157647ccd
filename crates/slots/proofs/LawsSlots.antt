-- Laws of slots: slot k by the tests that the code makes.
-- Assumes nothing.
use mathlib.Core.Path.{◌≡◌, refl, ap, ◌∙◌}
use mathlib.Core.Bool.{cond}
use mathlib.Core.List.{List}
use Prim.Native.Nat.{ℕ, zero, suc, ◌≤◌, ◌<◌}
use native.Mathlib.Omega.{arith}
use borrow.Author.Tests.{lt-ltb, le-ltb}
use lib.ListN.{get_or}
use Rattle.rules.specs.CallRecord.{Head}
use Rattle.rules.specs.Placement.{taken, taken_or}
use Rattle.cells.specs.Value.{value}
use Rattle.cells.specs.Record.{pair_at}
use Rattle.builder.specs.declared.params.Parameters.{Parameters}
use Rattle.calls.specs.Places.{position_at}
use Rattle.findings.specs.Resolved.{source_value}
use Rattle.slots.specs.Slots.{unfilled_as, slot_at}
use Rattle.findings.proofs.LawsResolved.{source_some}

module _ (p : Parameters) (sources cells : List ℕ) (h : Head) (next k : ℕ) where
  pub slot_below : k < next → slot_at p sources cells h next k ≡ (λ (stars named : ℕ). taken (pair_at cells (position_at 64 h k)))
  unfolding slot_at pair_at
  slot_below e = ap (λ b (stars named : ℕ). cond b (taken (pair_at cells (position_at 64 h k))) (taken_or (source_value cells (get_or sources k 0)) (unfilled_as (get_or p.codes k 0) (value (get_or p.default_kinds k 0) (get_or p.default_payloads k 0)) stars named))) (lt-ltb k next e)

  -- past P
  past : next ≤ k → slot_at p sources cells h next k ≡ (λ (stars named : ℕ). taken_or (source_value cells (get_or sources k 0)) (unfilled_as (get_or p.codes k 0) (value (get_or p.default_kinds k 0) (get_or p.default_payloads k 0)) stars named))
  unfolding slot_at pair_at
  past e = ap (λ b (stars named : ℕ). cond b (taken (pair_at cells (position_at 64 h k))) (taken_or (source_value cells (get_or sources k 0)) (unfilled_as (get_or p.codes k 0) (value (get_or p.default_kinds k 0) (get_or p.default_payloads k 0)) stars named))) (le-ltb k next e)

  pub slot_named : next ≤ k → (get_or sources k 0 ≡ 0 → ⊥) → slot_at p sources cells h next k ≡ (λ (stars named : ℕ). taken (pair_at cells (get_or sources k 0)))
  unfolding pair_at
  slot_named e s = past e ∙ ap (λ o (stars named : ℕ). taken_or o (unfilled_as (get_or p.codes k 0) (value (get_or p.default_kinds k 0) (get_or p.default_payloads k 0)) stars named)) (source_some cells (get_or sources k 0) (pos (get_or sources k 0) s))
    where
      pos : (n : ℕ) → (n ≡ 0 → ⊥) → 0 < n
      pos zero f = absurd (f refl)
      pos (suc n) f = omega arith

  pub slot_unfilled : next ≤ k → get_or sources k 0 ≡ 0 → slot_at p sources cells h next k ≡ unfilled_as (get_or p.codes k 0) (value (get_or p.default_kinds k 0) (get_or p.default_payloads k 0))
  slot_unfilled e s = past e ∙ ap (λ n (stars named : ℕ). taken_or (source_value cells n) (unfilled_as (get_or p.codes k 0) (value (get_or p.default_kinds k 0) (get_or p.default_payloads k 0)) stars named)) s
