-- Laws of entries: a name among those of the remainder's pairs, which is that of one of them or of none.
-- Assumes nothing.
use mathlib.Core.Path.{◌≡◌, refl, sym, ap, ◌∙◌}
use mathlib.Core.Bool.{true, false, cond, ◌||◌, or-true}
use mathlib.Core.List.{List, [], ◌∷◌, map}
use Prim.Native.Nat.{ℕ, zero, suc, ◌<◌}
use native.Mathlib.Omega.{arith}
use lib.ListN.{length, get_or}
use Rattle.rules.specs.Text.{same_bytes, bytes_at, inside, text_in, among}
use Rattle.rules.specs.CallRecord.{named_in, read_pair}
use Rattle.rules.specs.Binding.{texts_of}
use Rattle.cells.specs.Text.{part_at}
use Rattle.cells.specs.Record.{pair_at}
use Rattle.findings.specs.Resolved.{named_at}

-- a name of a pair that lies inside the area is the part that its payload names
pub name_part : (area cells : List ℕ) (pair : ℕ) → inside area (pair_at cells pair).payload ≡ true → (named_at area cells pair).name.bytes ≡ part_at area (pair_at cells pair).payload
unfolding part_at named_at named_in text_in read_pair pair_at
name_part area cells pair e = sym (ap (λ b. cond b (bytes_at area (pair_at cells pair).payload) []) e)

-- a name is among those of some pairs if it is that of one, and not if it is that of none
module _ (area cells name : List ℕ) where
  pub among_one : (pairs : List ℕ) (k : ℕ) → k < length pairs → same_bytes name (named_at area cells (get_or pairs k 0)).name.bytes ≡ true → among name (texts_of (map (named_at area cells) pairs)) ≡ true
  unfolding texts_of
  among_one [] k h e = absurd (omega arith)
  among_one (pair ∷ pairs) zero h e = ap (λ b. b || among name (texts_of (map (named_at area cells) pairs))) e
  among_one (pair ∷ pairs) (suc k) h e = ap (λ b. same_bytes name (named_at area cells pair).name.bytes || b) (among_one pairs k (omega arith) e) ∙ or-true (same_bytes name (named_at area cells pair).name.bytes)

  pub among_none : (pairs : List ℕ) → ((k : ℕ) → k < length pairs → same_bytes name (named_at area cells (get_or pairs k 0)).name.bytes ≡ false) → among name (texts_of (map (named_at area cells) pairs)) ≡ false
  unfolding texts_of
  among_none [] h = refl
  among_none (pair ∷ pairs) h = ap (λ b. b || among name (texts_of (map (named_at area cells) pairs))) (h 0 (omega arith)) ∙ among_none pairs (λ k l. h (suc k) (omega arith))
