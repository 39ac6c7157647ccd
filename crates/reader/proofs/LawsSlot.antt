-- What a read at a position answers and where it leaves the reader, for each way through the code: no slot is left, the slot is
-- empty, the slot is filled. Then what the two sorts of reads make of an empty slot, and the end. It leans on the laws of positions in
-- `rules`.
-- Assumes nothing.
use mathlib.Core.Path.{◌≡◌, refl, sym, ap, ◌∙◌}
use mathlib.Core.Bool.{Bool, true, false, cond}
use mathlib.Core.List.{List, [], ◌∷◌}
use Prim.Native.Nat.{ℕ, ◌+◌, ◌*◌, ◌/◌, ◌<◌, ◌≤◌}
use native.Mathlib.Numerals.{add-one}
use borrow.Author.Tests.{eq-eqb, ne_eqb, leb-true, leb-false}
use lib.Dec.{leb}
use lib.ListN.{length, get_or}
use Rattle.rules.specs.Value.{Value}
use Rattle.rules.specs.Reader.{Read, unread, holds, vacant, is_vacant, read_needed, read_optional, at_end, left_at, position_after}
use Rattle.rules.proofs.LawsReader.{slot_at, slot_left, none_left_at, moves_on, stays_there}
use Rattle.reader.specs.Parser.{read_or}

module _ (cells : List ℕ) (at : ℕ) where
  module _ (empty : Read) where
    pub none_read : length cells / 2 ≤ at → (unread 27 ≡ read_or empty (left_at cells at)) × (at ≡ position_after cells at)
    none_read h = (sym (ap (read_or empty) (none_left_at cells at h)), sym (stays_there cells at h))

    seen : (b : Bool) → is_vacant (slot_at cells at) ≡ b → at < length cells / 2 → cond b empty (holds (slot_at cells at)) ≡ read_or empty (left_at cells at)
    seen b e h = sym (ap (read_or empty) (slot_left cells at h) ∙ ap (λ v. cond v empty (holds (slot_at cells at))) e)

    moved : at < length cells / 2 → at + 1 ≡ position_after cells at
    moved h = add-one at ∙ sym (moves_on cells at h)

    pub empty_read : at < length cells / 2 → get_or cells (2 * at) 0 ≡ 0 → (empty ≡ read_or empty (left_at cells at)) × (at + 1 ≡ position_after cells at)
    unfolding is_vacant
    empty_read h e = (seen true (eq-eqb (get_or cells (2 * at) 0) 0 e) h, moved h)

    pub filled_read : at < length cells / 2 → (get_or cells (2 * at) 0 ≡ 0 → ⊥) → (holds (slot_at cells at) ≡ read_or empty (left_at cells at)) × (at + 1 ≡ position_after cells at)
    unfolding is_vacant
    filled_read h e = (seen false (ne_eqb (get_or cells (2 * at) 0) 0 e) h, moved h)

  pub end_at : leb (length cells / 2) at ≡ at_end (left_at cells at)
  end_at = go (leb (length cells / 2) at) refl
    where
      go : (b : Bool) → leb (length cells / 2) at ≡ b → leb (length cells / 2) at ≡ at_end (left_at cells at)
      go true e = e ∙ sym (ap at_end (none_left_at cells at (leb-true (length cells / 2) at e)))
      go false e = e ∙ sym (ap at_end (slot_left cells at (leb-false (length cells / 2) at e)))

pub read_or_needed : (vs : List Value) → read_or (unread 28) vs ≡ read_needed vs
read_or_needed [] = refl
read_or_needed (v ∷ vs) = refl

pub read_or_optional : (vs : List Value) → read_or vacant vs ≡ read_optional vs
read_or_optional [] = refl
read_or_optional (v ∷ vs) = refl
