-- Pieces of an input and the first mark inside one (01, sheets), as a loop that looks for it asks: how long a piece is (`piece_length`), a piece
-- parted at an index, bytes without a mark and what `split` makes of them, where a search ends; then what such an end says of the pieces
-- (`split_next`, `split_end`). Lines are in LawsLines, the cells of a line in LawsCells.
-- Assumes nothing.
use mathlib.Core.Path.{◌≡◌, refl, ap, ◌∙◌}
use mathlib.Core.Bool.{Bool, true, not}
use mathlib.Core.List.{List, [], ◌∷◌, ◌++◌}
use Prim.Native.Nat.{ℕ, suc, ◌+◌, ◌-◌, ◌≤◌, ◌<◌}
use native.Mathlib.Numerals.{add-one}
use native.Mathlib.Omega.{arith}
use lib.Dec.{eqb}
use lib.ListN.{length, drop, get_or, length-drop}
use lib.Seq.{length-take-le, drop-cons, drop-drop, take-add}
use borrow.Author.Tests.{eq-eqb, ne_eqb, lt-ltb, le-ltb}
use Rattle.rules.specs.Listing.{all}
use Rattle.rules.specs.SheetLines.{split}
use Rattle.rules.proofs.LawsListing.{and_left, and_right, not_yes, all_append}
use Rattle.sheet_lines.specs.Piece.{piece, behind, PieceEnd}

-- ---- pieces

pub piece_empty : (input : List ℕ) (at : ℕ) → piece input at at ≡ []
unfolding piece
piece_empty input at = let e : at - at ≡ 0 = omega arith in rw e

pub piece_length : (input : List ℕ) (from to : ℕ) → from ≤ to → to ≤ length input → length (piece input from to) ≡ to - from
unfolding piece
piece_length input from to h k = length-take-le (to - from) (drop from input) (simp length-drop (omega arith))

-- the bytes before an index, the byte there and those behind it
pub piece_parted : (input : List ℕ) (from at to : ℕ) → from ≤ at → at < to → to ≤ length input
    → piece input from to ≡ piece input from at ++ get_or input at 0 ∷ piece input (suc at) to
unfolding piece
piece_parted input from at to h k l =
    let n : to - from ≡ (at - from) + suc (to - suc at) = omega arith in
    let m : from + (at - from) ≡ at = omega arith in
    let i : at < length input = omega arith in
    rw (n, take-add (at - from) (suc (to - suc at)) (drop from input), drop-drop (at - from) from input, m, drop-cons input at 0 i)

-- one byte more
piece_more : (input : List ℕ) (from at : ℕ) → from ≤ at → at < length input
    → piece input from (suc at) ≡ piece input from at ++ get_or input at 0 ∷ []
piece_more input from at h k =
    piece_parted input from at (suc at) h (omega arith) k ∙ ap (λ p. piece input from at ++ get_or input at 0 ∷ p) (piece_empty input (suc at))

-- ---- bytes without a mark

abbrev pub clear : ℕ → List ℕ → Bool
clear mark bytes = all (λ b. not (eqb b mark)) bytes

-- none at first, and one byte more
pub clear_first : (mark : ℕ) (input : List ℕ) (at : ℕ) → clear mark (piece input at at) ≡ true
clear_first mark input at = rw (piece_empty input at)

pub clear_next : (mark : ℕ) (input : List ℕ) (from at : ℕ) → from ≤ at → at < length input → clear mark (piece input from at) ≡ true
    → (get_or input at 0 ≡ mark → ⊥) → clear mark (piece input from (at + 1)) ≡ true
clear_next mark input from at h k e n =
    rw (add-one, piece_more input from at h k)
    (all_append (λ b. not (eqb b mark)) (piece input from at) (get_or input at 0 ∷ []) e (rw (ne_eqb (get_or input at 0) mark n)))

pub split_clear : (mark : ℕ) (bytes : List ℕ) → clear mark bytes ≡ true → split mark bytes ≡ bytes ∷ []
split_clear mark [] e = refl
split_clear mark (b ∷ bs) e =
    rw
    (not_yes (eqb b mark) (and_left (not (eqb b mark)) (clear mark bs) e), split_clear mark bs (and_right (not (eqb b mark)) (clear mark bs) e))

pub split_at_mark : (mark : ℕ) (bytes rest : List ℕ) → clear mark bytes ≡ true → split mark (bytes ++ mark ∷ rest) ≡ bytes ∷ split mark rest
split_at_mark mark [] rest e = rw (eq-eqb mark mark refl)
split_at_mark mark (b ∷ bs) rest e =
    rw
    (not_yes (eqb b mark) (and_left (not (eqb b mark)) (clear mark bs) e), split_at_mark mark bs rest (and_right (not (eqb b mark)) (clear mark bs) e))

-- ---- where a search for a mark ends

module _ (mark : ℕ) (input : List ℕ) (from to : ℕ) where
  pub end_at_mark : (at : ℕ) → from ≤ at → at < to → to ≤ length input → clear mark (piece input from at) ≡ true → get_or input at 0 ≡ mark
      → PieceEnd mark input from to at
  unfolding behind
  end_at_mark at h k l e m =
      record {
        after = h;
        within = omega arith;
        parted =
            rw (piece_parted input from at to h k l, m, lt-ltb at to k) (split_at_mark mark (piece input from at) (piece input (suc at) to) e);
      }

  pub end_at_end : from ≤ to → clear mark (piece input from to) ≡ true → PieceEnd mark input from to to
  unfolding behind
  end_at_end h e =
      record { after = h; within = omega arith; parted = rw (le-ltb to to (omega arith)) (split_clear mark (piece input from to) e) }

-- ---- what it says of the pieces

module _ {mark : ℕ} {input : List ℕ} {from to end : ℕ} (found : PieceEnd mark input from to end) where
  pub split_next : end < to → split mark (piece input from to) ≡ piece input from end ∷ split mark (piece input (suc end) to)
  unfolding behind
  split_next h = found.parted ∙ rw (lt-ltb end to h)

  pub split_end : end ≡ to → split mark (piece input from to) ≡ piece input from to ∷ []
  unfolding behind
  split_end h = found.parted ∙ rw (h, le-ltb to to (omega arith))
