-- Pieces and the cells of a line (01, sheets), first as the search for a comma parts it (`halves_found`, `halves_none`), then as they are counted: one cell,
-- two, three, or more; then how long each of three is.
-- Assumes nothing.
use mathlib.Core.Path.{◌≡◌, refl, sym, ap, ◌∙◌}
use mathlib.Core.Bool.{Bool, true, false, cond, ◌&&◌}
use mathlib.Core.List.{List, [], ◌∷◌}
use Prim.Native.Nat.{ℕ, suc, ◌+◌, ◌-◌, ◌≤◌, ◌<◌}
use native.Mathlib.Numerals.{add-one}
use native.Mathlib.Omega.{arith}
use lib.Dec.{eqb, leb}
use lib.ListN.{length, take, drop, length-drop}
use lib.Seq.{length-take-le}
use borrow.Author.Tests.{ne_eqb}
use Rattle.rules.specs.SheetLines.{before, split, cells_in, three_cells}
use Rattle.sheet_lines.specs.Piece.{piece, PieceEnd, Halves}
use Rattle.sheet_lines.proofs.LawsPiece.{split_next, split_end}
use Rattle.sheet_lines.proofs.LawsLines.{piece_to_end}

-- ---- parted at a mark

module _ {mark : ℕ} {bytes : List ℕ} where
  -- the bytes before a mark that was found and those behind it
  pub halves_found : {at : ℕ} → PieceEnd mark bytes 0 (length bytes) at → at < length bytes
      → Halves mark bytes (take at bytes) (take (length bytes - (at + 1)) (drop (at + 1) bytes))
  unfolding piece
  halves_found {at} found h =
      let z : at - 0 ≡ at = omega arith in
      let next : split mark (piece bytes 0 (length bytes)) ≡ take (at - 0) bytes ∷ split mark (take (length bytes - suc at) (drop (suc at) bytes)) =
      split_next found h in
      record {
        parted = rw (add-one at) (ap (split mark) (sym (piece_to_end bytes 0)) ∙ rw z at next);
        shorter = omega (arith, length-take-le (length bytes - (at + 1)) (drop (at + 1) bytes) (simp length-drop (omega arith)));
      }

  -- none was found
  pub halves_none : PieceEnd mark bytes 0 (length bytes) (length bytes) → split mark bytes ≡ bytes ∷ []
  halves_none found = rw (piece_to_end bytes 0) at (split_end found refl)

-- ---- how many there are

-- there is a piece at least
pub split_some : (mark : ℕ) (bytes : List ℕ) → 1 ≤ length (split mark bytes)
split_some mark [] = omega arith
split_some mark (b ∷ bs) = go (eqb b mark) (split mark bs)
  where
    go : (c : Bool) (pieces : List (List ℕ)) → 1 ≤ length (cond c ([] ∷ pieces) (before b pieces))
    go true pieces = omega arith
    go false [] = omega arith
    go false (p ∷ ps) = omega arith

module _ (line : List ℕ) where
  pub one_cell : split 44 line ≡ line ∷ [] → eqb (length (cells_in line)) 3 ≡ false
  unfolding cells_in
  one_cell e = rw e

  module _ {first rest : List ℕ} (a : Halves 44 line first rest) where
    pub two_cells : split 44 rest ≡ rest ∷ [] → eqb (length (cells_in line)) 3 ≡ false
    unfolding cells_in
    two_cells e = rw (a.parted, e)

    module _ {second third : List ℕ} (b : Halves 44 rest second third) where
      pub more_cells : {fourth others : List ℕ} → Halves 44 third fourth others → eqb (length (cells_in line)) 3 ≡ false
      unfolding cells_in
      more_cells {fourth} {others} c =
          rw (a.parted, b.parted, c.parted)
          (ne_eqb (suc (suc (suc (length (split 44 others))))) 3 (λ e. let n : 1 ≤ length (split 44 others) = split_some 44 others in omega arith))

      pub three_read : split 44 third ≡ third ∷ [] → cells_in line ≡ first ∷ second ∷ third ∷ []
      unfolding cells_in
      three_read e = rw (a.parted, b.parted, e)

-- ---- how long they are

and_three : (x y z : Bool) → x && (y && (z && true)) ≡ x && y && z
and_three true true true = refl
and_three true true false = refl
and_three true false z = refl
and_three false y z = refl

pub three_short : (line : List ℕ) {first second third : List ℕ} → cells_in line ≡ first ∷ second ∷ third ∷ []
    → three_cells (cells_in line) ≡ leb (length first) 255 && leb (length second) 255 && leb (length third) 255
unfolding three_cells
three_short line {first} {second} {third} e =
    rw e (and_three (leb (length first) 255) (leb (length second) 255) (leb (length third) 255))

-- more or fewer cells than three are never right
pub not_three : (cells : List (List ℕ)) → eqb (length cells) 3 ≡ false → three_cells cells ≡ false
unfolding three_cells
not_three cells e = rw e
