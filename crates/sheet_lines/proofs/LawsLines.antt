-- The lines of an input one by one (01, sheets), as a loop over them asks: where the search for byte 10 from `at` on ends before the
-- input does, the next line is what it passed, and the lines behind it are those of what is left; where it ends with the input, there
-- is no line any more, and what is left is ended by nothing. `lines_next` and `lines_end` say so of `lines_in`, `unended_next` and
-- `unended_end` of `unended`; and that a walk over lines yields those that are left (`lines_yielded`).
-- Assumes nothing.
use mathlib.Core.Path.{◌≡◌, refl, ap, ◌∙◌}
use mathlib.Core.Bool.{Bool, true, false, cond}
use mathlib.Core.List.{List, [], ◌∷◌}
use Prim.Native.Nat.{ℕ, suc, ◌-◌, ◌<◌}
use native.Mathlib.Omega.{arith}
use lib.Dec.{eqb}
use lib.ListN.{length, drop, length-drop}
use lib.Seq.{take_all}
use Rattle.rules.specs.SheetLines.{before, split, front, last, lines_in, unended}
use Rattle.std.specs.Borrow.{Bor}
use Rattle.std.proofs.lemmas.Iterator.{YieldsList}
use Rattle.std.proofs.lemmas.Iterator.Consumers.{YieldsList-from_shown}
use Rattle.sheet_lines.specs.Piece.{piece, PieceEnd}
use Rattle.sheet_lines.specs.Lines.{lines_left, NextLine}
use Rattle.sheet_lines.specs.declared.lines.Lines.{Lines}
use Rattle.sheet_lines.proofs.LawsPiece.{split_next, split_end}

-- a piece that ends with the input
pub piece_to_end : (input : List ℕ) (at : ℕ) → piece input at (length input) ≡ drop at input
unfolding piece
piece_to_end input at = take_all (length input - at) (drop at input) (simp length-drop (omega arith))

-- `split` always gives a piece, so that what stands before it is not the last
module _ (x : List ℕ) where
  front_before : (b : ℕ) (pieces : List (List ℕ)) → front (x ∷ before b pieces) ≡ x ∷ front (before b pieces)
  front_before b [] = refl
  front_before b (p ∷ ps) = refl

  last_before : (b : ℕ) (pieces : List (List ℕ)) → last (x ∷ before b pieces) ≡ last (before b pieces)
  last_before b [] = refl
  last_before b (p ∷ ps) = refl

  front_split : (mark : ℕ) (bytes : List ℕ) → front (x ∷ split mark bytes) ≡ x ∷ front (split mark bytes)
  front_split mark [] = refl
  front_split mark (b ∷ bs) = go (eqb b mark)
    where
      go : (c : Bool)
          → front (x ∷ cond c ([] ∷ split mark bs) (before b (split mark bs))) ≡ x ∷ front (cond c ([] ∷ split mark bs) (before b (split mark bs)))
      go true = refl
      go false = front_before b (split mark bs)

  last_split : (mark : ℕ) (bytes : List ℕ) → last (x ∷ split mark bytes) ≡ last (split mark bytes)
  last_split mark [] = refl
  last_split mark (b ∷ bs) = go (eqb b mark)
    where
      go : (c : Bool) → last (x ∷ cond c ([] ∷ split mark bs) (before b (split mark bs))) ≡ last (cond c ([] ∷ split mark bs) (before b (split mark bs)))
      go true = refl
      go false = last_before b (split mark bs)

module _ {input : List ℕ} {at end : ℕ} (found : PieceEnd 10 input at (length input) end) where
  next : end < length input → split 10 (drop at input) ≡ piece input at end ∷ split 10 (drop (suc end) input)
  next h = rw (← piece_to_end input at, ← piece_to_end input (suc end)) (split_next found h)

  none_left : end ≡ length input → split 10 (drop at input) ≡ drop at input ∷ []
  none_left h = rw (← piece_to_end input at) (split_end found h)

  pub lines_next : end < length input → lines_in (drop at input) ≡ piece input at end ∷ lines_in (drop (suc end) input)
  unfolding lines_in
  lines_next h = ap front (next h) ∙ front_split (piece input at end) 10 (drop (suc end) input)

  pub lines_end : end ≡ length input → lines_in (drop at input) ≡ []
  unfolding lines_in
  lines_end h = ap front (none_left h)

  pub unended_next : end < length input → unended (drop at input) ≡ unended (drop (suc end) input)
  unfolding unended
  unended_next h = ap last (next h) ∙ last_split (piece input at end) 10 (drop (suc end) input)

  pub unended_end : end ≡ length input → unended (drop at input) ≡ drop at input
  unfolding unended
  unended_end h = ap last (none_left h)

-- a walk
pub lines_yielded : (s : Lines) → YieldsList NextLine (λ (line : Bor (List ℕ)). line.now) s (lines_left s)
lines_yielded =
    YieldsList-from_shown NextLine (λ (line : Bor (List ℕ)). line.now) lines_left (λ s t h. ap length h.0.lines) (λ s line t h. rw h.1 h.0.lines)
