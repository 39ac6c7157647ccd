-- Words among the cells of a line (01, sheets): what it says of a word's column that it stands among them (`position_column`), and that it does not
-- (`position_missing`); then what the columns of three words say of a header.
-- Assumes nothing.
use mathlib.Core.Path.{◌≡◌, refl}
use mathlib.Core.Bool.{Bool, true, false, cond, ◌&&◌, ◌||◌}
use mathlib.Core.List.{List, [], ◌∷◌}
use Prim.Native.Nat.{ℕ, ◌+◌, ◌<◌}
use native.Mathlib.Numerals.{add-one}
use native.Mathlib.Omega.{arith}
use lib.Dec.{eqb}
use lib.ListN.{length}
use borrow.Author.Tests.{eqb-true}
use Rattle.std.specs.Prelude.{Some, None}
use Rattle.std.specs.List.{position_from}
use Rattle.rules.specs.Listing.{any, first_from}
use Rattle.rules.specs.Text.{same_bytes}
use Rattle.rules.specs.SheetLines.{cells_in, or_three, column_of, columns_in, part_word, name_word, value_word, header_right}
use Rattle.rules.proofs.LawsListing.{and_no_left, and_no_right}
use Rattle.sheet_lines.specs.Header.{ColumnsRead}

-- a word that stands among some cells
pub record Stands (word : List ℕ) (i : ℕ) (cells : List (List ℕ)) (at : ℕ) : Type 0 where
  pub among : any (same_bytes word) cells ≡ true
  pub column : or_three (first_from (same_bytes word) i cells) ≡ at
  pub within : at < i + length cells

pub position_column : (word : List ℕ) (i : ℕ) (cells : List (List ℕ)) (at : ℕ) → position_from (same_bytes word) i cells ≡ Some at → Stands word i cells at
position_column word i [] at e = cc
position_column word i (c ∷ cs) at e = go (same_bytes word c) refl e (position_column word (i + 1) cs at)
  where
    go : (b : Bool) → same_bytes word c ≡ b → cond b (Some i) (position_from (same_bytes word) (i + 1) cs) ≡ Some at
        → (position_from (same_bytes word) (i + 1) cs ≡ Some at → Stands word (i + 1) cs at) → Stands word i (c ∷ cs) at
    go true s p rest = let is : i ≡ at = cc in record { among = rw s; column = rw s is; within = omega arith }
    go false s p rest = let r = rest p in record { among = rw s r.among; column = rw s (rw add-one at r.column); within = omega (arith, r.within) }

pub position_missing : (word : List ℕ) (i : ℕ) (cells : List (List ℕ)) → position_from (same_bytes word) i cells ≡ None → any (same_bytes word) cells ≡ false
position_missing word i [] e = refl
position_missing word i (c ∷ cs) e = go (same_bytes word c) e (position_missing word (i + 1) cs)
  where
    go : (b : Bool) → cond b (Some i) (position_from (same_bytes word) (i + 1) cs) ≡ None
        → (position_from (same_bytes word) (i + 1) cs ≡ None → any (same_bytes word) cs ≡ false) → (b || any (same_bytes word) cs) ≡ false
    go true p rest = cc
    go false p rest = rest p

-- ---- a header

module _ (line : List ℕ) where
  three : Bool
  three = eqb (length (cells_in line)) 3

  part : Bool
  part = any (same_bytes part_word) (cells_in line)

  name : Bool
  name = any (same_bytes name_word) (cells_in line)

  value : Bool
  value = any (same_bytes value_word) (cells_in line)

  -- one that has not three cells, or not one of the words
  pub header_not_parted : eqb (length (cells_in line)) 3 ≡ false → header_right line ≡ false
  unfolding header_right
  header_not_parted e = rw e

  pub header_no_part : position_from (same_bytes part_word) 0 (cells_in line) ≡ None → header_right line ≡ false
  unfolding header_right three part name value
  header_no_part e =
      and_no_left (three && part && name) value
      (and_no_left (three && part) name (and_no_right three part (position_missing part_word 0 (cells_in line) e)))

  pub header_no_name : position_from (same_bytes name_word) 0 (cells_in line) ≡ None → header_right line ≡ false
  unfolding header_right three part name value
  header_no_name e =
      and_no_left (three && part && name) value (and_no_right (three && part) name (position_missing name_word 0 (cells_in line) e))

  pub header_no_value : position_from (same_bytes value_word) 0 (cells_in line) ≡ None → header_right line ≡ false
  unfolding header_right three part name value
  header_no_value e = and_no_right (three && part && name) value (position_missing value_word 0 (cells_in line) e)

  -- one that has all
  pub header_read : (p n v : ℕ) → eqb (length (cells_in line)) 3 ≡ true
      → position_from (same_bytes part_word) 0 (cells_in line) ≡ Some p
      → position_from (same_bytes name_word) 0 (cells_in line) ≡ Some n
      → position_from (same_bytes value_word) 0 (cells_in line) ≡ Some v
      → ColumnsRead line (record { part = p; name = n; value = v })
  unfolding header_right columns_in column_of
  header_read p n v e is_p is_n is_v =
      let a : Stands part_word 0 (cells_in line) p = position_column part_word 0 (cells_in line) p is_p in
      let b : Stands name_word 0 (cells_in line) n = position_column name_word 0 (cells_in line) n is_n in
      let c : Stands value_word 0 (cells_in line) v = position_column value_word 0 (cells_in line) v is_v in
      let many : length (cells_in line) ≡ 3 = eqb-true (length (cells_in line)) 3 e in
      record {
        told = rw (e, a.among, b.among, c.among);
        columns = rw (a.column, b.column, c.column);
        below = record { part = omega (arith, a.within); name = omega (arith, b.within); value = omega (arith, c.within) };
      }
