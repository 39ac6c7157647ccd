-- How many bytes the texts of rows are (01, sheets): pieces and the marks between them are as long as what was parted, so two cells of a line
-- are no longer than the line, a row's texts no longer than its line, and the texts of all rows no longer than the input.
-- Assumes nothing.
use mathlib.Core.Path.{◌≡◌, refl, ap}
use mathlib.Core.Bool.{Bool, true, false, cond}
use mathlib.Core.List.{List, [], ◌∷◌, map}
use mathlib.Core.Option.{Option, none, some}
use Prim.Native.Nat.{ℕ, zero, suc, ◌+◌, ◌-◌, ◌^◌, ◌≤◌}
use native.Mathlib.Omega.{arith}
use lib.Dec.{eqb}
use lib.ListN.{length, take, drop, get_or, length-append, length-drop}
use Rattle.rules.specs.SheetLines.{before, split, front, lines_in, cells_in, Columns, Row, row_in}
use Rattle.rules.specs.SheetValue.{quoted, under, read_decimal, read_whole, read_bits, read_form, read_cell}
use Rattle.rules.specs.SheetRows.{is_part, entry}
use Rattle.rules.specs.SheetRecords.{text_of, area_of, key_text}
use Rattle.sheet_records.specs.Rows.{rows_from, RowsAhead}
use Rattle.sheet_records.specs.Text.{name_text, row_texts}

-- ---- pieces

-- the bytes of some pieces, and a mark behind each
abbrev pub total : List (List ℕ) → ℕ
total [] = 0
total (p ∷ ps) = suc (length p + total ps)

total_before : (b : ℕ) (pieces : List (List ℕ)) (n : ℕ) → total pieces ≡ suc n → total (before b pieces) ≡ suc (suc n)
total_before b [] n e = absurd (omega arith)
total_before b (p ∷ ps) n e = omega arith

total_split : (mark : ℕ) (bytes : List ℕ) → total (split mark bytes) ≡ suc (length bytes)
total_split mark [] = refl
total_split mark (b ∷ bs) = go (eqb b mark) (total_split mark bs)
  where
    go : (c : Bool) → total (split mark bs) ≡ suc (length bs) → total (cond c ([] ∷ split mark bs) (before b (split mark bs))) ≡ suc (suc (length bs))
    go true e = omega arith
    go false e = total_before b (split mark bs) (length bs) e

total_front : (pieces : List (List ℕ)) → total (front pieces) ≤ total pieces - 1
total_front [] = omega arith
total_front (x ∷ []) = omega arith
total_front (x ∷ y ∷ ys) = omega (arith, total_front (y ∷ ys))

total_lines : (bytes : List ℕ) → total (lines_in bytes) ≤ length bytes
unfolding lines_in
total_lines bytes = omega (arith, total_front (split 10 bytes), total_split 10 bytes)

total_take : (n : ℕ) (pieces : List (List ℕ)) → total (take n pieces) ≤ total pieces
total_take zero pieces = omega arith
total_take (suc n) [] = omega arith
total_take (suc n) (p ∷ ps) = omega (arith, total_take n ps)

-- ---- cells

one_fits : (cells : List (List ℕ)) (i : ℕ) → length (get_or cells i []) ≤ total cells
one_fits [] i = omega arith
one_fits (x ∷ xs) zero = omega arith
one_fits (x ∷ xs) (suc i) = omega (arith, one_fits xs i)

two_fit : (cells : List (List ℕ)) (i j : ℕ) → (i ≡ j → ⊥) → length (get_or cells i []) + length (get_or cells j []) ≤ total cells
two_fit [] i j n = omega arith
two_fit (x ∷ xs) zero zero n = absurd (n refl)
two_fit (x ∷ xs) zero (suc j) n = omega (arith, one_fits xs j)
two_fit (x ∷ xs) (suc i) zero n = omega (arith, one_fits xs i)
two_fit (x ∷ xs) (suc i) (suc j) n = omega (arith, two_fit xs i j (λ e. n (ap suc e)))

row_fits : (c : Columns) (line : List ℕ) → (c.name ≡ c.value → ⊥) → length (row_in c line).name + length (row_in c line).value ≤ suc (length line)
unfolding row_in cells_in
row_fits c line n = omega (arith, two_fit (split 44 line) c.name c.value n, total_split 44 line)

-- ---- texts

under_fits : (kind : ℕ) (o : Option ℕ) (n : ℕ) → length (text_of (under kind o)) ≤ n
under_fits kind none n = omega arith
under_fits kind (some m) n = omega arith

form_fits : (b : ℕ) (bs : List ℕ) → length (text_of (read_form b bs)) ≤ suc (length bs)
unfolding read_form
form_fits b bs = go (eqb b 110) (eqb (length bs) 0) (eqb b 98) (eqb (length bs) 1) (eqb b 105) (eqb b 114) (eqb b 115) (eqb b 104)
  where
    go : (n n0 f f1 i r s h : Bool)
        → length
        (text_of
        (cond n (cond n0 (under 1 (some 0)) none)
        (cond f (cond f1 (under 2 (read_decimal 2 bs)) none)
        (cond i (under 3 (read_whole bs))
        (cond r (under 4 (read_bits bs))
        (cond s (some (quoted bs))
        (cond h (under 7 (read_decimal (2 ^ 32) bs)) none)))))))
        ≤ suc (length bs)
    go true true f f1 i r s h = omega arith
    go true false f f1 i r s h = omega arith
    go false n0 true true i r s h = under_fits 2 (read_decimal 2 bs) (suc (length bs))
    go false n0 true false i r s h = omega arith
    go false n0 false f1 true r s h = under_fits 3 (read_whole bs) (suc (length bs))
    go false n0 false f1 false true s h = under_fits 4 (read_bits bs) (suc (length bs))
    go false n0 false f1 false false true h = omega arith
    go false n0 false f1 false false false true = under_fits 7 (read_decimal (2 ^ 32) bs) (suc (length bs))
    go false n0 false f1 false false false false = omega arith

-- a text is no longer than the cell that it stands in
pub text_fits : (cell : List ℕ) → length (text_of (read_cell cell)) ≤ length cell
text_fits [] = omega arith
text_fits (b ∷ bs) = form_fits b bs

pub name_fits : (keyed : Bool) (r : Row) → length (name_text keyed r) ≤ length r.name
unfolding name_text key_text
name_fits false r = omega arith
name_fits true r = go (is_part entry r)
  where
    go : (b : Bool) → length (cond b (text_of (read_cell r.name)) r.name) ≤ length r.name
    go true = text_fits r.name
    go false = omega arith

-- ---- rows

pub texts_length : (keyed : Bool) (r : Row) → length (row_texts keyed r) ≡ length (name_text keyed r) + length (text_of (read_cell r.value))
unfolding row_texts
texts_length keyed r = length-append (name_text keyed r) (text_of (read_cell r.value))

-- a row's texts are no longer than its line with its end
pub texts_fit : (keyed : Bool) (c : Columns) (line : List ℕ) → (c.name ≡ c.value → ⊥) → length (row_texts keyed (row_in c line)) ≤ suc (length line)
texts_fit keyed c line n =
    omega (arith, texts_length keyed (row_in c line), name_fits keyed (row_in c line), text_fits (row_in c line).value, row_fits c line n)

area_fits : (keyed : Bool) (c : Columns) (lines : List (List ℕ)) → (c.name ≡ c.value → ⊥) → length (area_of (row_texts keyed) (map (row_in c) lines)) ≤ total lines
area_fits keyed c [] n = omega arith
area_fits keyed c (x ∷ xs) n =
    omega (arith, length-append (row_texts keyed (row_in c x)) (area_of (row_texts keyed) (map (row_in c) xs)), texts_fit keyed c x n, area_fits keyed c xs n)

-- the texts of a sheet are no longer than an input may be
pub area_room : (keyed : Bool) (input : List ℕ) (c : Columns) (from count : ℕ) → RowsAhead input c from count
    → length (area_of (row_texts keyed) (rows_from input c from count)) ≤ 16384
unfolding rows_from
area_room keyed input c from count ahead =
    omega
    (arith, area_fits keyed c (take count (lines_in (drop from input))) ahead.apart, total_take count (lines_in (drop from input)), total_lines (drop from input), length-drop from input, ahead.short)
