-- Values in the cells of a sheet (01, sheets): how each is written, and what a cell that is written so stands for. A text is the bytes that stand
-- in the cell; where it comes to lie in an area is no matter of its cell. Bytes are numbers here, so each is given as text beside them.
use Rattle.std.specs.Prelude.{Bool, false, cond, not, ◌&&◌, ◌||◌, List, [], ◌∷◌, ◌++◌, ℕ, zero, suc, ◌+◌, ◌-◌, ◌*◌, ◌/◌, ◌%◌, ◌^◌, leb, ltb, eqb, length}
use Rattle.std.proofs.Math.Option.{Option, none, some}
use Rattle.rules.specs.Listing.{all}
use Rattle.rules.specs.Text.{bytes_at}
use Rattle.rules.specs.Value.{Value, spec_text, call_text}

-- a value as a cell has it: a text by its bytes, any other by its kind and payload
pub data CellValue : Type 0 where
  written : Value → CellValue
  quoted : List ℕ → CellValue

-- ---- digits

-- `0` to `9`, then `a` to `f`
abbrev pub glyph : ℕ → ℕ
glyph d = cond (ltb d 10) (48 + d) (87 + d)

abbrev pub is_digit : ℕ → Bool
is_digit b = leb 48 b && leb b 57

abbrev pub is_hex_digit : ℕ → Bool
is_hex_digit b = is_digit b || leb 97 b && leb b 102

-- what a digit is worth
abbrev pub worth : ℕ → ℕ
worth b = cond (leb b 57) (b - 48) (b - 87)

-- the number that digits write in a base, after `before`
abbrev pub number_from : ℕ → ℕ → List ℕ → ℕ
number_from base before [] = before
number_from base before (b ∷ bs) = number_from base (before * base + worth b) bs

-- the last k digits of n in a base
abbrev pub last_digits : ℕ → ℕ → ℕ → List ℕ
last_digits base zero n = []
last_digits base (suc k) n = last_digits base k (n / base) ++ (glyph (n % base) ∷ [])

-- ---- shortest decimals

-- `0`, or digits of which the first is not `0`
abbrev pub is_shortest : List ℕ → Bool
is_shortest [] = false
is_shortest (b ∷ []) = is_digit b
is_shortest (b ∷ c ∷ bs) = is_digit b && not (eqb b 48) && all is_digit (c ∷ bs)

-- what is left without the `0`s in front, the last digit aside
abbrev pub without_zeros : List ℕ → List ℕ
without_zeros [] = []
without_zeros (b ∷ []) = b ∷ []
without_zeros (b ∷ c ∷ bs) = cond (eqb b 48) (without_zeros (c ∷ bs)) (b ∷ c ∷ bs)

-- the shortest decimal of a number of at most 20 digits, as any cell is
unfoldable pub decimal : ℕ → List ℕ
decimal n = without_zeros (last_digits 10 20 n)

-- a number that a shortest decimal writes, below a limit
unfoldable pub read_decimal : ℕ → List ℕ → Option ℕ
read_decimal limit bs = cond (is_shortest bs && ltb (number_from 10 0 bs) limit) (some (number_from 10 0 bs)) none

-- a whole number in two's complement: behind `-` one of 1 to 2^63, otherwise one below 2^63
abbrev pub read_whole : List ℕ → Option ℕ
read_whole [] = none
read_whole (b ∷ bs) =
    cond (eqb b 45)
    (cond (is_shortest bs && leb 1 (number_from 10 0 bs) && leb (number_from 10 0 bs) (2 ^ 63)) (some (2 ^ 64 - number_from 10 0 bs)) none)
    (read_decimal (2 ^ 63) (b ∷ bs))

unfoldable pub print_whole : ℕ → List ℕ
print_whole p = cond (ltb p (2 ^ 63)) (decimal p) (45 ∷ decimal (2 ^ 64 - p))

-- ---- the forms of a value

-- a number under a kind, where there is one
abbrev pub under : ℕ → Option ℕ → Option CellValue
under kind none = none
under kind (some n) = some (written (record { kind = kind; payload = n }))

-- 16 lower hexadecimal digits: the bits of a real
unfoldable pub read_bits : List ℕ → Option ℕ
read_bits bs = cond (eqb (length bs) 16 && all is_hex_digit bs) (some (number_from 16 0 bs)) none

-- by its first byte: `n`, `b0` and `b1`, `i` and a shortest decimal, `r` and 16 digits, `s` and text, `h` and a shortest decimal below 2^32
unfoldable pub read_form : ℕ → List ℕ → Option CellValue
read_form b bs =
    cond (eqb b 110) (cond (eqb (length bs) 0) (under 1 (some 0)) none)
    (cond (eqb b 98) (cond (eqb (length bs) 1) (under 2 (read_decimal 2 bs)) none)
    (cond (eqb b 105) (under 3 (read_whole bs))
    (cond (eqb b 114) (under 4 (read_bits bs))
    (cond (eqb b 115) (some (quoted bs))
    (cond (eqb b 104) (under 7 (read_decimal (2 ^ 32) bs)) none)))))

abbrev pub read_cell : List ℕ → Option CellValue
read_cell [] = none
read_cell (b ∷ bs) = read_form b bs

-- a value as it is printed, its text out of the spec area or of the call area; two cells that are 0 print nothing
unfoldable pub print_value : List ℕ → List ℕ → Value → List ℕ
print_value spec call v =
    cond (eqb v.kind 1) (110 ∷ [])
    (cond (eqb v.kind 2) (98 ∷ decimal v.payload)
    (cond (eqb v.kind 3) (105 ∷ print_whole v.payload)
    (cond (eqb v.kind 4) (114 ∷ last_digits 16 16 v.payload)
    (cond (eqb v.kind spec_text) (115 ∷ bytes_at spec v.payload)
    (cond (eqb v.kind call_text) (115 ∷ bytes_at call v.payload)
    (cond (eqb v.kind 7) (104 ∷ decimal v.payload) []))))))
