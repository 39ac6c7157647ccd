-- What a value is printed as (01, sheets): the digits that the kit's `io` counts and spells are the shortest decimal, and the 16 hexadecimal
-- digits; and for each case of a value, that what is written for it is what it prints (`printed_as`). Assumes nothing.
use mathlib.Core.Path.{◌≡◌, refl, sym, ap, ◌∙◌}
use mathlib.Core.Bool.{Bool, true, false, cond}
use mathlib.Core.List.{List, [], ◌∷◌, ◌++◌}
use Prim.Native.Nat.{ℕ, zero, suc, ◌+◌, ◌-◌, ◌/◌, ◌%◌, ◌^◌, ◌≤◌, ◌<◌}
use native.Mathlib.Nat.{pow-le-pow_right}
use native.Mathlib.Omega.{arith}
use lib.Dec.{leb}
use lib.ListN.{length, take, drop, length-append, length-take}
use borrow.Author.Tests.{leb-true, leb-false, lt-ltb, le-ltb}
use Rattle.io.specs.Digits.{last_digits as kit_digits, IsDigitCount}
use Rattle.rules.specs.Text.{payload_of, start_of, size_of, bytes_at, inside}
use Rattle.rules.specs.Value.{spec_text, call_text}
use Rattle.rules.specs.SheetValue.{glyph, last_digits, decimal, print_whole, print_value}
use Rattle.cells.specs.declared.value.Value.{Value}
use Rattle.cells.specs.declared.value.Value.TheVariants.{Nothing, Flag, Whole, Real, Nan, SpecText, CallText, Handle}
use Rattle.cells.specs.declared.value.Pair.{Pair}
use Rattle.cells.specs.Text.{part_at}
use Rattle.cells.specs.Value.{pair_of, cells_of}
use Rattle.sheet_values.specs.Print.{Printable}
use Rattle.rules.proofs.LawsDigits.{decimal_fewest}

digits_same : (base k n : ℕ) → kit_digits base k n ≡ last_digits base k n
digits_same base zero n = refl
digits_same base (suc k) n = ap (λ (l : List ℕ). l ++ (glyph (n % base) ∷ [])) (digits_same base k (n / base))

le_pred : {m k : ℕ} → m < k → m ≤ k - 1
le_pred h = omega arith

module _ (n k : ℕ) (h : n < 2 ^ 64) where
  -- no u64 takes more digits
  fewest_decimal : IsDigitCount 10 1 n k → k ≤ 20
  fewest_decimal f = go (leb k 20) refl
    where
      go : (b : Bool) → leb k 20 ≡ b → k ≤ 20
      go true e = leb-true k 20 e
      go false e =
          let m : 20 < k = leb-false k 20 e in
          let p : 10 ^ 20 ≤ 10 ^ (k - 1) = pow-le-pow_right (omega arith) (le_pred m) in
          absurd (omega (arith, f.2 (omega arith)))

  fewest_bits : IsDigitCount 16 16 n k → k ≡ 16
  fewest_bits f = go (leb k 16) refl
    where
      go : (b : Bool) → leb k 16 ≡ b → k ≡ 16
      go true e = omega (arith, leb-true k 16 e, f.0)
      go false e =
          let m : 16 < k = leb-false k 16 e in
          let p : 16 ^ 16 ≤ 16 ^ (k - 1) = pow-le-pow_right (omega arith) (le_pred m) in
          absurd (omega (arith, f.2 m))

  pub spelled_decimal : IsDigitCount 10 1 n k → (held : List ℕ) → take k held ≡ kit_digits 10 k n → take k held ≡ decimal n
  spelled_decimal f held e = e ∙ digits_same 10 k n ∙ sym (decimal_fewest n k f.0 (fewest_decimal f) f.1 f.2)

  pub spelled_bits : IsDigitCount 16 16 n k → (held : List ℕ) → take k held ≡ kit_digits 16 k n → take k held ≡ last_digits 16 16 n
  spelled_bits f held e = e ∙ digits_same 16 k n ∙ ap (λ (m : ℕ). last_digits 16 m n) (fewest_bits f)

-- ---- a value by its case

pub whole_from_zero : (p : ℕ) → p < 2 ^ 63 → 105 ∷ decimal p ≡ 105 ∷ print_whole p
unfolding print_whole
whole_from_zero p h = rw (lt-ltb p (2 ^ 63) h)

-- behind `-` stands the number that wraps around to 0 with the payload
pub whole_below_zero : (p r : ℕ) → 2 ^ 63 ≤ p → p < 2 ^ 64 → r < 2 ^ 64 → (r + p) % 2 ^ 64 ≡ 0 → 105 ∷ 45 ∷ decimal r ≡ 105 ∷ print_whole p
unfolding print_whole
whole_below_zero p r h l m e = rw (le-ltb p (2 ^ 63) h) (ap (λ (n : ℕ). 105 ∷ 45 ∷ decimal n) (omega arith))

-- a part of an area, as the code lends it, is short; it is the text where that lies inside
pub part_length : (area : List ℕ) (payload : ℕ) → length (part_at area payload) ≤ 255
unfolding part_at bytes_at size_of
part_length area payload = go (inside area payload)
  where
    go : (b : Bool) → length (cond b (take (payload % 256) (drop (start_of payload) area)) []) ≤ 255
    go true = simp length-take (omega arith)
    go false = omega arith

part_inside_lem : (area : List ℕ) (payload : ℕ) → inside area payload ≡ true → part_at area payload ≡ bytes_at area payload
unfolding part_at
part_inside_lem area payload h = rw h

-- what is written for each case
abbrev pub form_of : List ℕ → List ℕ → ℕ → Value → List ℕ
form_of spec call payload Nothing = 110 ∷ []
form_of spec call payload (Flag b) = 98 ∷ decimal payload
form_of spec call payload (Whole z) = 105 ∷ print_whole payload
form_of spec call payload (Real x) = 114 ∷ last_digits 16 16 payload
form_of spec call payload (Nan bits) = 114 ∷ last_digits 16 16 payload
form_of spec call payload (SpecText t) = 115 ∷ part_at spec payload
form_of spec call payload (CallText t) = 115 ∷ part_at call payload
form_of spec call payload (Handle h) = 104 ∷ decimal payload

form_printed : (spec call : List ℕ) (x : Value) → Printable spec call x → form_of spec call (cells_of x).payload x ≡ print_value spec call (pair_of (cells_of x))
unfolding print_value spec_text call_text
form_printed spec call Nothing p = refl
form_printed spec call (Flag b) p = refl
form_printed spec call (Whole z) p = refl
form_printed spec call (Real x) p = refl
form_printed spec call (Nan bits) p = refl
form_printed spec call (SpecText t) p = ap (λ (l : List ℕ). 115 ∷ l) (part_inside_lem spec (payload_of t.start t.len) p)
form_printed spec call (CallText t) p = ap (λ (l : List ℕ). 115 ∷ l) (part_inside_lem call (payload_of t.start t.len) p)
form_printed spec call (Handle h) p = refl

-- of a value whose case and whose cells are known
pub printed_as : (spec call : List ℕ) (x case : Value) (cells : Pair) → x ≡ case → cells ≡ cells_of x → Printable spec call x
    → form_of spec call cells.payload case ≡ print_value spec call (pair_of (cells_of x))
printed_as spec call x case cells told c p =
    ap (form_of spec call cells.payload) (sym told) ∙ ap (λ (q : Pair). form_of spec call q.payload x) c ∙ form_printed spec call x p
