-- Values in the cells of a sheet, both ways (01, sheets): each form is read back as what it was printed from, so a value that is well formed
-- is read back out of its cell as the same kind and payload, or as the same bytes where it is a text (`round_trip`). That is said of the cell
-- by itself: a text that holds a comma or a line feed parts its line. Then how long a printed value is (`print_short`). Digits are in LawsDigits.
-- Assumes nothing.
use mathlib.Core.Path.{◌≡◌, refl, sym, ap, ◌∙◌, subst}
use mathlib.Core.Bool.{Bool, true, false, cond, not, or-false, ◌&&◌, ◌||◌}
use mathlib.Core.List.{List, [], ◌∷◌}
use mathlib.Core.Option.{some}
use Prim.Native.Nat.{ℕ, zero, suc, ◌-◌, ◌%◌, ◌^◌, ◌≤◌, ◌<◌}
use native.Mathlib.Omega.{arith}
use lib.Dec.{T, leb, ltb, eqb}
use lib.ListN.{length, length-take}
use borrow.Author.Tests.{ltb-true, ltb-false, leb-true, le-leb, lt-ltb, eqb-true, ne_eqb}
use Rattle.rules.specs.Listing.{all}
use Rattle.rules.specs.Text.{size_of, bytes_at, is_text, inside}
use Rattle.rules.specs.Value.{Value, spec_text, call_text, well_formed, well_formed_default, well_formed_argument}
use Rattle.rules.specs.SheetValue.{CellValue, written, quoted, is_digit, is_hex_digit, last_digits, is_shortest, decimal, read_decimal, read_whole, print_whole, read_bits, read_form, read_cell, print_value}
use Rattle.rules.proofs.LawsListing.{and_left, and_right}
use Rattle.rules.proofs.LawsDigits.{glyph_hex, digits_length, digits_all, digits_number, decimal_length, decimal_shortest, decimal_number}

-- ---- each form is read back

-- a number below the limit is read off its shortest decimal
pub decimal_back : (limit n : ℕ) → n < limit → n < 10 ^ 20 → read_decimal limit (decimal n) ≡ some n
unfolding read_decimal
decimal_back limit n l h = rw (decimal_number n h, decimal_shortest n, lt-ltb n limit l)

-- a flag takes one digit
flag_length : (n : ℕ) → n < 2 → length (decimal n) ≡ 1
unfolding decimal
flag_length zero h = refl
flag_length (suc zero) h = refl
flag_length (suc (suc n)) h = absurd (omega arith)

-- what begins with a digit is no number below 0
digit_first : (bs : List ℕ) → is_shortest bs ≡ true → read_whole bs ≡ read_decimal (2 ^ 63) bs
digit_first [] h = absurd (subst T (sym h) tt)
digit_first (b ∷ bs) h = rw (ne_eqb b 45 (λ e. omega (arith, leb-true 48 b (first b bs h))))
  where
    first : (b : ℕ) (bs : List ℕ) → is_shortest (b ∷ bs) ≡ true → leb 48 b ≡ true
    first b [] h = and_left (leb 48 b) (leb b 57) h
    first b (c ∷ bs) h =
        and_left (leb 48 b) (leb b 57)
        (and_left (is_digit b) (not (eqb b 48)) (and_left (is_digit b && not (eqb b 48)) (all is_digit (c ∷ bs)) h))

pub whole_back : (p : ℕ) → p < 2 ^ 64 → read_whole (print_whole p) ≡ some p
unfolding print_whole
whole_back p h = go (ltb p (2 ^ 63)) refl
  where
    go : (b : Bool) → ltb p (2 ^ 63) ≡ b → read_whole (cond b (decimal p) (45 ∷ decimal (2 ^ 64 - p))) ≡ some p
    go true e =
        let l : p < 2 ^ 63 = ltb-true p (2 ^ 63) e in
        digit_first (decimal p) (decimal_shortest p) ∙ decimal_back (2 ^ 63) p l (omega arith)
    go false e =
        let l : 2 ^ 63 ≤ p = ltb-false p (2 ^ 63) e in
        rw (decimal_number (2 ^ 64 - p) (omega arith), decimal_shortest (2 ^ 64 - p), le-leb 1 (2 ^ 64 - p) (omega arith), le-leb (2 ^ 64 - p) (2 ^ 63) (omega arith))
        (ap some (omega arith))

pub bits_back : (p : ℕ) → p < 2 ^ 64 → read_bits (last_digits 16 16 p) ≡ some p
unfolding read_bits
bits_back p h =
    rw (digits_number 16 (omega arith) (omega arith) 16 p h, digits_length 16 16 p, digits_all 16 is_hex_digit (λ m. glyph_hex (m % 16) (omega arith)) 16 p)

-- ---- which payloads a kind has

abbrev value : ℕ → ℕ → Value
value kind payload = record { kind = kind; payload = payload }

-- what is well formed somewhere, without its area
abbrev fits : ℕ → ℕ → Bool
fits zero payload = false
fits (suc zero) payload = eqb payload 0
fits (suc (suc zero)) payload = ltb payload 2
fits (suc (suc (suc zero))) payload = true
fits (suc (suc (suc (suc zero)))) payload = true
fits (suc (suc (suc (suc (suc zero))))) payload = leb (size_of payload) 64
fits (suc (suc (suc (suc (suc (suc zero)))))) payload = leb (size_of payload) 64
fits (suc (suc (suc (suc (suc (suc (suc zero))))))) payload = ltb payload (2 ^ 32)
fits (suc (suc (suc (suc (suc (suc (suc (suc kind)))))))) payload = false

past : (kind k : ℕ) → k < 8 → eqb (suc (suc (suc (suc (suc (suc (suc (suc kind)))))))) k ≡ false
past kind k h = ne_eqb (suc (suc (suc (suc (suc (suc (suc (suc kind)))))))) k (λ e. omega arith)

-- `text` is the kind of text that is used there
module _ (text : ℕ) (area : List ℕ) (own : (payload : ℕ) → well_formed text area (value text payload) ≡ true → fits text payload ≡ true) where
  plain_fits : (kind payload : ℕ) → eqb kind text ≡ false → well_formed text area (value kind payload) ≡ true → fits kind payload ≡ true
  unfolding well_formed
  plain_fits zero payload n w = simp n at w
  plain_fits (suc zero) payload n w = simp (n, or-false) at w
  plain_fits (suc (suc zero)) payload n w = simp (n, or-false) at w
  plain_fits (suc (suc (suc zero))) payload n w = refl
  plain_fits (suc (suc (suc (suc zero)))) payload n w = refl
  plain_fits (suc (suc (suc (suc (suc zero))))) payload n w = absurd (subst T (sym (simp n at w)) tt)
  plain_fits (suc (suc (suc (suc (suc (suc zero)))))) payload n w = absurd (subst T (sym (simp n at w)) tt)
  plain_fits (suc (suc (suc (suc (suc (suc (suc zero))))))) payload n w = simp n at w
  plain_fits (suc (suc (suc (suc (suc (suc (suc (suc kind)))))))) payload n w =
      simp (n, past kind 1 (omega arith), past kind 2 (omega arith), past kind 3 (omega arith), past kind 4 (omega arith), past kind 7 (omega arith)) at w

  well_fits : (kind payload : ℕ) → well_formed text area (value kind payload) ≡ true → fits kind payload ≡ true
  well_fits kind payload w = go (eqb kind text) refl
    where
      go : (b : Bool) → eqb kind text ≡ b → fits kind payload ≡ true
      go true e =
          let k : kind ≡ text = eqb-true kind text e in
          rw k (own payload (rw k at w))
      go false e = plain_fits kind payload e w

text_size : (area : List ℕ) (payload : ℕ) → is_text 0 area payload || false ≡ true → leb (size_of payload) 64 ≡ true
unfolding is_text
text_size area payload w =
    and_right (inside area payload && leb 0 (size_of payload)) (leb (size_of payload) 64) (simp or-false at w)

-- well formed as a default, or in a call
abbrev pub formed : List ℕ → List ℕ → Value → Bool
formed spec call v = well_formed_default spec v || well_formed_argument call v

formed_fits : (spec call : List ℕ) (v : Value) → formed spec call v ≡ true → fits v.kind v.payload ≡ true
unfolding well_formed_default well_formed_argument spec_text call_text well_formed
formed_fits spec call v w = go (well_formed 5 spec v) refl w
  where
    go : (b : Bool) → well_formed 5 spec v ≡ b → b || well_formed 6 call v ≡ true → fits v.kind v.payload ≡ true
    go true e w = well_fits 5 spec (text_size spec) v.kind v.payload e
    go false e w = well_fits 6 call (text_size call) v.kind v.payload w

-- ---- the round trip

-- what a value's cell stands for: the bytes of a text, and any other value itself
unfoldable pub stands_for : List ℕ → List ℕ → Value → CellValue
stands_for spec call v =
    cond (eqb v.kind spec_text) (quoted (bytes_at spec v.payload))
    (cond (eqb v.kind call_text) (quoted (bytes_at call v.payload)) (written v))

trip : (spec call : List ℕ) (kind payload : ℕ) → payload < 2 ^ 64 → fits kind payload ≡ true
    → read_cell (print_value spec call (value kind payload)) ≡ some (stands_for spec call (value kind payload))
unfolding print_value read_form stands_for spec_text call_text
trip spec call zero payload h f = absurd (subst T (sym f) tt)
trip spec call (suc zero) payload h f = rw (eqb-true payload 0 f)
trip spec call (suc (suc zero)) payload h f = rw (flag_length payload (ltb-true payload 2 f), decimal_back 2 payload (ltb-true payload 2 f) (omega arith))
trip spec call (suc (suc (suc zero))) payload h f = rw (whole_back payload h)
trip spec call (suc (suc (suc (suc zero)))) payload h f = rw (bits_back payload h)
trip spec call (suc (suc (suc (suc (suc zero))))) payload h f = refl
trip spec call (suc (suc (suc (suc (suc (suc zero)))))) payload h f = refl
trip spec call (suc (suc (suc (suc (suc (suc (suc zero))))))) payload h f =
    rw (decimal_back (2 ^ 32) payload (ltb-true payload (2 ^ 32) f) (omega arith))
trip spec call (suc (suc (suc (suc (suc (suc (suc (suc kind)))))))) payload h f = absurd (subst T (sym f) tt)

pub round_trip : (spec call : List ℕ) (v : Value) → v.payload < 2 ^ 64 → formed spec call v ≡ true → read_cell (print_value spec call v) ≡ some (stands_for spec call v)
round_trip spec call v h w = trip spec call v.kind v.payload h (formed_fits spec call v w)

-- ---- what a printed value is made of

-- what holds of each form holds of every printed value; two cells of no kind print nothing
module _ (spec call : List ℕ) (payload : ℕ) (P : List ℕ → Type 0) (nothing : P []) (single : P (110 ∷ [])) (number : (mark : ℕ) → 98 ≤ mark → P (mark ∷ decimal payload)) (whole : P (105 ∷ print_whole payload)) (bits : P (114 ∷ last_digits 16 16 payload)) where
  print_forms : (kind : ℕ)
      → (kind ≡ spec_text → P (115 ∷ bytes_at spec payload))
      → (kind ≡ call_text → P (115 ∷ bytes_at call payload))
      → P (print_value spec call (value kind payload))
  unfolding print_value spec_text call_text
  print_forms zero s t = nothing
  print_forms (suc zero) s t = single
  print_forms (suc (suc zero)) s t = number 98 (omega arith)
  print_forms (suc (suc (suc zero))) s t = whole
  print_forms (suc (suc (suc (suc zero)))) s t = bits
  print_forms (suc (suc (suc (suc (suc zero))))) s t = s refl
  print_forms (suc (suc (suc (suc (suc (suc zero)))))) s t = t refl
  print_forms (suc (suc (suc (suc (suc (suc (suc zero))))))) s t = number 104 (omega arith)
  print_forms (suc (suc (suc (suc (suc (suc (suc (suc kind)))))))) s t =
      rw (past kind 1 (omega arith), past kind 2 (omega arith), past kind 3 (omega arith), past kind 4 (omega arith), past kind 5 (omega arith), past kind 6 (omega arith), past kind 7 (omega arith))
      nothing

whole_length : (p : ℕ) → length (print_whole p) ≤ 21
unfolding print_whole
whole_length p = go (ltb p (2 ^ 63))
  where
    go : (b : Bool) → length (cond b (decimal p) (45 ∷ decimal (2 ^ 64 - p))) ≤ 21
    go true = omega (arith, decimal_length p)
    go false = omega (arith, decimal_length (2 ^ 64 - p))

bytes_length : (area : List ℕ) (payload : ℕ) → length (bytes_at area payload) ≤ size_of payload
unfolding bytes_at
bytes_length area payload = simp length-take (omega arith)

-- not over `most`, if no text is
within : (spec call : List ℕ) (kind payload most : ℕ) → 64 ≤ most
    → (kind ≡ spec_text → size_of payload ≤ most)
    → (kind ≡ call_text → size_of payload ≤ most)
    → length (print_value spec call (value kind payload)) ≤ suc most
within spec call kind payload most m s t =
    print_forms spec call payload (λ l. length l ≤ suc most) (omega arith) (omega arith) (λ mark g. omega (arith, decimal_length payload))
    (omega (arith, whole_length payload)) (omega (arith, digits_length 16 16 payload)) kind
    (λ k. omega (arith, s k, bytes_length spec payload)) (λ k. omega (arith, t k, bytes_length call payload))

pub print_short : (spec call : List ℕ) (v : Value) → formed spec call v ≡ true → length (print_value spec call v) ≤ 65
unfolding spec_text call_text
print_short spec call v w = within spec call v.kind v.payload 64 (omega arith) (λ k. short 5 k refl) (λ k. short 6 k refl)
  where
    short : (text : ℕ) → v.kind ≡ text → fits text v.payload ≡ leb (size_of v.payload) 64 → size_of v.payload ≤ 64
    short text k e = leb-true (size_of v.payload) 64 (sym e ∙ sym (ap (λ (t : ℕ). fits t v.payload) k) ∙ formed_fits spec call v w)
