-- Digits read one by one, as the loops over them ask for it (01, sheets): what is taken at a byte that is no digit, at a digit and at
-- the end, and past which limit it is; the room that 16 hexadecimal digits take; then the shortest decimal by its length and its first
-- digit, and the number behind `-`. Assumes nothing.
use mathlib.Core.Path.{◌≡◌, refl, sym, ap, ◌∙◌}
use mathlib.Core.Bool.{Bool, true, false, cond, not, ◌&&◌, ◌||◌, and-true, and-false}
use mathlib.Core.List.{List, [], ◌∷◌}
use mathlib.Core.Option.{Option, none, some}
use Prim.Native.Nat.{ℕ, zero, suc, ◌+◌, ◌-◌, ◌*◌, ◌%◌, ◌^◌, ◌≤◌, ◌<◌}
use native.Mathlib.Nat.{pow-suc, pow-le-pow_right}
use native.Mathlib.Numerals.{add-one}
use native.Mathlib.Omega.{arith}
use lib.Arith.{digits_lt}
use lib.Dec.{leb, ltb, eqb}
use lib.Pointwise.{pointwise}
use lib.ListN.{length, take, drop, get_or}
use lib.Seq.{drop-cons}
use borrow.Author.Tests.{leb-true, leb-false, le-leb, lt-ltb, le-ltb, eq-eqb, ne_eqb}
use Rattle.rules.specs.Listing.{all}
use Rattle.rules.specs.SheetValue.{is_digit, is_hex_digit, worth, number_from, is_shortest, read_decimal, read_whole, read_bits}
use Rattle.rules.proofs.LawsListing.{and_right}
use Rattle.rules.proofs.LawsDigits.{number_least}
use Rattle.std.specs.Bool.{then_some}
use Rattle.sheet_values.specs.Read.{number_of, taken, below, negated, hex_worth}

-- ---- one digit

module _ (b : ℕ) (h : is_digit b ≡ true) where
  pub digit_most : b ≤ 57
  digit_most = leb-true b 57 (and_right (leb 48 b) (leb b 57) h)

  pub digit_worth : worth b ≡ b - 48
  digit_worth = rw (le-leb b 57 digit_most)

module _ (b : ℕ) (o : Option ℕ) (e : hex_worth b ≡ o) where
  pub hex_none : o ≡ none → is_hex_digit b ≡ false
  unfolding hex_worth
  hex_none n = go (is_hex_digit b) (e ∙ n)
    where
      go : (t : Bool) → cond t (some (worth b)) none ≡ none → t ≡ false
      go true s = let z : ◌≡◌ {A = ℕ} 0 1 = cc in absurd (omega arith)
      go false s = refl

  pub hex_some : (d : ℕ) → o ≡ some d → (is_hex_digit b ≡ true) × (worth b ≡ d)
  unfolding hex_worth
  hex_some d n = go (is_hex_digit b) (e ∙ n)
    where
      go : (t : Bool) → cond t (some (worth b)) none ≡ some d → (t ≡ true) × (worth b ≡ d)
      go true s = (refl, cc)
      go false s = let z : ◌≡◌ {A = ℕ} 0 1 = cc in absurd (omega arith)

pub hex_most : (b : ℕ) → is_hex_digit b ≡ true → worth b < 16
hex_most b h = go (leb b 57) refl
  where
    letter : leb b 57 ≡ false → leb b 102 ≡ true
    letter e = and_right (leb 97 b) (leb b 102) (sym (ap (λ (t : Bool). leb 48 b && t || leb 97 b && leb b 102) e ∙ ap (λ (t : Bool). t || leb 97 b && leb b 102) (and-false (leb 48 b))) ∙ h)

    go : (t : Bool) → leb b 57 ≡ t → cond t (b - 48) (b - 87) < 16
    go true e = omega (arith, leb-true b 57 e)
    go false e = omega (arith, leb-true b 102 (letter e))

-- ---- a run of digits

module _ (test : ℕ → Bool) (base before : ℕ) (bs : List ℕ) (i : ℕ) where
  pub taken_none : i < length bs → test (get_or bs i 0) ≡ false → taken test base before (drop i bs) ≡ none
  taken_none h t = rw (drop-cons bs i 0, t)

  pub taken_next : i < length bs → test (get_or bs i 0) ≡ true → taken test base before (drop i bs) ≡ taken test base (before * base + worth (get_or bs i 0)) (drop (i + 1) bs)
  taken_next h t = rw (add-one i, drop-cons bs i 0, t)

-- more digits lead no nearer to a limit that was passed
pub below_past : (test : ℕ → Bool) (base before limit : ℕ) (bs : List ℕ) → 1 ≤ base → limit ≤ before → below limit (taken test base before bs) ≡ none
below_past test base before limit bs p h = go (all test bs)
  where
    go : (t : Bool) → below limit (cond t (some (number_from base before bs)) none) ≡ none
    go true = rw (le-ltb (number_from base before bs) limit (omega (arith, number_least base before bs p)))
    go false = refl

-- a number of i hexadecimal digits, i below 16, and one digit more
module _ (n i d : ℕ) (h : n < 16 ^ i) where
  pub bits_room : i < 16 → n * 16 + 15 < 2 ^ 64
  bits_room l = let m : i ≤ 15 = omega arith in let p : 16 ^ i ≤ 16 ^ 15 = pow-le-pow_right (omega arith) m in omega arith

  pub bits_more : d < 16 → n * 16 + d < 16 ^ (i + 1)
  bits_more l = rw (add-one i, pow-suc 16 i) (digits_lt h l)

pub bits_taken : (bs : List ℕ) → length bs ≡ 16 → read_bits bs ≡ taken is_hex_digit 16 0 bs
unfolding read_bits
bits_taken bs h = rw (eq-eqb (length bs) 16 h)

pub bits_other : (bs : List ℕ) → (length bs ≡ 16 → ⊥) → read_bits bs ≡ none
unfolding read_bits
bits_other bs h = rw (ne_eqb (length bs) 16 h)

-- ---- shortest decimals

decimal_run : (limit : ℕ) (bs : List ℕ) → is_shortest bs ≡ all is_digit bs → read_decimal limit bs ≡ below limit (taken is_digit 10 0 bs)
unfolding read_decimal
decimal_run limit bs e = rw e (go (all is_digit bs))
  where
    go : (t : Bool) → cond (t && ltb (number_from 10 0 bs) limit) (some (number_from 10 0 bs)) none ≡ below limit (cond t (some (number_from 10 0 bs)) none)
    go true = refl
    go false = refl

module _ (limit : ℕ) where
  pub decimal_empty : (bs : List ℕ) → length bs ≡ 0 → read_decimal limit bs ≡ none
  unfolding read_decimal
  decimal_empty [] h = refl
  decimal_empty (b ∷ bs) h = absurd (omega arith)

  pub decimal_single : (bs : List ℕ) → length bs ≡ 1 → read_decimal limit bs ≡ below limit (taken is_digit 10 0 bs)
  decimal_single [] h = absurd (omega arith)
  decimal_single (b ∷ []) h = decimal_run limit (b ∷ []) (sym (and-true (is_digit b)))
  decimal_single (b ∷ c ∷ bs) h = absurd (omega arith)

  pub decimal_zero : (bs : List ℕ) → (length bs ≡ 1 → ⊥) → get_or bs 0 0 ≡ 48 → read_decimal limit bs ≡ none
  unfolding read_decimal
  decimal_zero [] h e = refl
  decimal_zero (b ∷ []) h e = absurd (h refl)
  decimal_zero (b ∷ c ∷ bs) h e = rw e

  pub decimal_longer : (bs : List ℕ) → (length bs ≡ 0 → ⊥) → (length bs ≡ 1 → ⊥) → (get_or bs 0 0 ≡ 48 → ⊥) → read_decimal limit bs ≡ below limit (taken is_digit 10 0 bs)
  decimal_longer [] z h n = absurd (z refl)
  decimal_longer (b ∷ []) z h n = absurd (h refl)
  decimal_longer (b ∷ c ∷ bs) z h n = decimal_run limit (b ∷ c ∷ bs) (rw (ne_eqb b 48 n, and-true (is_digit b)))

-- ---- whole numbers

pub whole_unsigned : (bs : List ℕ) → pointwise eqb (take 1 bs) (45 ∷ []) ≡ false → read_whole bs ≡ read_decimal (2 ^ 63) bs
unfolding read_decimal
whole_unsigned [] h = refl
whole_unsigned (b ∷ bs) h = rw (sym (and-true (eqb b 45)) ∙ h)

pub whole_negative : (bs : List ℕ) → pointwise eqb (take 1 bs) (45 ∷ []) ≡ true → read_whole bs ≡ negated (read_decimal (2 ^ 63 + 1) (drop 1 bs))
unfolding read_decimal
whole_negative [] e = let z : ◌≡◌ {A = ℕ} 0 1 = cc in absurd (omega arith)
whole_negative (b ∷ bs) e = rw (sym (and-true (eqb b 45)) ∙ e) (go (is_shortest bs) (number_from 10 0 bs) (leb (number_from 10 0 bs) (2 ^ 63)) refl)
  where
    go : (t : Bool) (n : ℕ) (l : Bool) → leb n (2 ^ 63) ≡ l
        → cond (t && leb 1 n && leb n (2 ^ 63)) (some (2 ^ 64 - n)) none ≡ negated (cond (t && ltb n (2 ^ 63 + 1)) (some n) none)
    go false n l h = refl
    go true zero l h = refl
    go true (suc n) true h =
        let m : suc n ≤ 2 ^ 63 = leb-true (suc n) (2 ^ 63) h in
        rw (h, le-leb 1 (suc n) (omega arith), lt-ltb (suc n) (2 ^ 63 + 1) (omega arith))
    go true (suc n) false h =
        let m : 2 ^ 63 < suc n = leb-false (suc n) (2 ^ 63) h in
        rw (h, le-leb 1 (suc n) (omega arith), le-ltb (suc n) (2 ^ 63 + 1) (omega arith))

-- a number and its complement wrap around to 0
pub twos_complement : (n r : ℕ) → n < 2 ^ 64 → r < 2 ^ 64 → (r + n) % 2 ^ 64 ≡ 0 → number_of (then_some (not (eqb n 0)) r) ≡ negated (some n)
twos_complement zero r l m h = refl
twos_complement (suc n) r l m h = rw (ne_eqb (suc n) 0 (λ e. omega arith)) (ap some (omega arith))
