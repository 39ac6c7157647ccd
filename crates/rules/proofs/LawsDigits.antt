-- Laws of digits (01, sheets): the last digits of a number, how many they are, which bytes they are, what they are read as, and
-- which one stands in front; then the shortest decimal: it has no `0` in front, at most 20 digits, the number is read off it, and
-- it is the last k digits if k is how many the number takes. Then what reading digits one by one asks for. Assumes nothing.
use mathlib.Core.Path.{◌≡◌, refl, sym, ap, ◌∙◌}
use mathlib.Core.Bool.{Bool, true, false, cond, not, ◌&&◌}
use mathlib.Core.List.{List, [], ◌∷◌, ◌++◌}
use Prim.Native.Nat.{ℕ, zero, suc, ◌+◌, ◌-◌, ◌*◌, ◌/◌, ◌%◌, ◌^◌, ◌≤◌, ◌<◌}
use native.Mathlib.Nat.{pow-zero, pow-suc, pow-succ', mod-lt, div-add-mod', div-lt_iff_lt-mul, div-div-eq-div-mul, le-div_iff_mul-le, div-eq_of_lt, one-le-pow, pow-le-pow_right, zero-add, suc-add, sub-add_cancel, mul-le-mul_left}
use native.Mathlib.Numerals.{sub-one}
use native.Mathlib.Omega.{arith}
use lib.Dec.{ltb, eqb}
use lib.ListN.{length, length-append}
use borrow.Author.Tests.{ltb-true, ltb-false, le-leb, lt-leb, lt-ltb, eqb-true, ne_eqb}
use Rattle.rules.specs.Listing.{all}
use Rattle.rules.specs.SheetValue.{glyph, is_digit, is_hex_digit, worth, number_from, last_digits, is_shortest, without_zeros, decimal}
use Rattle.rules.proofs.LawsListing.{and_left, and_right, and_both, all_append}

-- ---- one digit

module _ (d : ℕ) (h : d < 16) where
  pub worth_glyph : worth (glyph d) ≡ d
  worth_glyph = go (ltb d 10) refl
    where
      go : (b : Bool) → ltb d 10 ≡ b → worth (cond b (48 + d) (87 + d)) ≡ d
      go true e =
          let s : d < 10 = ltb-true d 10 e in
          rw (le-leb (48 + d) 57 (omega arith)) (omega arith)
      go false e =
          let s : 10 ≤ d = ltb-false d 10 e in
          rw (lt-leb (87 + d) 57 (omega arith)) (omega arith)

  pub glyph_hex : is_hex_digit (glyph d) ≡ true
  glyph_hex = go (ltb d 10) refl
    where
      go : (b : Bool) → ltb d 10 ≡ b → is_hex_digit (cond b (48 + d) (87 + d)) ≡ true
      go true e =
          let s : d < 10 = ltb-true d 10 e in
          rw (le-leb 48 (48 + d) (omega arith), le-leb (48 + d) 57 (omega arith))
      go false e =
          let s : 10 ≤ d = ltb-false d 10 e in
          rw (le-leb 48 (87 + d) (omega arith), lt-leb (87 + d) 57 (omega arith), le-leb 97 (87 + d) (omega arith), le-leb (87 + d) 102 (omega arith))

pub glyph_ten : (d : ℕ) → d < 10 → glyph d ≡ 48 + d
glyph_ten d h = rw (lt-ltb d 10 h)

pub glyph_digit : (d : ℕ) → d < 10 → is_digit (glyph d) ≡ true
glyph_digit d h = rw (glyph_ten d h, le-leb 48 (48 + d) (omega arith), le-leb (48 + d) 57 (omega arith))

-- ---- the last digits of a number

module _ (base : ℕ) where
  pub digits_length : (k n : ℕ) → length (last_digits base k n) ≡ k
  digits_length zero n = refl
  digits_length (suc k) n = rw (length-append (last_digits base k (n / base)) (glyph (n % base) ∷ []), digits_length k (n / base)) (omega arith)

  pub digits_all : (test : ℕ → Bool) → ((n : ℕ) → test (glyph (n % base)) ≡ true) → (k n : ℕ) → all test (last_digits base k n) ≡ true
  digits_all test one zero n = refl
  digits_all test one (suc k) n =
      all_append test (last_digits base k (n / base)) (glyph (n % base) ∷ []) (digits_all test one k (n / base)) (and_both (test (glyph (n % base))) true (one n) refl)

  number_append : (before : ℕ) (xs ys : List ℕ) → number_from base before (xs ++ ys) ≡ number_from base (number_from base before xs) ys
  number_append before [] ys = refl
  number_append before (x ∷ xs) ys = number_append (before * base + worth x) xs ys

  pub digits_number : 0 < base → base ≤ 16 → (k n : ℕ) → n < base ^ k → number_from base 0 (last_digits base k n) ≡ n
  digits_number p s zero n h = let z : base ^ 0 ≡ 1 = pow-zero base in omega arith
  digits_number p s (suc k) n h =
      let m : n % base < base = mod-lt n p in
      let q : n / base < base ^ k = (div-lt_iff_lt-mul p).1 (rw (pow-suc base k) at h) in
      number_append 0 (last_digits base k (n / base)) (glyph (n % base) ∷ [])
      ∙ rw (digits_number p s k (n / base) q, worth_glyph (n % base) (omega arith)) (div-add-mod' n base)

  -- the digit in front
  pub digits_front : (k n : ℕ) → last_digits base (suc k) n ≡ glyph (n / base ^ k % base) ∷ last_digits base k n
  digits_front zero n = ap (λ (m : ℕ). glyph (m % base) ∷ []) (sym (rw (pow-zero base) (omega arith)))
  digits_front (suc k) n =
      ap (λ (l : List ℕ). l ++ (glyph (n % base) ∷ [])) (digits_front k (n / base))
      ∙ ap (λ (m : ℕ). glyph (m % base) ∷ last_digits base (suc k) n) (div-div-eq-div-mul n base (base ^ k) ∙ ap (λ (m : ℕ). n / m) (sym (pow-succ' base k)))

-- ---- shortest decimals

-- without the `0`s in front: one `0` less, and what is kept
zeros_less : (l : List ℕ) → 0 < length l → without_zeros (48 ∷ l) ≡ without_zeros l
zeros_less [] h = absurd (omega arith)
zeros_less (c ∷ l) h = refl

zeros_kept : (b : ℕ) (l : List ℕ) → (b ≡ 48 → ⊥) → without_zeros (b ∷ l) ≡ b ∷ l
zeros_kept b [] n = refl
zeros_kept b (c ∷ l) n = rw (ne_eqb b 48 n)

-- what holds of digits without one `0` in front of them, and of all of them otherwise, holds of those without any
zeros_ind : (P : List ℕ → List ℕ → Type 0)
    → P [] []
    → ((b : ℕ) → P (b ∷ []) (b ∷ []))
    → ((c : ℕ) (bs left : List ℕ) → P (c ∷ bs) left → P (48 ∷ c ∷ bs) left)
    → ((b c : ℕ) (bs : List ℕ) → eqb b 48 ≡ false → P (b ∷ c ∷ bs) (b ∷ c ∷ bs))
    → (bs : List ℕ) → P bs (without_zeros bs)
zeros_ind P nil one less kept [] = nil
zeros_ind P nil one less kept (b ∷ []) = one b
zeros_ind P nil one less kept (b ∷ c ∷ bs) = go (zeros_ind P nil one less kept (c ∷ bs)) (eqb b 48) refl
  where
    go : P (c ∷ bs) (without_zeros (c ∷ bs)) → (t : Bool) → eqb b 48 ≡ t → P (b ∷ c ∷ bs) (cond t (without_zeros (c ∷ bs)) (b ∷ c ∷ bs))
    go rest true e = rw (eqb-true b 48 e) (less c bs (without_zeros (c ∷ bs)) rest)
    go rest false e = kept b c bs e

zeros_number : (bs : List ℕ) → number_from 10 0 (without_zeros bs) ≡ number_from 10 0 bs
zeros_number =
    zeros_ind (λ bs left. number_from 10 0 left ≡ number_from 10 0 bs) refl (λ b. refl) (λ c bs left p. p) (λ b c bs e. refl)

zeros_length : (bs : List ℕ) → length (without_zeros bs) ≤ length bs
zeros_length =
    zeros_ind (λ bs left. length left ≤ length bs) (omega arith) (λ b. omega arith) (λ c bs left p. omega arith) (λ b c bs e. omega arith)

zeros_shortest : (bs : List ℕ) → 0 < length bs → all is_digit bs ≡ true → is_shortest (without_zeros bs) ≡ true
zeros_shortest =
    zeros_ind (λ bs left. 0 < length bs → all is_digit bs ≡ true → is_shortest left ≡ true) (λ p h. absurd (omega arith))
    (λ b p h. and_left (is_digit b) true h)
    (λ c bs left p q h. p (omega arith) (and_right (is_digit 48) (all is_digit (c ∷ bs)) h))
    (λ b c bs e p h.
    and_both (is_digit b && not (eqb b 48)) (all is_digit (c ∷ bs))
    (and_both (is_digit b) (not (eqb b 48)) (and_left (is_digit b) (all is_digit (c ∷ bs)) h) (ap not e)) (and_right (is_digit b) (all is_digit (c ∷ bs)) h))

decimal_digits : (n : ℕ) → all is_digit (last_digits 10 20 n) ≡ true
decimal_digits n = digits_all 10 is_digit (λ m. glyph_digit (m % 10) (omega arith)) 20 n

-- the shortest decimal of a number: how many digits it has, that it is one, and its number
pub decimal_length : (n : ℕ) → length (decimal n) ≤ 20
unfolding decimal
decimal_length n = omega (arith, zeros_length (last_digits 10 20 n), digits_length 10 20 n)

pub decimal_shortest : (n : ℕ) → is_shortest (decimal n) ≡ true
unfolding decimal
decimal_shortest n = zeros_shortest (last_digits 10 20 n) (omega (arith, digits_length 10 20 n)) (decimal_digits n)

pub decimal_number : (n : ℕ) → n < 10 ^ 20 → number_from 10 0 (decimal n) ≡ n
unfolding decimal
decimal_number n h = zeros_number (last_digits 10 20 n) ∙ digits_number 10 (omega arith) (omega arith) 20 n h

-- in 20 digits those in front of the k that a number takes are `0`, and the first of these is not
zeros_lead : (j k n : ℕ) → 1 ≤ k → n < 10 ^ k → without_zeros (last_digits 10 (j + k) n) ≡ without_zeros (last_digits 10 k n)
zeros_lead zero k n p h = ap (λ (m : ℕ). without_zeros (last_digits 10 m n)) (zero-add k)
zeros_lead (suc j) k n p h =
    let more : 10 ^ k ≤ 10 ^ (j + k) = pow-le-pow_right (omega arith) (omega arith) in
    let top : n / 10 ^ (j + k) ≡ 0 = div-eq_of_lt (omega arith) in
    ap (λ (m : ℕ). without_zeros (last_digits 10 m n)) (suc-add j k)
    ∙ ap without_zeros (digits_front 10 (j + k) n ∙ ap (λ (m : ℕ). glyph (m % 10) ∷ last_digits 10 (j + k) n) top)
    ∙ zeros_less (last_digits 10 (j + k) n) (omega (arith, digits_length 10 (j + k) n))
    ∙ zeros_lead j k n p h

zeros_top : (k n : ℕ) → 1 ≤ k → n < 10 ^ k → (1 < k → 10 ^ (k - 1) ≤ n) → without_zeros (last_digits 10 k n) ≡ last_digits 10 k n
zeros_top zero n p h l = refl
zeros_top (suc zero) n p h l = refl
zeros_top (suc (suc i)) n p h l =
    rw (digits_front 10 (suc i) n) (zeros_kept (glyph (n / 10 ^ suc i % 10)) (last_digits 10 (suc i) n) (λ e. omega (arith, top, glyph_ten (n / 10 ^ suc i % 10) (omega arith))))
  where
    positive : 0 < 10 ^ suc i
    positive = one-le-pow (suc i) 10 (omega arith)

    least : 10 ^ suc i ≤ n
    least = rw (sub-one (suc (suc i))) at (l (omega arith))

    top : 1 ≤ n / 10 ^ suc i % 10
    top =
        let q : 1 ≤ n / 10 ^ suc i = (le-div_iff_mul-le positive).1 (omega (arith, least)) in
        let s : n / 10 ^ suc i < 10 = (div-lt_iff_lt-mul positive).1 (rw (pow-succ' 10 (suc i)) at h) in
        omega arith

pub decimal_fewest : (n k : ℕ) → 1 ≤ k → k ≤ 20 → n < 10 ^ k → (1 < k → 10 ^ (k - 1) ≤ n) → decimal n ≡ last_digits 10 k n
unfolding decimal
decimal_fewest n k p s h l =
    ap (λ (m : ℕ). without_zeros (last_digits 10 m n)) (sym (sub-add_cancel s)) ∙ zeros_lead (20 - k) k n p h ∙ zeros_top k n p h l

-- ---- digits read one by one

-- more digits make no smaller number
pub number_least : (base before : ℕ) (bs : List ℕ) → 1 ≤ base → before ≤ number_from base before bs
number_least base before [] p = omega arith
number_least base before (b ∷ bs) p =
    let m : before * 1 ≤ before * base = mul-le-mul_left before p in
    let r : before * base + worth b ≤ number_from base (before * base + worth b) bs = number_least base (before * base + worth b) bs p in
    omega arith
