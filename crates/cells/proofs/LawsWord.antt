-- Laws of bytes as one number, in this order: a number by its leading and its last bytes; bytes by their number; the first and the last bytes of
-- eight; a text inside its area, and its last bytes. Assumes nothing.
use mathlib.Core.Path.{◌≡◌, refl, sym, ap, ap₂, subst, ◌∙◌}
use mathlib.Core.Bool.{true}
use mathlib.Core.List.{List, [], ◌∷◌, ◌++◌}
use Prim.Native.Nat.{ℕ, zero, suc, ◌+◌, ◌-◌, ◌*◌, ◌/◌, ◌%◌, ◌^◌, ◌<◌, ◌≤◌}
use native.Mathlib.Nat.{zero-add, suc-add, add_assoc, add-mul, mul_assoc, pow-succ', one-le-pow}
use native.Mathlib.Omega.{arith}
use lib.Arith.{digits_lt, digits_div, digits_mod}
use lib.Dec.{eqb, leb}
use lib.ListN.{length, take, drop, get_or, length-take, length-drop, take-append-drop}
use lib.Seq.{take-nil, take-take, take_all, get_or-drop, drop-drop, length-take-le}
use borrow.Author.Tests.{eqb-true, eq-eqb, leb-true, le-leb}
use Rattle.rules.specs.Text.{same_bytes, start_of, size_of, bytes_at, inside}
use Rattle.rules.proofs.LawsListing.{and_right, and_both, same_test}
use Rattle.rules.proofs.LawsText.{same_bytes_eq, eq_same_bytes}
use Rattle.cells.specs.Text.{part_at, key_from, key_of, last_key, IsWord, HasWord}

-- ---- leading and last bytes

abbrev pub Bytes : List ℕ → Type 0
Bytes xs = (j : ℕ) → get_or xs j 0 < 256

pub bytes_take : (n : ℕ) (xs : List ℕ) → Bytes xs → Bytes (take n xs)
bytes_take zero xs bytes j = omega arith
bytes_take (suc n) [] bytes j = bytes j
bytes_take (suc n) (x ∷ xs) bytes zero = bytes zero
bytes_take (suc n) (x ∷ xs) bytes (suc j) = bytes_take n xs (λ k. bytes (suc k)) j

pub bytes_drop : (n : ℕ) (xs : List ℕ) → Bytes xs → Bytes (drop n xs)
bytes_drop n xs bytes j = rw (get_or-drop n xs j 0) (bytes (n + j))

key_from_high : (k : ℕ) (ys : List ℕ) → key_from k ys ≡ k * 256 ^ length ys + key_from 0 ys
key_from_high k [] = omega arith
key_from_high k (b ∷ bs) =
    key_from_high (k * 256 + b) bs
    ∙ ap (λ n. n + key_from 0 bs) (add-mul (k * 256) b (256 ^ length bs) ∙ ap (λ n. n + b * 256 ^ length bs) (mul_assoc k 256 (256 ^ length bs) ∙ ap (λ n. k * n) (sym (pow-succ' 256 (length bs)))))
    ∙ add_assoc (k * 256 ^ suc (length bs)) (b * 256 ^ length bs) (key_from 0 bs)
    ∙ ap (λ n. k * 256 ^ suc (length bs) + n) (sym (ap (λ n. key_from n bs) (zero-add b) ∙ key_from_high b bs))

first_byte : (b : ℕ) (bs : List ℕ) → key_from 0 (b ∷ bs) ≡ b * 256 ^ length bs + key_from 0 bs
first_byte b bs = ap (λ n. key_from n bs) (zero-add b) ∙ key_from_high b bs

key_from_split : (k : ℕ) (xs ys : List ℕ) → key_from k (xs ++ ys) ≡ key_from (key_from k xs) ys
key_from_split k [] ys = refl
key_from_split k (x ∷ xs) ys = key_from_split (k * 256 + x) xs ys

key_from_below : (ys : List ℕ) → Bytes ys → key_from 0 ys < 256 ^ length ys
key_from_below [] bytes = omega arith
key_from_below (b ∷ bs) bytes =
    rw (first_byte b bs, pow-succ' 256 (length bs)) (digits_lt (bytes zero) (key_from_below bs (λ j. bytes (suc j))))

-- ---- bytes by their number

pub key_from_same : (xs ys : List ℕ) → length xs ≡ length ys → Bytes xs → Bytes ys → key_from 0 xs ≡ key_from 0 ys → xs ≡ ys
key_from_same [] [] l p q e = refl
key_from_same [] (y ∷ ys) l p q e = absurd (omega arith)
key_from_same (x ∷ xs) [] l p q e = absurd (omega arith)
key_from_same (x ∷ xs) (y ∷ ys) l p q e =
    let l' : length xs ≡ length ys = omega arith in
    let low = key_from_below xs (λ j. p (suc j)) in
    let low' = subst (λ n. key_from 0 ys < 256 ^ n) (sym l') (key_from_below ys (λ j. q (suc j))) in
    let both : x * 256 ^ length xs + key_from 0 xs ≡ y * 256 ^ length xs + key_from 0 ys = sym (first_byte x xs) ∙ e ∙ first_byte y ys ∙ ap (λ n. y * 256 ^ n + key_from 0 ys) (sym l') in
    ap₂ {C = List ℕ} (λ z zs. z ∷ zs)
    (sym (digits_div x low) ∙ ap (λ n. n / 256 ^ length xs) both ∙ digits_div y low')
    (key_from_same xs ys l' (λ j. p (suc j)) (λ j. q (suc j)) (sym (digits_mod x low) ∙ ap (λ n. n % 256 ^ length xs) both ∙ digits_mod y low'))

-- ---- the first and the last of eight

module _ (ws : List ℕ) (bytes : Bytes ws) (long : 8 ≤ length ws) (n : ℕ) (few : n ≤ 8) where
  eight : length (take 8 ws) ≡ 8
  eight = length-take-le 8 ws long

  behind : length (drop n (take 8 ws)) ≡ 8 - n
  behind = length-drop n (take 8 ws) ∙ ap (λ k. k - n) eight

  by_parts : key_of ws ≡ key_from 0 (take n (take 8 ws)) * 256 ^ (8 - n) + key_from 0 (drop n (take 8 ws))
  unfolding key_of
  by_parts =
      ap (key_from 0) (sym (take-append-drop n (take 8 ws)))
      ∙ key_from_split 0 (take n (take 8 ws)) (drop n (take 8 ws))
      ∙ key_from_high (key_from 0 (take n (take 8 ws))) (drop n (take 8 ws))
      ∙ ap (λ k. key_from 0 (take n (take 8 ws)) * 256 ^ k + key_from 0 (drop n (take 8 ws))) behind

  below : key_from 0 (drop n (take 8 ws)) < 256 ^ (8 - n)
  below = subst (λ k. key_from 0 (drop n (take 8 ws)) < 256 ^ k) behind (key_from_below (drop n (take 8 ws)) (bytes_drop n (take 8 ws) (bytes_take 8 ws bytes)))

  pub front_of : key_of ws / 256 ^ (8 - n) ≡ key_of (take n ws)
  unfolding key_of
  front_of = ap (λ k. k / 256 ^ (8 - n)) by_parts ∙ digits_div (key_from 0 (take n (take 8 ws))) below ∙ ap (key_from 0) (take-take n 8 ws few ∙ sym (take_all 8 (take n ws) (rw (length-take n ws) (omega arith))))

  pub back_of : key_of ws % 256 ^ (8 - n) ≡ key_from 0 (drop n (take 8 ws))
  back_of = ap (λ k. k % 256 ^ (8 - n)) by_parts ∙ digits_mod (key_from 0 (take n (take 8 ws))) below

-- the same by shifts of as many bits
shift : (n : ℕ) → n ≤ 8 → 2 ^ (64 - 8 * n) ≡ 256 ^ (8 - n)
shift zero h = refl
shift (suc zero) h = refl
shift (suc (suc zero)) h = refl
shift (suc (suc (suc zero))) h = refl
shift (suc (suc (suc (suc zero)))) h = refl
shift (suc (suc (suc (suc (suc zero))))) h = refl
shift (suc (suc (suc (suc (suc (suc zero)))))) h = refl
shift (suc (suc (suc (suc (suc (suc (suc zero))))))) h = refl
shift (suc (suc (suc (suc (suc (suc (suc (suc zero)))))))) h = refl
shift (suc (suc (suc (suc (suc (suc (suc (suc (suc n))))))))) h = absurd (omega arith)

pub front_shift : (ws : List ℕ) (word : ℕ) → IsWord ws word → 8 ≤ length ws → (n : ℕ) → n ≤ 8 → word / 2 ^ (64 - 8 * n) ≡ key_of (take n ws)
front_shift ws word w long n few = rw (shift n few, w.key) (front_of ws w.byte long n few)

-- more than eight bytes, and none
pub key_whole : (ws : List ℕ) (n : ℕ) → 8 ≤ n → key_of ws ≡ key_of (take n ws)
unfolding key_of
key_whole ws n h = ap (key_from 0) (sym (take-take 8 n ws h))

pub key_none : (ws : List ℕ) (n : ℕ) → n ≡ 0 → 0 ≡ key_of (take n ws)
unfolding key_of
key_none ws n e = rw e

-- two texts of n bytes by what is left of their words
pub key_all : (zs : List ℕ) → length zs ≤ 8 → key_of zs ≡ key_from 0 zs
unfolding key_of
key_all zs few = ap (key_from 0) (take_all 8 zs few)

pub shifts_same
    : (xs ys : List ℕ) (v w : ℕ) → IsWord xs v → IsWord ys w → 8 ≤ length xs → 8 ≤ length ys → (n : ℕ) → n ≤ 8
    → eqb (v / 2 ^ (64 - 8 * n)) (w / 2 ^ (64 - 8 * n)) ≡ same_bytes (take n xs) (take n ys)
shifts_same xs ys v w p q lx ly n few =
    same_test (eqb (v / 2 ^ (64 - 8 * n)) (w / 2 ^ (64 - 8 * n))) (same_bytes (take n xs) (take n ys))
    (λ e. eq_same_bytes (take n xs) (take n ys) (same (sym (front_shift xs v p lx n few) ∙ eqb-true _ _ e ∙ front_shift ys w q ly n few)))
    (λ e. eq-eqb _ _ (front_shift xs v p lx n few ∙ ap key_of (same_bytes_eq (take n xs) (take n ys) e) ∙ sym (front_shift ys w q ly n few)))
  where
    sized : (zs : List ℕ) → 8 ≤ length zs → length (take n zs) ≡ n
    sized zs long = length-take-le n zs (omega arith)

    same : key_of (take n xs) ≡ key_of (take n ys) → take n xs ≡ take n ys
    same e =
        key_from_same (take n xs) (take n ys) (sized xs lx ∙ sym (sized ys ly)) (bytes_take n xs p.byte) (bytes_take n ys q.byte)
        (sym (key_all (take n xs) (rw (sized xs lx) few)) ∙ e ∙ key_all (take n ys) (rw (sized ys ly) few))

-- ---- a text inside its area, and its last bytes

pub within : (area : List ℕ) (payload : ℕ) → inside area payload ≡ true → payload / 256 + payload % 256 ≤ length area
unfolding inside start_of size_of
within area payload e = leb-true (payload / 256 + payload % 256) (length area) (and_right (leb (payload / 256) 65535) (leb (payload / 256 + payload % 256) (length area)) e)

pub part_inside_lem : (area : List ℕ) (payload : ℕ) → inside area payload ≡ true → part_at area payload ≡ bytes_at area payload
unfolding part_at
part_inside_lem area payload e = rw e

pub short_inside : (area : List ℕ) (payload : ℕ) → HasWord area payload → size_of payload ≤ 8 → inside area payload ≡ true
unfolding inside
short_inside area payload has few =
    and_both (leb (start_of payload) 65535) (leb (start_of payload + size_of payload) (length area)) (le-leb (start_of payload) 65535 has.low)
    (le-leb (start_of payload + size_of payload) (length area) (omega (arith, has.room)))

pub bytes_few : (area : List ℕ) (payload : ℕ) → payload % 256 ≤ 8 → length (bytes_at area payload) ≤ 8
unfolding bytes_at size_of
bytes_few area payload h = rw (length-take (payload % 256) (drop (start_of payload) area)) (omega arith)

pub last_few : (bytes : List ℕ) → length bytes ≤ 8 → key_of bytes ≡ last_key bytes
unfolding key_of last_key
last_few bytes h = ap (key_from 0) (take_all 8 bytes h ∙ ap (λ k. drop k bytes) (none (length bytes) h))
  where
    none : (n : ℕ) → n ≤ 8 → 0 ≡ n - 8
    none n h = omega arith

pub last_begin : (area : List ℕ) (payload : ℕ) → inside area payload ≡ true → payload / 256 + payload % 256 < 8 → key_of (part_at area payload) ≡ last_key (bytes_at area payload)
last_begin area payload e h = ap key_of (part_inside_lem area payload e) ∙ last_few (bytes_at area payload) (bytes_few area payload (omega arith))

drop_take : (m n : ℕ) (l : List ℕ) → drop m (take (m + n) l) ≡ take n (drop m l)
drop_take zero n l = ap (λ k. take k l) (zero-add n)
drop_take (suc m) n [] = rw (take-nil n, take-nil (suc m + n))
drop_take (suc m) n (x ∷ xs) = ap (λ k. drop (suc m) (take k (x ∷ xs))) (suc-add m n) ∙ drop_take m n xs

modulus : (n : ℕ) → n < 8 → 1 * 2 ^ (8 * n) % 18446744073709551616 ≡ 256 ^ (8 - (8 - n))
modulus zero h = refl
modulus (suc zero) h = refl
modulus (suc (suc zero)) h = refl
modulus (suc (suc (suc zero))) h = refl
modulus (suc (suc (suc (suc zero)))) h = refl
modulus (suc (suc (suc (suc (suc zero))))) h = refl
modulus (suc (suc (suc (suc (suc (suc zero)))))) h = refl
modulus (suc (suc (suc (suc (suc (suc (suc zero))))))) h = refl
modulus (suc (suc (suc (suc (suc (suc (suc (suc n)))))))) h = absurd (omega arith)

-- a text that ends eight bytes or more behind its area's start, and the word that ends with it
module _ (area : List ℕ) (start len word : ℕ) (inside : start + len ≤ length area) (room : 8 ≤ start + len) (w : IsWord (drop (start + len - 8) area) word) where
  sized : length (take len (drop start area)) ≡ len
  sized = length-take-le len (drop start area) (rw (length-drop start area) (omega arith))

  long : 8 ≤ length (drop (start + len - 8) area)
  long = rw (length-drop (start + len - 8) area) (omega arith)

  pub last_word : 8 ≤ len → word ≡ last_key (take len (drop start area))
  unfolding key_of last_key
  last_word h =
      w.key
      ∙ ap (key_from 0)
      (sym
      (ap (λ k. drop (k - 8) (take len (drop start area))) sized
      ∙ ap (λ k. drop (len - 8) (take k (drop start area))) (back len h)
      ∙ drop_take (len - 8) 8 (drop start area)
      ∙ ap (take 8) (drop-drop (len - 8) start area ∙ ap (λ k. drop k area) (ends len h))))
    where
      back : (n : ℕ) → 8 ≤ n → n ≡ n - 8 + 8
      back n h = omega arith

      ends : (n : ℕ) → 8 ≤ n → start + (n - 8) ≡ start + n - 8
      ends n h = omega arith

  pub last_rem : len < 8 → word % (1 * 2 ^ (8 * len) % 18446744073709551616) ≡ last_key (take len (drop start area))
  last_rem h =
      ap₂ (λ n m. n % m) w.key (modulus len h)
      ∙ back_of (drop (start + len - 8) area) w.byte long (8 - len) (omega arith)
      ∙ ap (key_from 0)
      (ap (λ k. drop (8 - len) (take k (drop (start + len - 8) area))) (parts len h)
      ∙ drop_take (8 - len) len (drop (start + len - 8) area)
      ∙ ap (take len) (drop-drop (8 - len) (start + len - 8) area ∙ ap (λ k. drop k area) (begins len h room)))
      ∙ sym (key_all (take len (drop start area)) (rw sized (omega arith)))
      ∙ last_few (take len (drop start area)) (rw sized (omega arith))
    where
      parts : (n : ℕ) → n < 8 → 8 ≡ 8 - n + n
      parts n h = omega arith

      begins : (n : ℕ) → n < 8 → 8 ≤ start + n → start + n - 8 + (8 - n) ≡ start
      begins n h r = omega arith
