-- Laws of the key of a text, as a loop over the text's bytes asks for them.
-- Assumes nothing.
use mathlib.Core.Path.{◌≡◌, refl, sym, ap, ◌∙◌}
use mathlib.Core.Logic.{◌⊎◌, inl, inr}
use mathlib.Core.List.{List}
use Prim.Native.Nat.{ℕ, zero, suc, ◌+◌, ◌*◌, ◌^◌, ◌<◌, ◌≤◌, min}
use native.Mathlib.Numerals.{add-one}
use native.Mathlib.Omega.{arith}
use lib.ListN.{length, drop, take, get_or, length-take, drop_of_length-le}
use lib.Dec.{leb}
use mathlib.Core.Bool.{Bool, true, false}
use borrow.Author.Tests.{leb-true, leb-false}
use lib.Seq.{drop-cons, get_or-take}
use Rattle.cells.specs.Text.{key_from, key_of}

-- a key of fewer than eight bytes has room for one more
power : (i : ℕ) → i < 8 → 256 ^ i ≤ 72057594037927936
power zero h = omega arith
power (suc zero) h = omega arith
power (suc (suc zero)) h = omega arith
power (suc (suc (suc zero))) h = omega arith
power (suc (suc (suc (suc zero)))) h = omega arith
power (suc (suc (suc (suc (suc zero))))) h = omega arith
power (suc (suc (suc (suc (suc (suc zero)))))) h = omega arith
power (suc (suc (suc (suc (suc (suc (suc zero))))))) h = omega arith
power (suc (suc (suc (suc (suc (suc (suc (suc i)))))))) h = absurd (omega arith)

-- the first i bytes are taken in, and what is left of the first eight gives the whole key
pub record KeySoFar (bytes : List ℕ) (key i : ℕ) : Type 0 where
  pub inside : i ≤ length bytes
  pub few : i ≤ 8
  pub small : key < 256 ^ i
  pub rest : key_of bytes ≡ key_from key (drop i (take 8 bytes))

pub key_start : (bytes : List ℕ) → KeySoFar bytes 0 0
unfolding key_of
key_start bytes = record { inside = omega arith; few = omega arith; small = omega arith; rest = refl }

module _ (bytes : List ℕ) (key i : ℕ) (k : KeySoFar bytes key i) where
  pub key_room : i < 8 → key * 256 + 255 < 18446744073709551616
  key_room h = omega (arith, power i h, k.small)

  pub key_next : i < length bytes → i < 8 → get_or bytes i 0 < 256 → KeySoFar bytes (key * 256 + get_or bytes i 0) (i + 1)
  key_next h l byte =
      record {
        inside = omega arith;
        few = omega arith;
        small = rw add-one (omega (arith, k.small));
        rest = k.rest ∙ rw (add-one, drop-cons (take 8 bytes) i 0 inside, get_or-take 8 bytes i 0 l);
      }
    where
      inside : i < length (take 8 bytes)
      inside = rw (length-take 8 bytes) (omega arith)

  pub key_end : (8 ≤ i) ⊎ (length bytes ≤ i) → key ≡ key_of bytes
  key_end h = sym (k.rest ∙ ap (key_from key) (drop_of_length-le (take 8 bytes) {i = i} (rw (length-take 8 bytes) (short h))))
    where
      short : (8 ≤ i) ⊎ (length bytes ≤ i) → min 8 (length bytes) ≤ i
      short (inl a) = omega arith
      short (inr a) = omega arith

-- ---- the first eight bytes, as a part of the text

module _ (bytes : List ℕ) (n i : ℕ) (e : n ≡ min (length bytes) 8) where
  pub first_inside : i < length (take n bytes) → (i < 8) × (i < length bytes)
  first_inside h = let l = length-take n bytes in (omega (arith, l), omega (arith, l))

  pub first_byte : i < length (take n bytes) → get_or (take n bytes) i 0 ≡ get_or bytes i 0
  first_byte h = get_or-take n bytes i 0 (let l = length-take n bytes in omega (arith, l))

  pub first_end : length (take n bytes) ≤ i → (8 ≤ i) ⊎ (length bytes ≤ i)
  first_end h = let l = length-take n bytes in go (leb 8 i) refl
    where
      go : (b : Bool) → leb 8 i ≡ b → (8 ≤ i) ⊎ (length bytes ≤ i)
      go true t = inl (leb-true 8 i t)
      go false t = inr (let l = length-take n bytes in let f = leb-false 8 i t in omega (arith, l, f))
