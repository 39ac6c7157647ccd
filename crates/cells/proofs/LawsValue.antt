-- Values and their two cells, both ways (01, values; the form that 01 asks for): the
-- value of two well-formed cells has those cells (`default_cells`, `argument_cells`), at each of the 2^64 payloads of a whole number
-- or a real; and the cells of a value are read back as that value (`value_back`), if its parts are in their ranges and it is the
-- one of `Real` and `Nan` that reading makes, as every value is that was read (`value_of_made`). Assumes nothing.
use mathlib.Core.Path.{◌≡◌, refl, sym, ap, ◌∙◌, subst}
use mathlib.Core.Bool.{Bool, true, false, cond, not, or-false}
use mathlib.Core.List.{List}
use Prim.Native.Nat.{ℕ, zero, suc, ◌<◌, ◌^◌, ◌+◌, ◌*◌, ◌/◌, ◌%◌}
use native.Mathlib.Omega.{arith}
use lib.Dec.{T, eqb, ltb}
use lib.Ieee.{binary64, nan_bits, is_nan, fits, of_bits, to_bits}
use lib.Ieee.Bits.{nan_bits_is, of_bits-to_bits, to_bits-of_bits, of_bits-fits}
use mir.Syntax.{w64}
use mir.Val.{SFits, bool_byte}
use mir.ValLaws.{to_z-of_z, of_z-to_z, to_z-Fits}
use borrow.Author.Tests.{eqb-true, ltb-true, ne_eqb}
use Rattle.rules.specs.Text.{payload_of, start_of, size_of}
use Rattle.rules.specs.Value as rules
use Rattle.cells.specs.Text.{text_of}
use Rattle.cells.specs.Value.{value, pair_of, cells_of, real_of, value_as, value_of}
use Rattle.cells.specs.declared.text.Text.{Text}
use Rattle.cells.specs.declared.value.Value.{Value}
use Rattle.cells.specs.declared.value.Value.TheVariants.{Nothing, Flag, Whole, Real, Nan, SpecText, CallText, Handle}

-- ---- from cells to a value and back

payload_back : (payload : ℕ) → payload_of (start_of payload) (size_of payload) ≡ payload
unfolding payload_of start_of size_of
payload_back payload = omega arith

flag_back : (payload : ℕ) → payload < 2 → bool_byte (eqb payload 1) ≡ payload
flag_back zero h = refl
flag_back (suc zero) h = refl
flag_back (suc (suc n)) h = absurd (omega arith)

-- all 2^64 patterns
real_back : (bits : ℕ) → bits < 2 ^ 64 → pair_of (cells_of (real_of bits)) ≡ value 4 bits
unfolding real_of
real_back bits h = go (nan_bits binary64 bits) refl
  where
    go : (b : Bool) → nan_bits binary64 bits ≡ b → pair_of (cells_of (cond b (Nan bits) (Real (of_bits binary64 bits)))) ≡ value 4 bits
    go true e = refl
    go false e =
        ap (value 4) (to_bits-of_bits binary64 bits h (subst (λ (t : Bool). T (not t)) (sym e ∙ nan_bits_is binary64 bits) tt))

-- of which payloads a kind has a value that keeps them
abbrev kept : ℕ → ℕ → Bool
kept zero payload = false
kept (suc zero) payload = eqb payload 0
kept (suc (suc zero)) payload = ltb payload 2
kept (suc (suc (suc zero))) payload = true
kept (suc (suc (suc (suc zero)))) payload = true
kept (suc (suc (suc (suc (suc zero))))) payload = true
kept (suc (suc (suc (suc (suc (suc zero)))))) payload = true
kept (suc (suc (suc (suc (suc (suc (suc zero))))))) payload = true
kept (suc (suc (suc (suc (suc (suc (suc (suc kind)))))))) payload = false

kept_back : (kind payload : ℕ) → payload < 2 ^ 64 → kept kind payload ≡ true → pair_of (cells_of (value_as kind payload)) ≡ value kind payload
unfolding text_of
kept_back zero payload h k = absurd (subst T (sym k) tt)
kept_back (suc zero) payload h k = ap (value 1) (sym (eqb-true payload 0 k))
kept_back (suc (suc zero)) payload h k = ap (value 2) (flag_back payload (ltb-true payload 2 k))
kept_back (suc (suc (suc zero))) payload h k = ap (value 3) (of_z-to_z w64 payload (record { fits = h }))
kept_back (suc (suc (suc (suc zero)))) payload h k = real_back payload h
kept_back (suc (suc (suc (suc (suc zero))))) payload h k = ap (value 5) (payload_back payload)
kept_back (suc (suc (suc (suc (suc (suc zero)))))) payload h k = ap (value 6) (payload_back payload)
kept_back (suc (suc (suc (suc (suc (suc (suc zero))))))) payload h k = refl
kept_back (suc (suc (suc (suc (suc (suc (suc (suc kind)))))))) payload h k = absurd (subst T (sym k) tt)

-- what is well formed is kept. `text` is the kind of text that is used, which keeps every payload
module _ (text : ℕ) (area : List ℕ) (all : (payload : ℕ) → kept text payload ≡ true) where
  plain_kept : (kind payload : ℕ) → eqb kind text ≡ false → rules.well_formed text area (value kind payload) ≡ true → kept kind payload ≡ true
  unfolding rules.well_formed
  plain_kept zero payload n w = simp n at w
  plain_kept (suc zero) payload n w = simp (n, or-false) at w
  plain_kept (suc (suc zero)) payload n w = simp (n, or-false) at w
  plain_kept (suc (suc (suc zero))) payload n w = refl
  plain_kept (suc (suc (suc (suc zero)))) payload n w = refl
  plain_kept (suc (suc (suc (suc (suc zero))))) payload n w = refl
  plain_kept (suc (suc (suc (suc (suc (suc zero)))))) payload n w = refl
  plain_kept (suc (suc (suc (suc (suc (suc (suc zero))))))) payload n w = refl
  plain_kept (suc (suc (suc (suc (suc (suc (suc (suc kind)))))))) payload n w =
      simp (n, past 1 (omega arith), past 2 (omega arith), past 3 (omega arith), past 4 (omega arith), past 7 (omega arith)) at w
    where
      past : (k : ℕ) → k < 8 → eqb (suc (suc (suc (suc (suc (suc (suc (suc kind)))))))) k ≡ false
      past k h = ne_eqb (suc (suc (suc (suc (suc (suc (suc (suc kind)))))))) k (λ e. omega arith)

  well_kept : (kind payload : ℕ) → rules.well_formed text area (value kind payload) ≡ true → kept kind payload ≡ true
  well_kept kind payload w = go (eqb kind text) refl
    where
      go : (b : Bool) → eqb kind text ≡ b → kept kind payload ≡ true
      go true e = rw (eqb-true kind text e) (all payload)
      go false e = plain_kept kind payload e w

  well_back : (v : rules.Value) → v.payload < 2 ^ 64 → rules.well_formed text area v ≡ true → pair_of (cells_of (value_of v)) ≡ v
  unfolding value_of
  well_back v h w = kept_back v.kind v.payload h (well_kept v.kind v.payload w)

module _ (area : List ℕ) (v : rules.Value) (h : v.payload < 2 ^ 64) where
  pub default_cells : rules.well_formed_default area v ≡ true → pair_of (cells_of (value_of v)) ≡ v
  unfolding rules.well_formed_default rules.spec_text
  default_cells w = well_back 5 area (λ p. refl) v h w

  pub argument_cells : rules.well_formed_argument area v ≡ true → pair_of (cells_of (value_of v)) ≡ v
  unfolding rules.well_formed_argument rules.call_text
  argument_cells w = well_back 6 area (λ p. refl) v h w

-- ---- from a value to cells and back

-- the parts are in their ranges; a float is no NaN, and the bits of a NaN are those of one
abbrev pub Made : Value → Type 0
Made Nothing = Unit
Made (Flag b) = Unit
Made (Whole z) = SFits w64 z
Made (Real x) = T (fits binary64 x) × (is_nan x ≡ false)
Made (Nan bits) = nan_bits binary64 bits ≡ true
Made (SpecText t) = t.len < 256
Made (CallText t) = t.len < 256
Made (Handle h) = Unit

text_back : (t : Text) → t.len < 256 → text_of (payload_of t.start t.len) ≡ t
unfolding text_of payload_of start_of size_of
text_back t h =
    let s : (t.start * 256 + t.len) / 256 ≡ t.start = omega arith in
    let n : (t.start * 256 + t.len) % 256 ≡ t.len = omega arith in
    rw (s, n)

-- reading makes no other value
pub value_of_made : (v : rules.Value) → v.payload < 2 ^ 64 → Made (value_of v)
unfolding value_of real_of text_of size_of
value_of_made v h = made v.kind v.payload h
  where
    real : (bits : ℕ) (b : Bool) → nan_bits binary64 bits ≡ b → Made (cond b (Nan bits) (Real (of_bits binary64 bits)))
    real bits true e = e
    real bits false e = (of_bits-fits binary64 bits, sym (nan_bits_is binary64 bits) ∙ e)

    made : (kind payload : ℕ) → payload < 2 ^ 64 → Made (value_as kind payload)
    made zero payload h = tt
    made (suc zero) payload h = tt
    made (suc (suc zero)) payload h = tt
    made (suc (suc (suc zero))) payload h = to_z-Fits w64 payload (record { fits = h })
    made (suc (suc (suc (suc zero)))) payload h = real payload (nan_bits binary64 payload) refl
    made (suc (suc (suc (suc (suc zero))))) payload h = omega arith
    made (suc (suc (suc (suc (suc (suc zero)))))) payload h = omega arith
    made (suc (suc (suc (suc (suc (suc (suc zero))))))) payload h = tt
    made (suc (suc (suc (suc (suc (suc (suc (suc kind)))))))) payload h = tt

pub value_back : (x : Value) → Made x → value_of (pair_of (cells_of x)) ≡ x
unfolding value_of real_of
value_back Nothing m = refl
value_back (Flag true) m = refl
value_back (Flag false) m = refl
value_back (Whole z) m = ap Whole (to_z-of_z w64 z m)
value_back (Real x) m = rw (nan_bits_is binary64 (to_bits binary64 x), of_bits-to_bits binary64 x m.0, m.1)
value_back (Nan bits) m = rw m
value_back (SpecText t) m = ap SpecText (text_back t m)
value_back (CallText t) m = ap CallText (text_back t m)
value_back (Handle h) m = refl
