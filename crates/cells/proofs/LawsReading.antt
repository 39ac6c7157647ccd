-- Reading a value, a key and a name out of two cells (01, cells, texts and records), one by way of another, as the code goes:
-- a text that was read, as a value; a value on a board, by its kind; a key, by the value that was read; a name, by the key. What each of them
-- is by itself is said in specs/Value.antt, and that cells and values go over into each other in LawsValue.antt. Assumes nothing.
use Rattle.std.specs.Prelude.{Option, Some, None}
use mathlib.Core.Path.{◌≡◌, refl, ap, ◌∙◌, subst⁻¹}
use mathlib.Core.Bool.{Bool, true, false, cond, ◌&&◌, ◌||◌}
use mathlib.Core.List.{List}
use Prim.Native.Nat.{ℕ, zero, suc, ◌≤◌}
use native.Mathlib.Omega.{arith}
use lib.Dec.{eqb, leb, leb-zero, leb-suc-suc, eqb-suc-zero}
use lib.Ieee.{binary64, nan_bits, of_bits}
use mir.Syntax.{w64}
use mir.Val.{to_z}
use borrow.Author.Tests.{eqb-true, eqb-false, eq-eqb, ne_eqb}
use Rattle.rules.specs.Text.{is_text, inside, start_of, size_of}
use Rattle.rules.specs.Value.{well_formed, well_formed_argument, well_formed_name, well_formed_key, spec_text, call_text}
use Rattle.cells.specs.Text.{text_of, read_text}
use Rattle.cells.specs.Value.{value, real_of, value_as, read_as, read_default, read_argument, well_formed_slot, read_slot, read_name, read_key}
use Rattle.cells.specs.declared.text.Text.{Text}
use Rattle.cells.specs.declared.value.Value.{Value}
use Rattle.cells.specs.declared.value.Value.TheVariants.{Nothing, Flag, Whole, Real, Nan, SpecText, CallText, Handle}
use Rattle.cells.specs.declared.value.Key.{Key}
use Rattle.cells.specs.declared.value.Key.TheVariants.{Word, Number}

-- ---- a text that was read, as the value that it is

-- `make` is the case of a value that holds texts of the area
abbrev pub as_value : (Text → Value) → Option Text → Option Value
as_value make (Some t) = Some (make t)
as_value make None = None

text_or_not : (make : Text → Value) (t : Text) (b : Bool) → cond (b || false) (Some (make t)) None ≡ as_value make (cond b (Some t) None)
text_or_not make t true = refl
text_or_not make t false = refl

pub text_read : (text : ℕ) → 5 ≤ text → text ≤ 6 → (area : List ℕ) (payload : ℕ) (make : Text → Value) → value_as text payload ≡ make (text_of payload)
    → read_as text area text payload ≡ as_value make (read_text 0 area payload)
unfolding read_as well_formed read_text
text_read text l h area payload make same =
    rw
    (ne_eqb text 1 (λ e. omega arith), ne_eqb text 2 (λ e. omega arith), ne_eqb text 3 (λ e. omega arith), ne_eqb text 4 (λ e. omega arith), ne_eqb text 7 (λ e. omega arith), eq-eqb text text refl, same)
    (text_or_not make (text_of payload) (is_text 0 area payload))

-- ---- a value on a board, by its kind

pub slot_default : (spec call : List ℕ) (kind payload : ℕ) → kind ≡ 5 → read_default spec kind payload ≡ read_slot spec call kind payload
unfolding read_slot read_default well_formed_slot spec_text
slot_default spec call kind payload e = rw (eq-eqb kind 5 e)

pub slot_argument : (spec call : List ℕ) (kind payload : ℕ) → (kind ≡ 5 → ⊥) → read_argument call kind payload ≡ read_slot spec call kind payload
unfolding read_slot read_argument well_formed_slot spec_text
slot_argument spec call kind payload e = rw (ne_eqb kind 5 e)

-- ---- a key, by the value that was read, and a name, by the key

abbrev pub key_of : Option Value → Option Key
key_of (Some Nothing) = None
key_of (Some (Flag b)) = None
key_of (Some (Whole z)) = Some (Number z)
key_of (Some (Real x)) = None
key_of (Some (Nan bits)) = None
key_of (Some (SpecText t)) = None
key_of (Some (CallText t)) = Some (Word t)
key_of (Some (Handle h)) = None
key_of None = None

-- no value of another kind is a key
not_key : (kind payload : ℕ) → (kind ≡ 3 → ⊥) → (kind ≡ 6 → ⊥) → key_of (Some (value_as kind payload)) ≡ None
unfolding real_of
not_key zero payload m n = refl
not_key (suc zero) payload m n = refl
not_key (suc (suc zero)) payload m n = refl
not_key (suc (suc (suc zero))) payload m n = absurd (m refl)
not_key (suc (suc (suc (suc zero)))) payload m n = real (nan_bits binary64 payload)
  where
    real : (b : Bool) → key_of (Some (cond b (Nan payload) (Real (of_bits binary64 payload)))) ≡ None
    real true = refl
    real false = refl
not_key (suc (suc (suc (suc (suc zero))))) payload m n = refl
not_key (suc (suc (suc (suc (suc (suc zero)))))) payload m n = absurd (n refl)
not_key (suc (suc (suc (suc (suc (suc (suc zero))))))) payload m n = refl
not_key (suc (suc (suc (suc (suc (suc (suc (suc kind)))))))) payload m n = refl

module _ (area : List ℕ) (payload : ℕ) where
  key_text : key_of (read_argument area 6 payload) ≡ read_key area 6 payload
  unfolding read_as read_argument well_formed_argument read_text read_key well_formed_key call_text
  key_text = ap key_of (text_read 6 (omega arith) (omega arith) area payload CallText refl) ∙ go (is_text 0 area payload)
    where
      go : (b : Bool) → key_of (as_value CallText (cond b (Some (text_of payload)) None)) ≡ cond b (Some (Word (text_of payload))) None
      go true = refl
      go false = refl

  key_number : key_of (read_argument area 3 payload) ≡ read_key area 3 payload
  unfolding read_argument well_formed_argument well_formed call_text read_key well_formed_key
  key_number = refl

  key_other : (kind : ℕ) → (kind ≡ 3 → ⊥) → (kind ≡ 6 → ⊥) → key_of (read_argument area kind payload) ≡ read_key area kind payload
  unfolding read_argument read_key well_formed_key call_text
  key_other kind m n = rw (ne_eqb kind 3 m, ne_eqb kind 6 n) (go (well_formed_argument area (value kind payload)))
    where
      go : (b : Bool) → key_of (cond b (Some (value_as kind payload)) None) ≡ None
      go true = not_key kind payload m n
      go false = refl

  pub key_of_argument : (kind : ℕ) → key_of (read_argument area kind payload) ≡ read_key area kind payload
  key_of_argument kind = number (eqb kind 3) refl
    where
      word : (b : Bool) → eqb kind 6 ≡ b → (kind ≡ 3 → ⊥) → key_of (read_argument area kind payload) ≡ read_key area kind payload
      word true e m = subst⁻¹ (λ (k : ℕ). key_of (read_argument area k payload) ≡ read_key area k payload) (eqb-true kind 6 e) key_text
      word false e m = key_other kind m (eqb-false kind 6 e)

      number : (b : Bool) → eqb kind 3 ≡ b → key_of (read_argument area kind payload) ≡ read_key area kind payload
      number true e = subst⁻¹ (λ (k : ℕ). key_of (read_argument area k payload) ≡ read_key area k payload) (eqb-true kind 3 e) key_number
      number false e = word (eqb kind 6) refl (eqb-false kind 3 e)

abbrev pub name_of : Option Key → Option Text
name_of (Some (Word t)) = cond (eqb t.len 0) None (Some t)
name_of (Some (Number z)) = None
name_of None = None

-- of a text of n bytes: it is a name if it is a key and n is not 0; `in_area_lem` and `short` are the other tests of a text
name_size : (in_area_lem short : Bool) (start n : ℕ)
    → name_of (cond (in_area_lem && leb 0 n && short) (Some (Word (record { start = start; len = n }))) None)
    ≡ cond (in_area_lem && leb 1 n && short) (Some (record { start = start; len = n })) None
name_size false short start n = refl
name_size true false start zero = refl
name_size true true start zero = refl
name_size true false start (suc n) = rw (leb-zero (suc n), leb-suc-suc 0 n, leb-zero n)
name_size true true start (suc n) = rw (leb-zero (suc n), leb-suc-suc 0 n, leb-zero n, eqb-suc-zero n)

module _ (area : List ℕ) (payload : ℕ) where
  name_text : name_of (read_key area 6 payload) ≡ read_name area 6 payload
  unfolding read_key well_formed_key call_text read_name well_formed_name is_text text_of
  name_text = name_size (inside area payload) (leb (size_of payload) 64) (start_of payload) (size_of payload)

  pub name_of_key : (kind : ℕ) → name_of (read_key area kind payload) ≡ read_name area kind payload
  unfolding read_key well_formed_key call_text read_name well_formed_name
  name_of_key kind = word (eqb kind 6) refl
    where
      number : (b : Bool) → name_of (cond (b || false) (Some (Number (to_z w64 payload))) None) ≡ None
      number true = refl
      number false = refl

      word : (b : Bool) → eqb kind 6 ≡ b → name_of (read_key area kind payload) ≡ read_name area kind payload
      word true e = subst⁻¹ (λ (k : ℕ). name_of (read_key area k payload) ≡ read_name area k payload) (eqb-true kind 6 e) name_text
      word false e = rw e (number (eqb kind 3))
