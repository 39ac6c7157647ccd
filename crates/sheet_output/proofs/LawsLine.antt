-- Cells and lines that are written one behind the other (01, sheets): how long a cell is, three cells as a line, what a name and two cells of
-- the board show by the code of a parameter, and what they show where they can be printed. Assumes nothing.
use mathlib.Core.Path.{◌≡◌, refl, sym, ap, subst, ◌∙◌}
use mathlib.Core.Bool.{Bool, true, false, cond, ◌&&◌, ◌||◌, or-false, false≢true, true≢false}
use mathlib.Core.List.{List, [], ◌∷◌, ◌++◌, append_assoc}
use Prim.Native.Nat.{ℕ, zero, suc, ◌+◌, ◌≤◌, ◌<◌, ◌^◌}
use native.Mathlib.Omega.{arith}
use lib.Dec.{eqb, leb}
use lib.ListN.{length, length-append}
use lib.Ieee.{binary64, nan_bits, of_bits}
use Rattle.rules.specs.Text.{is_text, bytes_at, inside, start_of, size_of, payload_of}
use Rattle.rules.specs.Value as rules
use Rattle.rules.specs.Parameters.{ParameterKind, required, optional, defaulted, args, kwargs, plain, act_of}
use Rattle.rules.specs.SheetValue.{decimal, print_value}
use Rattle.rules.specs.SheetOutput.{line, slot_name}
use Rattle.sheet_output.specs.Printable.{printable}
use Rattle.rules.proofs.LawsListing.{and_left}
use Rattle.rules.proofs.LawsText.{payload_of_halves}
use Rattle.rules.proofs.LawsDigits.{decimal_length}
use Rattle.rules.proofs.LawsSheetOutput.{text_length, slot_name_length}
use Rattle.sheet_output.proofs.LawsPrintable.{printable_length}
use Rattle.cells.specs.Out.{Wrote}
use Rattle.cells.specs.declared.out.Cursor.{Cursor}
use Rattle.cells.specs.Text.{text_of, read_text, part_at}
use Rattle.cells.specs.Value.{value, pair_of, cells_of, real_of, value_as, value_of, well_formed_slot, read_slot}
use Rattle.cells.specs.declared.text.Text.{Text}
use Rattle.cells.specs.declared.value.Value.{Value}
use Rattle.cells.specs.declared.value.Value.TheVariants.{Real, Nan}
use Rattle.std.specs.Prelude.{Some, None}
use Rattle.cells.proofs.LawsValue.{default_cells, argument_cells}
use Rattle.cells.proofs.LawsOut.{wrote_same, wrote_room, wrote_both}
use Rattle.builder.specs.Params.{kind_for}
use Rattle.sheet_output.specs.Line.{shown_name, shown_value, shown_as, plain_code, name_for, shown_for}
use Rattle.sheet_values.specs.Print.{Printable}

-- ---- how long a cell is

pub shown_name_length : (area : List ℕ) (payload : ℕ) → length (shown_name area payload) ≤ 64
unfolding shown_name
shown_name_length area payload = go (is_text 0 area payload) refl
  where
    go : (b : Bool) → is_text 0 area payload ≡ b → length (cond b (bytes_at area payload) []) ≤ 64
    go true e = text_length area payload e
    go false e = omega arith

-- two cells that are a value can be printed
pub slot_printable : (spec call : List ℕ) (v : rules.Value) → well_formed_slot spec call v ≡ true → printable spec call v ≡ true
unfolding well_formed_slot printable
slot_printable spec call v e = go (eqb v.kind rules.spec_text) (rules.well_formed_default spec v) (rules.well_formed_argument call v) e
  where
    go : (t d a : Bool) → cond t d a ≡ true → (d || a) ≡ true
    go true true a e = refl
    go true false true e = refl
    go true false false e = e
    go false true a e = refl
    go false false a e = e

pub shown_value_length : (spec call : List ℕ) (v : rules.Value) → length (shown_value spec call v) ≤ 65
unfolding shown_value
shown_value_length spec call v = go (well_formed_slot spec call v) refl
  where
    go : (b : Bool) → well_formed_slot spec call v ≡ b → length (cond b (print_value spec call v) []) ≤ 65
    go true e = printable_length spec call v (slot_printable spec call v e)
    go false e = omega arith

shown_as_length : (spec call : List ℕ) (kind : ParameterKind) (v : rules.Value) → length (shown_as spec call kind v) ≤ 65
shown_as_length spec call required v = shown_value_length spec call v
shown_as_length spec call optional v = shown_value_length spec call v
shown_as_length spec call (defaulted w) v = shown_value_length spec call v
shown_as_length spec call args v = omega (arith, decimal_length v.payload)
shown_as_length spec call kwargs v = omega (arith, decimal_length v.payload)

pub name_for_length : (code : ℕ) (bytes : List ℕ) → length bytes ≤ 64 → length (name_for code bytes) ≤ 64
unfolding name_for
name_for_length code bytes h = slot_name_length (kind_for (act_of code rules.no_value)) bytes (λ p. h)

pub shown_for_length : (spec call : List ℕ) (code : ℕ) (v : rules.Value) → length (shown_for spec call code v) ≤ 65
unfolding shown_for
shown_for_length spec call code v = shown_as_length spec call (kind_for (act_of code rules.no_value)) v

-- ---- by the code of a parameter

pub plain_three : (code : ℕ) → 1 ≤ code → code ≤ 3 → plain_code code ≡ true
unfolding plain_code
plain_three zero h m = absurd (omega arith)
plain_three (suc zero) h m = refl
plain_three (suc (suc zero)) h m = refl
plain_three (suc (suc (suc zero))) h m = refl
plain_three (suc (suc (suc (suc code)))) h m = absurd (omega arith)

pub plain_past : (code : ℕ) → 3 < code → plain_code code ≡ false
unfolding plain_code
plain_past zero h = absurd (omega arith)
plain_past (suc zero) h = absurd (omega arith)
plain_past (suc (suc zero)) h = absurd (omega arith)
plain_past (suc (suc (suc zero))) h = absurd (omega arith)
plain_past (suc (suc (suc (suc zero)))) h = refl
plain_past (suc (suc (suc (suc (suc zero))))) h = refl
plain_past (suc (suc (suc (suc (suc (suc zero)))))) h = refl
plain_past (suc (suc (suc (suc (suc (suc (suc zero))))))) h = refl
plain_past (suc (suc (suc (suc (suc (suc (suc (suc code)))))))) h = refl

pub plain_zero : (code : ℕ) → code < 1 → plain_code code ≡ false
unfolding plain_code
plain_zero zero h = refl
plain_zero (suc code) h = absurd (omega arith)

slot_name_plain : (kind : ParameterKind) (bytes : List ℕ) → plain kind ≡ true → slot_name kind bytes ≡ bytes
slot_name_plain required bytes e = refl
slot_name_plain optional bytes e = refl
slot_name_plain (defaulted v) bytes e = refl
slot_name_plain args bytes e = absurd (false≢true e)
slot_name_plain kwargs bytes e = absurd (false≢true e)

pub name_for_plain : (code : ℕ) (bytes : List ℕ) → plain_code code ≡ true → name_for code bytes ≡ bytes
unfolding name_for plain_code
name_for_plain code bytes e = slot_name_plain (kind_for (act_of code rules.no_value)) bytes e

pub name_for_args : (code : ℕ) (bytes : List ℕ) → code ≡ 6 → name_for code bytes ≡ 42 ∷ 97 ∷ 114 ∷ 103 ∷ 115 ∷ []
unfolding name_for
name_for_args code bytes e = ap (λ c. slot_name (kind_for (act_of c rules.no_value)) bytes) e

pub name_for_kwargs : (code : ℕ) (bytes : List ℕ) → plain_code code ≡ false → (code ≡ 6 → ⊥) → name_for code bytes ≡ 42 ∷ 42 ∷ 107 ∷ 119 ∷ 97 ∷ 114 ∷ 103 ∷ 115 ∷ []
unfolding name_for plain_code
name_for_kwargs zero bytes e n = refl
name_for_kwargs (suc zero) bytes e n = absurd (true≢false e)
name_for_kwargs (suc (suc zero)) bytes e n = absurd (true≢false e)
name_for_kwargs (suc (suc (suc zero))) bytes e n = absurd (true≢false e)
name_for_kwargs (suc (suc (suc (suc zero)))) bytes e n = refl
name_for_kwargs (suc (suc (suc (suc (suc zero))))) bytes e n = refl
name_for_kwargs (suc (suc (suc (suc (suc (suc zero)))))) bytes e n = absurd (n refl)
name_for_kwargs (suc (suc (suc (suc (suc (suc (suc zero))))))) bytes e n = refl
name_for_kwargs (suc (suc (suc (suc (suc (suc (suc (suc code)))))))) bytes e n = refl

module _ (spec call : List ℕ) (v : rules.Value) where
  pub shown_as_plain : (kind : ParameterKind) → plain kind ≡ true → shown_as spec call kind v ≡ shown_value spec call v
  shown_as_plain required e = refl
  shown_as_plain optional e = refl
  shown_as_plain (defaulted w) e = refl
  shown_as_plain args e = absurd (false≢true e)
  shown_as_plain kwargs e = absurd (false≢true e)

  pub shown_as_count : (kind : ParameterKind) → plain kind ≡ false → shown_as spec call kind v ≡ decimal v.payload
  shown_as_count required e = absurd (true≢false e)
  shown_as_count optional e = absurd (true≢false e)
  shown_as_count (defaulted w) e = absurd (true≢false e)
  shown_as_count args e = refl
  shown_as_count kwargs e = refl

  pub shown_for_plain : (code : ℕ) → plain_code code ≡ true → shown_for spec call code v ≡ shown_value spec call v
  unfolding shown_for plain_code
  shown_for_plain code e = shown_as_plain (kind_for (act_of code rules.no_value)) e

  pub shown_for_count : (code : ℕ) → plain_code code ≡ false → shown_for spec call code v ≡ decimal v.payload
  unfolding shown_for plain_code
  shown_for_count code e = shown_as_count (kind_for (act_of code rules.no_value)) e

-- ---- what was read

-- a name that was read as a text, and one that was not
pub name_shown : (area : List ℕ) (payload : ℕ) (t : Text) → read_text 0 area payload ≡ Some t → part_at area payload ≡ shown_name area payload
unfolding read_text shown_name part_at is_text
name_shown area payload t e = go (inside area payload) (leb 0 (size_of payload)) (leb (size_of payload) 64) e
  where
    go : (i l m : Bool) → cond (i && l && m) (Some (text_of payload)) None ≡ Some t → cond i (bytes_at area payload) [] ≡ cond (i && l && m) (bytes_at area payload) []
    go true true true f = refl
    go true true false f = let z : ◌≡◌ {A = ℕ} 0 1 = cc in absurd (omega arith)
    go true false m f = let z : ◌≡◌ {A = ℕ} 0 1 = cc in absurd (omega arith)
    go false l m f = refl

pub name_hidden : (area : List ℕ) (payload : ℕ) → read_text 0 area payload ≡ None → [] ≡ shown_name area payload
unfolding read_text shown_name
name_hidden area payload e = go (is_text 0 area payload) e
  where
    go : (b : Bool) → cond b (Some (text_of payload)) None ≡ None → [] ≡ cond b (bytes_at area payload) []
    go true f = let z : ◌≡◌ {A = ℕ} 0 1 = cc in absurd (omega arith)
    go false f = refl

-- a text of a value lies inside its area
inside_text : (area : List ℕ) (payload : ℕ) → is_text 0 area payload || false ≡ true → inside area (payload_of (start_of payload) (size_of payload)) ≡ true
unfolding is_text
inside_text area payload w =
    rw (payload_of_halves payload)
    (and_left (inside area payload) (leb 0 (size_of payload)) (and_left (inside area payload && leb 0 (size_of payload)) (leb (size_of payload) 64) (simp or-false at w)))

inside_real : (spec call : List ℕ) (bits : ℕ) (b : Bool) → Printable spec call (cond b (Nan bits) (Real (of_bits binary64 bits)))
inside_real spec call bits true = tt
inside_real spec call bits false = tt

inside_as : (spec call : List ℕ) (kind payload : ℕ) → well_formed_slot spec call (value kind payload) ≡ true → Printable spec call (value_as kind payload)
unfolding well_formed_slot rules.well_formed_default rules.well_formed_argument rules.well_formed rules.spec_text rules.call_text text_of real_of
inside_as spec call zero payload w = tt
inside_as spec call (suc zero) payload w = tt
inside_as spec call (suc (suc zero)) payload w = tt
inside_as spec call (suc (suc (suc zero))) payload w = tt
inside_as spec call (suc (suc (suc (suc zero)))) payload w = inside_real spec call payload (nan_bits binary64 payload)
inside_as spec call (suc (suc (suc (suc (suc zero))))) payload w = inside_text spec payload w
inside_as spec call (suc (suc (suc (suc (suc (suc zero)))))) payload w = inside_text call payload w
inside_as spec call (suc (suc (suc (suc (suc (suc (suc zero))))))) payload w = tt
inside_as spec call (suc (suc (suc (suc (suc (suc (suc (suc kind)))))))) payload w = tt

-- a value that was read: its text lies inside its area, it is printed as its two cells are; and no value
module _ (spec call : List ℕ) (kind payload : ℕ) where
  read_well : (v : Value) → read_slot spec call kind payload ≡ Some v → (well_formed_slot spec call (value kind payload) ≡ true) × (value_as kind payload ≡ v)
  unfolding read_slot
  read_well v e = go (well_formed_slot spec call (value kind payload)) e
    where
      go : (b : Bool) → cond b (Some (value_as kind payload)) None ≡ Some v → (b ≡ true) × (value_as kind payload ≡ v)
      go true f = (refl, cc)
      go false f = let z : ◌≡◌ {A = ℕ} 0 1 = cc in absurd (omega arith)

  pub value_shown : (v : Value) → payload < 2 ^ 64 → read_slot spec call kind payload ≡ Some v → print_value spec call (pair_of (cells_of v)) ≡ shown_value spec call (value kind payload)
  unfolding shown_value well_formed_slot value_of
  value_shown v h e =
      ap (print_value spec call) (sym (ap (λ x. pair_of (cells_of x)) (read_well v e).1) ∙ back (eqb kind rules.spec_text) (read_well v e).0)
      ∙ sym (ap (λ b. cond b (print_value spec call (value kind payload)) []) (read_well v e).0)
    where
      back : (b : Bool) → cond b (rules.well_formed_default spec (value kind payload)) (rules.well_formed_argument call (value kind payload)) ≡ true → pair_of (cells_of (value_as kind payload)) ≡ value kind payload
      back true w = default_cells spec (value kind payload) h w
      back false w = argument_cells call (value kind payload) h w

  pub value_inside : (v : Value) → read_slot spec call kind payload ≡ Some v → Printable spec call v
  value_inside v e = subst (Printable spec call) (read_well v e).1 (inside_as spec call kind payload (read_well v e).0)

  pub value_hidden : read_slot spec call kind payload ≡ None → [] ≡ shown_value spec call (value kind payload)
  unfolding read_slot shown_value
  value_hidden e = go (well_formed_slot spec call (value kind payload)) e
    where
      go : (b : Bool) → cond b (Some (value_as kind payload)) None ≡ None → [] ≡ cond b (print_value spec call (value kind payload)) []
      go true f = let z : ◌≡◌ {A = ℕ} 0 1 = cc in absurd (omega arith)
      go false f = refl

-- ---- cells behind each other

line_cells : (a b c : List ℕ) → (a ++ (44 ∷ [])) ++ ((b ++ (44 ∷ [])) ++ (c ++ (10 ∷ []))) ≡ line a b c
unfolding line
line_cells a b c = simp append_assoc

-- three cells, each with the byte behind it
module _ (a b c : List ℕ) (start : Cursor) (room : start.at + length a + length b + length c + 3 ≤ length start.out.now) where
  fits : start.at + length (a ++ (44 ∷ [])) + length ((b ++ (44 ∷ [])) ++ (c ++ (10 ∷ []))) ≤ length start.out.now
  fits = simp length-append (omega (arith, room))

  pub wrote_line : {second third end : Cursor} → Wrote (a ++ (44 ∷ [])) start second → Wrote (b ++ (44 ∷ [])) second third → Wrote (c ++ (10 ∷ [])) third end → Wrote (line a b c) start end
  wrote_line {second = second} w v u =
      let behind : second.at + length ((b ++ (44 ∷ [])) ++ (c ++ (10 ∷ []))) ≤ length second.out.now = wrote_room _ _ _ w _ fits in
      wrote_same _ _ (line_cells a b c)
      (wrote_both _ _ _ w _ _ fits (wrote_both _ _ _ v _ _ (omega (arith, length-append (b ++ (44 ∷ [])) (c ++ (10 ∷ [])))) u))
