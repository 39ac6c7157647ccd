-- A value of the code and its two cells (01, cells, texts and records; the form that 01 asks for, an enum with a case for each kind), and
-- what reading the two cells answers. Which cells are well formed is said in `rules`.
use Rattle.std.specs.Prelude.{Option, Some, None, Bool, cond, List, ℕ, zero, suc, eqb}
use Rattle.std.specs.Float.{binary64}
use Rattle.std.specs.Float.Ieee.{nan_bits, to_bits, of_bits}
use Rattle.std.specs.Int.{w64}
use mir.Val.{bool_byte, to_z, of_z}
use Rattle.rules.specs.Text.{payload_of}
use Rattle.rules.specs.Value as rules
use Rattle.cells.specs.Text.{text_of}
use Rattle.cells.specs.declared.text.Text.{Text}
use Rattle.cells.specs.declared.value.Value.{Value}
use Rattle.cells.specs.declared.value.Value.TheVariants.{Nothing, Flag, Whole, Real, Nan, SpecText, CallText, Handle}
use Rattle.cells.specs.declared.value.Pair.{Pair}
use Rattle.cells.specs.declared.value.Key.{Key}
use Rattle.cells.specs.declared.value.Key.TheVariants.{Word, Number}

-- a kind cell and a payload cell, as the code has them and as `rules` has them
abbrev pub pair : ℕ → ℕ → Pair
pair kind payload = record { kind = kind; payload = payload }

abbrev pub value : ℕ → ℕ → rules.Value
value kind payload = record { kind = kind; payload = payload }

abbrev pub pair_of : Pair → rules.Value
pair_of p = value p.kind p.payload

-- the two cells of a value. The bits of a float that is a NaN, which no reading gives, are the quiet one's
abbrev pub cells_of : Value → Pair
cells_of Nothing = pair 1 0
cells_of (Flag b) = pair 2 (bool_byte b)
cells_of (Whole z) = pair 3 (of_z w64 z)
cells_of (Real x) = pair 4 (to_bits binary64 x)
cells_of (Nan bits) = pair 4 bits
cells_of (SpecText t) = pair 5 (payload_of t.start t.len)
cells_of (CallText t) = pair 6 (payload_of t.start t.len)
cells_of (Handle h) = pair 7 h

-- a real keeps all its bits: the number, or the bits themselves where they are a NaN's
unfoldable pub real_of : ℕ → Value
real_of bits = cond (nan_bits binary64 bits) (Nan bits) (Real (of_bits binary64 bits))

-- the value of a kind and a payload; no kind but 1 to 7 is ever well formed
abbrev pub value_as : ℕ → ℕ → Value
value_as zero payload = Nothing
value_as (suc zero) payload = Nothing
value_as (suc (suc zero)) payload = Flag (eqb payload 1)
value_as (suc (suc (suc zero))) payload = Whole (to_z w64 payload)
value_as (suc (suc (suc (suc zero)))) payload = real_of payload
value_as (suc (suc (suc (suc (suc zero))))) payload = SpecText (text_of payload)
value_as (suc (suc (suc (suc (suc (suc zero)))))) payload = CallText (text_of payload)
value_as (suc (suc (suc (suc (suc (suc (suc zero))))))) payload = Handle payload
value_as (suc (suc (suc (suc (suc (suc (suc (suc kind)))))))) payload = Nothing

-- the value of two well-formed cells
unfoldable pub value_of : rules.Value → Value
value_of v = value_as v.kind v.payload

-- what reading answers where `text` is the kind of text that is used: a value if the two cells are well formed, else no
unfoldable pub read_as : ℕ → List ℕ → ℕ → ℕ → Option Value
read_as text area kind payload =
    cond (rules.well_formed text area (value kind payload)) (Some (value_as kind payload)) None

unfoldable pub read_default : List ℕ → ℕ → ℕ → Option Value
read_default area kind payload =
    cond (rules.well_formed_default area (value kind payload)) (Some (value_as kind payload)) None

unfoldable pub read_argument : List ℕ → ℕ → ℕ → Option Value
read_argument area kind payload =
    cond (rules.well_formed_argument area (value kind payload)) (Some (value_as kind payload)) None

-- on a board a text of kind 5 stands in the spec area, as a default has it; anything else stands there as an argument has it
unfoldable pub well_formed_slot : List ℕ → List ℕ → rules.Value → Bool
well_formed_slot spec call v =
    cond (eqb v.kind rules.spec_text) (rules.well_formed_default spec v) (rules.well_formed_argument call v)

unfoldable pub read_slot : List ℕ → List ℕ → ℕ → ℕ → Option Value
read_slot spec call kind payload =
    cond (well_formed_slot spec call (value kind payload)) (Some (value_as kind payload)) None

-- a name in a call
unfoldable pub read_name : List ℕ → ℕ → ℕ → Option Text
read_name area kind payload =
    cond (rules.well_formed_name area (value kind payload)) (Some (text_of payload)) None

-- a key: a text or a whole number
unfoldable pub read_key : List ℕ → ℕ → ℕ → Option Key
read_key area kind payload =
    cond (rules.well_formed_key area (value kind payload))
    (Some (cond (eqb kind rules.call_text) (Word (text_of payload)) (Number (to_z w64 payload))))
    None
