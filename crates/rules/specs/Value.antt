-- Values (01, cells, texts and records): a kind cell and a payload cell. 01's own term defined here: well formed.
use Rattle.std.specs.Prelude.{Bool, ◌&&◌, ◌||◌, List, [], ◌∷◌, ℕ, ◌^◌, eqb, ltb, get_or}
use Rattle.rules.specs.Text.{is_text}

pub record Value : Type 0 where
  pub kind : ℕ
  pub payload : ℕ

-- how many cells a value takes, what it writes there, and how it is read off the front of some cells
unfoldable pub value_width : ℕ
value_width = 2

unfoldable pub value_cells : Value → List ℕ
value_cells v = v.kind ∷ v.payload ∷ []

unfoldable pub read_value : List ℕ → Value
read_value cells = record { kind = get_or cells 0 0; payload = get_or cells 1 0 }

-- two cells that are 0
unfoldable pub no_value : Value
no_value = record { kind = 0; payload = 0 }

-- the kind of a text in the spec area, which defaults use, and of one in the call area, which calls use
unfoldable pub spec_text : ℕ
spec_text = 5

unfoldable pub call_text : ℕ
call_text = 6

-- does a payload fit its kind? 1 nothing, 2 a flag, 3 a whole number, 4 a real, 7 a handle of 32 bits; a whole number is the cell in two's
-- complement and a real its bits, so any cell fits them. `text` is the kind of text that is used there, of at most 64 bytes in `area`
unfoldable pub well_formed : ℕ → List ℕ → Value → Bool
well_formed text area v =
    eqb v.kind 1 && eqb v.payload 0
    || eqb v.kind 2 && ltb v.payload 2
    || eqb v.kind 3
    || eqb v.kind 4
    || eqb v.kind text && is_text 0 area v.payload
    || eqb v.kind 7 && ltb v.payload (2 ^ 32)

-- as a default, whose texts stand in the spec area
unfoldable pub well_formed_default : List ℕ → Value → Bool
well_formed_default area v = well_formed spec_text area v

-- as an argument of a call, whose texts stand in the call area
unfoldable pub well_formed_argument : List ℕ → Value → Bool
well_formed_argument area v = well_formed call_text area v

-- as a name in a call: a text that is not empty
unfoldable pub well_formed_name : List ℕ → Value → Bool
well_formed_name area v = eqb v.kind call_text && is_text 1 area v.payload

-- as a key: a text, which may be empty, or a whole number
unfoldable pub well_formed_key : List ℕ → Value → Bool
well_formed_key area v = eqb v.kind 3 || eqb v.kind call_text && is_text 0 area v.payload
