-- The cells of a line (01, sheets), off what stands in the areas, the columns of a list and the board: what lies outside prints nothing.
use Rattle.std.specs.Prelude.{Bool, cond, List, [], ℕ}
use Rattle.rules.specs.Text.{is_text, bytes_at}
use Rattle.rules.specs.Value.{Value, no_value}
use Rattle.rules.specs.Parameters.{ParameterKind, required, optional, defaulted, args, kwargs, plain, act_of}
use Rattle.rules.specs.SheetValue.{decimal, print_value}
use Rattle.rules.specs.SheetOutput.{slot_name}
use Rattle.cells.specs.Value.{well_formed_slot}
use Rattle.builder.specs.Params.{kind_for}

-- the text of at most 64 bytes that a payload names
unfoldable pub shown_name : List ℕ → ℕ → List ℕ
shown_name area payload = cond (is_text 0 area payload) (bytes_at area payload) []

-- two cells that are a value, of a default or of a call
unfoldable pub shown_value : List ℕ → List ℕ → Value → List ℕ
shown_value spec call v = cond (well_formed_slot spec call v) (print_value spec call v) []

-- what a parameter's two cells on the board show: its value, or a remainder's count
abbrev pub shown_as : List ℕ → List ℕ → ParameterKind → Value → List ℕ
shown_as spec call required v = shown_value spec call v
shown_as spec call optional v = shown_value spec call v
shown_as spec call (defaulted w) v = shown_value spec call v
shown_as spec call args v = decimal v.payload
shown_as spec call kwargs v = decimal v.payload

-- by the code of a parameter's step: whether it has a name of its own, that name, and its two cells
unfoldable pub plain_code : ℕ → Bool
plain_code code = plain (kind_for (act_of code no_value))

unfoldable pub name_for : ℕ → List ℕ → List ℕ
name_for code bytes = slot_name (kind_for (act_of code no_value)) bytes

unfoldable pub shown_for : List ℕ → List ℕ → ℕ → Value → List ℕ
shown_for spec call code v = shown_as spec call (kind_for (act_of code no_value)) v
