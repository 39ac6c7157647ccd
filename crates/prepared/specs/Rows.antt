-- The rows of a prepared list as the code reads and writes them, and what its functions need of the cells.
use Rattle.std.specs.Prelude.{◌≡◌, Bool, true, ◌&&◌, List, ℕ, ◌+◌, ◌*◌, ◌%◌, ◌<◌, ◌≤◌, ltb, length, drop, get_or}
use Rattle.rules.specs.Text.{bytes_at, inside}
use Rattle.rules.specs.Value.{Value}
use Rattle.rules.specs.Parameters.{Parameter, act_of, may_stand}
use Rattle.builder.specs.Params.{style_for, step_of, may_be_named}
use Rattle.cells.specs.Text.{key_of, last_key}
use Rattle.prepared.specs.Prepared.{Row, read_row, parameter_of_row, adds_one}
use Rattle.prepared.specs.declared.row.Row.{Row as CodeRow}

-- a row of the code
unfoldable pub row_in : CodeRow → Row
row_in r = record { step = step_of r.step; style = r.style; key = r.key }

-- row i stands behind the two cells of the front and i rows
unfoldable pub row_at : List ℕ → ℕ → Row
row_at cells i = read_row (drop (2 + 6 * i) cells)

-- the parameter that it spells
unfoldable pub param_at : List ℕ → List ℕ → ℕ → Parameter
param_at area cells i = parameter_of_row area (row_at cells i)

-- the rows that the first cell announces are not too many, and all of them are there
pub record Whole (cells : List ℕ) : Type 0 where
  pub few : get_or cells 0 0 ≤ 64
  pub long : 2 + 6 * get_or cells 0 0 ≤ length cells

-- the codes and styles of these rows are small
pub record Narrow (cells : List ℕ) : Type 0 where
  pub code : (j : ℕ) → j < get_or cells 0 0 → get_or cells (2 + 6 * j) 0 < 256
  pub style : (j : ℕ) → j < get_or cells 0 0 → get_or cells (2 + 6 * j + 1) 0 < 256

-- the slot of row j's name, by its last bytes
unfoldable pub slot_at : List ℕ → List ℕ → ℕ → ℕ
slot_at area cells j = last_key (bytes_at area (row_at cells j).step.name) % 929

-- each row's key is that of its name, and a name by which it can be named lies inside the area
pub record Keyed (area cells : List ℕ) (n : ℕ) : Type 0 where
  pub long : 2 + 6 * n ≤ length cells
  pub named_inside : (j : ℕ) → j < n → may_be_named (row_at cells j).step.code (row_at cells j).style ≡ true → inside area (row_at cells j).step.name ≡ true
  pub keys : (j : ℕ) → j < n → (row_at cells j).key ≡ key_of (bytes_at area (row_at cells j).step.name)

-- a step with this code adds a parameter, and may do so under the style with this number
abbrev pub stands : ℕ → ℕ → Value → Bool
stands code style v = adds_one (act_of code v) && ltb style 3 && may_stand (style_for style) (act_of code v)
