-- The parameter record (01, cells, texts and records): the function's name, then the steps, each a code, a name and a default. Its reader and
-- its encoder alone know how many cells a step takes.
use Rattle.std.specs.Prelude.{List, ◌∷◌, ℕ, ◌+◌, ◌-◌, ◌*◌, ◌/◌, length, drop, get_or}
use Rattle.rules.specs.Cells.{read_each, write_each}
use Rattle.rules.specs.Value.{Value, read_value, value_cells}

pub record Step : Type 0 where
  pub code : ℕ
  pub name : ℕ
  pub default : Value

pub record ParameterRecord : Type 0 where
  pub function : ℕ
  pub steps : List Step

unfoldable pub step_width : ℕ
step_width = 4

unfoldable pub step_cells : Step → List ℕ
step_cells s = s.code ∷ s.name ∷ value_cells s.default

unfoldable pub read_step : List ℕ → Step
read_step cells = record { code = get_or cells 0 0; name = get_or cells 1 0; default = read_value (drop 2 cells) }

-- how many cells a record of `count` steps has
unfoldable pub parameter_length : ℕ → ℕ
parameter_length count = 1 + step_width * count

-- how many whole steps some cells hold
unfoldable pub step_count : List ℕ → ℕ
step_count cells = (length cells - 1) / step_width

unfoldable pub read_parameters : List ℕ → ParameterRecord
read_parameters cells =
    record { function = get_or cells 0 0; steps = read_each step_width read_step (step_count cells) (drop 1 cells) }

unfoldable pub encode_parameters : ParameterRecord → List ℕ
encode_parameters r = r.function ∷ write_each step_cells r.steps
