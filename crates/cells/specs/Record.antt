-- The two cells that stand at an index of a record, as `rules` reads them off the record, and what reading them answers.
use Rattle.std.specs.Prelude.{Option, List, ℕ, drop}
use Rattle.rules.specs.Value as rules
use Rattle.cells.specs.Value.{read_key}
use Rattle.cells.specs.declared.value.Key.{Key}

unfoldable pub pair_at : List ℕ → ℕ → rules.Value
pair_at cells at = rules.read_value (drop at cells)

-- a key
unfoldable pub key_at : List ℕ → List ℕ → ℕ → Option Key
key_at area cells at = read_key area (pair_at cells at).kind (pair_at cells at).payload
