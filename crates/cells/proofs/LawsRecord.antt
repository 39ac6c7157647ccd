-- The two cells that stand at an index of a record, which `rules` reads off what is left of it, by the record's own indices: for
-- code that indexes. Assumes nothing.
use mathlib.Core.Path.{◌≡◌}
use mathlib.Core.List.{List}
use Prim.Native.Nat.{ℕ, ◌+◌, ◌≤◌}
use native.Mathlib.Nat.{add-zero}
use lib.ListN.{length, get_or, get_or-eq_default}
use lib.Seq.{get_or-drop}
use native.Mathlib.Omega.{arith}
use Rattle.rules.specs.Value as rules
use Rattle.cells.specs.Value.{value}
use Rattle.cells.specs.Record.{pair_at}

pub pair_at_is : (cells : List ℕ) (at : ℕ) → pair_at cells at ≡ value (get_or cells at 0) (get_or cells (at + 1) 0)
unfolding pair_at rules.read_value
pair_at_is cells at = rw (get_or-drop at cells 0, get_or-drop at cells 1, add-zero)

-- past the end both are 0
pub pair_at_past : (cells : List ℕ) (at : ℕ) → length cells ≤ at → pair_at cells at ≡ value 0 0
pair_at_past cells at h =
    rw (pair_at_is cells at, get_or-eq_default cells 0 {n = at} h, get_or-eq_default cells 0 {n = at + 1} (omega arith))
