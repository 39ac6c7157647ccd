-- What the names of a call fill, as the code keeps it: for each parameter the cell of the value that a name gives it, and the cells of the
-- pairs that name no parameter. Against `rules`: each parameter's partner in N, and the named remainder.
use Rattle.std.specs.Prelude.{◌≡◌, true, List, map, ℕ, zero, suc, ◌≤◌, ◌<◌, eqb, length, take, drop, get_or}
use Rattle.std.proofs.Math.Option.{Option, none, some}
use Rattle.rules.specs.Text.{inside as text_inside}
use Rattle.rules.specs.Value.{Value, read_value, call_text}
use Rattle.rules.specs.CallRecord.{Named, read_pair, named_in}
use Rattle.rules.specs.Parameters.{Parameter}
use Rattle.rules.specs.Placement.{partner, named_remainder}
use Rattle.cells.specs.Record.{pair_at}

-- the value at a source: none at 0, since cell 0 of a call record is a count
abbrev pub source_value : List ℕ → ℕ → Option Value
source_value cells zero = none
source_value cells (suc n) = some (read_value (drop (suc n) cells))

-- the named value whose pair stands at a cell
unfoldable pub named_at : List ℕ → List ℕ → ℕ → Named
named_at area cells at = named_in area (read_pair (drop at cells))

-- a pair whose name is a text inside the area stands at a cell, not far into the record
pub record NamedPair (area cells : List ℕ) (pair : ℕ) : Type 0 where
  pub near : pair ≤ 2048
  pub text : eqb (pair_at cells pair).kind call_text ≡ true
  pub inside : text_inside area (pair_at cells pair).payload ≡ true

pub record Resolved (qs : List Parameter) (cells area : List ℕ) (N : List Named) (sources rest : List ℕ) (count : ℕ) : Type 0 where
  pub sources_are : (k : ℕ) (d : Parameter) → k < length qs → partner (get_or qs k d) N ≡ source_value cells (get_or sources k 0)
  pub rest_is : named_remainder qs N ≡ map (named_at area cells) (take count rest)
  pub in_rest : count ≤ length N
  pub rest_named : (j : ℕ) → j < count → NamedPair area cells (get_or rest j 0)
  pub slots : length sources ≡ 64
  pub pairs : length rest ≡ 128
