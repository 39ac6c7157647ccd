-- Reworked from starlark 0.14.2, src/eval/runtime/params/spec.rs (ParametersSpec) and src/collections/symbol/map.rs (get), Apache-2.0.
-- The Rust's finished parameter list (spec.rs 147-162, `ParametersSpec`) and its map of names (map.rs, `SymbolMap`), and the list that the
-- Rust has for the parameters of a record of 01. A hash table that finds by equality is read as a list of pairs that is searched.
use Rattle.std.specs.Prelude.{Bool, true, false, cond, List, [], ◌∷◌, map, ℕ, suc}
use Rattle.std.proofs.Math.Option.{Option, none, some}
use Rattle.rules.specs.Text.{Text, same_bytes}
use Rattle.rules.specs.Parameters.{Parameter, ParameterKind, nameable, positional_count, positional_only_count, args_index, kwargs_index}

-- `Option::is_some`, `is_none`
abbrev pub is_some : {X : Type 0} → Option X → Bool
is_some none = false
is_some (some x) = true

abbrev pub is_none : {X : Type 0} → Option X → Bool
is_none none = true
is_none (some x) = false

-- one entry of the map: a name's bytes and the index of its parameter
pub record Symbol : Type 0 where
  pub bytes : List ℕ
  pub index : ℕ

-- `SymbolMap::get`, `get_str`, `get_hashed_string_value` (map.rs 88-108): the index that stands with these bytes
abbrev pub get : List Symbol → List ℕ → Option ℕ
get [] bytes = none
get (s ∷ ss) bytes = cond (same_bytes bytes s.bytes) (some s.index) (get ss bytes)

-- `ParametersSpec` with `DefParamIndices` laid open
pub record ParametersSpec : Type 0 where
  pub param_kinds : List ParameterKind
  pub param_names : List Text
  pub names : List Symbol
  pub num_positional_only : ℕ
  pub num_positional : ℕ
  pub args : Option ℕ
  pub kwargs : Option ℕ

-- the names that `add` inserts (spec.rs 187-192): those of nameable parameters, each with its index
abbrev pub symbols_from : ℕ → List Parameter → List Symbol
symbols_from i [] = []
symbols_from i (q ∷ qs) =
    cond (nameable q) (record { bytes = q.name.bytes; index = i } ∷ symbols_from (suc i) qs) (symbols_from (suc i) qs)

-- the list that the Rust's builder finishes for some parameters (spec.rs 312-341)
unfoldable pub spec_of : List Parameter → ParametersSpec
spec_of qs =
    record {
      param_kinds = map (λ q. q.kind) qs;
      param_names = map (λ q. q.name) qs;
      names = symbols_from 0 qs;
      num_positional_only = positional_only_count qs;
      num_positional = positional_count qs;
      args = args_index qs;
      kwargs = kwargs_index qs;
    }
