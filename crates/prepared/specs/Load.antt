-- What reading a prepared list promises: `DefParamIndices` of the rows, counted row by row, and the rows in the builder's columns.
use Rattle.std.specs.Prelude.{◌≡◌, Option, Bool, ◌&&◌, List, ℕ, get_or}
use Rattle.std.specs.Option.{option_or}
use Rattle.std.specs.Bool.{then_some}
use Rattle.rules.specs.Value.{no_value}
use Rattle.rules.specs.Parameters.{Parameter, pos_or_named, comes_before, act_of, plain, takes_position, is_kwargs, positional_only_count, positional_count, args_index, kwargs_index}
use Rattle.builder.specs.Params.{style_for, kind_for}
use Rattle.cells.specs.Listed.{listed}
use Rattle.builder.specs.Spec.{index_of}
use Rattle.builder.specs.Build.{IsList}
use Rattle.builder.specs.declared.params.Parameters.{Parameters}
use Rattle.builder.specs.declared.spec.ParametersSpec.{ParametersSpec}
use Rattle.prepared.specs.Prepared.{list_in}
use Rattle.prepared.specs.Rows.{param_at}
use Rattle.builder.specs.declared.spec.DefParamIndices.{DefParamIndices}

-- by code and style: positional, positional-only, and **kwargs
unfoldable pub by_position : ℕ → ℕ → Bool
by_position code style = plain (kind_for (act_of code no_value)) && takes_position (style_for style)

unfoldable pub only_by_position : ℕ → ℕ → Bool
only_by_position code style = plain (kind_for (act_of code no_value)) && comes_before (style_for style) pos_or_named

unfoldable pub rest_of_names : ℕ → Bool
rest_of_names code = is_kwargs (kind_for (act_of code no_value))

-- the first index so far, after one more row
abbrev pub or_at : Option ℕ → Bool → ℕ → Option ℕ
or_at found b i = option_or found (then_some b i)

-- both counts and both indices are those of the list
pub record IndicesOf (qs : List Parameter) (d : DefParamIndices) : Type 0 where
  pub positional_only : d.num_positional_only ≡ positional_only_count qs
  pub positional : d.num_positional ≡ positional_count qs
  pub args : index_of d.args ≡ args_index qs
  pub kwargs : index_of d.kwargs ≡ kwargs_index qs

-- columns that hold the rows: with counts and indices that are those of the rows they are the list that the cells spell
pub record IsLoaded (cells : List ℕ) (p : Parameters) : Type 0 where
  pub len : p.len ≡ get_or cells 0 0
  pub list : (area : List ℕ) (l : ParametersSpec) → l.params ≡ p → IndicesOf (listed (param_at area cells) 0 (get_or cells 0 0)) l.indices → IsList area l (list_in area cells)
