-- A call that both paths take, by computation: one value, against a list of one required parameter. So `paths_agree` speaks of some calls.
-- Assumes nothing.
use mathlib.Core.Path.{refl}
use mathlib.Core.List.{[], ◌∷◌}
use lib.Dec.{lit≤}
use lib.ListN.{replicate}
use Rattle.std.specs.Prelude.{None}
use Rattle.rules.specs.Value.{value_width, read_value, well_formed, well_formed_argument}
use Rattle.rules.specs.CallRecord.{head_width, pair_width, read_head, call_length, read_call}
use Rattle.rules.specs.Parameters.{comes_before, positional, positional_only, nameable, positional_only_count, positional_count, args_index, kwargs_index}
use Rattle.rules.specs.CallQuestions.{lengths_right, kinds_right, parts_well_formed, entries_differ, ask_form}
use Rattle.rules.specs.Passed.{name_inside}
use Rattle.builder.specs.Params.{parameter_of, parameter_at, parameters_in}
use Rattle.builder.specs.declared.spec.ParametersSpec.{ParametersSpec}
use Rattle.calls.specs.Keys.{ask_keys}
use Rattle.collector.specs.Paths.{Short}

-- `def f(a)`, its name the one byte of the spec area
abbrev one_parameter : ParametersSpec
one_parameter =
    record {
      params =
          record {
            codes = 1 ∷ replicate 63 0;
            styles = replicate 64 0;
            names = 1 ∷ replicate 63 0;
            default_kinds = replicate 64 0;
            default_payloads = replicate 64 0;
            len = 1;
          };
      indices = record { num_positional_only = 1; num_positional = 1; args = None; kwargs = None };
      area = record { ref_ptr = (0, 0); now = 97 ∷ [] };
    }

pub short_one : Short (97 ∷ []) one_parameter (1 ∷ 0 ∷ 0 ∷ 0 ∷ 0 ∷ 0 ∷ 1 ∷ 0 ∷ []) [] (replicate 896 0)
unfolding ask_keys ask_form lengths_right kinds_right parts_well_formed entries_differ well_formed_argument well_formed read_call call_length head_width pair_width value_width read_value read_head parameters_in parameter_at parameter_of comes_before positional positional_only nameable positional_only_count positional_count args_index kwargs_index name_inside
short_one =
    record {
      list =
          record {
            is_list = record { room = lit≤ tt; parameters = refl; positional_only = refl; positional = refl; args = refl; kwargs = refl };
            first = refl;
            apart = refl;
            inside = refl;
          };
      passed = refl;
      applies = refl;
      long = lit≤ tt;
    }
