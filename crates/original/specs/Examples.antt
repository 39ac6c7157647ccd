-- 01's twelve examples taken through the Rust whole, its builder, its check of the written names and its collector, and one case for each of its
-- ends that they do not reach, as one joint fact; and lists that no builder finishes, at which the collector panics. Its proof is
-- `rust_examples` of proofs/. The records are those of rules/specs/Examples.
use Rattle.std.specs.Prelude.{◌≡◌, List, [], ◌∷◌, ℕ}
use Rattle.std.proofs.Math.Option.{Option, none, some}
use Rattle.rules.specs.Text.{Text, payload_of, start_of, size_of, bytes_at, text_in}
use Rattle.rules.specs.Value.{Value, value_width, value_cells, read_value, call_text}
use Rattle.rules.specs.ParameterRecord.{ParameterRecord, step_width, step_cells, read_step, step_count, read_parameters, encode_parameters}
use Rattle.rules.specs.CallRecord.{CallRecord, Call, no_star, no_double, pair_width, pair_cells, read_pair, head_width, read_head, read_call, encode_call, named_in, key_in, entry_in, call_in}
use Rattle.rules.specs.Parameters.{optional}
use Rattle.rules.specs.Collection.{call_of}
use Rattle.rules.specs.Examples.{spec_bytes, call_bytes, step, list_w, list_k, no_parameters, whole, start, block, written_out}
use Rattle.rules.specs.OrderExamples.{list_named}
use Rattle.original.specs.Spec.{ParametersSpec}
use Rattle.original.specs.Builder.{to_u32, with_capacity, take_step, built}
use Rattle.original.specs.CheckUnique.{new_check_unique, written_names}
use Rattle.original.specs.Locals.{Held, single, tuple, dict, FunctionError, ArgsArrayIsNotIterable, RepeatedArg, KwArgsIsNotDict, ArgsValueIsNotString, MissingPositionalOnly, MissingNamedOnly, Missing, ExtraPositionalArg, ExtraNamedArg, ok, err, usize_max}
use Rattle.original.specs.Arguments.{take_one, take_positionals, test_repeats}
use Rattle.original.specs.Collect.{missing_at, settle_one, settle, start_locals, collect_slow, is_short, collect_inline}
use Rattle.original.specs.Whole.{End, panics, written_twice, collects, rust_end}

-- how the Rust ends for two records over the examples' areas; to unfold it is to unfold all that it cites
unfoldable pub rust_ends : ParameterRecord → CallRecord → End
unfolding payload_of start_of size_of bytes_at text_in value_width value_cells read_value call_text step_width step_cells read_step step_count read_parameters encode_parameters pair_width pair_cells read_pair head_width read_head read_call encode_call named_in key_in entry_in call_in call_of to_u32 with_capacity take_step built new_check_unique written_names usize_max take_one take_positionals test_repeats missing_at settle_one settle start_locals collect_slow is_short collect_inline rust_end
rust_ends list call = rust_end (encode_parameters list) spec_bytes (encode_call call) call_bytes

-- the collector hands back these slots, or this error
abbrev pub slots : List (Option Held) → End
slots ss = collects (ok ss)

abbrev pub fails : FunctionError → End
fails e = collects (err e)

-- `block` and `start`
abbrev pub block_bytes : List ℕ
block_bytes = 98 ∷ 108 ∷ 111 ∷ 99 ∷ 107 ∷ []

abbrev pub start_bytes : List ℕ
start_bytes = 115 ∷ 116 ∷ 97 ∷ 114 ∷ 116 ∷ []

-- a slot that holds the whole number n
abbrev pub holding : ℕ → Option Held
holding n = some (single (whole n))

-- `*args`
unfoldable pub list_args : ParameterRecord
unfolding payload_of
list_args = record { function = payload_of 0 5; steps = step 6 0 0 0 ∷ [] }

-- `/, start, block`, and `/, /`
unfoldable pub list_two : ParameterRecord
unfolding payload_of
list_two = record { function = payload_of 0 5; steps = step 4 0 0 0 ∷ step 1 (payload_of 10 5) 0 0 ∷ step 1 (payload_of 5 5) 0 0 ∷ [] }

unfoldable pub list_slashes : ParameterRecord
unfolding payload_of
list_slashes = record { function = payload_of 0 5; steps = step 4 0 0 0 ∷ step 4 0 0 0 ∷ [] }

-- `start` alone, which may be left out, as a list whose index of the name, index of *args and number of positionals are given
abbrev pub hand_made : ℕ → Option ℕ → ℕ → ParametersSpec
hand_made index star_index positional =
    record {
      param_kinds = optional ∷ [];
      param_names = start_text ∷ [];
      names = record { bytes = start_bytes; index = index } ∷ [];
      num_positional_only = 0;
      num_positional = positional;
      args = star_index;
      kwargs = none;
    }
  where
    start_text : Text
    start_text = record { payload = 0; bytes = start_bytes }

-- a call with some values, and one with `start` by its name
abbrev pub valued : List Value → Call
valued vs = record { positionals = vs; named = []; star = no_star; double = no_double }

abbrev pub start_named : Call
start_named =
    record { positionals = []; named = record { name = record { payload = 0; bytes = start_bytes }; value = whole 1 } ∷ []; star = no_star; double = no_double }

pub record RustExamples : Type 0 where
  pub three_values : rust_ends list_w (written_out (whole 1 ∷ whole 2 ∷ whole 3 ∷ []) []) ≡ slots (holding 1 ∷ holding 2 ∷ holding 3 ∷ [])
  pub nothing_given : rust_ends list_w (written_out [] []) ≡ fails (MissingPositionalOnly block_bytes)
  pub one_value : rust_ends list_w (written_out (whole 1 ∷ []) []) ≡ fails (Missing start_bytes)
  pub repeated : rust_ends list_w (written_out (whole 1 ∷ whole 2 ∷ []) (start ∷ [])) ≡ fails (RepeatedArg start_bytes)
  pub repeated_star :
      rust_ends list_w (record { positionals = whole 1 ∷ []; named = start ∷ []; star_kind = 1; items = whole 2 ∷ []; double_kind = 0; entries = [] })
      ≡ fails (RepeatedArg start_bytes)
  pub repeated_entry :
      rust_ends list_w (record { positionals = whole 1 ∷ []; named = start ∷ []; star_kind = 0; items = []; double_kind = 1; entries = start ∷ [] })
      ≡ fails (RepeatedArg start_bytes)
  pub four_values : rust_ends list_w (written_out (whole 1 ∷ whole 2 ∷ whole 3 ∷ whole 4 ∷ []) []) ≡ fails (ExtraPositionalArg 1)
  pub positional_only_named : rust_ends list_w (written_out (whole 1 ∷ []) (start ∷ block ∷ [])) ≡ fails (ExtraNamedArg (block_bytes ∷ []))
  pub positional_only_kept :
      rust_ends list_k (written_out (whole 1 ∷ []) (start ∷ block ∷ []))
      ≡ slots (holding 1 ∷ holding 400 ∷ holding 30 ∷ some (dict (record { name = record { payload = 1285; bytes = block_bytes }; value = whole 7 } ∷ [])) ∷ [])
  pub missing_first : rust_ends list_w (written_out [] (start ∷ block ∷ [])) ≡ fails (MissingPositionalOnly block_bytes)
  pub star_first :
      rust_ends list_w (record { positionals = whole 1 ∷ whole 2 ∷ []; named = start ∷ []; star_kind = 2; items = []; double_kind = 0; entries = [] })
      ≡ fails ArgsArrayIsNotIterable
  pub whole_key :
      rust_ends list_w (record {
        positionals = whole 1 ∷ [];
        named = start ∷ [];
        star_kind = 0;
        items = [];
        double_kind = 1;
        entries = record { key = whole 5; value = whole 6 } ∷ start ∷ [];
      })
      ≡ fails ArgsValueIsNotString
  pub nothing_asked : rust_ends no_parameters (written_out [] []) ≡ slots []
  -- past the twelve: no dictionary, a named-only parameter that is missing, values for *args
  pub no_dictionary :
      rust_ends list_w (record { positionals = whole 1 ∷ []; named = []; star_kind = 0; items = []; double_kind = 2; entries = [] }) ≡ fails KwArgsIsNotDict
  pub named_only_missing : rust_ends list_named (written_out [] []) ≡ fails (MissingNamedOnly block_bytes)
  pub star_kept :
      rust_ends list_args (record { positionals = whole 1 ∷ []; named = []; star_kind = 1; items = whole 2 ∷ []; double_kind = 0; entries = [] })
      ≡ slots (some (tuple (whole 1 ∷ whole 2 ∷ [])) ∷ [])
  -- of two repeats the one at the lower index, whichever is written last
  pub lowest_repeated : rust_ends list_two (written_out (whole 1 ∷ whole 2 ∷ []) (start ∷ block ∷ [])) ≡ fails (RepeatedArg start_bytes)
  -- before the collector: a name written twice, a second / mark
  pub written_twice : rust_ends list_w (written_out [] (start ∷ start ∷ [])) ≡ written_twice start_bytes
  pub slash_twice : rust_ends list_slashes (written_out [] []) ≡ panics
  -- lists made by hand: with all indices inside, then the name's (725), *args' (832) or the second positional's (700) past the one slot
  pub made_inside : collect_inline (hand_made 0 none 1) start_named ≡ some (ok (holding 1 ∷ []))
  pub name_past : collect_inline (hand_made 1 none 1) start_named ≡ none
  pub args_past : collect_inline (hand_made 0 (some 1) 1) (valued []) ≡ none
  pub positional_past : collect_inline (hand_made 0 none 2) (valued (whole 1 ∷ whole 2 ∷ whole 3 ∷ [])) ≡ none
  -- fewer slots than parameters (684)
  pub slots_few : collect_slow (hand_made 0 none 1) start_named [] ≡ none
