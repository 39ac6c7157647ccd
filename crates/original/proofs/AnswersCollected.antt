-- The examples of the Rust whole, by computation: every definition that they cite is unfolded and each side computed.
-- Assumes nothing.
use mathlib.Core.Path.{refl}
use Rattle.rules.specs.Text.{payload_of}
use Rattle.rules.specs.Examples.{list_w, list_k, no_parameters, steps_w, spec_bytes, call_bytes}
use Rattle.rules.specs.OrderExamples.{list_named}
use Rattle.original.specs.Examples.{RustExamples, rust_ends, list_args, list_two, list_slashes}

pub rust_examples : RustExamples
unfolding rust_ends list_w list_k no_parameters steps_w spec_bytes call_bytes payload_of list_named list_args list_two list_slashes
rust_examples =
    record {
      three_values = refl;
      nothing_given = refl;
      one_value = refl;
      repeated = refl;
      repeated_star = refl;
      repeated_entry = refl;
      four_values = refl;
      positional_only_named = refl;
      positional_only_kept = refl;
      missing_first = refl;
      star_first = refl;
      whole_key = refl;
      nothing_asked = refl;
      no_dictionary = refl;
      named_only_missing = refl;
      star_kept = refl;
      lowest_repeated = refl;
      written_twice = refl;
      slash_twice = refl;
      made_inside = refl;
      name_past = refl;
      args_past = refl;
      positional_past = refl;
      slots_few = refl;
    }
