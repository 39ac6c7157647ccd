-- Can-fill and the check for unique names by computation: each side of the examples is computed.
-- Assumes nothing.
use mathlib.Core.Path.{refl}
use Rattle.rules.specs.Parameters.{comes_before, positional, nameable, positional_only, positional_only_count, positional_count, args_index, kwargs_index}
use Rattle.original.specs.Spec.{spec_of}
use Rattle.original.specs.CanFill.{can_fill_with_args}
use Rattle.original.specs.CheckUnique.{new_check_unique}
use Rattle.original.specs.FillExamples.{FillExamples}

pub fill_examples : FillExamples
unfolding comes_before positional nameable positional_only positional_only_count positional_count args_index kwargs_index spec_of can_fill_with_args new_check_unique
fill_examples =
    record {
      by_position = refl;
      by_name = refl;
      surplus = refl;
      surplus_taken = refl;
      filled_and_named = refl;
      named_twice = refl;
      positional_only_named = refl;
      unknown = refl;
      unknown_twice = refl;
      missing = refl;
      made_inside = refl;
      name_past = refl;
      positional_past = refl;
      names_differ = refl;
      name_again = refl;
      first_again = refl;
    }
