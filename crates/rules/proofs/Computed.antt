-- 01's twelve examples, the order of 24, 01's example of `bind`, the limits of a sheet, and cuts, printed lists, counts of step lists, accessors
-- and water in the last runs at work, by computation: every definition that they cite is unfolded and each side computed.
-- Assumes nothing.
use mathlib.Core.Path.{refl}
use lib.Dec.{lit≤}
use Rattle.rules.specs.Cells.{over}
use Rattle.rules.specs.Text.{payload_of}
use Rattle.rules.specs.Examples.{Twelve, collected, board_before, list_w, list_k, no_parameters, steps_w, spec_bytes, call_bytes}
use Rattle.rules.specs.OrderExamples.{OrderExamples, list_one, list_nameable, list_named}
use Rattle.rules.specs.CountExamples.{CountExamples, both_counts, steps_asked}
use Rattle.rules.specs.SheetExamples.{SheetExamples, example_input, example_output, binds_to, SheetLimits, judged, list_begun, call_begun, times, with_steps, with_rows, list_row, dict_row, value_rows, named_rows, item_rows, entry_rows, text_row}
use Rattle.rules.specs.PrintedExamples.{PrintedExamples, asked, shown, star_bytes, steps, all_steps}
use Rattle.rules.specs.CutExamples.{CutExamples, ends, fills, steps_l, list_l, list_m, call_bytes as cut_bytes}
use Rattle.rules.specs.WindowExamples.{WindowExamples, exceeding}
use Rattle.rules.specs.AccessExamples.{AccessExamples, mapped, mapped_cells, placed, placed_cells, counted, unnamed, chosen, chosen_cells}

pub twelve : Twelve
unfolding collected board_before list_w list_k no_parameters steps_w spec_bytes call_bytes over payload_of
twelve =
    record {
      three_values = refl;
      nothing_given = refl;
      one_value = refl;
      repeated = refl;
      repeated_star = refl;
      repeated_entry = refl;
      four_values = refl;
      positional_only_named = refl;
      positional_only_kept = refl;
      unknown_first = refl;
      star_first = refl;
      whole_key = refl;
      nothing_asked = refl;
    }

pub order_examples : OrderExamples
unfolding collected board_before list_w list_k list_one list_nameable list_named steps_w spec_bytes call_bytes payload_of
order_examples =
    record {
      before_20 = refl;
      before_21 = refl;
      before_22 = refl;
      before_23 = refl;
      after_19 = refl;
      after_18 = refl;
      after_16 = refl;
      under_kwargs = refl;
    }

pub count_examples : CountExamples
unfolding both_counts steps_asked
count_examples =
    record {
      either_way = refl;
      by_name = refl;
      misplaced = refl;
      misplaced_refused = refl;
      too_many = refl;
      too_many_refused = refl;
      repeated = refl;
      repeated_refused = refl;
    }

pub cut_examples : CutExamples
unfolding ends fills steps_l list_l list_m list_k steps_w spec_bytes cut_bytes board_before
cut_examples =
    record {
      accepted_inside = refl;
      accepted_foretold = refl;
      missing_inside = refl;
      missing_foretold = refl;
      unknown_inside = refl;
      unknown_foretold = refl;
      repeated_written = refl;
      repeated_entry = refl;
      repeated_foretold = refl;
      cells_by_hand = refl;
      accepted_domain =
          record { list_passes = refl; values_formed = refl; pairs_formed = refl; no_name_twice = refl; few_values = lit≤ tt; few_names = lit≤ tt; room = lit≤ tt };
      missing_domain =
          record { list_passes = refl; values_formed = refl; pairs_formed = refl; no_name_twice = refl; few_values = lit≤ tt; few_names = lit≤ tt; room = lit≤ tt };
      unknown_domain =
          record { list_passes = refl; values_formed = refl; pairs_formed = refl; no_name_twice = refl; few_values = lit≤ tt; few_names = lit≤ tt; room = lit≤ tt };
      unknown_unplaceable = record { unplaceable = refl; no_kwargs = refl; no_repeat = refl };
      repeated_domain =
          record { list_passes = refl; values_formed = refl; pairs_formed = refl; no_name_twice = refl; few_values = lit≤ tt; few_names = lit≤ tt; room = lit≤ tt };
    }

pub sheet_examples : SheetExamples
unfolding binds_to example_input example_output
sheet_examples = record { example = refl }

pub sheet_limits : SheetLimits
unfolding judged list_begun call_begun times with_steps with_rows list_row dict_row value_rows named_rows item_rows entry_rows text_row
sheet_limits =
    record {
      steps = refl;
      steps_past = refl;
      values_most = refl;
      values_past = refl;
      names_most = refl;
      names_past = refl;
      items_most = refl;
      items_past = refl;
      entries_most = refl;
      entries_past = refl;
      list_twice = refl;
      dictionary_twice = refl;
      item_first = refl;
      entry_first = refl;
      cell_most = refl;
      cell_past = refl;
    }

pub printed_examples : PrintedExamples
unfolding asked shown list_w list_k steps_w spec_bytes star_bytes steps all_steps payload_of
printed_examples =
    record {
      printed_w = record { passes = refl; prints = refl };
      printed_k = record { passes = refl; prints = refl };
      three_stars = record { passes = refl; prints = refl };
      four_stars = record { passes = refl; prints = refl };
      star_alone = record { passes = refl; prints = refl };
      empty_item = record { passes = refl; prints = refl };
      all_items = record { passes = refl; prints = refl };
    }

pub access_examples : AccessExamples
unfolding mapped mapped_cells placed placed_cells counted unnamed chosen chosen_cells call_bytes board_before payload_of over
access_examples =
    record {
      repeated_name = refl;
      repeated_kept = refl;
      both_names = refl;
      both_written = refl;
      both_values = refl;
      values_written = refl;
      repeat_counted = refl;
      entry_named = refl;
      first_named = refl;
      none_named = refl;
      too_few = refl;
      one_missing = refl;
      missing_written = refl;
      numbers_first = refl;
    }

pub window_examples : WindowExamples
unfolding exceeding
window_examples =
    record {
      three_runs = refl;
      at_the_limit = refl;
      above_it = refl;
      at_the_start = refl;
      first_run = refl;
      single = refl;
      longer = refl;
      longer_within = refl;
      no_runs = refl;
      no_window = refl;
      longest = refl;
      too_long = refl;
      most_runs = refl;
      too_many_runs = refl;
    }
