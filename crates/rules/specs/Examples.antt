-- 01's twelve proved examples, the ninth as 02's §4 amends it, on records that the encoders make, as one joint fact about collection. Its proof
-- is `twelve` of proofs/.
-- W is 01's list `water(block, /, start, minutes = 30)`, K is W with **kwargs.
use Rattle.std.specs.Prelude.{◌≡◌, List, [], ◌∷◌, ◌++◌, ℕ, replicate}
use Rattle.rules.specs.Cells.{over}
use Rattle.rules.specs.Text.{payload_of, start_of, size_of, bytes_at, inside, is_text, text_in}
use Rattle.rules.specs.Value.{Value, value_width, value_cells, read_value, no_value, spec_text, call_text, well_formed, well_formed_default, well_formed_argument, well_formed_name, well_formed_key}
use Rattle.rules.specs.Answer.{none, name, count, count_and_name, Part, spec_area, call_area, part_of}
use Rattle.rules.specs.ParameterRecord.{Step, ParameterRecord, step_width, step_cells, read_step, parameter_length, step_count, read_parameters, encode_parameters}
use Rattle.rules.specs.CallRecord.{Pair, CallRecord, pair_width, pair_cells, read_pair, head_width, read_head, call_length, read_call, encode_call, named_in, key_in, entry_in, call_in, positionals_of, named_of}
use Rattle.rules.specs.Parameters.{comes_before, act, positional, nameable, parameters_of, positional_count, has_args, has_kwargs}
use Rattle.rules.specs.Lookup.{names, known}
use Rattle.rules.specs.ParameterQuestions.{whole_steps, codes_known, step_name, names_inside, is_zero, defaults_right, ask_step, list_of, ask_parameters}
use Rattle.rules.specs.Placement.{star_remainder, named_remainder, from_p, slot_of, place, counts_of}
use Rattle.rules.specs.Board.{slot_cells, named_cells, written, board_after, board_least}
use Rattle.rules.specs.CallQuestions.{lengths_right, kinds_right, well_formed_pair, well_formed_entry, parts_well_formed, entries_differ, names_differ, ask_form, ask_call, ask_board}
use Rattle.rules.specs.Binding.{texts_of, named_by, names_filled, ask_placed, ask_binding}
use Rattle.rules.specs.Collection.{Outcome, refused, accepted, call_of, ask_records, collection}

-- the bytes of `waterblockstartminutes`
unfoldable pub spec_bytes : List ℕ
spec_bytes =
    119 ∷ 97 ∷ 116 ∷ 101 ∷ 114 ∷ 98 ∷ 108 ∷ 111 ∷ 99 ∷ 107 ∷ 115 ∷ 116 ∷ 97 ∷ 114 ∷ 116 ∷ 109 ∷ 105 ∷ 110 ∷ 117 ∷ 116 ∷ 101 ∷ 115 ∷ []

-- the bytes of `startblock`
unfoldable pub call_bytes : List ℕ
call_bytes = 115 ∷ 116 ∷ 97 ∷ 114 ∷ 116 ∷ 98 ∷ 108 ∷ 111 ∷ 99 ∷ 107 ∷ []

abbrev pub step : ℕ → ℕ → ℕ → ℕ → Step
step code payload kind bits = record { code = code; name = payload; default = record { kind = kind; payload = bits } }

unfoldable pub steps_w : List Step
unfolding payload_of
steps_w = step 1 (payload_of 5 5) 0 0 ∷ step 4 0 0 0 ∷ step 1 (payload_of 10 5) 0 0 ∷ step 3 (payload_of 15 7) 3 30 ∷ []

unfoldable pub list_w : ParameterRecord
unfolding payload_of steps_w
list_w = record { function = payload_of 0 5; steps = steps_w }

unfoldable pub list_k : ParameterRecord
unfolding payload_of steps_w
list_k = record { function = payload_of 0 5; steps = steps_w ++ (step 7 0 0 0 ∷ []) }

unfoldable pub no_parameters : ParameterRecord
unfolding payload_of
no_parameters = record { function = payload_of 0 5; steps = [] }

-- the whole number n, as a value and as a key
abbrev pub whole : ℕ → Value
whole n = record { kind = 3; payload = n }

-- `start=400`, `block=7`: named values or, as they stand, entries
abbrev pub start : Pair
unfolding payload_of
start = record { key = record { kind = 6; payload = payload_of 0 5 }; value = whole 400 }

abbrev pub block : Pair
unfolding payload_of
block = record { key = record { kind = 6; payload = payload_of 5 5 }; value = whole 7 }

-- a call without stars
abbrev pub written_out : List Value → List Pair → CallRecord
written_out P N = record { positionals = P; named = N; star_kind = 0; items = []; double_kind = 0; entries = [] }

-- the board before each call
unfoldable pub board_before : List ℕ
board_before = replicate 896 5

-- how collection ends at 64 and 64 over a board of 896 cells that hold 5; to unfold it is to unfold all that collection cites
unfoldable pub collected : List ℕ → List ℕ → ParameterRecord → CallRecord → Outcome
unfolding start_of size_of bytes_at inside is_text text_in value_width value_cells read_value no_value spec_text call_text well_formed well_formed_default well_formed_argument well_formed_name well_formed_key part_of step_width step_cells read_step parameter_length step_count read_parameters encode_parameters pair_width pair_cells read_pair head_width read_head call_length read_call encode_call named_in key_in entry_in call_in positionals_of named_of comes_before act positional nameable parameters_of positional_count has_args has_kwargs names known whole_steps codes_known step_name names_inside is_zero defaults_right ask_step list_of ask_parameters star_remainder named_remainder from_p slot_of place counts_of slot_cells named_cells written board_after board_least lengths_right kinds_right well_formed_pair well_formed_entry parts_well_formed entries_differ names_differ ask_form ask_call ask_board texts_of named_by names_filled ask_placed ask_binding call_of ask_records collection
collected spec_bytes call_bytes list call = collection 64 64 (encode_parameters list) spec_bytes (encode_call call) call_bytes board_before

abbrev pub outcome : ParameterRecord → CallRecord → Outcome
outcome list call = collected spec_bytes call_bytes list call

-- a part of the spec area, and of the call area
abbrev pub spec : ℕ → ℕ → Part
spec at size = record { area = spec_area; start = at; size = size }

abbrev pub call : ℕ → ℕ → Part
call at size = record { area = call_area; start = at; size = size }

pub record Twelve : Type 0 where
  -- (1) W, 3 values: taken 3
  pub three_values :
      outcome list_w (written_out (whole 1 ∷ whole 2 ∷ whole 3 ∷ []) [])
      ≡ accepted (record { taken = 3; defaulted = 0; star = 0; named = 0 }) (over (3 ∷ 1 ∷ 3 ∷ 2 ∷ 3 ∷ 3 ∷ []) board_before)
  -- (2) W, none: 20 block
  pub nothing_given : outcome list_w (written_out [] []) ≡ refused 20 (name (spec 5 5))
  -- (3) W, B: 21 start
  pub one_value : outcome list_w (written_out (whole 1 ∷ []) []) ≡ refused 21 (name (spec 10 5))
  -- (4) W, two values, start=: 16
  pub repeated : outcome list_w (written_out (whole 1 ∷ whole 2 ∷ []) (start ∷ [])) ≡ refused 16 (name (spec 10 5))
  -- (5) the same with the second in a star list: 16
  pub repeated_star :
      outcome list_w (record { positionals = whole 1 ∷ []; named = start ∷ []; star_kind = 1; items = whole 2 ∷ []; double_kind = 0; entries = [] })
      ≡ refused 16 (name (spec 10 5))
  -- (6) W, B, start=, entry start: 19
  pub repeated_entry :
      outcome list_w (record { positionals = whole 1 ∷ []; named = start ∷ []; star_kind = 0; items = []; double_kind = 1; entries = start ∷ [] })
      ≡ refused 19 (name (call 0 5))
  -- (7) W, four values: 23, 1
  pub four_values : outcome list_w (written_out (whole 1 ∷ whole 2 ∷ whole 3 ∷ whole 4 ∷ []) []) ≡ refused 23 (count 1)
  -- (8) W, B, start=, block=: 24 block; K accepts
  pub positional_only_named :
      outcome list_w (written_out (whole 1 ∷ []) (start ∷ block ∷ [])) ≡ refused 24 (count_and_name 1 (call 5 5))
  pub positional_only_kept :
      outcome list_k (written_out (whole 1 ∷ []) (start ∷ block ∷ []))
      ≡ accepted (record { taken = 2; defaulted = 1; star = 0; named = 1 })
      (over (3 ∷ 1 ∷ 3 ∷ 400 ∷ 3 ∷ 30 ∷ 9 ∷ 1 ∷ 6 ∷ 1285 ∷ 3 ∷ 7 ∷ []) board_before)
  -- (9) W, start=, block=: 24 block (02, §4; 20 in 01)
  pub unknown_first : outcome list_w (written_out [] (start ∷ block ∷ [])) ≡ refused 24 (count_and_name 1 (call 5 5))
  -- (10) case 4, star kind 2: 15
  pub star_first :
      outcome list_w (record { positionals = whole 1 ∷ whole 2 ∷ []; named = start ∷ []; star_kind = 2; items = []; double_kind = 0; entries = [] })
      ≡ refused 15 none
  -- (11) case 6, whole key first: 18
  pub whole_key :
      outcome list_w (record {
        positionals = whole 1 ∷ [];
        named = start ∷ [];
        star_kind = 0;
        items = [];
        double_kind = 1;
        entries = record { key = whole 5; value = whole 6 } ∷ start ∷ [];
      })
      ≡ refused 18 none
  -- (12) no parameters, no arguments: accepted
  pub nothing_asked :
      outcome no_parameters (written_out [] []) ≡ accepted (record { taken = 0; defaulted = 0; star = 0; named = 0 }) board_before
