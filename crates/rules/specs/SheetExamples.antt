-- 01's example of `bind`, whole input and whole output, as a fact about the definitions of reading, collection and printing; and the limits of a
-- sheet, each with the first input that is past it. The proofs are `sheet_examples` and `sheet_limits` of proofs/.
use Rattle.std.specs.Prelude.{◌≡◌, List, [], ◌∷◌, ◌++◌, ℕ, replicate}
use Rattle.rules.specs.Cells.{write_each}
use Rattle.rules.specs.Text.{payload_of, start_of, size_of, bytes_at, inside, is_text, text_in}
use Rattle.rules.specs.Value.{value_width, value_cells, read_value, no_value, spec_text, call_text, well_formed, well_formed_default, well_formed_argument, well_formed_name, well_formed_key}
use Rattle.rules.specs.Answer.{part_of}
use Rattle.rules.specs.ParameterRecord.{step_width, step_cells, read_step, parameter_length, step_count, read_parameters, encode_parameters}
use Rattle.rules.specs.CallRecord.{pair_width, pair_cells, read_pair, head_width, read_head, call_length, read_call, encode_call, named_in, key_in, entry_in, call_in, positionals_of, named_of}
use Rattle.rules.specs.Parameters.{comes_before, act, positional, nameable, parameters_of, positional_count, has_args, has_kwargs}
use Rattle.rules.specs.Lookup.{names, known}
use Rattle.rules.specs.ParameterQuestions.{whole_steps, codes_known, step_name, names_inside, is_zero, defaults_right, ask_step, list_of, ask_parameters}
use Rattle.rules.specs.Placement.{star_remainder, named_remainder, from_p, slot_of, place, counts_of}
use Rattle.rules.specs.Board.{slot_cells, named_cells, written, board_after, board_least}
use Rattle.rules.specs.CallQuestions.{lengths_right, kinds_right, well_formed_pair, well_formed_entry, parts_well_formed, entries_differ, names_differ, ask_form, ask_call, ask_board}
use Rattle.rules.specs.Binding.{texts_of, named_by, names_filled, ask_placed, ask_binding}
use Rattle.rules.specs.Collection.{call_of, ask_records, collection}
use Rattle.rules.specs.SheetValue.{decimal, read_decimal, print_whole, read_bits, read_form, print_value}
use Rattle.rules.specs.SheetLines.{lines_in, unended, cells_in, three_cells, part_word, name_word, value_word, column_of, columns_in, header_right, row_in}
use Rattle.rules.specs.SheetRows.{is_value, is_def, code_of, step_right, call_part, is_part, is_list, is_dict, is_other, fewer, list_before, dict_before, call_row_right}
use Rattle.rules.specs.SheetInput.{Verdict, right, bad, input_most, parameter_lines, call_lines, judge_input}
use Rattle.rules.specs.SheetRecords.{step_texts, step_at, key_text, call_texts, row_value, named_pair, entry_pair, of_part, call_record, sheets_in}
use Rattle.rules.specs.SheetOutput.{line, accepted_text, refusal_text, sheets_text, bind_text}

-- the parameter sheet of `water`, a blank line, and a call sheet
unfoldable pub example_input : List ℕ
example_input =
    112 ∷ 97 ∷ 114 ∷ 116 ∷ 44 ∷ 110 ∷ 97 ∷ 109 ∷ 101 ∷ 44 ∷ 118 ∷ 97 ∷ 108 ∷ 117 ∷ 101 ∷ 10 ∷
    100 ∷ 101 ∷ 102 ∷ 44 ∷ 119 ∷ 97 ∷ 116 ∷ 101 ∷ 114 ∷ 44 ∷ 10 ∷
    114 ∷ 101 ∷ 113 ∷ 117 ∷ 105 ∷ 114 ∷ 101 ∷ 100 ∷ 44 ∷ 98 ∷ 108 ∷ 111 ∷ 99 ∷ 107 ∷ 44 ∷ 10 ∷
    47 ∷ 44 ∷ 44 ∷ 10 ∷
    114 ∷ 101 ∷ 113 ∷ 117 ∷ 105 ∷ 114 ∷ 101 ∷ 100 ∷ 44 ∷ 115 ∷ 116 ∷ 97 ∷ 114 ∷ 116 ∷ 44 ∷ 10 ∷
    100 ∷ 101 ∷ 102 ∷ 97 ∷ 117 ∷ 108 ∷ 116 ∷ 101 ∷ 100 ∷ 44 ∷ 109 ∷ 105 ∷ 110 ∷ 117 ∷ 116 ∷ 101 ∷ 115 ∷ 44 ∷ 105 ∷ 51 ∷ 48 ∷ 10 ∷
    42 ∷ 42 ∷ 107 ∷ 119 ∷ 97 ∷ 114 ∷ 103 ∷ 115 ∷ 44 ∷ 44 ∷ 10 ∷
    10 ∷
    112 ∷ 97 ∷ 114 ∷ 116 ∷ 44 ∷ 110 ∷ 97 ∷ 109 ∷ 101 ∷ 44 ∷ 118 ∷ 97 ∷ 108 ∷ 117 ∷ 101 ∷ 10 ∷
    112 ∷ 111 ∷ 115 ∷ 44 ∷ 44 ∷ 115 ∷ 66 ∷ 51 ∷ 10 ∷
    110 ∷ 97 ∷ 109 ∷ 101 ∷ 100 ∷ 44 ∷ 115 ∷ 116 ∷ 97 ∷ 114 ∷ 116 ∷ 44 ∷ 105 ∷ 52 ∷ 48 ∷ 48 ∷ 10 ∷
    110 ∷ 97 ∷ 109 ∷ 101 ∷ 100 ∷ 44 ∷ 99 ∷ 114 ∷ 111 ∷ 112 ∷ 44 ∷ 115 ∷ 118 ∷ 105 ∷ 110 ∷ 101 ∷ 10 ∷ []

unfoldable pub example_output : List ℕ
example_output =
    115 ∷ 108 ∷ 111 ∷ 116 ∷ 44 ∷ 110 ∷ 97 ∷ 109 ∷ 101 ∷ 44 ∷ 118 ∷ 97 ∷ 108 ∷ 117 ∷ 101 ∷ 10 ∷
    48 ∷ 44 ∷ 98 ∷ 108 ∷ 111 ∷ 99 ∷ 107 ∷ 44 ∷ 115 ∷ 66 ∷ 51 ∷ 10 ∷
    49 ∷ 44 ∷ 115 ∷ 116 ∷ 97 ∷ 114 ∷ 116 ∷ 44 ∷ 105 ∷ 52 ∷ 48 ∷ 48 ∷ 10 ∷
    50 ∷ 44 ∷ 109 ∷ 105 ∷ 110 ∷ 117 ∷ 116 ∷ 101 ∷ 115 ∷ 44 ∷ 105 ∷ 51 ∷ 48 ∷ 10 ∷
    51 ∷ 44 ∷ 42 ∷ 42 ∷ 107 ∷ 119 ∷ 97 ∷ 114 ∷ 103 ∷ 115 ∷ 44 ∷ 49 ∷ 10 ∷
    110 ∷ 97 ∷ 109 ∷ 101 ∷ 100 ∷ 44 ∷ 99 ∷ 114 ∷ 111 ∷ 112 ∷ 44 ∷ 115 ∷ 118 ∷ 105 ∷ 110 ∷ 101 ∷ 10 ∷
    116 ∷ 97 ∷ 107 ∷ 101 ∷ 110 ∷ 44 ∷ 50 ∷ 44 ∷ 10 ∷
    100 ∷ 101 ∷ 102 ∷ 97 ∷ 117 ∷ 108 ∷ 116 ∷ 101 ∷ 100 ∷ 44 ∷ 49 ∷ 44 ∷ 10 ∷ []

-- what `bind` prints at 64 and 64; to unfold it is to unfold all that it cites
unfoldable pub binds_to : List ℕ → List ℕ
unfolding payload_of start_of size_of bytes_at inside is_text text_in value_width value_cells read_value no_value spec_text call_text well_formed well_formed_default well_formed_argument well_formed_name well_formed_key part_of step_width step_cells read_step parameter_length step_count read_parameters encode_parameters pair_width pair_cells read_pair head_width read_head call_length read_call encode_call named_in key_in entry_in call_in positionals_of named_of comes_before act positional nameable parameters_of positional_count has_args has_kwargs names known whole_steps codes_known step_name names_inside is_zero defaults_right ask_step list_of ask_parameters star_remainder named_remainder from_p slot_of place counts_of slot_cells named_cells written board_after board_least lengths_right kinds_right well_formed_pair well_formed_entry parts_well_formed entries_differ names_differ ask_form ask_call ask_board texts_of named_by names_filled ask_placed ask_binding call_of ask_records collection decimal read_decimal print_whole read_bits read_form print_value lines_in unended cells_in three_cells part_word name_word value_word column_of columns_in header_right row_in is_value is_def code_of step_right call_part is_part is_list is_dict is_other fewer list_before dict_before call_row_right input_most parameter_lines call_lines judge_input step_texts step_at key_text call_texts row_value named_pair entry_pair of_part call_record sheets_in line accepted_text refusal_text sheets_text bind_text
binds_to input = bind_text 64 64 input

pub record SheetExamples : Type 0 where
  pub example : binds_to example_input ≡ example_output

-- ---- limits

-- a header, and `def,f,`
unfoldable pub list_begun : List ℕ
list_begun =
    112 ∷ 97 ∷ 114 ∷ 116 ∷ 44 ∷ 110 ∷ 97 ∷ 109 ∷ 101 ∷ 44 ∷ 118 ∷ 97 ∷ 108 ∷ 117 ∷ 101 ∷ 10 ∷
    100 ∷ 101 ∷ 102 ∷ 44 ∷ 102 ∷ 44 ∷ 10 ∷ []

-- a blank line, and a header
unfoldable pub call_begun : List ℕ
call_begun = 10 ∷ 112 ∷ 97 ∷ 114 ∷ 116 ∷ 44 ∷ 110 ∷ 97 ∷ 109 ∷ 101 ∷ 44 ∷ 118 ∷ 97 ∷ 108 ∷ 117 ∷ 101 ∷ 10 ∷ []

-- a row, so many times
unfoldable pub times : ℕ → List ℕ → List ℕ
times n row = write_each (λ b. b) (replicate n row)

-- a list of so many steps `/,,`, and no argument
unfoldable pub with_steps : ℕ → List ℕ
with_steps n = list_begun ++ (times n (47 ∷ 44 ∷ 44 ∷ 10 ∷ []) ++ call_begun)

-- no step, and a call of these rows
unfoldable pub with_rows : List ℕ → List ℕ
with_rows rows = list_begun ++ (call_begun ++ rows)

-- `star,,list` and `dstar,,dict`
unfoldable pub list_row : List ℕ
list_row = 115 ∷ 116 ∷ 97 ∷ 114 ∷ 44 ∷ 44 ∷ 108 ∷ 105 ∷ 115 ∷ 116 ∷ 10 ∷ []

unfoldable pub dict_row : List ℕ
dict_row = 100 ∷ 115 ∷ 116 ∷ 97 ∷ 114 ∷ 44 ∷ 44 ∷ 100 ∷ 105 ∷ 99 ∷ 116 ∷ 10 ∷ []

-- `pos,,n`, `named,k,n`, `item,,n` and `entry,n,n`, so many times
unfoldable pub value_rows : ℕ → List ℕ
value_rows n = times n (112 ∷ 111 ∷ 115 ∷ 44 ∷ 44 ∷ 110 ∷ 10 ∷ [])

unfoldable pub named_rows : ℕ → List ℕ
named_rows n = times n (110 ∷ 97 ∷ 109 ∷ 101 ∷ 100 ∷ 44 ∷ 107 ∷ 44 ∷ 110 ∷ 10 ∷ [])

unfoldable pub item_rows : ℕ → List ℕ
item_rows n = times n (105 ∷ 116 ∷ 101 ∷ 109 ∷ 44 ∷ 44 ∷ 110 ∷ 10 ∷ [])

unfoldable pub entry_rows : ℕ → List ℕ
entry_rows n = times n (101 ∷ 110 ∷ 116 ∷ 114 ∷ 121 ∷ 44 ∷ 110 ∷ 44 ∷ 110 ∷ 10 ∷ [])

-- `pos,,s` and so many bytes behind it
unfoldable pub text_row : ℕ → List ℕ
text_row n = 112 ∷ 111 ∷ 115 ∷ 44 ∷ 44 ∷ 115 ∷ (replicate n 97 ++ (10 ∷ []))

-- the verdict at 64 and 64; to unfold it is to unfold all that it cites
unfoldable pub judged : List ℕ → Verdict
unfolding read_decimal read_bits read_form lines_in unended cells_in three_cells part_word name_word value_word column_of columns_in header_right row_in is_value is_def code_of step_right call_part is_part is_list is_dict is_other fewer list_before dict_before call_row_right input_most parameter_lines call_lines judge_input
judged input = judge_input 64 64 input

-- 66 steps, 64 rows of each part that has values, one of each star, cells of 255 bytes; lines count over the whole input
pub record SheetLimits : Type 0 where
  pub steps : judged (with_steps 66) ≡ right
  pub steps_past : judged (with_steps 67) ≡ bad 30 69
  pub values_most : judged (with_rows (value_rows 64)) ≡ right
  pub values_past : judged (with_rows (value_rows 65)) ≡ bad 30 69
  pub names_most : judged (with_rows (named_rows 64)) ≡ right
  pub names_past : judged (with_rows (named_rows 65)) ≡ bad 30 69
  pub items_most : judged (with_rows (list_row ++ item_rows 64)) ≡ right
  pub items_past : judged (with_rows (list_row ++ item_rows 65)) ≡ bad 30 70
  pub entries_most : judged (with_rows (dict_row ++ entry_rows 64)) ≡ right
  pub entries_past : judged (with_rows (dict_row ++ entry_rows 65)) ≡ bad 30 70
  pub list_twice : judged (with_rows (list_row ++ list_row)) ≡ bad 30 6
  pub dictionary_twice : judged (with_rows (dict_row ++ dict_row)) ≡ bad 30 6
  pub item_first : judged (with_rows (item_rows 1 ++ list_row)) ≡ bad 30 5
  pub entry_first : judged (with_rows (entry_rows 1 ++ dict_row)) ≡ bad 30 5
  pub cell_most : judged (with_rows (text_row 254)) ≡ right
  pub cell_past : judged (with_rows (text_row 255)) ≡ bad 30 5
