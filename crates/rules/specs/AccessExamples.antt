-- The accessors at work (01, accessors), on records that the encoder makes, as one joint fact: what each answers and what its output then
-- holds. The proof is `access_examples` of proofs/.
use Rattle.std.specs.Prelude.{◌≡◌, List, [], ◌∷◌, ℕ}
use Rattle.rules.specs.Cells.{over}
use Rattle.rules.specs.Value.{Value}
use Rattle.rules.specs.Answer.{none, name, count_and_name, bounds}
use Rattle.rules.specs.CallRecord.{Pair, CallRecord, encode_call}
use Rattle.rules.specs.Accessors.{Access, denied, gives, left_by, ask_writing, names_map, names_map_cells, positions, positions_cells, len, no_named_args, ask_number, optional, optional_cells}
use Rattle.rules.specs.Examples.{call_bytes, whole, start, block, written_out, board_before, collected, call}

-- a call with names and a dictionary, and one with values and a list
abbrev pub with_dictionary : List Pair → List Pair → CallRecord
with_dictionary names entries = record { positionals = []; named = names; star_kind = 0; items = []; double_kind = 1; entries = entries }

abbrev pub with_list : List Value → List Value → CallRecord
with_list values items = record { positionals = values; named = []; star_kind = 1; items = items; double_kind = 0; entries = [] }

-- what each answers at 64 and 64, and what an output of 896 cells that hold 5 holds afterwards; to unfold one is to unfold all that it cites
unfoldable pub mapped : CallRecord → Access
unfolding collected ask_writing names_map
mapped c = names_map 64 64 (encode_call c) call_bytes board_before

unfoldable pub mapped_cells : CallRecord → List ℕ
unfolding mapped names_map_cells
mapped_cells c = left_by (mapped c) (names_map_cells (encode_call c) call_bytes) board_before

unfoldable pub placed : CallRecord → Access
unfolding collected ask_writing positions
placed c = positions 64 64 (encode_call c) call_bytes board_before

unfoldable pub placed_cells : CallRecord → List ℕ
unfolding placed positions_cells
placed_cells c = left_by (placed c) (positions_cells (encode_call c) call_bytes) board_before

unfoldable pub counted : CallRecord → Access
unfolding collected len
counted c = len 64 (encode_call c) call_bytes

unfoldable pub unnamed : CallRecord → Access
unfolding collected no_named_args
unnamed c = no_named_args 64 (encode_call c) call_bytes

unfoldable pub chosen : ℕ → ℕ → List ℕ → Access
unfolding collected ask_writing ask_number optional
chosen required more cells = optional 64 64 required more cells call_bytes board_before

unfoldable pub chosen_cells : ℕ → ℕ → List ℕ → List ℕ
unfolding chosen optional_cells
chosen_cells required more cells = left_by (chosen required more cells) (optional_cells required more cells call_bytes) board_before

pub record AccessExamples : Type 0 where
  -- start= and the entry start: `names_map` refuses and writes nothing
  pub repeated_name : mapped (with_dictionary (start ∷ []) (start ∷ [])) ≡ denied 19 (name (call 0 5))
  pub repeated_kept : mapped_cells (with_dictionary (start ∷ []) (start ∷ [])) ≡ board_before
  -- start= and the entry block: both pairs
  pub both_names : mapped (with_dictionary (start ∷ []) (block ∷ [])) ≡ gives 2
  pub both_written : mapped_cells (with_dictionary (start ∷ []) (block ∷ [])) ≡ over (6 ∷ 5 ∷ 3 ∷ 400 ∷ 6 ∷ 1285 ∷ 3 ∷ 7 ∷ []) board_before
  -- one value written out and one in a list: both
  pub both_values : placed (with_list (whole 1 ∷ []) (whole 2 ∷ [])) ≡ gives 2
  pub values_written : placed_cells (with_list (whole 1 ∷ []) (whole 2 ∷ [])) ≡ over (3 ∷ 1 ∷ 3 ∷ 2 ∷ []) board_before
  -- a name that is repeated counts twice
  pub repeat_counted : counted (with_dictionary (start ∷ []) (start ∷ [])) ≡ gives 2
  -- an entry is a named value too; an empty dictionary is none
  pub entry_named : unnamed (with_dictionary [] (block ∷ [])) ≡ denied 24 (count_and_name 1 (call 5 5))
  pub first_named : unnamed (with_dictionary (start ∷ []) (block ∷ [])) ≡ denied 24 (count_and_name 2 (call 0 5))
  pub none_named : unnamed (with_dictionary [] []) ≡ gives 0
  -- one required and two more, of nothing
  pub too_few : chosen 1 2 (encode_call (written_out [] [])) ≡ denied 26 (bounds 1 3 0)
  -- one required and one more, of one value: the other is two cells that are 0
  pub one_missing : chosen 1 1 (encode_call (written_out (whole 1 ∷ []) [])) ≡ gives 1
  pub missing_written : chosen_cells 1 1 (encode_call (written_out (whole 1 ∷ []) [])) ≡ over (3 ∷ 1 ∷ 0 ∷ 0 ∷ []) board_before
  -- 65 required are refused before the record is looked at, here one without a cell
  pub numbers_first : chosen 65 0 [] ≡ denied 25 none
