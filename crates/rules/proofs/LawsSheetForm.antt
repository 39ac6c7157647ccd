-- What a right input leaves to be asked (01, sheets; the questions): its records pass 1, 2, 9 and 10 (`right_sheets_form`) and the board 14, so
-- its call is refused by the other questions alone (`right_sheets_refused`).
-- Assumes nothing.
use mathlib.Core.Path.{◌≡◌, refl, ap, ◌∙◌}
use mathlib.Core.Bool.{Bool, true, false, cond, ◌&&◌, ◌||◌, or-true, false≢true}
use mathlib.Core.List.{List, [], ◌∷◌, map}
use Prim.Native.Nat.{ℕ, suc, ◌+◌, ◌≤◌}
use native.Mathlib.Omega.{arith}
use lib.Dec.{leb, ltb, eqb}
use lib.ListN.{length, replicate, length-map, length-replicate}
use borrow.Author.Tests.{le-leb, eq-eqb}
use Rattle.rules.specs.Listing.{all, tally}
use Rattle.rules.specs.Text.{same_bytes}
use Rattle.rules.specs.Value.{Value}
use Rattle.rules.specs.Answer.{Answer, fine, ◌then◌, ask, Detail}
use Rattle.rules.specs.ParameterRecord.{ParameterRecord, parameter_length, read_parameters, encode_parameters}
use Rattle.rules.specs.CallRecord.{CallRecord, Call, call_length, read_call, encode_call, positionals_of, named_of}
use Rattle.rules.specs.Parameters.{Parameter, pos_only, act_of, act}
use Rattle.rules.specs.ParameterQuestions.{is_code, whole_steps, codes_known, names_inside, defaults_right, ask_steps, list_of, ask_parameters}
use Rattle.rules.specs.CallQuestions.{lengths_right, kinds_right, parts_well_formed, entries_differ, names_differ, ask_form, ask_call, ask_board}
use Rattle.rules.specs.Board.{board_least}
use Rattle.rules.specs.Binding.{ask_binding}
use Rattle.rules.specs.Collection.{refused, call_of, ask_records, collection}
use Rattle.rules.specs.SheetLines.{lines_in, unended, Row}
use Rattle.rules.specs.SheetRows.{is_empty, is_value, code_of, step_right, parameter_row_right, CallPart, positional, named, star, item, double, entry, is_part, is_list, is_dict, list_before, dict_before, call_row_right}
use Rattle.rules.specs.SheetInput.{Verdict, right, ◌else◌, unless, judge_sheet, rows_of, input_most, parameter_lines, call_lines, judge_input}
use Rattle.rules.specs.SheetRecords.{step_texts, step_at, steps_from, parameter_record, call_texts, Placed, placed_from, row_value, named_pair, entry_pair, of_part, call_record, Sheets, sheets_in}
use Rattle.rules.specs.SheetOutput.{sheets_outcome}
use Rattle.rules.specs.SheetForm.{RightForm, sheet_question}
use Rattle.rules.proofs.LawsListing.{and_left, and_right, and_both}
use Rattle.rules.proofs.LawsRecord.{head_of, read_head_encode_call, length_encode_call, read_call_encode_call, step_count_encode_parameters, length_encode_parameters, read_parameters_encode_parameters}
use Rattle.rules.proofs.LawsNumbers.{refuses_by, then_by, ask_by, in_range, wider_by, steps_in, binding_in, outcome_by}
use Rattle.rules.proofs.LawsSheetRows.{else_left, else_right, sheet_holds, StepRows, step_more, kind_right_lem, CallRows, no_rows, call_more}

-- ---- 1 and 2

steps_count : (at : ℕ) (rows : List Row) → length (steps_from at rows) ≡ length rows
steps_count at [] = refl
steps_count at (r ∷ rs) = ap suc (steps_count (at + length (step_texts r)) rs)

-- the code of a right step is one of 01's table
code_known : (part : List ℕ) (v : Value) → leb 1 (code_of part) ≡ true → is_code (act_of (code_of part) v) ≡ true
unfolding code_of
code_known part v e =
    go (same_bytes part (114 ∷ 101 ∷ 113 ∷ 117 ∷ 105 ∷ 114 ∷ 101 ∷ 100 ∷ [])) (same_bytes part (111 ∷ 112 ∷ 116 ∷ 105 ∷ 111 ∷ 110 ∷ 97 ∷ 108 ∷ []))
    (same_bytes part (100 ∷ 101 ∷ 102 ∷ 97 ∷ 117 ∷ 108 ∷ 116 ∷ 101 ∷ 100 ∷ [])) (same_bytes part (47 ∷ [])) (same_bytes part (42 ∷ []))
    (same_bytes part (42 ∷ 97 ∷ 114 ∷ 103 ∷ 115 ∷ [])) (same_bytes part (42 ∷ 42 ∷ 107 ∷ 119 ∷ 97 ∷ 114 ∷ 103 ∷ 115 ∷ [])) e
  where
    go : (a b c d f g h : Bool) → leb 1 (cond a 1 (cond b 2 (cond c 3 (cond d 4 (cond f 5 (cond g 6 (cond h 7 0))))))) ≡ true
        → is_code (act_of (cond a 1 (cond b 2 (cond c 3 (cond d 4 (cond f 5 (cond g 6 (cond h 7 0))))))) v) ≡ true
    go true b c d f g h p = refl
    go false true c d f g h p = refl
    go false false true d f g h p = refl
    go false false false true f g h p = refl
    go false false false false true g h p = refl
    go false false false false false true h p = refl
    go false false false false false false true p = refl
    go false false false false false false false p = absurd (false≢true p)

step_coded : (r : Row) → step_right r ≡ true → leb 1 (code_of r.part) ≡ true
unfolding step_right
step_coded r e =
    let named_so : Bool = cond (ltb (code_of r.part) 4) true (is_empty r.name) in
    let valued_so : Bool = cond (eqb (code_of r.part) 3) (is_value r.value) (is_empty r.value) in
    and_left (leb 1 (code_of r.part)) named_so (and_left (leb 1 (code_of r.part) && named_so) valued_so e)

steps_known : (at : ℕ) (rows : List Row) → all step_right rows ≡ true → codes_known (steps_from at rows) ≡ true
unfolding codes_known act step_at
steps_known at [] e = refl
steps_known at (r ∷ rs) e =
    and_both (is_code (act (step_at at r))) (codes_known (steps_from (at + length (step_texts r)) rs))
    (code_known r.part (step_at at r).default (step_coded r (and_left (step_right r) (all step_right rs) e)))
    (steps_known (at + length (step_texts r)) rs (and_right (step_right r) (all step_right rs) e))

record_known : (A : ℕ) (rows : List Row) → StepRows A rows → codes_known (parameter_record rows).steps ≡ true
unfolding codes_known
record_known A [] h = refl
record_known A (def ∷ steps) h = steps_known (length (step_texts def)) steps h.0

record_few : (A : ℕ) (rows : List Row) → StepRows A rows → length (parameter_record rows).steps ≤ A + 2
record_few A [] h = omega arith
record_few A (def ∷ steps) h = omega (arith, h.1, steps_count (length (step_texts def)) steps)

encoded_whole : (A : ℕ) (r : ParameterRecord) → length r.steps ≤ A + 2 → whole_steps A (encode_parameters r) ≡ true
unfolding whole_steps
encoded_whole A r h =
    rw (step_count_encode_parameters r)
    (and_both (eqb (length (encode_parameters r)) (parameter_length (length r.steps))) (leb (length r.steps) (A + 2))
    (eq-eqb (length (encode_parameters r)) (parameter_length (length r.steps)) (length_encode_parameters r)) (le-leb (length r.steps) (A + 2) h))

-- ---- 9 and 10

part_count : (part : CallPart) (at : ℕ) (rows : List Row) → length (of_part part (placed_from at rows)) ≡ tally (is_part part) rows
unfolding of_part
part_count part at [] = refl
part_count part at (r ∷ rs) = go (is_part part r) (part_count part (at + length (call_texts r)) rs)
  where
    rest : List Placed
    rest = of_part part (placed_from (at + length (call_texts r)) rs)

    go : (b : Bool) → length rest ≡ tally (is_part part) rs
        → length (cond b (record { row = r; at = at } ∷ rest) rest) ≡ cond b (suc (tally (is_part part) rs)) (tally (is_part part) rs)
    go true e = ap suc e
    go false e = e

-- how many of a part the record has
pub part_many : {X : Type 0} (part : CallPart) (f : Placed → X) (rows : List Row) → length (map f (of_part part (placed_from 0 rows))) ≡ tally (is_part part) rows
part_many part f rows = length-map (of_part part (placed_from 0 rows)) f ∙ part_count part 0 rows

encoded_lengths : (B : ℕ) (r : CallRecord) → length r.positionals ≤ B → length r.named ≤ B → length r.items ≤ B → length r.entries ≤ B
    → lengths_right B (encode_call r) ≡ true
unfolding lengths_right head_of
encoded_lengths B r p n s d =
    rw (
      read_head_encode_call r,
      le-leb (length r.positionals) B p,
      le-leb (length r.named) B n,
      le-leb (length r.items) B s,
      le-leb (length r.entries) B d,
    )
    (eq-eqb (length (encode_call r)) (call_length (head_of r)) (length_encode_call r))

module _ (B : ℕ) (rows : List Row) (h : CallRows B rows) where
  call_lengths : lengths_right B (encode_call (call_record rows)) ≡ true
  unfolding call_record
  call_lengths =
      encoded_lengths B (call_record rows) (omega (arith, part_many positional row_value rows, h.few positional)) (omega (arith, part_many named named_pair rows, h.few named))
      (omega (arith, part_many item row_value rows, h.few item)) (omega (arith, part_many entry entry_pair rows, h.few entry))

  call_kinds : kinds_right (call_record rows) ≡ true
  unfolding kinds_right call_record list_before dict_before
  call_kinds =
      and_both _ _
      (kind_right_lem star is_list rows (h.few star) (length (map row_value (of_part item (placed_from 0 rows)))) (λ l. h.items (omega (arith, part_many item row_value rows))))
      (kind_right_lem double is_dict rows (h.few double) (length (map entry_pair (of_part entry (placed_from 0 rows)))) (λ l. h.entries (omega (arith, part_many entry entry_pair rows))))

-- ---- a right input

-- the verdicts of the two sheets, and what is asked between and behind them
module _ (A B : ℕ) (input : List ℕ) where
  abbrev list_verdict : Verdict
  list_verdict = judge_sheet (parameter_row_right A) 1 (parameter_lines input)

  abbrev parted_verdict : Verdict
  parted_verdict = unless (leb 2 (length (parameter_lines input)) && ltb (length (parameter_lines input)) (length (lines_in input))) (length (parameter_lines input) + 1)

  abbrev call_verdict : Verdict
  call_verdict = judge_sheet (call_row_right B) (length (parameter_lines input) + 2) (call_lines input)

  abbrev ended_verdict : Verdict
  ended_verdict = unless (leb 1 (length (call_lines input)) && is_empty (unended input)) (length (lines_in input) + 1)

module _ (A B : ℕ) (input : List ℕ) (told : judge_input A B input ≡ right) where
  from_list : (list_verdict A B input else parted_verdict A B input else call_verdict A B input else ended_verdict A B input) ≡ right
  unfolding judge_input
  from_list =
      else_right (unless (leb (length input) input_most) 0) (list_verdict A B input else parted_verdict A B input else call_verdict A B input else ended_verdict A B input) told

  list_rows : StepRows A (rows_of (parameter_lines input))
  list_rows =
      sheet_holds (parameter_row_right A) (StepRows A) (step_more A) tt 1 (parameter_lines input)
      (else_left (list_verdict A B input) (parted_verdict A B input else call_verdict A B input else ended_verdict A B input) from_list)

  call_rows : CallRows B (rows_of (call_lines input))
  call_rows =
      sheet_holds (call_row_right B) (CallRows B) (λ rows r h e. call_more B rows r e h) (no_rows B) (length (parameter_lines input) + 2) (call_lines input)
      (else_left (call_verdict A B input) (ended_verdict A B input)
      (else_right (parted_verdict A B input) (call_verdict A B input else ended_verdict A B input)
      (else_right (list_verdict A B input) (parted_verdict A B input else call_verdict A B input else ended_verdict A B input) from_list)))

  pub right_sheets_form : RightForm A B (sheets_in input)
  unfolding sheets_in
  right_sheets_form =
      record {
        whole = encoded_whole A (parameter_record (rows_of (parameter_lines input))) (record_few A (rows_of (parameter_lines input)) list_rows);
        codes = rw (read_parameters_encode_parameters (parameter_record (rows_of (parameter_lines input)))) (record_known A (rows_of (parameter_lines input)) list_rows);
        lengths = call_lengths B (rows_of (call_lines input)) call_rows;
        kinds = rw (read_call_encode_call (call_record (rows_of (call_lines input)))) (call_kinds B (rows_of (call_lines input)) call_rows);
      }

-- ---- by which questions a call is refused

-- 5 to 7 and 15 to 24 are among the questions that a right input leaves
steps_left : (n : ℕ) → 5 ≤ n → n ≤ 7 → sheet_question n ≡ true
steps_left n l m = ap (λ b. b || leb 11 n && leb n 13 || leb 15 n && leb n 24) (in_range 3 7 n (omega arith) m)

binding_left : (n : ℕ) → 15 ≤ n → n ≤ 24 → sheet_question n ≡ true
binding_left n l m =
    ap (λ b. leb 3 n && leb n 7 || leb 11 n && leb n 13 || b) (in_range 15 24 n l m)
    ∙ or-true (leb 3 n && leb n 7 || leb 11 n && leb n 13)

parameters_only : (A : ℕ) (cells area : List ℕ) → whole_steps A cells ≡ true → codes_known (read_parameters cells).steps ≡ true → refuses_by sheet_question (ask_parameters A cells area) ≡ true
unfolding ask_parameters
parameters_only A cells area whole codes =
    let fourth : Answer = ask 4 (defaults_right area (read_parameters cells).steps) in
    let steps : Answer = ask_steps A area pos_only [] (read_parameters cells).steps in
    rw (whole, codes)
    (then_by sheet_question (ask 3 (names_inside area (read_parameters cells))) (fourth then steps) (ask_by sheet_question 3 (names_inside area (read_parameters cells)) refl)
    (then_by sheet_question fourth steps (ask_by sheet_question 4 (defaults_right area (read_parameters cells).steps) refl)
    (wider_by 5 7 sheet_question steps_left steps (steps_in A area pos_only [] (read_parameters cells).steps))))

call_only : (B : ℕ) (cells area : List ℕ) → lengths_right B cells ≡ true → kinds_right (read_call cells) ≡ true → refuses_by sheet_question (ask_call B cells area) ≡ true
unfolding ask_call ask_form
call_only B cells area lengths kinds =
    let eleven : Answer = ask 11 (parts_well_formed area (read_call cells)) in
    let twelve : Answer = ask 12 (entries_differ area (read_call cells)) in
    let thirteen : Answer = ask 13 (names_differ area (read_call cells)) in
    rw (lengths, kinds)
    (then_by sheet_question eleven (twelve then thirteen) (ask_by sheet_question 11 (parts_well_formed area (read_call cells)) refl)
    (then_by sheet_question twelve thirteen (ask_by sheet_question 12 (entries_differ area (read_call cells)) refl) (ask_by sheet_question 13 (names_differ area (read_call cells)) refl)))

-- a board of zeros that is long enough passes 14
board_passes : (A B : ℕ) → ask_board A B (replicate (board_least A B) 0) ≡ fine
unfolding ask_board
board_passes A B = rw (length-replicate {A = ℕ} (board_least A B) 0, le-leb (board_least A B) (board_least A B) (omega arith))

-- a right input's call is refused, if at all, by 3 to 7, 11 to 13 or 15 to 24
pub right_sheets_refused : (A B : ℕ) (input : List ℕ) → judge_input A B input ≡ right → (n : ℕ) (d : Detail)
    → sheets_outcome A B (sheets_in input) ≡ refused n d → sheet_question n ≡ true
unfolding collection ask_records
right_sheets_refused A B input told n d e =
    let s : Sheets = sheets_in input in
    let form : RightForm A B s = right_sheets_form A B input told in
    let spec_cells : List ℕ = encode_parameters s.parameters in
    let call_cells : List ℕ = encode_call s.call in
    let board : List ℕ = replicate (board_least A B) 0 in
    let qs : List Parameter = list_of spec_cells s.spec_area in
    let c : Call = call_of call_cells s.call_area in
    let list : Answer = ask_parameters A spec_cells s.spec_area in
    let given : Answer = ask_call B call_cells s.call_area in
    outcome_by sheet_question ((list then given then ask_board A B board) then ask_binding qs c) qs (positionals_of c) (named_of c) board n d
    (then_by sheet_question (list then given then ask_board A B board) (ask_binding qs c)
    (then_by sheet_question list (given then ask_board A B board) (parameters_only A spec_cells s.spec_area form.whole form.codes)
    (then_by sheet_question given (ask_board A B board) (call_only B call_cells s.call_area form.lengths form.kinds) (rw (board_passes A B))))
    (wider_by 15 24 sheet_question binding_left (ask_binding qs c) (binding_in qs c)))
    e
