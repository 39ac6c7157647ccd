-- What a right input leaves to be asked (01, sheets; the questions): its records have the form that 1, 2, 9 and 10 ask for, so a refusal of
-- its call is one of the other questions. That this holds of every right input is `right_sheets_form` and `right_sheets_refused` of proofs/.
use Rattle.std.specs.Prelude.{◌≡◌, Bool, true, ◌&&◌, ◌||◌, ℕ, leb}
use Rattle.rules.specs.ParameterRecord.{read_parameters, encode_parameters}
use Rattle.rules.specs.CallRecord.{read_call, encode_call}
use Rattle.rules.specs.ParameterQuestions.{whole_steps, codes_known}
use Rattle.rules.specs.CallQuestions.{lengths_right, kinds_right}
use Rattle.rules.specs.SheetRecords.{Sheets}

-- 1, 2, 9 and 10 of the records, as they are put to their cells
pub record RightForm (A B : ℕ) (s : Sheets) : Type 0 where
  pub whole : whole_steps A (encode_parameters s.parameters) ≡ true
  pub codes : codes_known (read_parameters (encode_parameters s.parameters)).steps ≡ true
  pub lengths : lengths_right B (encode_call s.call) ≡ true
  pub kinds : kinds_right (read_call (encode_call s.call)) ≡ true

-- the questions that can refuse a right input: 3 to 7, 11 to 13 and 15 to 24
abbrev pub sheet_question : ℕ → Bool
sheet_question n = leb 3 n && leb n 7 || leb 11 n && leb n 13 || leb 15 n && leb n 24
