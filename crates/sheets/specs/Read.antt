-- What reading two sheets into lent outputs promises (01, sheets; 30 and its line): the records that `bind` binds, each from the first cell or byte
-- of its output on. Outputs that are too short for some input are refused first, as `bind` refuses a short one.
use Rattle.std.specs.Prelude.{Result, Ok, Err, ◌≡◌, Bool, cond, ◌&&◌, List, ℕ, ◌≤◌, leb, length}
use Rattle.rules.specs.Cells.{over}
use Rattle.rules.specs.ParameterRecord.{encode_parameters}
use Rattle.rules.specs.CallRecord.{encode_call}
use Rattle.rules.specs.SheetInput.{Verdict, right, bad, judge_input}
use Rattle.rules.specs.SheetRecords.{Sheets, sheets_in}
use Rattle.sheet_records.specs.Written.{RecordWritten}
use Rattle.sheets.specs.declared.records.Records.{Records}
use Rattle.sheets.specs.declared.Unread.{Unread}
use Rattle.sheets.specs.declared.Unread.TheVariants.{Bad, NoRoom}

-- outputs of these lengths have room for any records: 66 steps of four cells behind the function's name, 64 values or pairs of each part behind
-- six cells, and no more bytes of texts than an input has
unfoldable pub room_for : ℕ → ℕ → ℕ → ℕ → Bool
room_for spec_cells spec call_cells call = leb 265 spec_cells && (leb 16384 spec && (leb 774 call_cells && leb 16384 call))

-- what is answered: that there is no room; a bad line's number and the line; or the lengths of both records, each with that of its area
pub data Reading : Type 0 where
  no_room : Reading
  bad_line : ℕ → ℕ → Reading
  held : ℕ → ℕ → ℕ → ℕ → Reading

abbrev pub lengths_of : Sheets → Reading
lengths_of s = held (length (encode_parameters s.parameters)) (length s.spec_area) (length (encode_call s.call)) (length s.call_area)

abbrev pub verdict_reading : List ℕ → Verdict → Reading
verdict_reading input (bad n at) = bad_line n at
verdict_reading input right = lengths_of (sheets_in input)

unfoldable pub reading : List ℕ → List ℕ → List ℕ → List ℕ → List ℕ → Reading
reading input spec_cells spec call_cells call =
    cond (room_for (length spec_cells) (length spec) (length call_cells) (length call)) (verdict_reading input (judge_input 64 64 input)) no_room

-- what an output then holds: the record or the area, and what was behind it; a refusal leaves it as it was
abbrev pub left_by : Reading → List ℕ → List ℕ → List ℕ
left_by no_room xs out = out
left_by (bad_line n at) xs out = out
left_by (held a b c d) xs out = over xs out

-- ---- as the code answers

abbrev pub reading_of : Result Records Unread → Reading
reading_of (Err NoRoom) = no_room
reading_of (Err (Bad line)) = bad_line 30 line.0
reading_of (Ok r) = held r.spec.cells r.spec.bytes r.call.cells r.call.bytes

-- four outputs before, and after
pub record SheetsReading (input spec_cells spec call_cells call spec_cells' spec' call_cells' call' : List ℕ) (r : Result Records Unread) : Type 0 where
  pub answer : reading_of r ≡ reading input spec_cells spec call_cells call
  pub parameters : spec_cells' ≡ left_by (reading_of r) (encode_parameters (sheets_in input).parameters) spec_cells
  pub spec_area : spec' ≡ left_by (reading_of r) (sheets_in input).spec_area spec
  pub arguments : call_cells' ≡ left_by (reading_of r) (encode_call (sheets_in input).call) call_cells
  pub call_area : call' ≡ left_by (reading_of r) (sheets_in input).call_area call

-- room for any records, as the functions below ask for it
pub record Room (spec_cells spec call_cells call : List ℕ) : Type 0 where
  pub parameters : 265 ≤ length spec_cells
  pub spec_area : 16384 ≤ length spec
  pub arguments : 774 ≤ length call_cells
  pub call_area : 16384 ≤ length call

-- both records of an input written
pub record RecordsWritten (input spec_cells spec call_cells call spec_cells' spec' call_cells' call' : List ℕ) (r : Records) : Type 0 where
  pub parameters : RecordWritten (encode_parameters (sheets_in input).parameters) (sheets_in input).spec_area spec_cells spec_cells' spec spec' r.spec
  pub arguments : RecordWritten (encode_call (sheets_in input).call) (sheets_in input).call_area call_cells call_cells' call call' r.call
