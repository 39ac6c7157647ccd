-- What writing the record of a sheet asks, and what it leaves (01, sheets).
use Rattle.std.specs.Prelude.{◌≡◌, List, ℕ, ◌≤◌, length, drop}
use Rattle.rules.specs.Cells.{over}
use Rattle.rules.specs.ParameterRecord.{encode_parameters}
use Rattle.rules.specs.CallRecord.{encode_call}
use Rattle.rules.specs.SheetLines.{Columns, Row, lines_in}
use Rattle.rules.specs.SheetRecords.{area_of, step_texts, parameter_record, call_texts, call_record}
use Rattle.sheet_records.specs.Rows.{RowsAhead, all_rows}
use Rattle.sheet_records.specs.Call.{CountsOf}
use Rattle.sheet_records.specs.declared.Written.{Written}
use Rattle.calls.specs.declared.head.Head.{Head}

-- a parameter sheet of `rows` rows, and room for the cells and bytes of the longest
pub record ParametersReady (input : List ℕ) (c : Columns) (from rows : ℕ) (cells area : List ℕ) : Type 0 where
  pub ahead : RowsAhead input c from rows
  pub some_row : 1 ≤ rows
  pub few_rows : rows ≤ 67
  pub cells_room : 265 ≤ length cells
  pub area_room : 16384 ≤ length area

-- a call sheet to the input's end with its counts, and room for the cells and bytes of the longest
pub record CallReady (input : List ℕ) (c : Columns) (from : ℕ) (k : Head) (cells area : List ℕ) : Type 0 where
  pub ahead : RowsAhead input c from (length (lines_in (drop from input)))
  pub counts : CountsOf (all_rows input c from) k
  pub cells_room : 774 ≤ length cells
  pub area_room : 16384 ≤ length area

-- a record's cells and its texts stored from cell 0 and byte 0 on, and how many there are of each, which all found room
pub record RecordWritten (record-cells texts : List ℕ) (cells₀ cells area₀ area : List ℕ) (r : Written) : Type 0 where
  pub cells_held : cells ≡ over record-cells cells₀
  pub area_held : area ≡ over texts area₀
  pub cells_count : r.cells ≡ length record-cells
  pub bytes_count : r.bytes ≡ length texts
  pub cells_within : r.cells ≤ length cells
  pub bytes_within : r.bytes ≤ length area

abbrev pub ParametersWritten : List Row → List ℕ → List ℕ → List ℕ → List ℕ → Written → Type 0
ParametersWritten rows = RecordWritten (encode_parameters (parameter_record rows)) (area_of step_texts rows)

abbrev pub CallWritten : List Row → List ℕ → List ℕ → List ℕ → List ℕ → Written → Type 0
CallWritten rows = RecordWritten (encode_call (call_record rows)) (area_of call_texts rows)
