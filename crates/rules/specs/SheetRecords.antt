-- The records that two sheets describe (01, sheets; cells, texts and records). The texts of a sheet make its area: they lie there one behind the
-- other, row by row, a row's name before the text of its value.
use Rattle.std.specs.Prelude.{Bool, cond, List, [], ◌∷◌, ◌++◌, map, ℕ, ◌+◌, ltb, length}
use Rattle.std.proofs.Math.Option.{Option, none, some}
use Rattle.rules.specs.Listing.{keep}
use Rattle.rules.specs.Text.{payload_of}
use Rattle.rules.specs.Value.{Value, no_value, spec_text, call_text}
use Rattle.rules.specs.ParameterRecord.{Step, ParameterRecord}
use Rattle.rules.specs.CallRecord.{Pair, CallRecord}
use Rattle.rules.specs.SheetValue.{CellValue, written, quoted, read_cell}
use Rattle.rules.specs.SheetLines.{Row}
use Rattle.rules.specs.SheetRows.{code_of, CallPart, positional, named, star, item, double, entry, is_part, is_list, is_dict}
use Rattle.rules.specs.SheetInput.{rows_of, parameter_lines, call_lines}

-- the bytes that a value brings into its area: a text's
abbrev pub text_of : Option CellValue → List ℕ
text_of none = []
text_of (some (written v)) = []
text_of (some (quoted bytes)) = bytes

-- a value whose text, if it is one, lies at `at` and is of the kind that the sheet's texts are; no value is 0, 0
abbrev pub value_at : ℕ → ℕ → Option CellValue → Value
value_at kind at none = no_value
value_at kind at (some (written v)) = v
value_at kind at (some (quoted bytes)) = record { kind = kind; payload = payload_of at (length bytes) }

-- the texts of some rows, one behind the other
abbrev pub area_of : (Row → List ℕ) → List Row → List ℕ
area_of texts [] = []
area_of texts (r ∷ rs) = texts r ++ area_of texts rs

-- ---- the parameter sheet

unfoldable pub step_texts : Row → List ℕ
step_texts r = r.name ++ text_of (read_cell r.value)

-- the step of a row whose texts lie at `at`; only codes 1 to 3 have a name
unfoldable pub step_at : ℕ → Row → Step
step_at at r =
    record {
      code = code_of r.part;
      name = cond (ltb (code_of r.part) 4) (payload_of at (length r.name)) 0;
      default = value_at spec_text (at + length r.name) (read_cell r.value);
    }

abbrev pub steps_from : ℕ → List Row → List Step
steps_from at [] = []
steps_from at (r ∷ rs) = step_at at r ∷ steps_from (at + length (step_texts r)) rs

-- the record of a parameter sheet's rows: `def` gives the function's name
abbrev pub parameter_record : List Row → ParameterRecord
parameter_record [] = record { function = 0; steps = [] }
parameter_record (def ∷ rs) = record { function = payload_of 0 (length def.name); steps = steps_from (length (step_texts def)) rs }

-- ---- the call sheet

-- a name is the text that stands in its cell; a key is written like a value
unfoldable pub key_text : Row → List ℕ
key_text r = cond (is_part entry r) (text_of (read_cell r.name)) r.name

unfoldable pub call_texts : Row → List ℕ
call_texts r = key_text r ++ text_of (read_cell r.value)

-- a row, and where its texts lie
pub record Placed : Type 0 where
  pub row : Row
  pub at : ℕ

abbrev pub placed_from : ℕ → List Row → List Placed
placed_from at [] = []
placed_from at (r ∷ rs) = record { row = r; at = at } ∷ placed_from (at + length (call_texts r)) rs

-- a row's value, its text behind the row's name or key
unfoldable pub row_value : Placed → Value
row_value p = value_at call_text (p.at + length (key_text p.row)) (read_cell p.row.value)

unfoldable pub named_pair : Placed → Pair
named_pair p = record { key = record { kind = call_text; payload = payload_of p.at (length p.row.name) }; value = row_value p }

unfoldable pub entry_pair : Placed → Pair
entry_pair p = record { key = value_at call_text p.at (read_cell p.row.name); value = row_value p }

-- the rows of a part, in their order
unfoldable pub of_part : CallPart → List Placed → List Placed
of_part part ps = keep (λ p. is_part part p.row) ps

-- the kind of a star: 0 without a row for it, 1 for a list or a dictionary, 2 for anything else
abbrev pub kind_by : CallPart → (List ℕ → Bool) → List Row → ℕ
kind_by part is_one [] = 0
kind_by part is_one (r ∷ rs) = cond (is_part part r) (cond (is_one r.value) 1 2) (kind_by part is_one rs)

unfoldable pub call_record : List Row → CallRecord
call_record rows =
    let ps : List Placed = placed_from 0 rows in
    record {
      positionals = map row_value (of_part positional ps);
      named = map named_pair (of_part named ps);
      star_kind = kind_by star is_list rows;
      items = map row_value (of_part item ps);
      double_kind = kind_by double is_dict rows;
      entries = map entry_pair (of_part entry ps);
    }

-- ---- an input

-- two records over their areas
pub record Sheets : Type 0 where
  pub parameters : ParameterRecord
  pub spec_area : List ℕ
  pub call : CallRecord
  pub call_area : List ℕ

unfoldable pub sheets_in : List ℕ → Sheets
sheets_in input =
    record {
      parameters = parameter_record (rows_of (parameter_lines input));
      spec_area = area_of step_texts (rows_of (parameter_lines input));
      call = call_record (rows_of (call_lines input));
      call_area = area_of call_texts (rows_of (call_lines input));
    }
