-- The verdict over an input and where its sheets stand (01, sheets; 30 and its line), as the code answers.
use Rattle.std.specs.Prelude.{Result, Ok, Err, ◌≡◌, Bool, true, List, map, ℕ, ◌≤◌, length, take, drop}
use Rattle.rules.specs.Listing.{all}
use Rattle.rules.specs.SheetLines as rules
use Rattle.rules.specs.SheetInput.{Verdict, right, bad, rows_of, parameter_lines, call_lines, judge_input}
use Rattle.sheet_lines.specs.Header.{columns_of, Below}
use Rattle.sheet_lines.specs.declared.header.Columns.{Columns}
use Rattle.calls.specs.Head.{head_of, Few}
use Rattle.sheet_judge.specs.Counts.{counts_of}
use Rattle.sheet_judge.specs.declared.parameters.ParameterPlaces.{ParameterPlaces}
use Rattle.sheet_judge.specs.declared.call.CallPlaces.{CallPlaces}
use Rattle.sheet_judge.specs.declared.Places.{Places}
use Rattle.sheet_judge.specs.declared.BadLine.{BadLine}

abbrev pub verdict_of : Result Places BadLine → Verdict
verdict_of (Ok p) = right
verdict_of (Err line) = bad 30 line.0

-- the places of both sheets
abbrev pub places_of : ParameterPlaces → CallPlaces → Places
places_of p c =
    record {
      parameters = p.columns;
      parameter_rows = p.from;
      rows = p.rows;
      call = c.columns;
      call_rows = c.from;
      counts = c.counts;
    }

-- a line of three cells, none of them too long
abbrev pub three_in : List ℕ → Bool
three_in line = rules.three_cells (rules.cells_in line)

-- the lines of the parameter sheet's rows, and those of the call sheet's
abbrev pub parameter_rows : List ℕ → Places → List (List ℕ)
parameter_rows input p = take p.rows (rules.lines_in (drop p.parameter_rows input))

abbrev pub call_rows : List ℕ → Places → List (List ℕ)
call_rows input p = rules.lines_in (drop p.call_rows input)

-- the line that named the columns of a sheet
pub record HeaderOf (c : Columns) : Type 0 where
  pub line : List ℕ
  pub told : rules.header_right line ≡ true
  pub columns : columns_of c ≡ rules.columns_in line

-- the two sheets of an input that is well formed
pub record PlacesAre (input : List ℕ) (p : Places) : Type 0 where
  pub short : length input ≤ 16384
  pub parameters_header : HeaderOf p.parameters
  pub parameters_below : Below p.parameters
  pub parameters_within : p.parameter_rows ≤ length input
  pub parameters_enough : p.rows ≤ length (rules.lines_in (drop p.parameter_rows input))
  pub parameters_some : 1 ≤ p.rows
  pub parameters_most : p.rows ≤ 67
  pub parameters_three : all three_in (parameter_rows input p) ≡ true
  pub parameters_are : rows_of (parameter_lines input) ≡ map (rules.row_in (columns_of p.parameters)) (parameter_rows input p)
  pub call_header : HeaderOf p.call
  pub call_below : Below p.call
  pub call_within : p.call_rows ≤ length input
  pub call_three : all three_in (call_rows input p) ≡ true
  pub call_are : rows_of (call_lines input) ≡ map (rules.row_in (columns_of p.call)) (call_rows input p)
  pub counts_are : p.counts ≡ counts_of (rows_of (call_lines input))
  pub counts_few : Few 64 (head_of p.counts)

-- the verdict over an input, and where its sheets stand if it is well formed
pub record Judging (input : List ℕ) (r : Result Places BadLine) : Type 0 where
  pub verdict : verdict_of r ≡ judge_input 64 64 input
  pub places : (p : Places) → r ≡ Ok p → PlacesAre input p
