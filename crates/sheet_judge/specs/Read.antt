-- What reading a sheet answers (01, sheets; 30 and its line): the line that breaks a rule, or where the sheet's rows stand.
use Rattle.std.specs.Prelude.{Option, Some, None, Result, Ok, Err, ◌≡◌, Bool, true, cond, ◌&&◌, List, [], ◌∷◌, ◌++◌, map, ℕ, ◌+◌, ◌≤◌, length, drop}
use Rattle.rules.specs.SheetLines as rules
use Rattle.rules.specs.SheetRows.{is_empty, parameter_row_right, call_row_right}
use Rattle.rules.specs.SheetInput.{right, bad, judge_rows}
use Rattle.calls.specs.declared.head.Head.{Head}
use Rattle.sheet_lines.specs.Header.{columns_of, Below}
use Rattle.sheet_judge.specs.Counts.{parameter_fits, counts_of, fits, more}
use Rattle.sheet_judge.specs.Sheets.{judge_parameters, judge_steps, judge_call, judge_values}
use Rattle.sheet_judge.specs.declared.parameters.ParameterPlaces.{ParameterPlaces}
use Rattle.sheet_judge.specs.declared.parameters.Steps.{Steps}
use Rattle.sheet_judge.specs.declared.BadLine.{BadLine}
use Rattle.sheet_judge.specs.declared.call.CallPlaces.{CallPlaces}

-- ---- the parameter sheet

-- a line with so many rows before it
abbrev pub line_fits : rules.Columns → ℕ → List ℕ → Bool
line_fits c rows line = rules.three_cells (rules.cells_in line) && parameter_fits 64 rows (rules.row_in c line)

-- so many right rows from `from` on, a blank line, and then the line at `next`
pub record StepsAre (c : rules.Columns) (input : List ℕ) (from rows next : ℕ) : Type 0 where
  pub lines : List (List ℕ)
  pub parted : rules.lines_in (drop from input) ≡ lines ++ [] ∷ rules.lines_in (drop next input)
  pub rest : rules.unended (drop from input) ≡ rules.unended (drop next input)
  pub judged : judge_rows (parameter_row_right 64) c 2 [] lines ≡ right
  pub many : length lines ≡ rows
  pub some : 1 ≤ rows
  pub most : rows ≤ 67
  pub within : next ≤ length input

abbrev pub StepsRead : rules.Columns → List ℕ → ℕ → Result Steps BadLine → Type 0
StepsRead c input from (Ok s) = StepsAre c input from s.rows s.next
StepsRead c input from (Err line) = judge_steps 64 c (rules.lines_in (drop from input)) ≡ bad 30 line.0

-- a right header on the first line, and the rows behind it
pub record ParametersAre (input : List ℕ) (p : ParameterPlaces) : Type 0 where
  pub header : List ℕ
  pub parted : rules.lines_in input ≡ header ∷ rules.lines_in (drop p.from input)
  pub rest : rules.unended input ≡ rules.unended (drop p.from input)
  pub header_right : rules.header_right header ≡ true
  pub columns : columns_of p.columns ≡ rules.columns_in header
  pub below : Below p.columns
  pub within : p.from ≤ length input
  pub steps : StepsAre (columns_of p.columns) input p.from p.rows p.next

abbrev pub ParametersRead : List ℕ → Result ParameterPlaces BadLine → Type 0
ParametersRead input (Ok p) = ParametersAre input p
ParametersRead input (Err line) = judge_parameters 64 (rules.lines_in input) ≡ bad 30 line.0

-- ---- the call sheet

-- a line behind rows of these counts, and the counts with it
abbrev pub line_counts : rules.Columns → Head → List ℕ → Bool
line_counts c k line = rules.three_cells (rules.cells_in line) && fits 64 k (rules.row_in c line)

unfoldable pub counted_in : rules.Columns → Head → List ℕ → Option Head
counted_in c k line = cond (line_counts c k line) (Some (more k (rules.row_in c line))) None

-- right rows from `from` on, the first of them line `first`, with these counts, and nothing behind them
pub record ValuesAre (c : rules.Columns) (input : List ℕ) (from first : ℕ) (k : Head) : Type 0 where
  pub judged : judge_rows (call_row_right 64) c first [] (rules.lines_in (drop from input)) ≡ right
  pub ended : is_empty (rules.unended (drop from input)) ≡ true
  pub counts : k ≡ counts_of (map (rules.row_in c) (rules.lines_in (drop from input)))

abbrev pub ValuesRead : rules.Columns → List ℕ → ℕ → ℕ → Result Head BadLine → Type 0
ValuesRead c input from first (Ok k) = ValuesAre c input from first k
ValuesRead c input from first (Err line) =
    judge_values 64 c first (rules.lines_in (drop from input)) (rules.unended (drop from input)) ≡ bad 30 line.0

-- a right header at `at`, line `line` of the input, and the rows behind it
pub record CallIs (input : List ℕ) (at line : ℕ) (p : CallPlaces) : Type 0 where
  pub header : List ℕ
  pub parted : rules.lines_in (drop at input) ≡ header ∷ rules.lines_in (drop p.from input)
  pub rest : rules.unended (drop at input) ≡ rules.unended (drop p.from input)
  pub header_right : rules.header_right header ≡ true
  pub columns : columns_of p.columns ≡ rules.columns_in header
  pub below : Below p.columns
  pub within : p.from ≤ length input
  pub values : ValuesAre (columns_of p.columns) input p.from (line + 1) p.counts

abbrev pub CallRead : List ℕ → ℕ → ℕ → Result CallPlaces BadLine → Type 0
CallRead input at line (Ok p) = CallIs input at line p
CallRead input at line (Err wrong) = judge_call 64 line (rules.lines_in (drop at input)) (rules.unended (drop at input)) ≡ bad 30 wrong.0
