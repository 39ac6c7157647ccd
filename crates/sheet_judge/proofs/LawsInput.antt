-- Headers, sheets and the whole input (01, sheets; 30 and its line): what each answer to reading a sheet says of the verdict, from the sheet's
-- header on; then the verdict and the places of an input of which both sheets were read.
-- Assumes nothing.
use mathlib.Core.Path.{◌≡◌, refl, sym, ap, ◌∙◌, subst}
use mathlib.Core.Bool.{false}
use mathlib.Core.List.{List, [], ◌∷◌, ◌++◌, map}
use Prim.Native.Nat.{ℕ, ◌+◌, ◌≤◌, ◌<◌}
use native.Mathlib.Omega.{arith}
use lib.ListN.{length, take, drop, length-append}
use lib.Seq.{take_at}
use Rattle.std.specs.Prelude.{Option, Some, None, Ok, Err}
use Rattle.std.specs.Option.{ok_or}
use Rattle.rules.specs.SheetLines as rules
use Rattle.rules.specs.SheetRows.{parameter_row_right, call_row_right}
use Rattle.rules.specs.SheetInput.{right, bad, judge_rows, rows_of, call_lines, input_most, judge_input}
use Rattle.sheet_lines.specs.Lines.{LineAt, NoLine}
use Rattle.sheet_lines.specs.Header.{columns_of, ColumnsRead}
use Rattle.sheet_lines.specs.declared.header.Columns.{Columns}
use Rattle.sheet_judge.specs.Sheets.{judge_parameters, judge_call}
use Rattle.sheet_judge.specs.Read.{StepsAre, StepsRead, ParametersAre, ParametersRead, ValuesAre, ValuesRead, CallIs, CallRead}
use Rattle.sheet_judge.specs.Judged.{places_of, PlacesAre, Judging}
use Rattle.calls.specs.declared.head.Head.{Head}
use Rattle.sheet_judge.specs.declared.parameters.ParameterPlaces.{ParameterPlaces}
use Rattle.sheet_judge.specs.declared.parameters.Steps.{Steps}
use Rattle.sheet_judge.specs.declared.call.CallPlaces.{CallPlaces}
use Rattle.sheet_judge.specs.declared.BadLine.{BadLine}
use Rattle.sheet_judge.proofs.LawsValues.{judged_few}
use Rattle.sheet_judge.proofs.LawsRows.{rows_three}
use Rattle.sheet_judge.proofs.LawsSheets.{parameters_none, parameters_header, parameters_steps, call_none, call_header, call_values, values_right, input_long, input_parameters, lines_parameters, lines_call, input_call}

-- what was missing is refused by its line
pub refused : {T : Type 0} (found : Option T) (line : BadLine) {wrong : BadLine} → Err wrong ≡ ok_or found line → (found ≡ None) × (wrong ≡ line)
refused None line e = (refl, cc)
refused (Some x) line e = cc

-- ---- the parameter sheet

module _ {input : List ℕ} where
  pub parameters_missing : NoLine input 0 → judge_parameters 64 (rules.lines_in input) ≡ bad 30 1
  parameters_missing none = ap (judge_parameters 64) none.lines ∙ parameters_none 64

  module _ {line : List ℕ} {behind : ℕ} (r : LineAt input 0 line behind) where
    pub parameters_wrong : rules.header_right line ≡ false → judge_parameters 64 (rules.lines_in input) ≡ bad 30 1
    parameters_wrong e = ap (judge_parameters 64) r.lines ∙ parameters_header 64 line (rules.lines_in (drop behind input)) e

    module _ {columns : Columns} (read : ColumnsRead line columns) where
      pub parameters_bad : (wrong : BadLine) → StepsRead (columns_of columns) input behind (Err wrong)
          → judge_parameters 64 (rules.lines_in input) ≡ bad 30 wrong.0
      parameters_bad wrong rows =
          ap (judge_parameters 64) r.lines
          ∙ parameters_steps 64 line (rules.lines_in (drop behind input)) read.told
          ∙ rw (← read.columns) rows

      pub parameters_right : (steps : Steps) → StepsAre (columns_of columns) input behind steps.rows steps.next
          → ParametersAre input (record { columns = columns; from = behind; rows = steps.rows; next = steps.next })
      parameters_right steps rows =
          record {
            header = line;
            parted = r.lines;
            rest = r.rest;
            header_right = read.told;
            columns = read.columns;
            below = read.below;
            within = r.within;
            steps = rows;
          }

-- ---- the call sheet

module _ {input : List ℕ} {at : ℕ} (first : ℕ) where
  pub call_missing : NoLine input at → judge_call 64 first (rules.lines_in (drop at input)) (rules.unended (drop at input)) ≡ bad 30 first
  call_missing none = rw none.lines (call_none 64 first (rules.unended (drop at input)))

  module _ {line : List ℕ} {behind : ℕ} (r : LineAt input at line behind) where
    pub call_wrong : rules.header_right line ≡ false → judge_call 64 first (rules.lines_in (drop at input)) (rules.unended (drop at input)) ≡ bad 30 first
    call_wrong e =
        rw r.lines
        (call_header 64 first line (rules.lines_in (drop behind input)) (rules.unended (drop at input)) e)

    module _ {columns : Columns} (read : ColumnsRead line columns) where
      pub call_bad : (wrong : BadLine) → ValuesRead (columns_of columns) input behind (first + 1) (Err wrong)
          → judge_call 64 first (rules.lines_in (drop at input)) (rules.unended (drop at input)) ≡ bad 30 wrong.0
      call_bad wrong rows =
          rw (r.lines, r.rest)
          (call_values 64 first line (rules.lines_in (drop behind input)) (rules.unended (drop behind input)) read.told
          ∙ rw (← read.columns) rows)

      pub call_right : (k : Head) → ValuesAre (columns_of columns) input behind (first + 1) k
          → CallIs input at first (record { columns = columns; from = behind; counts = k })
      call_right k rows =
          record {
            header = line;
            parted = r.lines;
            rest = r.rest;
            header_right = read.told;
            columns = read.columns;
            below = read.below;
            within = r.within;
            values = rows;
          }

-- ---- the input

judging_bad : (input : List ℕ) (line : BadLine) → judge_input 64 64 input ≡ bad 30 line.0 → Judging input (Err line)
judging_bad input line e = record { verdict = sym e; places = λ p q. cc }

pub judging_long : (input : List ℕ) → 16384 < length input → Judging input (Err (record { 0 = 0 }))
unfolding input_most
judging_long input h = judging_bad input (record { 0 = 0 }) (input_long 64 64 input h)

pub judging_parameters : {input : List ℕ} → length input ≤ input_most → (line : BadLine) → ParametersRead input (Err line) → Judging input (Err line)
judging_parameters {input} short line first = judging_bad input line (input_parameters 64 64 input short 30 line.0 first)

module _ {input : List ℕ} (short : length input ≤ input_most) {p : ParameterPlaces} (a : ParametersAre input p) where
  parted : rules.lines_in input ≡ a.header ∷ (a.steps.lines ++ [] ∷ rules.lines_in (drop p.next input))
  parted = a.parted ∙ ap {B = List (List ℕ)} (λ l. a.header ∷ l) a.steps.parted

  judged : judge_rows (parameter_row_right 64) (rules.columns_in a.header) 2 [] a.steps.lines ≡ right
  judged = rw (← a.columns) a.steps.judged

  second : judge_input 64 64 input ≡ judge_call 64 (p.rows + 3) (rules.lines_in (drop p.next input)) (rules.unended (drop p.next input))
  second =
      input_call 64 64 input a.header a.steps.lines (rules.lines_in (drop p.next input)) parted a.header_right judged short
      (rw a.steps.many a.steps.some)
      ∙ rw (a.steps.many, a.rest, a.steps.rest)

  pub judging_call : (line : BadLine) → CallRead input p.next (p.rows + 3) (Err line) → Judging input (Err line)
  judging_call line behind = judging_bad input line (second ∙ behind)

  module _ {k : CallPlaces} (b : CallIs input p.next (p.rows + 3) k) where
    all_right : judge_input 64 64 input ≡ right
    all_right =
        second
        ∙ rw (b.parted, b.rest)
        (call_values 64 (p.rows + 3) b.header (rules.lines_in (drop k.from input)) (rules.unended (drop k.from input)) b.header_right
        ∙ rw (← b.columns)
        (values_right 64 (columns_of k.columns) (p.rows + 3 + 1) (rules.lines_in (drop k.from input)) b.values.judged
        (rules.unended (drop k.from input)) b.values.ended))

    -- the rows of the parameter sheet, and those of the call sheet
    first_rows : take p.rows (rules.lines_in (drop p.from input)) ≡ a.steps.lines
    first_rows = rw a.steps.parted (take_at a.steps.lines ([] ∷ rules.lines_in (drop p.next input)) p.rows a.steps.many)

    second_rows : rows_of (call_lines input) ≡ map (rules.row_in (columns_of k.columns)) (rules.lines_in (drop k.from input))
    second_rows =
        ap rows_of (lines_call 64 64 input a.header a.steps.lines (rules.lines_in (drop p.next input)) parted a.header_right judged ∙ b.parted)
        ∙ rw b.columns

    places : PlacesAre input (places_of p k)
    unfolding input_most
    places =
        record {
          short = short;
          parameters_header = record { line = a.header; told = a.header_right; columns = a.columns };
          parameters_below = a.below;
          parameters_within = a.within;
          parameters_enough =
              rw (a.steps.parted, length-append a.steps.lines ([] ∷ rules.lines_in (drop p.next input)), a.steps.many) (omega arith);
          parameters_some = a.steps.some;
          parameters_most = a.steps.most;
          parameters_three = rw first_rows (rows_three (parameter_row_right 64) (columns_of p.columns) 2 [] a.steps.lines a.steps.judged);
          parameters_are =
              ap rows_of (lines_parameters 64 64 input a.header a.steps.lines (rules.lines_in (drop p.next input)) parted a.header_right judged)
              ∙ rw (a.columns, first_rows);
          call_header = record { line = b.header; told = b.header_right; columns = b.columns };
          call_below = b.below;
          call_within = b.within;
          call_three =
              rows_three (call_row_right 64) (columns_of k.columns) (p.rows + 3 + 1) [] (rules.lines_in (drop k.from input)) b.values.judged;
          call_are = second_rows;
          counts_are = b.values.counts ∙ rw second_rows;
          counts_few =
              judged_few (columns_of k.columns) (p.rows + 3 + 1) (rules.lines_in (drop k.from input)) b.values.judged b.values.counts;
        }

    pub judging_right : Judging input (Ok (places_of p k))
    judging_right =
        record {
          verdict = sym all_right;
          places = λ q h. let same : places_of p k ≡ q = cc in subst (PlacesAre input) same places;
        }
