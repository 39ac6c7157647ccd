-- The verdict over an input in two halves (01, sheets): over its lines up to the first blank one, and over what stands behind that one.
-- A is the number of parameters that a list may have, B the number of values that each part of a call may have.
use Rattle.std.specs.Prelude.{◌&&◌, List, [], ℕ, ◌+◌, leb, ltb, length}
use Rattle.rules.specs.SheetLines.{Columns}
use Rattle.rules.specs.SheetRows.{is_empty, parameter_row_right, call_row_right}
use Rattle.rules.specs.SheetInput.{Verdict, ◌else◌, unless, judge_rows, judge_sheet, before_blank}

-- the parameter sheet, the first half; and what is left of it behind its header
unfoldable pub judge_parameters : ℕ → List (List ℕ) → Verdict
judge_parameters A lines =
    judge_sheet (parameter_row_right A) 1 (before_blank lines)
    else unless (leb 2 (length (before_blank lines)) && ltb (length (before_blank lines)) (length lines)) (length (before_blank lines) + 1)

unfoldable pub judge_steps : ℕ → Columns → List (List ℕ) → Verdict
judge_steps A c lines =
    judge_rows (parameter_row_right A) c 2 [] (before_blank lines)
    else unless (leb 1 (length (before_blank lines)) && ltb (length (before_blank lines)) (length lines)) (length (before_blank lines) + 2)

-- the call sheet, the second half, its header line `at`, with what stands behind the last byte 10; and what is left of it behind its header
unfoldable pub judge_call : ℕ → ℕ → List (List ℕ) → List ℕ → Verdict
judge_call B at lines rest = judge_sheet (call_row_right B) at lines else unless (leb 1 (length lines) && is_empty rest) (at + length lines)

unfoldable pub judge_values : ℕ → Columns → ℕ → List (List ℕ) → List ℕ → Verdict
judge_values B c at lines rest = judge_rows (call_row_right B) c at [] lines else unless (is_empty rest) (at + length lines)
