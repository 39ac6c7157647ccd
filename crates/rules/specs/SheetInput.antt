-- Reading an input (01, sheets): the parameter sheet, a blank line, the call sheet; or the first line that breaks a rule. A bad line is a number
-- and a line. Lines count from 1 over the whole input; one past the last is named when the input ends early, 0 when it is too long.
use Rattle.std.specs.Prelude.{Bool, true, false, cond, ◌&&◌, List, [], ◌∷◌, ◌++◌, map, ℕ, suc, ◌+◌, leb, ltb, length}
use Rattle.rules.specs.SheetLines.{lines_in, unended, cells_in, three_cells, header_right, Columns, columns_in, Row, row_in}
use Rattle.rules.specs.SheetRows.{is_empty, parameter_row_right, call_row_right}

-- all lines of a sheet are right, or one is bad: a refusal's number and the line's
pub data Verdict : Type 0 where
  right : Verdict
  bad : ℕ → ℕ → Verdict

infixr 20 ◌else◌
-- one verdict after another: the first bad line is the verdict
abbrev pub ◌else◌ : Verdict → Verdict → Verdict
◌else◌ right w = w
◌else◌ (bad n line) w = bad n line

-- line `at` breaks no rule
abbrev pub unless : Bool → ℕ → Verdict
unless true at = right
unless false at = bad 30 at

-- the lines behind a header, the first of them line `at`, each judged after the rows before it
abbrev pub judge_rows : (List Row → Row → Bool) → Columns → ℕ → List Row → List (List ℕ) → Verdict
judge_rows row_right c at before [] = right
judge_rows row_right c at before (line ∷ lines) =
    unless (three_cells (cells_in line) && row_right before (row_in c line)) at
    else judge_rows row_right c (suc at) (before ++ (row_in c line ∷ [])) lines

-- the lines of a sheet, the first of them line `at`: its header, and its rows
abbrev pub judge_sheet : (List Row → Row → Bool) → ℕ → List (List ℕ) → Verdict
judge_sheet row_right at [] = right
judge_sheet row_right at (header ∷ lines) = unless (header_right header) at else judge_rows row_right (columns_in header) (suc at) [] lines

-- the rows of a sheet
abbrev pub rows_of : List (List ℕ) → List Row
rows_of [] = []
rows_of (header ∷ lines) = map (row_in (columns_in header)) lines

-- the lines before the first blank one, and those behind it
abbrev pub before_blank : List (List ℕ) → List (List ℕ)
before_blank [] = []
before_blank (line ∷ lines) = cond (is_empty line) [] (line ∷ before_blank lines)

abbrev pub behind_blank : List (List ℕ) → List (List ℕ)
behind_blank [] = []
behind_blank (line ∷ lines) = cond (is_empty line) lines (behind_blank lines)

-- how many bytes an input may have
unfoldable pub input_most : ℕ
input_most = 16384

-- the two sheets of an input
unfoldable pub parameter_lines : List ℕ → List (List ℕ)
parameter_lines input = before_blank (lines_in input)

unfoldable pub call_lines : List ℕ → List (List ℕ)
call_lines input = behind_blank (lines_in input)

-- The verdict over a whole input: it is not too long; each line of the parameter sheet is right; that sheet has its header and `def`, and a
-- blank line behind it; each line of the call sheet is right; that sheet has its header, and the last line is ended
unfoldable pub judge_input : ℕ → ℕ → List ℕ → Verdict
judge_input A B input =
    unless (leb (length input) input_most) 0
    else judge_sheet (parameter_row_right A) 1 (parameter_lines input)
    else unless (leb 2 (length (parameter_lines input)) && ltb (length (parameter_lines input)) (length (lines_in input))) (length (parameter_lines input) + 1)
    else judge_sheet (call_row_right B) (length (parameter_lines input) + 2) (call_lines input)
    else unless (leb 1 (length (call_lines input)) && is_empty (unended input)) (length (lines_in input) + 1)
