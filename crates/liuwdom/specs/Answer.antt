-- The answer of each exported function as eight cells: the number of the refusal, 0 where there is none; where the name in its detail stands
-- (area, start, length); and four values, which are counts or what the function is asked for. The layout and the numbers 100 and 101 are the
-- library's own; the numbers below them are 01's and 02's.
use Rattle.std.specs.Prelude.{◌≡◌, cond, List, [], ◌∷◌, ℕ, leb, get_or, length}
use Rattle.rules.specs.Answer.{Answer, fine, refuse, Area, spec_area, call_area, Detail, none, name, count, count_and_name, bounds}
use Rattle.rules.specs.Collection.{Outcome, refused, accepted}
use Rattle.rules.specs.CanFill.{Filling, refused_filling, answered}
use Rattle.rules.specs.Lookup.{Finding, at, unknown, find}
use Rattle.rules.specs.Accessors.{Access, denied, gives}
use Rattle.rules.specs.ParameterQuestions.{ask_parameters, list_of}
use Rattle.rules.specs.Reader.{Read, unread, holds, vacant}
use Rattle.rules.specs.SheetOutput.{Bound, no_room, wrote}
use Rattle.rules.specs.Window.{Window, refused_window, exceeded_at, never_exceeded}
use Rattle.sheets.specs.Read.{Reading, no_room as no_space, bad_line, held}
use Rattle.prepared.specs.Prepared.{prepared_length, prepared_from}
use Rattle.prepared.specs.Bind.{Preparation, laid_out, unlisted, too_few, preparation_of, cells_after}

-- the area of a name: 1 the spec area, 2 the call area
abbrev pub area_number : Area → ℕ
area_number spec_area = 1
area_number call_area = 2

-- nothing is refused, and these are the values
abbrev pub value_answer : ℕ → ℕ → ℕ → ℕ → List ℕ
value_answer a b c d = 0 ∷ 0 ∷ 0 ∷ 0 ∷ a ∷ b ∷ c ∷ d ∷ []

-- a refusal with its detail
abbrev pub refusal_answer : ℕ → Detail → List ℕ
refusal_answer n none = n ∷ 0 ∷ 0 ∷ 0 ∷ 0 ∷ 0 ∷ 0 ∷ 0 ∷ []
refusal_answer n (name p) = n ∷ area_number p.area ∷ p.start ∷ p.size ∷ 0 ∷ 0 ∷ 0 ∷ 0 ∷ []
refusal_answer n (count k) = n ∷ 0 ∷ 0 ∷ 0 ∷ k ∷ 0 ∷ 0 ∷ 0 ∷ []
refusal_answer n (count_and_name k p) = n ∷ area_number p.area ∷ p.start ∷ p.size ∷ k ∷ 0 ∷ 0 ∷ 0 ∷ []
refusal_answer n (bounds least most got) = n ∷ 0 ∷ 0 ∷ 0 ∷ least ∷ most ∷ got ∷ 0 ∷ []

-- collection: the four counts
abbrev pub outcome_answer : Outcome → List ℕ
outcome_answer (refused n d) = refusal_answer n d
outcome_answer (accepted c board) = value_answer c.taken c.defaulted c.star c.named

-- preparing: how many cells were written, or 101 for too few
abbrev pub preparation_answer : Preparation → List ℕ
preparation_answer (laid_out n) = value_answer n 0 0 0
preparation_answer (unlisted n) = refusal_answer n none
preparation_answer too_few = refusal_answer 101 none

-- 1 to 7 of the record, then the room; the lent cells change only where a list is written
unfoldable pub preparing_answer : List ℕ → List ℕ → List ℕ → List ℕ
preparing_answer spec_cells spec out =
    preparation_answer (preparation_of (ask_parameters 64 spec_cells spec) (leb (prepared_length 64) (length out)) (length (list_of spec_cells spec)))

unfoldable pub preparing_left : List ℕ → List ℕ → List ℕ → List ℕ
preparing_left spec_cells spec out =
    cells_after (ask_parameters 64 spec_cells spec) (leb (prepared_length 64) (length out)) (prepared_from spec_cells spec) out

-- can-fill: 1 for yes, 0 for no
abbrev pub filling_answer : Filling → List ℕ
filling_answer (refused_filling n d) = refusal_answer n d
filling_answer (answered b) = value_answer (cond b 1 0) 0 0 0

-- an accessor, and the printed list: the number that it answers
abbrev pub access_answer : Access → List ℕ
access_answer (denied n d) = refusal_answer n d
access_answer (gives k) = value_answer k 0 0 0

-- lookup of a name in the list of a record: 1 to 7, then 1 and the index, or 0
abbrev pub finding_answer : Finding → List ℕ
finding_answer (at i) = value_answer 1 i 0 0
finding_answer unknown = value_answer 0 0 0 0

abbrev pub looked_up : Answer → Finding → List ℕ
looked_up (refuse n d) f = refusal_answer n d
looked_up fine f = finding_answer f

unfoldable pub lookup_answer : List ℕ → List ℕ → List ℕ → List ℕ
lookup_answer spec_cells spec bytes = looked_up (ask_parameters 64 spec_cells spec) (find (list_of spec_cells spec) bytes)

-- a read: the slot's two cells, both 0 where it is empty, and the position after it, which goes with a refusal too
abbrev pub read_answer : Read → ℕ → List ℕ
read_answer (unread n) after = n ∷ 0 ∷ 0 ∷ 0 ∷ 0 ∷ 0 ∷ after ∷ 0 ∷ []
read_answer (holds v) after = value_answer v.kind v.payload after 0
read_answer vacant after = value_answer 0 0 after 0

-- sheets: how many bytes were written, or 101 for too short an output
abbrev pub bound_answer : Bound → List ℕ
bound_answer no_room = refusal_answer 101 none
bound_answer (wrote n) = value_answer n 0 0 0

-- reading sheets: the lengths of the parameter record, of its area, of the call record and of its area; the line of a bad one; or 101
abbrev pub reading_answer : Reading → List ℕ
reading_answer no_space = refusal_answer 101 none
reading_answer (bad_line n k) = refusal_answer n (count k)
reading_answer (held a b c d) = value_answer a b c d

-- water in the last runs: 1 and the position where the limit is exceeded, or 0
abbrev pub window_answer : Window → List ℕ
window_answer (refused_window n d) = refusal_answer n d
window_answer (exceeded_at i) = value_answer 1 i 0 0
window_answer never_exceeded = value_answer 0 0 0 0

-- an exported function answers these cells, and their first as its result
pub record Says (cells after : List ℕ) (r : ℕ) : Type 0 where
  pub answer : after ≡ cells
  pub number : r ≡ get_or cells 0 0
