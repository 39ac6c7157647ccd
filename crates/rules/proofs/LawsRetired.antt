-- Number 8 is retired (02, §8; specs/Retired): asked after 1 to 7 it refuses nothing, since no step list has more positional-only parameters than
-- positional ones; and no chain of questions, no outcome and no verdict over a sheet has it.
-- Assumes nothing.
use mathlib.Core.Path.{◌≡◌, refl, ap, ◌∙◌}
use mathlib.Core.Bool.{Bool, true, false, cond, not, ◌&&◌, false≢true}
use mathlib.Core.List.{List, [], ◌∷◌, ◌++◌}
use Prim.Native.Nat.{ℕ, suc, ◌+◌, ◌≤◌}
use native.Mathlib.Omega.{arith}
use borrow.Author.Tests.{le-leb, ne_eqb}
use lib.Dec.{leb, ltb, eqb}
use lib.ListN.{length}
use Rattle.rules.specs.Listing.{all}
use Rattle.rules.specs.Answer.{Answer, fine, refuse, ◌then◌, ask, Detail, bounds}
use Rattle.rules.specs.ParameterRecord.{read_parameters}
use Rattle.rules.specs.CallRecord.{Call, entries_of, positionals_of, named_of}
use Rattle.rules.specs.Parameters.{Parameter, parameters_of, positional_only_count, positional_count}
use Rattle.rules.specs.ParameterQuestions.{list_of, ask_parameters}
use Rattle.rules.specs.CallQuestions.{ask_form, ask_call, ask_board}
use Rattle.rules.specs.Binding.{star_passes, double_passes, ask_entries, ask_named_remainder, ask_binding}
use Rattle.rules.specs.Collection.{refused, call_of, ask_records, collection}
use Rattle.rules.specs.CanFill.{refused_filling, filling_of, fillable}
use Rattle.rules.specs.Accessors.{denied, access_of, ask_writing, names_map, positions, len, is_word, no_named_args, ask_number, optional}
use Rattle.rules.specs.Printed.{printed_least, parameters_str}
use Rattle.rules.specs.SheetLines.{lines_in, unended, cells_in, three_cells, header_right, Columns, columns_in, Row, row_in}
use Rattle.rules.specs.SheetRows.{is_empty, parameter_row_right, call_row_right}
use Rattle.rules.specs.SheetInput.{Verdict, right, bad, ◌else◌, unless, judge_rows, judge_sheet, input_most, parameter_lines, call_lines, judge_input}
use Rattle.rules.proofs.LawsCounts.{step_counts}
use Rattle.rules.proofs.LawsNumbers.{refuses_by, refuses_in, then_by, ask_by, wider_by, outcome_by, parameters_in_lem, form_in, call_in_lem, board_in, entries_in, named_in, binding_in}

-- ---- asked, it would refuse nothing

then_passed : (a : Answer) (n : ℕ) → (a then ask n true) ≡ a
then_passed fine n = refl
then_passed (refuse m d) n = refl

pub needless : (A : ℕ) (cells area : List ℕ)
    → (ask_parameters A cells area then ask 8 (leb (positional_only_count (list_of cells area)) (positional_count (list_of cells area)))) ≡ ask_parameters A cells area
unfolding list_of parameters_of
needless A cells area =
    ap (λ b. ask_parameters A cells area then ask 8 b)
    (le-leb (positional_only_count (list_of cells area)) (positional_count (list_of cells area)) ((step_counts area).only_within (read_parameters cells).steps))
    ∙ then_passed (ask_parameters A cells area) 8

-- ---- chains of questions

-- another number than 8
abbrev pub other : ℕ → Bool
other n = not (eqb n 8)

not_8 : (n : ℕ) → (n ≡ 8 → ⊥) → other n ≡ true
not_8 n h = ap not (ne_eqb n 8 h)

pub list_other : (A : ℕ) (cells area : List ℕ) → refuses_by other (ask_parameters A cells area) ≡ true
list_other A cells area = wider_by 1 7 other (λ n l m. not_8 n (λ e. omega arith)) (ask_parameters A cells area) (parameters_in_lem A cells area)

-- a chain of questions from 9 on
later_other : (least most : ℕ) → 9 ≤ least → (a : Answer) → refuses_in least most a ≡ true → refuses_by other a ≡ true
later_other least most h a e = wider_by least most other (λ n l m. not_8 n (λ f. omega arith)) a e

call_other : (B : ℕ) (cells area : List ℕ) → refuses_by other (ask_call B cells area) ≡ true
call_other B cells area = later_other 9 13 (omega arith) (ask_call B cells area) (call_in_lem B cells area)

board_other : (A B : ℕ) (board : List ℕ) → refuses_by other (ask_board A B board) ≡ true
board_other A B board = later_other 14 14 (omega arith) (ask_board A B board) (board_in A B board)

-- ---- records

pub collected : (A B : ℕ) (spec_cells spec call_cells call board : List ℕ) (d : Detail) → collection A B spec_cells spec call_cells call board ≡ refused 8 d → ⊥
unfolding collection ask_records
collected A B spec_cells spec call_cells call board d e =
    let qs : List Parameter = list_of spec_cells spec in
    let c : Call = call_of call_cells call in
    let list : Answer = ask_parameters A spec_cells spec in
    let given : Answer = ask_call B call_cells call in
    let last : Answer = ask_board A B board in
    false≢true
    (outcome_by other ((list then given then last) then ask_binding qs c) qs (positionals_of c) (named_of c) board 8 d
    (then_by other (list then given then last) (ask_binding qs c)
    (then_by other list (given then last) (list_other A spec_cells spec) (then_by other given last (call_other B call_cells call) (board_other A B board)))
    (later_other 15 24 (omega arith) (ask_binding qs c) (binding_in qs c)))
    e)

filling_other : (a : Answer) (b : Bool) (d : Detail) → refuses_by other a ≡ true → filling_of a b ≡ refused_filling 8 d → ⊥
filling_other fine b d h e = let z : ◌≡◌ {A = ℕ} 0 1 = cc in omega arith
filling_other (refuse n f) b d h e = let same : n ≡ 8 = cc in false≢true (rw same at h)

pub filled : (A B : ℕ) (spec_cells spec call_cells call : List ℕ) (d : Detail) → fillable A B spec_cells spec call_cells call ≡ refused_filling 8 d → ⊥
unfolding fillable
filled A B spec_cells spec call_cells call d e =
    filling_other (ask_parameters A spec_cells spec then ask_form B call_cells call) _ d
    (then_by other (ask_parameters A spec_cells spec) (ask_form B call_cells call) (list_other A spec_cells spec)
    (later_other 9 11 (omega arith) (ask_form B call_cells call) (form_in B call_cells call)))
    e

-- ---- what an accessor answers, and the printed list

access_other : (a : Answer) (k : ℕ) (d : Detail) → refuses_by other a ≡ true → access_of a k ≡ denied 8 d → ⊥
access_other fine k d h e = let z : ◌≡◌ {A = ℕ} 0 1 = cc in omega arith
access_other (refuse n f) k d h e = let same : n ≡ 8 = cc in false≢true (rw same at h)

pub printed : (A : ℕ) (cells area out : List ℕ) (d : Detail) → parameters_str A cells area out ≡ denied 8 d → ⊥
unfolding parameters_str
printed A cells area out d e =
    access_other (ask_parameters A cells area then ask 29 (leb (printed_least A) (length out))) _ d
    (then_by other (ask_parameters A cells area) (ask 29 (leb (printed_least A) (length out))) (list_other A cells area) (ask_by other 29 (leb (printed_least A) (length out)) refl))
    e

-- 9 to 14, and questions after them
writing_other : (A B : ℕ) (cells area out : List ℕ) (a : Answer) → refuses_by other a ≡ true → refuses_by other (ask_writing A B cells area out then a) ≡ true
unfolding ask_writing
writing_other A B cells area out a h =
    then_by other (ask_call B cells area then ask_board A B out) a
    (then_by other (ask_call B cells area) (ask_board A B out) (call_other B cells area) (board_other A B out)) h

pub names : (A B : ℕ) (cells area out : List ℕ) (d : Detail) → names_map A B cells area out ≡ denied 8 d → ⊥
unfolding names_map
names A B cells area out d e =
    let c : Call = call_of cells area in
    let seventeen : Answer = ask 17 (double_passes c.double) in
    let entries : Answer = ask_entries [] [] c.named (entries_of c.double) in
    access_other (ask_writing A B cells area out then seventeen then entries) (length (named_of c)) d
    (writing_other A B cells area out (seventeen then entries)
    (then_by other seventeen entries (ask_by other 17 (double_passes c.double) refl)
    (later_other 15 19 (omega arith) entries (entries_in [] [] c.named (entries_of c.double)))))
    e

pub values : (A B : ℕ) (cells area out : List ℕ) (d : Detail) → positions A B cells area out ≡ denied 8 d → ⊥
unfolding positions
values A B cells area out d e =
    let c : Call = call_of cells area in
    access_other (ask_writing A B cells area out then ask 15 (star_passes c.star)) (length (positionals_of c)) d
    (writing_other A B cells area out (ask 15 (star_passes c.star)) (ask_by other 15 (star_passes c.star) refl))
    e

pub arguments : (B : ℕ) (cells area : List ℕ) (d : Detail) → len B cells area ≡ denied 8 d → ⊥
unfolding len
arguments B cells area d e =
    let c : Call = call_of cells area in
    let fifteen : Answer = ask 15 (star_passes c.star) in
    let seventeen : Answer = ask 17 (double_passes c.double) in
    access_other (ask_call B cells area then fifteen then seventeen) _ d
    (then_by other (ask_call B cells area) (fifteen then seventeen) (call_other B cells area)
    (then_by other fifteen seventeen (ask_by other 15 (star_passes c.star) refl) (ask_by other 17 (double_passes c.double) refl)))
    e

pub unnamed : (B : ℕ) (cells area : List ℕ) (d : Detail) → no_named_args B cells area ≡ denied 8 d → ⊥
unfolding no_named_args
unnamed B cells area d e =
    let c : Call = call_of cells area in
    let seventeen : Answer = ask 17 (double_passes c.double) in
    let words : Bool = all (λ x. is_word x.key) (entries_of c.double) in
    let left : Answer = ask_named_remainder false (named_of c) in
    access_other (ask_call B cells area then seventeen then ask 18 words then left) 0 d
    (then_by other (ask_call B cells area) (seventeen then ask 18 words then left) (call_other B cells area)
    (then_by other seventeen (ask 18 words then left) (ask_by other 17 (double_passes c.double) refl)
    (then_by other (ask 18 words) left (ask_by other 18 words refl) (later_other 20 24 (omega arith) left (named_in false (named_of c))))))
    e

number_other : (required more got : ℕ) → refuses_by other (ask_number required more got) ≡ true
unfolding ask_number
number_other required more got = go (leb required got && leb got (required + more))
  where
    go : (b : Bool) → refuses_by other (cond b fine (refuse 26 (bounds required (required + more) got))) ≡ true
    go true = refl
    go false = refl

pub chosen : (A B required more : ℕ) (cells area out : List ℕ) (d : Detail) → optional A B required more cells area out ≡ denied 8 d → ⊥
unfolding optional
chosen A B required more cells area out d e =
    let c : Call = call_of cells area in
    let few : Bool = leb required B && leb more B in
    let fifteen : Answer = ask 15 (star_passes c.star) in
    let last : Answer = ask_number required more (length (positionals_of c)) in
    access_other (ask 25 few then ask_writing A B cells area out then fifteen then last) (length (positionals_of c)) d
    (then_by other (ask 25 few) (ask_writing A B cells area out then fifteen then last) (ask_by other 25 few refl)
    (writing_other A B cells area out (fifteen then last)
    (then_by other fifteen last (ask_by other 15 (star_passes c.star) refl) (number_other required more (length (positionals_of c))))))
    e

-- ---- sheets

-- a line is bad by another number
abbrev pub other_line : Verdict → Bool
other_line right = true
other_line (bad n at) = other n

else_other : (v w : Verdict) → other_line v ≡ true → other_line w ≡ true → other_line (v else w) ≡ true
else_other right w p q = q
else_other (bad n at) w p q = p

unless_other : (b : Bool) (at : ℕ) → other_line (unless b at) ≡ true
unless_other true at = refl
unless_other false at = refl

rows_other : (row_right : List Row → Row → Bool) (c : Columns) (at : ℕ) (before : List Row) (lines : List (List ℕ)) → other_line (judge_rows row_right c at before lines) ≡ true
rows_other row_right c at before [] = refl
rows_other row_right c at before (line ∷ lines) =
    else_other (unless (three_cells (cells_in line) && row_right before (row_in c line)) at) (judge_rows row_right c (suc at) (before ++ (row_in c line ∷ [])) lines)
    (unless_other (three_cells (cells_in line) && row_right before (row_in c line)) at)
    (rows_other row_right c (suc at) (before ++ (row_in c line ∷ [])) lines)

sheet_other : (row_right : List Row → Row → Bool) (at : ℕ) (lines : List (List ℕ)) → other_line (judge_sheet row_right at lines) ≡ true
sheet_other row_right at [] = refl
sheet_other row_right at (header ∷ lines) =
    else_other (unless (header_right header) at) (judge_rows row_right (columns_in header) (suc at) [] lines) (unless_other (header_right header) at)
    (rows_other row_right (columns_in header) (suc at) [] lines)

pub input_other : (A B : ℕ) (input : List ℕ) → other_line (judge_input A B input) ≡ true
unfolding judge_input
input_other A B input =
    let short : Verdict = unless (leb (length input) input_most) 0 in
    let list : Verdict = judge_sheet (parameter_row_right A) 1 (parameter_lines input) in
    let parted : Verdict = unless (leb 2 (length (parameter_lines input)) && ltb (length (parameter_lines input)) (length (lines_in input))) (length (parameter_lines input) + 1) in
    let given : Verdict = judge_sheet (call_row_right B) (length (parameter_lines input) + 2) (call_lines input) in
    let ended : Verdict = unless (leb 1 (length (call_lines input)) && is_empty (unended input)) (length (lines_in input) + 1) in
    else_other short (list else parted else given else ended) (unless_other (leb (length input) input_most) 0)
    (else_other list (parted else given else ended) (sheet_other (parameter_row_right A) 1 (parameter_lines input))
    (else_other parted (given else ended) (unless_other (leb 2 (length (parameter_lines input)) && ltb (length (parameter_lines input)) (length (lines_in input))) (length (parameter_lines input) + 1))
    (else_other given ended (sheet_other (call_row_right B) (length (parameter_lines input) + 2) (call_lines input))
    (unless_other (leb 1 (length (call_lines input)) && is_empty (unended input)) (length (lines_in input) + 1)))))
