-- What the two entry points promise: preparing a record, and binding a call against cells that are handed over as a prepared list.
use Rattle.std.specs.Prelude.{◌≡◌, Bool, true, false, List, ℕ, Result, Ok, Err, leb, length}
use Rattle.rules.specs.Cells.{over}
use Rattle.rules.specs.Answer.{Answer, fine, refuse, none}
use Rattle.rules.specs.ParameterQuestions.{ask_parameters, list_of}
use Rattle.rules.specs.Collection.{Outcome, refused, board_left}
use Rattle.cells.specs.Question.{number_of}
use Rattle.answers.specs.Answer.{is_numbered, told}
use Rattle.answers.specs.declared.answer.Counts.{Counts}
use Rattle.prepared.specs.Prepared.{prepared_length, prepared_from}
use Rattle.prepared.specs.declared.Unprepared.{Unprepared}
use Rattle.prepared.specs.declared.Unprepared.TheVariants.{List as of_list, NoRoom}
use Rattle.prepared.specs.declared.PreparedRefusal.{PreparedRefusal}
use Rattle.prepared.specs.declared.PreparedRefusal.TheVariants.{NotPrepared, Call}

-- ---- preparing

-- how preparing ends: so many cells are written, 1 to 7 refuse the list by a number, or too few cells are lent
pub data Preparation : Type 0 where
  laid_out : ℕ → Preparation
  unlisted : ℕ → Preparation
  too_few : Preparation

-- the end that an answer tells
abbrev pub preparation_in : Result ℕ Unprepared → Preparation
preparation_in (Ok n) = laid_out n
preparation_in (Err (of_list q)) = unlisted (number_of q)
preparation_in (Err NoRoom) = too_few

-- the end, by what 1 to 7 answer, whether there is room for the longest list, and how many parameters there are
abbrev pub preparation_of : Answer → Bool → ℕ → Preparation
preparation_of (refuse n d) room count = unlisted n
preparation_of fine true count = laid_out (prepared_length count)
preparation_of fine false count = too_few

-- what the lent cells hold then: they change only where a list is written
abbrev pub cells_after : Answer → Bool → List ℕ → List ℕ → List ℕ
cells_after (refuse n d) room written before = before
cells_after fine true written before = over written before
cells_after fine false written before = before

pub record Preparing (spec_cells area before after : List ℕ) (r : Result ℕ Unprepared) : Type 0 where
  pub answer : preparation_in r ≡ preparation_of (ask_parameters 64 spec_cells area) (leb (prepared_length 64) (length before)) (length (list_of spec_cells area))
  pub cells : after ≡ cells_after (ask_parameters 64 spec_cells area) (leb (prepared_length 64) (length before)) (prepared_from spec_cells area) before

-- ---- binding

-- the outcome that an answer tells, with the board as it is left: 100 is the number for cells that are no prepared list
abbrev pub told_by : Result Counts PreparedRefusal → List ℕ → Outcome
told_by (Ok c) after = told (Ok c) after
told_by (Err NotPrepared) after = refused 100 none
told_by (Err (Call r)) after = told (Err r) after

-- the numbers of a call's answer are those of collection, so that 100 is told in one way only
abbrev pub numbered_by : Result Counts PreparedRefusal → Bool
numbered_by (Ok c) = is_numbered (Ok c)
numbered_by (Err NotPrepared) = true
numbered_by (Err (Call r)) = is_numbered (Err r)

-- an answer, with the board before and after it, is an outcome, in the one answer that tells it; and every cell of the board
pub record EndsBound (outcome : Outcome) (before after : List ℕ) (r : Result Counts PreparedRefusal) : Type 0 where
  pub answer : told_by r after ≡ outcome
  pub numbered : numbered_by r ≡ true
  pub board : after ≡ board_left outcome before
