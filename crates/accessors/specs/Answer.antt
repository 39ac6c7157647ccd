-- 01's number and values for each answer of an accessor, which numbers an answer can have, what an accessor promises, and the bytes of the name
-- in a detail and where they lie.
use Rattle.std.specs.Prelude.{Option, Some, None, Result, Ok, Err, ◌≡◌, Bool, true, ◌&&◌, ◌||◌, List, ℕ, leb, eqb}
use Rattle.std.specs.Borrow.{Bor}
use Rattle.rules.specs.Answer as rules
use Rattle.rules.specs.Accessors.{Access, denied, gives, left_by}
use Rattle.cells.specs.Question.{number_of}
use Rattle.answers.specs.Answer.{place_of, bytes_named, place_named}
use Rattle.answers.specs.declared.detail.Name.{Name}
use Rattle.answers.specs.declared.detail.Name.TheVariants.{Call}
use Rattle.answers.specs.declared.answer.EntryRefusal.{EntryRefusal}
use Rattle.answers.specs.declared.answer.EntryRefusal.TheVariants.{NotText, Repeated}
use Rattle.accessors.specs.declared.answer.FunctionError.{FunctionError}
use Rattle.accessors.specs.declared.answer.FunctionError.TheVariants.{Record, ArgsArrayIsNotIterable, KwArgsIsNotDict, ArgsValueIsNotString, RepeatedArg, ExtraNamedArg, WrongNumberOfArgs}

-- 18 and 19 of an entry as an accessor refuses them
abbrev pub entry_denied : EntryRefusal → FunctionError
entry_denied NotText = ArgsValueIsNotString
entry_denied (Repeated name) = RepeatedArg name

-- a refusal's number
abbrev pub error_number : FunctionError → ℕ
error_number (Record q) = number_of q
error_number ArgsArrayIsNotIterable = 15
error_number KwArgsIsNotDict = 17
error_number ArgsValueIsNotString = 18
error_number (RepeatedArg name) = 19
error_number (ExtraNamedArg n name) = 24
error_number (WrongNumberOfArgs least most got) = 26

-- and its detail
abbrev pub error_detail : FunctionError → rules.Detail
error_detail (Record q) = rules.none
error_detail ArgsArrayIsNotIterable = rules.none
error_detail KwArgsIsNotDict = rules.none
error_detail ArgsValueIsNotString = rules.none
error_detail (RepeatedArg name) = rules.name (place_of rules.call_area name)
error_detail (ExtraNamedArg n name) = rules.count_and_name n (place_of rules.call_area name)
error_detail (WrongNumberOfArgs least most got) = rules.bounds least most got

-- a question about the record, the output or the numbers asked for is one of 9 to 14 or 25: the others have refusals of their own, so that
-- nothing is told by two answers
abbrev pub record_numbered : ℕ → Bool
record_numbered n = (leb 9 n && leb n 14) || eqb n 25

abbrev pub numbered : FunctionError → Bool
numbered (Record q) = record_numbered (number_of q)
numbered ArgsArrayIsNotIterable = true
numbered KwArgsIsNotDict = true
numbered ArgsValueIsNotString = true
numbered (RepeatedArg name) = true
numbered (ExtraNamedArg n name) = true
numbered (WrongNumberOfArgs least most got) = true

abbrev pub is_numbered : Result ℕ FunctionError → Bool
is_numbered (Ok k) = true
is_numbered (Err e) = numbered e

-- 01's number and detail, or the number that is asked for; 0 where it is asked for none
abbrev pub access_in : Result ℕ FunctionError → Access
access_in (Ok k) = gives k
access_in (Err e) = denied (error_number e) (error_detail e)

-- an answer is what a definition of `rules` says, in the one answer that tells it
pub record Answering (access : Access) (r : Result ℕ FunctionError) : Type 0 where
  pub answer : access_in r ≡ access
  pub numbered : is_numbered r ≡ true

-- and so is every cell of the output, before and after it, where one is written
pub record Accessing (access : Access) (written before after : List ℕ) (r : Result ℕ FunctionError) : Type 0 where
  pub answering : Answering access r
  pub output : after ≡ left_by access written before

-- the name in a refusal's detail, which stands in the call area
abbrev pub error_name : FunctionError → Option Name
error_name (Record q) = None
error_name ArgsArrayIsNotIterable = None
error_name KwArgsIsNotDict = None
error_name ArgsValueIsNotString = None
error_name (RepeatedArg name) = Some (Call name)
error_name (ExtraNamedArg n name) = Some (Call name)
error_name (WrongNumberOfArgs least most got) = None

-- the bytes of the name that goes with an answer
abbrev pub name_in : List ℕ → Result ℕ FunctionError → List ℕ
name_in call r = bytes_named error_name call call r

-- where it begins in the call area; the area's own place where no name goes with the answer
abbrev pub name_place : Bor (List ℕ) → Result ℕ FunctionError → ℕ × ℕ
name_place call r = place_named error_name call call r
