-- 01's number and detail for each answer of collection, which numbers an answer can have, and the bytes of the name in a detail and where they
-- lie.
use Rattle.std.specs.Prelude.{Option, Some, None, Result, Ok, Err, Bool, true, ◌&&◌, ◌||◌, List, [], ℕ, leb}
use Rattle.std.specs.Borrow.{Bor}
use Rattle.rules.specs.Text.{start_of, size_of}
use Rattle.rules.specs.Answer as rules
use Rattle.rules.specs.Placement as placement
use Rattle.rules.specs.Collection.{Outcome, refused, accepted}
use Rattle.cells.specs.Text.{part_at, place_at}
use Rattle.cells.specs.Question.{number_of}
use Rattle.answers.specs.declared.answer.Counts.{Counts}
use Rattle.answers.specs.declared.answer.Refusal.{Refusal}
use Rattle.answers.specs.declared.answer.Refusal.TheVariants.{Record, ArgsArrayIsNotIterable, RepeatedParameter, KwArgsIsNotDict, ArgsValueIsNotString, RepeatedArg, MissingPositionalOnly, Missing, MissingNamedOnly, ExtraPositionalArg, ExtraNamedArg}
use Rattle.answers.specs.declared.detail.Name.{Name}
use Rattle.answers.specs.declared.detail.Name.TheVariants.{Spec, Call}
use Rattle.answers.specs.declared.answer.EntryRefusal.{EntryRefusal}
use Rattle.answers.specs.declared.answer.EntryRefusal.TheVariants.{NotText, Repeated}

-- a payload's part of an area
abbrev pub place_of : rules.Area → ℕ → rules.Part
place_of area payload = record { area = area; start = start_of payload; size = size_of payload }

abbrev pub counts_of : Counts → placement.Counts
counts_of c = record { taken = c.taken; defaulted = c.defaulted; star = c.star; named = c.named }

-- 18 and 19 of an entry as collection refuses them
abbrev pub entry_refused : EntryRefusal → Refusal
entry_refused NotText = ArgsValueIsNotString
entry_refused (Repeated name) = RepeatedArg name

-- a refusal's number
abbrev pub refusal_number : Refusal → ℕ
refusal_number (Record q) = number_of q
refusal_number ArgsArrayIsNotIterable = 15
refusal_number (RepeatedParameter name) = 16
refusal_number KwArgsIsNotDict = 17
refusal_number ArgsValueIsNotString = 18
refusal_number (RepeatedArg name) = 19
refusal_number (MissingPositionalOnly name) = 20
refusal_number (Missing name) = 21
refusal_number (MissingNamedOnly name) = 22
refusal_number (ExtraPositionalArg n) = 23
refusal_number (ExtraNamedArg n name) = 24

-- and its detail
abbrev pub refusal_detail : Refusal → rules.Detail
refusal_detail (Record q) = rules.none
refusal_detail ArgsArrayIsNotIterable = rules.none
refusal_detail (RepeatedParameter name) = rules.name (place_of rules.spec_area name)
refusal_detail KwArgsIsNotDict = rules.none
refusal_detail ArgsValueIsNotString = rules.none
refusal_detail (RepeatedArg name) = rules.name (place_of rules.call_area name)
refusal_detail (MissingPositionalOnly name) = rules.name (place_of rules.spec_area name)
refusal_detail (Missing name) = rules.name (place_of rules.spec_area name)
refusal_detail (MissingNamedOnly name) = rules.name (place_of rules.spec_area name)
refusal_detail (ExtraPositionalArg n) = rules.count n
refusal_detail (ExtraNamedArg n name) = rules.count_and_name n (place_of rules.call_area name)

-- a question about a record or the board has a number from 1 to 7 or from 9 to 14 (8 is retired: 02, §8): those from 15 on have refusals of
-- their own, so that no outcome is told by two answers
abbrev pub record_numbered : ℕ → Bool
record_numbered n = leb 1 n && leb n 7 || leb 9 n && leb n 14

abbrev pub numbered : Refusal → Bool
numbered (Record q) = record_numbered (number_of q)
numbered ArgsArrayIsNotIterable = true
numbered (RepeatedParameter name) = true
numbered KwArgsIsNotDict = true
numbered ArgsValueIsNotString = true
numbered (RepeatedArg name) = true
numbered (MissingPositionalOnly name) = true
numbered (Missing name) = true
numbered (MissingNamedOnly name) = true
numbered (ExtraPositionalArg n) = true
numbered (ExtraNamedArg n name) = true

abbrev pub is_numbered : Result Counts Refusal → Bool
is_numbered (Ok c) = true
is_numbered (Err r) = numbered r

-- the outcome that an answer tells, with the board as it is left
abbrev pub told : Result Counts Refusal → List ℕ → Outcome
told (Ok c) after = accepted (counts_of c) after
told (Err r) after = refused (refusal_number r) (refusal_detail r)

-- the answer of 01's questions that an answer tells
abbrev pub answer_in : Result Counts Refusal → rules.Answer
answer_in (Ok c) = rules.fine
answer_in (Err r) = rules.refuse (refusal_number r) (refusal_detail r)

-- the name in a refusal's detail, by the area where it stands (01, the questions: the spec area for 16 and 20 to 22, the call area for 19 and 24)
abbrev pub refusal_name : Refusal → Option Name
refusal_name (Record q) = None
refusal_name ArgsArrayIsNotIterable = None
refusal_name (RepeatedParameter name) = Some (Spec name)
refusal_name KwArgsIsNotDict = None
refusal_name ArgsValueIsNotString = None
refusal_name (RepeatedArg name) = Some (Call name)
refusal_name (MissingPositionalOnly name) = Some (Spec name)
refusal_name (Missing name) = Some (Spec name)
refusal_name (MissingNamedOnly name) = Some (Spec name)
refusal_name (ExtraPositionalArg n) = None
refusal_name (ExtraNamedArg n name) = Some (Call name)

-- what is said of a name by its payload and the area where it stands; `unnamed` where there is none
abbrev pub of_named : {X : Type 0} → X → (ℕ → X) → (ℕ → X) → Option Name → X
of_named unnamed in_spec in_call None = unnamed
of_named unnamed in_spec in_call (Some (Spec name)) = in_spec name
of_named unnamed in_spec in_call (Some (Call name)) = in_call name

-- the same of the name that goes with an answer, where `named` has the name in a refusal's detail
abbrev pub of_name : {T E X : Type 0} → (E → Option Name) → X → (ℕ → X) → (ℕ → X) → Result T E → X
of_name named unnamed in_spec in_call (Ok c) = unnamed
of_name named unnamed in_spec in_call (Err r) = of_named unnamed in_spec in_call (named r)

-- its bytes
abbrev pub bytes_named : {T E : Type 0} → (E → Option Name) → List ℕ → List ℕ → Result T E → List ℕ
bytes_named named spec call r = of_name named [] (part_at spec) (part_at call) r

-- where it begins in its area; the spec area's own place where no name goes with the answer
abbrev pub place_named : {T E : Type 0} → (E → Option Name) → Bor (List ℕ) → Bor (List ℕ) → Result T E → ℕ × ℕ
place_named named spec call r = of_name named spec.ref_ptr (place_at spec) (place_at call) r

-- both of an answer of collection
abbrev pub name_bytes : List ℕ → List ℕ → Result Counts Refusal → List ℕ
name_bytes spec call r = bytes_named refusal_name spec call r

abbrev pub name_place : Bor (List ℕ) → Bor (List ℕ) → Result Counts Refusal → ℕ × ℕ
name_place spec call r = place_named refusal_name spec call r
