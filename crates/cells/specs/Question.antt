-- 01's number for each question that is refused without a detail, and the answer of `rules` that it is.
use Rattle.std.specs.Prelude.{ℕ, Result, Ok, Err}
use Rattle.rules.specs.Answer as rules
use Rattle.cells.specs.declared.question.Question.{Question}
use Rattle.cells.specs.declared.question.Question.TheVariants.{PartialStep, UnknownCode, NameOutside, WrongDefault, OutOfOrder, TooManyParameters, RepeatedParameter, WrongLength, WrongKind, MalformedPart, RepeatedKey, RepeatedName, ShortBoard, LargeNumbers, ShortOutput}

abbrev pub number_of : Question → ℕ
number_of PartialStep = 1
number_of UnknownCode = 2
number_of NameOutside = 3
number_of WrongDefault = 4
number_of OutOfOrder = 5
number_of TooManyParameters = 6
number_of RepeatedParameter = 7
number_of WrongLength = 9
number_of WrongKind = 10
number_of MalformedPart = 11
number_of RepeatedKey = 12
number_of RepeatedName = 13
number_of ShortBoard = 14
number_of LargeNumbers = 25
number_of ShortOutput = 29

abbrev pub refused : Question → rules.Answer
refused q = rules.refuse (number_of q) rules.none

-- nothing against the record, or the first question that was answered by "no"
abbrev pub answer_of : Result Unit Question → rules.Answer
answer_of (Ok _) = rules.fine
answer_of (Err q) = refused q
