-- An answer of collection forgets nothing of what it tells, and an outcome is told by one answer only: the answer can be read back off the outcome.
-- Before that, a question read back off its number, and the numbers that a question of a parameter record, of a call record and of the board has.
-- Assumes nothing.
use mathlib.Core.Path.{◌≡◌, refl, sym, ap, ◌∙◌}
use mathlib.Core.Bool.{true, cond, ◌&&◌, ◌||◌, or-true}
use mathlib.Core.List.{List}
use Prim.Native.Nat.{ℕ, ◌≤◌}
use lib.Dec.{eqb, leb}
use Rattle.std.specs.Prelude.{Result, Ok, Err}
use Rattle.rules.specs.Text.{payload_of}
use Rattle.rules.specs.Answer as rules
use Rattle.rules.specs.Collection.{Outcome, refused, accepted}
use Rattle.rules.proofs.LawsNumbers.{in_range}
use Rattle.rules.proofs.LawsText.{payload_of_halves}
use Rattle.cells.specs.Question.{number_of}
use Rattle.cells.specs.declared.question.Question.{Question}
use Rattle.cells.specs.declared.question.Question.TheVariants as question
use Rattle.answers.specs.Answer.{refusal_number, refusal_detail, record_numbered, told}
use Rattle.answers.specs.declared.answer.Counts.{Counts}
use Rattle.answers.specs.declared.answer.Refusal.{Refusal}
use Rattle.answers.specs.declared.answer.Refusal.TheVariants.{Record, ArgsArrayIsNotIterable, RepeatedParameter, KwArgsIsNotDict, ArgsValueIsNotString, RepeatedArg, MissingPositionalOnly, Missing, MissingNamedOnly, ExtraPositionalArg, ExtraNamedArg}

-- ---- a question read back off its number

-- what has no question's number reads as the last question
abbrev pub question_at : ℕ → Question
question_at n =
    cond (eqb n 1) question.PartialStep
    (cond (eqb n 2) question.UnknownCode
    (cond (eqb n 3) question.NameOutside
    (cond (eqb n 4) question.WrongDefault
    (cond (eqb n 5) question.OutOfOrder
    (cond (eqb n 6) question.TooManyParameters
    (cond (eqb n 7) question.RepeatedParameter
    (cond (eqb n 9) question.WrongLength
    (cond (eqb n 10) question.WrongKind
    (cond (eqb n 11) question.MalformedPart
    (cond (eqb n 12) question.RepeatedKey
    (cond (eqb n 13) question.RepeatedName
    (cond (eqb n 14) question.ShortBoard
    (cond (eqb n 25) question.LargeNumbers question.ShortOutput)))))))))))))

pub question_back : (q : Question) → question_at (number_of q) ≡ q
question_back question.PartialStep = refl
question_back question.UnknownCode = refl
question_back question.NameOutside = refl
question_back question.WrongDefault = refl
question_back question.OutOfOrder = refl
question_back question.TooManyParameters = refl
question_back question.RepeatedParameter = refl
question_back question.WrongLength = refl
question_back question.WrongKind = refl
question_back question.MalformedPart = refl
question_back question.RepeatedKey = refl
question_back question.RepeatedName = refl
question_back question.ShortBoard = refl
question_back question.LargeNumbers = refl
question_back question.ShortOutput = refl

-- no question has the number of a refusal of its own without a detail
pub no_own : {X : Type 0} (q : Question) (iterable dict text other : X) → cond (eqb (number_of q) 15) iterable (cond (eqb (number_of q) 17) dict (cond (eqb (number_of q) 18) text other)) ≡ other
no_own question.PartialStep iterable dict text other = refl
no_own question.UnknownCode iterable dict text other = refl
no_own question.NameOutside iterable dict text other = refl
no_own question.WrongDefault iterable dict text other = refl
no_own question.OutOfOrder iterable dict text other = refl
no_own question.TooManyParameters iterable dict text other = refl
no_own question.RepeatedParameter iterable dict text other = refl
no_own question.WrongLength iterable dict text other = refl
no_own question.WrongKind iterable dict text other = refl
no_own question.MalformedPart iterable dict text other = refl
no_own question.RepeatedKey iterable dict text other = refl
no_own question.RepeatedName iterable dict text other = refl
no_own question.ShortBoard iterable dict text other = refl
no_own question.LargeNumbers iterable dict text other = refl
no_own question.ShortOutput iterable dict text other = refl

-- the numbers of a parameter record's questions, and of a call record's and the board's
pub list_numbered : (n : ℕ) → 1 ≤ n → n ≤ 7 → record_numbered n ≡ true
list_numbered n l m = ap (λ b. b || leb 9 n && leb n 14) (in_range 1 7 n l m)

pub call_numbered : (n : ℕ) → 9 ≤ n → n ≤ 14 → record_numbered n ≡ true
call_numbered n l m = ap (λ b. leb 1 n && leb n 7 || b) (in_range 9 14 n l m) ∙ or-true (leb 1 n && leb n 7)

-- ---- the answer read back

-- a refusal without a detail, and one with a name, by the number
abbrev unnamed : ℕ → Refusal
unnamed n =
    cond (eqb n 15) ArgsArrayIsNotIterable (cond (eqb n 17) KwArgsIsNotDict (cond (eqb n 18) ArgsValueIsNotString (Record (question_at n))))

abbrev named : ℕ → ℕ → Refusal
named n name =
    cond (eqb n 16) (RepeatedParameter name)
    (cond (eqb n 19) (RepeatedArg name) (cond (eqb n 20) (MissingPositionalOnly name) (cond (eqb n 21) (Missing name) (MissingNamedOnly name))))

abbrev payload_in : rules.Part → ℕ
payload_in p = payload_of p.start p.size

abbrev refusal_from : ℕ → rules.Detail → Refusal
refusal_from n rules.none = unnamed n
refusal_from n (rules.name p) = named n (payload_in p)
refusal_from n (rules.count k) = ExtraPositionalArg k
refusal_from n (rules.count_and_name k p) = ExtraNamedArg k (payload_in p)
refusal_from n (rules.bounds least most got) = Record (question_at n)

abbrev pub answer_from : Outcome → Result Counts Refusal
answer_from (refused n d) = Err (refusal_from n d)
answer_from (accepted c board) = Ok (record { taken = c.taken; defaulted = c.defaulted; star = c.star; named = c.named })

refusal_back : (r : Refusal) → refusal_from (refusal_number r) (refusal_detail r) ≡ r
refusal_back (Record q) = no_own q ArgsArrayIsNotIterable KwArgsIsNotDict ArgsValueIsNotString (Record (question_at (number_of q))) ∙ ap Record (question_back q)
refusal_back ArgsArrayIsNotIterable = refl
refusal_back (RepeatedParameter name) = ap RepeatedParameter (payload_of_halves name)
refusal_back KwArgsIsNotDict = refl
refusal_back ArgsValueIsNotString = refl
refusal_back (RepeatedArg name) = ap RepeatedArg (payload_of_halves name)
refusal_back (MissingPositionalOnly name) = ap MissingPositionalOnly (payload_of_halves name)
refusal_back (Missing name) = ap Missing (payload_of_halves name)
refusal_back (MissingNamedOnly name) = ap MissingNamedOnly (payload_of_halves name)
refusal_back (ExtraPositionalArg n) = refl
refusal_back (ExtraNamedArg n name) = ap (ExtraNamedArg n) (payload_of_halves name)

pub told_back : (r : Result Counts Refusal) (after : List ℕ) → answer_from (told r after) ≡ r
told_back (Ok c) after = refl
told_back (Err r) after = ap Err (refusal_back r)

-- ---- one answer

-- two answers that tell the same are the same
pub told_one : (r r' : Result Counts Refusal) (after after' : List ℕ) → told r after ≡ told r' after' → r ≡ r'
told_one r r' after after' e = sym (told_back r after) ∙ ap answer_from e ∙ told_back r' after'
