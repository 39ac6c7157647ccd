-- An accessor's answer forgets nothing of what it tells, and nothing is told by two answers: the answer can be read back.
-- Assumes nothing.
use mathlib.Core.Path.{◌≡◌, refl, sym, ap, ◌∙◌}
use mathlib.Core.Bool.{cond}
use Prim.Native.Nat.{ℕ}
use lib.Dec.{eqb}
use Rattle.std.specs.Prelude.{Result, Ok, Err}
use Rattle.rules.specs.Text.{payload_of}
use Rattle.rules.specs.Answer as rules
use Rattle.rules.specs.Accessors.{Access, denied, gives}
use Rattle.rules.proofs.LawsText.{payload_of_halves}
use Rattle.cells.specs.Question.{number_of}
use Rattle.answers.proofs.LawsTold.{question_at, question_back, no_own}
use Rattle.accessors.specs.Answer.{error_number, error_detail, access_in}
use Rattle.accessors.specs.declared.answer.FunctionError.{FunctionError}
use Rattle.accessors.specs.declared.answer.FunctionError.TheVariants.{Record, ArgsArrayIsNotIterable, KwArgsIsNotDict, ArgsValueIsNotString, RepeatedArg, ExtraNamedArg, WrongNumberOfArgs}

-- a refusal without a detail, by the number
abbrev unnamed : ℕ → FunctionError
unnamed n =
    cond (eqb n 15) ArgsArrayIsNotIterable (cond (eqb n 17) KwArgsIsNotDict (cond (eqb n 18) ArgsValueIsNotString (Record (question_at n))))

abbrev error_from : ℕ → rules.Detail → FunctionError
error_from n rules.none = unnamed n
error_from n (rules.name p) = RepeatedArg (payload_of p.start p.size)
error_from n (rules.count k) = Record (question_at n)
error_from n (rules.count_and_name k p) = ExtraNamedArg k (payload_of p.start p.size)
error_from n (rules.bounds least most got) = WrongNumberOfArgs least most got

abbrev answer_from : Access → Result ℕ FunctionError
answer_from (denied n d) = Err (error_from n d)
answer_from (gives k) = Ok k

error_back : (e : FunctionError) → error_from (error_number e) (error_detail e) ≡ e
error_back (Record q) = no_own q ArgsArrayIsNotIterable KwArgsIsNotDict ArgsValueIsNotString (Record (question_at (number_of q))) ∙ ap Record (question_back q)
error_back ArgsArrayIsNotIterable = refl
error_back KwArgsIsNotDict = refl
error_back ArgsValueIsNotString = refl
error_back (RepeatedArg name) = ap RepeatedArg (payload_of_halves name)
error_back (ExtraNamedArg n name) = ap (ExtraNamedArg n) (payload_of_halves name)
error_back (WrongNumberOfArgs least most got) = refl

access_back : (r : Result ℕ FunctionError) → answer_from (access_in r) ≡ r
access_back (Ok k) = refl
access_back (Err e) = ap Err (error_back e)

-- two answers that tell the same are the same
pub access_one : (r r' : Result ℕ FunctionError) → access_in r ≡ access_in r' → r ≡ r'
access_one r r' e = sym (access_back r) ∙ ap answer_from e ∙ access_back r'
