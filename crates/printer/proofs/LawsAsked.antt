-- Laws of what `parameters_str` answers, by the questions: a refusal of 1 to 7 leaves the output as it was, and so does 29; past 29 the list is
-- ready to be written, and what is written is the definition's. At the end: an answer forgets nothing of what it tells. Assumes nothing.
use Rattle.std.specs.Prelude.{Result, Ok, Err}
use mathlib.Core.Path.{◌≡◌, refl, sym, ap, ap₂, ◌∙◌}
use mathlib.Core.Bool.{cond}
use mathlib.Core.List.{List}
use Prim.Native.Nat.{ℕ, ◌≤◌, ◌<◌}
use native.Mathlib.Omega.{arith}
use lib.Dec.{leb, eqb}
use lib.ListN.{length}
use borrow.Author.Tests.{le-leb, lt-leb}
use Rattle.rules.specs.Answer.{fine, ◌then◌, ask}
use Rattle.rules.specs.Cells.{over}
use Rattle.rules.specs.Parameters.{args_index, kwargs_index}
use Rattle.rules.specs.ParameterQuestions.{ask_parameters, list_of}
use Rattle.rules.specs.Accessors.{Access, denied, gives, access_of, left_by}
use Rattle.rules.specs.Printed.{printed, printed_least, parameters_str}
use Rattle.rules.proofs.LawsPrinted.{list_fits}
use Rattle.cells.specs.Question.{number_of}
use Rattle.cells.specs.declared.question.Question.{Question}
use Rattle.cells.specs.declared.question.Question.TheVariants.{PartialStep, UnknownCode, NameOutside, WrongDefault, OutOfOrder, TooManyParameters, RepeatedParameter, WrongLength, WrongKind, MalformedPart, RepeatedKey, RepeatedName, ShortBoard, LargeNumbers, ShortOutput}
use Rattle.builder.specs.Params.{parameters_in}
use Rattle.builder.specs.Build.{IsList, Building, asked_of}
use Rattle.builder.specs.declared.spec.ParametersSpec.{ParametersSpec}
use Rattle.printer.specs.Printed.{access_in, Printing, ListReady, ListWritten}

-- what the definition gives, and what it leaves, once it is known what it answers
answered : (cells area before after : List ℕ) (r : Result ℕ Question) → parameters_str 64 cells area before ≡ access_in r → after ≡ left_by (access_in r) (printed (list_of cells area)) before
    → Printing cells area before after r
answered cells area before after r e h =
    record { answer = sym e; held = h ∙ ap (λ x. left_by x (printed (list_of cells area)) before) (sym e) }

module _ (cells area out : List ℕ) (b : Result ParametersSpec Question) (built : Building cells area b) where
  pub print_refused : (q : Question) → b ≡ Err q → Printing cells area out out (Err q)
  unfolding parameters_str
  print_refused q e =
      answered cells area out out (Err q)
      (ap (λ x. access_of (x then ask 29 (leb (printed_least 64) (length out))) (length (printed (list_of cells area)))) (sym built.answer ∙ ap asked_of e)) refl

  module _ (l : ParametersSpec) (e : b ≡ Ok l) where
    asked : ask_parameters 64 cells area ≡ fine
    asked = sym built.answer ∙ ap asked_of e

    pub print_short : length out < 8192 → Printing cells area out out (Err ShortOutput)
    unfolding parameters_str printed_least
    print_short h =
        answered cells area out out (Err ShortOutput)
        (ap₂ (λ x t. access_of (x then ask 29 t) (length (printed (list_of cells area)))) asked (lt-leb 8192 (length out) h)) refl

    module _ (h : 8192 ≤ length out) where
      is_list : IsList area l (list_of cells area)
      is_list = built.fine l e

      in_area : l.area.now ≡ area
      in_area = built.in_area l e

      same : parameters_in l.area.now l.params ≡ list_of cells area
      same = ap (λ a. parameters_in a l.params) in_area ∙ is_list.parameters

      fits : length (printed (parameters_in l.area.now l.params)) ≤ length out
      unfolding printed_least
      fits = omega (arith, list_fits 64 cells area asked, ap (λ qs. length (printed qs)) same)

      pub list_ready : ListReady l.area.now l out
      list_ready =
          record {
            count = is_list.room;
            args = is_list.args ∙ ap args_index (sym same);
            kwargs = is_list.kwargs ∙ ap kwargs_index (sym same);
            room = fits;
          }

      pub print_list : (after : List ℕ) (k : ℕ) → ListWritten l.area.now l out after k → Printing cells area out after (Ok k)
      unfolding parameters_str printed_least
      print_list after k w =
          answered cells area out after (Ok k)
          (ap₂ (λ x t. access_of (x then ask 29 t) (length (printed (list_of cells area)))) asked (le-leb 8192 (length out) h)
          ∙ ap gives (sym (w.ends ∙ ap (λ qs. length (printed qs)) same)))
          (w.held ∙ ap (λ qs. over (printed qs) out) same)

-- ---- one answer

-- the question of a number, where there is one
abbrev question_from : ℕ → Question
question_from n =
    cond (eqb n 1) PartialStep
    (cond (eqb n 2) UnknownCode
    (cond (eqb n 3) NameOutside
    (cond (eqb n 4) WrongDefault
    (cond (eqb n 5) OutOfOrder
    (cond (eqb n 6) TooManyParameters
    (cond (eqb n 7) RepeatedParameter
    (cond (eqb n 9) WrongLength
    (cond (eqb n 10) WrongKind
    (cond (eqb n 11) MalformedPart
    (cond (eqb n 12) RepeatedKey
    (cond (eqb n 13) RepeatedName
    (cond (eqb n 14) ShortBoard
    (cond (eqb n 25) LargeNumbers ShortOutput)))))))))))))

question_back : (q : Question) → question_from (number_of q) ≡ q
question_back PartialStep = refl
question_back UnknownCode = refl
question_back NameOutside = refl
question_back WrongDefault = refl
question_back OutOfOrder = refl
question_back TooManyParameters = refl
question_back RepeatedParameter = refl
question_back WrongLength = refl
question_back WrongKind = refl
question_back MalformedPart = refl
question_back RepeatedKey = refl
question_back RepeatedName = refl
question_back ShortBoard = refl
question_back LargeNumbers = refl
question_back ShortOutput = refl

-- the answer read back: every number has one question
abbrev answer_from : Access → Result ℕ Question
answer_from (denied n d) = Err (question_from n)
answer_from (gives k) = Ok k

told_back : (r : Result ℕ Question) → answer_from (access_in r) ≡ r
told_back (Ok k) = refl
told_back (Err q) = ap {B = Result ℕ Question} Err (question_back q)

-- two answers that tell the same are the same
pub printed_one : (r r' : Result ℕ Question) → access_in r ≡ access_in r' → r ≡ r'
printed_one r r' e = sym (told_back r) ∙ ap answer_from e ∙ told_back r'
