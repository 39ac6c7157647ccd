-- How a call ends, as text (01, sheets): off the list, the board and the answer; and what it takes for that to be 01's text.
use Rattle.std.specs.Prelude.{Result, Ok, Err, List, [], ◌∷◌, ◌++◌, true, ◌≡◌, ℕ, ◌+◌, ◌*◌, ◌≤◌, length}
use Rattle.rules.specs.Value.{Value}
use Rattle.rules.specs.Answer as rules
use Rattle.rules.specs.CallRecord.{Named}
use Rattle.rules.specs.Parameters.{Parameter}
use Rattle.rules.specs.Collection.{outcome_of}
use Rattle.rules.specs.SheetValue.{decimal}
use Rattle.rules.specs.SheetOutput.{line, refusal_text}
use Rattle.sheet_output.specs.Printable.{AllPrintable, answer_inside}
use Rattle.builder.specs.Params.{parameters_in}
use Rattle.builder.specs.declared.params.Parameters.{Parameters}
use Rattle.builder.specs.declared.spec.ParametersSpec.{ParametersSpec}
use Rattle.answers.specs.Answer.{told, name_bytes, refusal_number}
use Rattle.answers.specs.declared.answer.Counts.{Counts}
use Rattle.answers.specs.declared.answer.Refusal.{Refusal}
use Rattle.answers.specs.declared.answer.Refusal.TheVariants.{Record, ArgsArrayIsNotIterable, RepeatedParameter, KwArgsIsNotDict, ArgsValueIsNotString, RepeatedArg, MissingPositionalOnly, Missing, MissingNamedOnly, ExtraPositionalArg, ExtraNamedArg}
use Rattle.sheet_output.specs.Parts.{lines_to, slot_line_at, stars, names, remainder_text}

-- `slot,name,value`
unfoldable pub heading : List ℕ
heading = line (115 ∷ 108 ∷ 111 ∷ 116 ∷ []) (110 ∷ 97 ∷ 109 ∷ 101 ∷ []) (118 ∷ 97 ∷ 108 ∷ 117 ∷ 101 ∷ [])

-- a word and a count
unfoldable pub count_line : List ℕ → ℕ → List ℕ
count_line word n = line word (decimal n) []

-- `taken` and `defaulted`, each with its count
unfoldable pub closing : ℕ → ℕ → List ℕ
closing taken defaulted =
    count_line (116 ∷ 97 ∷ 107 ∷ 101 ∷ 110 ∷ []) taken
    ++ count_line (100 ∷ 101 ∷ 102 ∷ 97 ∷ 117 ∷ 108 ∷ 116 ∷ 101 ∷ 100 ∷ []) defaulted

-- an accepted call
unfoldable pub accepted_shown : List ℕ → List ℕ → Parameters → List ℕ → Counts → List ℕ
accepted_shown spec call p board c =
    heading
    ++ (lines_to (slot_line_at spec call p board) p.len
    ++ ((remainder_text spec call board (stars (2 * p.len) c.star) ++ remainder_text spec call board (names (2 * p.len + 2 * c.star) c.named))
    ++ closing c.taken c.defaulted))

-- the first two cells of a refusal, each with its comma: `refused` and the number
unfoldable pub refused_cells : ℕ → List ℕ
refused_cells n = (114 ∷ 101 ∷ 102 ∷ 117 ∷ 115 ∷ 101 ∷ 100 ∷ 44 ∷ []) ++ (decimal n ++ (44 ∷ []))

-- a refusal with its name, where it has one
unfoldable pub refused_shown : List ℕ → List ℕ → Refusal → List ℕ
refused_shown spec call r = refusal_text (refusal_number r) (name_bytes spec call (Err r))

-- any refusal: where values are left over (23), with their number
abbrev pub refusal_shown : List ℕ → List ℕ → Refusal → List ℕ
refusal_shown spec call (Record q) = refused_shown spec call (Record q)
refusal_shown spec call ArgsArrayIsNotIterable = refused_shown spec call ArgsArrayIsNotIterable
refusal_shown spec call (RepeatedParameter name) = refused_shown spec call (RepeatedParameter name)
refusal_shown spec call KwArgsIsNotDict = refused_shown spec call KwArgsIsNotDict
refusal_shown spec call ArgsValueIsNotString = refused_shown spec call ArgsValueIsNotString
refusal_shown spec call (RepeatedArg name) = refused_shown spec call (RepeatedArg name)
refusal_shown spec call (MissingPositionalOnly name) = refused_shown spec call (MissingPositionalOnly name)
refusal_shown spec call (Missing name) = refused_shown spec call (Missing name)
refusal_shown spec call (MissingNamedOnly name) = refused_shown spec call (MissingNamedOnly name)
refusal_shown spec call (ExtraPositionalArg n) = refusal_text 23 (decimal n)
refusal_shown spec call (ExtraNamedArg n name) = refused_shown spec call (ExtraNamedArg n name)

abbrev pub outcome_shown : List ℕ → List ℕ → Parameters → List ℕ → Result Counts Refusal → List ℕ
outcome_shown spec call p board (Ok c) = accepted_shown spec call p board c
outcome_shown spec call p board (Err r) = refusal_shown spec call r

-- a list and an accepted call's remainders are within their limits
pub record Limits (p : Parameters) (c : Counts) : Type 0 where
  pub slots : p.len ≤ 64
  pub star : c.star ≤ 128
  pub named : c.named ≤ 128

-- the output has room for whatever is printed
pub record OutcomeRoom (l : ParametersSpec) (r : Result Counts Refusal) (out : List ℕ) : Type 0 where
  pub limits : (c : Counts) → r ≡ Ok c → Limits l.params c
  pub room : 40960 ≤ length out

-- an answer and the board as it is left are how the questions `asked` end over a board `before`: the list, the positionals P and the named
-- values N can be printed where nothing is refused, and a refusal's name where one is
pub record OutcomeReady (spec call : List ℕ) (l : ParametersSpec) (board : List ℕ) (r : Result Counts Refusal) (qs : List Parameter) (P : List Value) (N : List Named) (asked : rules.Answer) (before : List ℕ) : Type 0 where
  pub answer : told r board ≡ outcome_of asked qs P N before
  pub list : asked ≡ rules.fine → parameters_in spec l.params ≡ qs
  pub printable : asked ≡ rules.fine → AllPrintable spec call qs P N
  pub detail : answer_inside spec call asked ≡ true
