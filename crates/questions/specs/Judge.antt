-- What the questions of binding answer, by the list and the sources of names.
use Rattle.std.specs.Prelude.{Bool, true, false, cond, List, ℕ, zero, suc, ◌+◌, ◌-◌, ◌≤◌, ltb, eqb, get_or, Result, Ok, Err}
use Rattle.std.proofs.Math.Option.{Option, none, some}
use Rattle.rules.specs.Answer.{Answer, fine}
use Rattle.rules.specs.CallRecord.{Head}
use Rattle.cells.specs.Record.{pair_at}
use Rattle.builder.specs.Spec.{index_of}
use Rattle.builder.specs.declared.params.Parameters.{Parameters}
use Rattle.builder.specs.declared.spec.DefParamIndices.{DefParamIndices}
use Rattle.builder.specs.declared.spec.ParametersSpec.{ParametersSpec}
use Rattle.calls.specs.Head.{Few}
use Rattle.answers.specs.Answer.{answer_in, is_numbered}
use Rattle.findings.specs.Found.{first_named, first_missing}
use Rattle.answers.specs.declared.answer.Refusal.{Refusal}
use Rattle.answers.specs.declared.answer.Refusal.TheVariants.{ArgsArrayIsNotIterable, RepeatedParameter, MissingPositionalOnly, Missing, MissingNamedOnly, ExtraPositionalArg, ExtraNamedArg}

-- more than there is room for, and nothing that takes the rest
abbrev pub lost_to : ℕ → ℕ → Option ℕ → Bool
lost_to count room none = ltb room count
lost_to count room (some taker) = false

-- the refusal for a missing parameter, by the number of its style
abbrev pub missing_as : ℕ → ℕ → Refusal
missing_as zero name = MissingPositionalOnly name
missing_as (suc zero) name = Missing name
missing_as (suc (suc style)) name = MissingNamedOnly name

-- the refusal of a question; where there is none, what comes after it says
abbrev pub first_of : Result Unit Refusal → Result Unit Refusal → Result Unit Refusal
first_of (Ok _) second = second
first_of (Err a) second = Err a

-- the refusal for an index, if there is one
abbrev pub refused_at : Option ℕ → (ℕ → Refusal) → Result Unit Refusal
refused_at none refusal = Ok tt
refused_at (some i) refusal = Err (refusal i)

-- 15
unfoldable pub star_as : Head → Result Unit Refusal
star_as h = cond (eqb h.star_kind 2) (Err ArgsArrayIsNotIterable) (Ok tt)

-- 16
unfoldable pub repeats_as : Parameters → ℕ → List ℕ → Result Unit Refusal
repeats_as p next sources = refused_at (first_named sources 0 next) (λ i. RepeatedParameter (get_or p.names i 0))

-- 24
unfoldable pub unknown_as : DefParamIndices → List ℕ → List ℕ → ℕ → Result Unit Refusal
unknown_as indices cells rest count =
    cond (lost_to count 0 (index_of indices.kwargs)) (Err (ExtraNamedArg count (pair_at cells (get_or rest 0 0)).payload)) (Ok tt)

-- 20 to 22
unfoldable pub required_as : Parameters → ℕ → List ℕ → Result Unit Refusal
required_as p next sources =
    refused_at (first_missing p.codes sources next (p.len - next)) (λ i. missing_as (get_or p.styles i 0) (get_or p.names i 0))

-- 23
unfoldable pub surplus_as : DefParamIndices → Head → Result Unit Refusal
surplus_as indices h =
    cond (lost_to (h.p + h.s) indices.num_positional (index_of indices.args)) (Err (ExtraPositionalArg (h.p + h.s - indices.num_positional))) (Ok tt)

-- 20 to 24, the last of them first (02, §4)
unfoldable pub placed_as : ParametersSpec → List ℕ → Head → ℕ → List ℕ → List ℕ → ℕ → Result Unit Refusal
placed_as l cells h next sources rest count =
    first_of (unknown_as l.indices cells rest count) (first_of (required_as l.params next sources) (surplus_as l.indices h))

pub record PlacedReady (l : ParametersSpec) (h : Head) : Type 0 where
  pub room : l.params.len ≤ 64
  pub few : Few 64 h

-- 01's answer
abbrev pub judged_answer : Result ℕ Refusal → Answer
judged_answer (Ok count) = fine
judged_answer (Err a) = answer_in (Err a)

-- what is handed on as a refusal is the one answer that tells it
abbrev pub refusing : Result ℕ Refusal → Bool
refusing (Ok count) = true
refusing (Err a) = is_numbered (Err a)
