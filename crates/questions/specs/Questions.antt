-- What asking 15 to 24 of a call needs and promises.
use Rattle.std.specs.Prelude.{◌≡◌, true, not, List, ℕ, ◌+◌, ◌*◌, min, ◌<◌, eqb, length, get_or, Result, Ok}
use Rattle.rules.specs.Value.{no_value, well_formed_key}
use Rattle.rules.specs.Answer.{Answer, ◌then◌, ask}
use Rattle.rules.specs.CallRecord.{Head, Call, entries_of, positionals_of, named_of}
use Rattle.rules.specs.Parameters.{Parameter, positional_count}
use Rattle.rules.specs.Collection.{call_of}
use Rattle.rules.specs.Binding.{star_passes, double_passes, ask_entries, ask_placed}
use Rattle.cells.specs.Record.{pair_at}
use Rattle.builder.specs.Params.{parameters_in}
use Rattle.builder.specs.declared.spec.ParametersSpec.{ParametersSpec}
use Rattle.calls.specs.Head.{Few, named_from, entries_from}
use Rattle.findings.specs.Resolved.{Resolved}
use Rattle.findings.specs.Resolve.{Prepared, Pairs}
use Rattle.findings.specs.EntriesDone.{written_names, entries_in}
use Rattle.calls.specs.Values.{positional_at}
use Rattle.questions.specs.Judge.{judged_answer, refusing}
use Rattle.answers.specs.declared.answer.Refusal.{Refusal}

-- 17 to 24, which come after the written names
unfoldable pub ask_after_names : List Parameter → Call → Answer
ask_after_names qs c =
    ask 17 (double_passes c.double)
    then ask_entries qs (positionals_of c) c.named (entries_of c.double)
    then ask_placed qs (positionals_of c) (named_of c)

-- a prepared list, and a record whose cells hold this call: what 9 to 12 give, with `next` slots filled from P
pub record CallReady (spec : List ℕ) (l : ParametersSpec) (cells area : List ℕ) (h : Head) (next : ℕ) (c : Call) : Type 0 where
  pub list : Prepared spec l
  pub few : Few 64 h
  pub star : star_passes c.star ≡ not (eqb h.star_kind 2)
  pub double : double_passes c.double ≡ not (eqb h.double_kind 2)
  pub written : c.named ≡ written_names area cells h
  pub pairs : Pairs area cells (named_from h) h.n
  pub entries : entries_of c.double ≡ entries_in area cells (entries_from h) 0 h.d
  pub keys_formed : (k : ℕ) → k < h.d → well_formed_key area (pair_at cells (entries_from h + 4 * k)) ≡ true
  pub long : length (positionals_of c) ≡ h.p + h.s
  pub values : (k : ℕ) → k < length (positionals_of c) → get_or (positionals_of c) k no_value ≡ positional_at cells h k
  pub upto : next ≡ min (length (positionals_of c)) (positional_count (parameters_in spec l.params))

-- the answer is 01's, and without a refusal every name of N is resolved
pub record Judging (qs : List Parameter) (c : Call) (cells area : List ℕ) (asked : Answer) (sources rest : List ℕ) (r : Result ℕ Refusal) : Type 0 where
  pub answer : judged_answer r ≡ asked
  pub refusal : refusing r ≡ true
  pub resolved : (count : ℕ) → r ≡ Ok count → Resolved qs cells area (named_of c) sources rest count

-- a call that is asked against a prepared list, its written names resolved
pub record JudgeReady (spec : List ℕ) (l : ParametersSpec) (cells area : List ℕ) (h : Head) (next : ℕ) (sources rest : List ℕ) (count : ℕ) : Type 0 where
  pub call : CallReady spec l cells area h next (call_of cells area)
  pub resolved : Resolved (parameters_in spec l.params) cells area (written_names area cells h) sources rest count

-- what is answered of it is what `asked` answers
abbrev pub Judges : (spec : List ℕ) (l : ParametersSpec) (cells area : List ℕ) → (List Parameter → Call → Answer) → (sources rest : List ℕ) → Result ℕ Refusal → Type 0
Judges spec l cells area asked sources rest r =
    Judging (parameters_in spec l.params) (call_of cells area) cells area (asked (parameters_in spec l.params) (call_of cells area)) sources rest r
