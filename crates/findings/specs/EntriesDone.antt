-- What resolving all the entries of a call needs and promises.
use Rattle.std.specs.Prelude.{Result, Ok, Err, ◌≡◌, true, List, ◌++◌, ℕ, ◌+◌, ◌*◌, min, ◌<◌, length, drop}
use Rattle.rules.specs.Value.{Value, well_formed_key}
use Rattle.rules.specs.Answer.{Answer, fine}
use Rattle.rules.specs.CallRecord.{Head, Named, Entry, read_pair, entry_in}
use Rattle.rules.specs.Parameters.{positional_count}
use Rattle.rules.specs.Binding.{ask_entries}
use Rattle.cells.specs.Record.{pair_at}
use Rattle.cells.specs.Listed.{listed}
use Rattle.builder.specs.Params.{parameters_in}
use Rattle.builder.specs.declared.spec.DefParamIndices.{DefParamIndices}
use Rattle.builder.specs.declared.spec.ParametersSpec.{ParametersSpec}
use Rattle.calls.specs.Head.{Few, named_from, entries_from}
use Rattle.answers.specs.declared.answer.EntryRefusal.{EntryRefusal}
use Rattle.findings.specs.Resolved.{Resolved}
use Rattle.findings.specs.Entries.{entry_refused}
use Rattle.findings.specs.Resolve.{Prepared, pairs_from, with_indices}

-- the written names of a call, and its entries from the k-th on
abbrev pub written_names : List ℕ → List ℕ → Head → List Named
written_names area cells h = pairs_from area cells (named_from h) h.n

unfoldable pub entry_at : List ℕ → List ℕ → ℕ → Entry
entry_at area cells pair = entry_in area (read_pair (drop pair cells))

abbrev pub entries_in : List ℕ → List ℕ → ℕ → ℕ → ℕ → List Entry
entries_in area cells from k count = listed (λ j. entry_at area cells (from + 4 * j)) k count

-- 01's number and detail for the answer of all the entries
abbrev pub entries_answer : Result ℕ EntryRefusal → Answer
entries_answer (Ok count) = fine
entries_answer (Err e) = entry_refused e

pub record EntriesReady (spec : List ℕ) (l : ParametersSpec) (cells area : List ℕ) (h : Head) (next : ℕ) (sources rest : List ℕ) (count : ℕ) : Type 0 where
  pub list : Prepared spec l
  pub P : List Value
  pub upto : next ≡ min (length P) (positional_count (parameters_in spec l.params))
  pub few : Few 64 h
  pub keys_formed : (k : ℕ) → k < h.d → well_formed_key area (pair_at cells (entries_from h + 4 * k)) ≡ true
  pub written : Resolved (parameters_in spec l.params) cells area (written_names area cells h) sources rest count

-- the answer is that of 18 and 19, entry by entry, and without a refusal every name of N is resolved
pub record EntriesDone (spec : List ℕ) (l : ParametersSpec) (cells area : List ℕ) (h : Head) (next : ℕ) (sources rest : List ℕ) (r : Result ℕ EntryRefusal) : Type 0 where
  pub answer
      : (P : List Value) → next ≡ min (length P) (positional_count (parameters_in spec l.params))
      → entries_answer r ≡ ask_entries (parameters_in spec l.params) P (written_names area cells h) (entries_in area cells (entries_from h) 0 h.d)
  pub resolved
      : (count : ℕ) → r ≡ Ok count
      → Resolved (parameters_in spec l.params) cells area (written_names area cells h ++ pairs_from area cells (entries_from h) h.d) sources rest count

-- the same against the parameters of a list alone: with some indices it is such a list, and what is promised holds of each that it then is
pub record EntriesLent (spec : List ℕ) (l : ParametersSpec) (cells area : List ℕ) (h : Head) (next : ℕ) (sources rest : List ℕ) (count : ℕ) : Type 0 where
  pub indices : DefParamIndices
  pub ready : EntriesReady spec (with_indices l indices) cells area h next sources rest count

abbrev pub EntriesResolved : (spec : List ℕ) (l : ParametersSpec) (cells area : List ℕ) (h : Head) (next : ℕ) (sources rest : List ℕ) (count : ℕ) (sources₁ rest₁ : List ℕ) (r : Result ℕ EntryRefusal) → Type 0
EntriesResolved spec l cells area h next sources rest count sources₁ rest₁ r =
    (o : DefParamIndices) → EntriesReady spec (with_indices l o) cells area h next sources rest count
    → EntriesDone spec (with_indices l o) cells area h next sources₁ rest₁ r
