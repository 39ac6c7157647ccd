-- What 18 and 19 answer for an entry, by what is found for its key and what the names before it fill; and 13 for a written name, likewise.
use Rattle.std.specs.Prelude.{Option, Some, None, Result, Ok, Err, ◌≡◌, Bool, cond, not, ◌||◌, List, map, ℕ, ◌≤◌, ◌<◌, ltb, eqb, length, take, get_or}
use Rattle.rules.specs.Text.{among, payload_of}
use Rattle.rules.specs.Answer.{Answer, fine, refuse, none, name, call_area}
use Rattle.rules.specs.CallRecord.{Named}
use Rattle.rules.specs.Binding.{texts_of}
use Rattle.cells.specs.Text.{part_at}
use Rattle.cells.specs.Record.{key_at}
use Rattle.cells.specs.declared.value.Key.{Key}
use Rattle.cells.specs.declared.value.Key.TheVariants.{Word, Number}
use Rattle.builder.specs.declared.params.Parameters.{Parameters}
use Rattle.builder.specs.declared.spec.ParametersSpec.{ParametersSpec}
use Rattle.lookup.specs.Lookup.{find_in}
use Rattle.answers.specs.Answer.{place_of}
use Rattle.answers.specs.declared.answer.EntryRefusal.{EntryRefusal}
use Rattle.answers.specs.declared.answer.EntryRefusal.TheVariants.{NotText, Repeated}
use Rattle.findings.specs.Resolved.{named_at, NamedPair}

-- the remainder's pairs, whose names are known to be texts inside the area
pub record Held (area cells rest : List ℕ) (count : ℕ) : Type 0 where
  pub few : count ≤ 128
  pub pairs : length rest ≡ 128
  pub named : (j : ℕ) → j < count → NamedPair area cells (get_or rest j 0)

abbrev pub held_names : List ℕ → List ℕ → List ℕ → ℕ → List Named
held_names area cells rest count = map (named_at area cells) (take count rest)

-- is a name one of those that are resolved: has the slot that is found a source, or has the remainder a name that is not found?
abbrev pub repeats_by : Option ℕ → List ℕ → List Named → List ℕ → Bool
repeats_by (Some i) sources rest bytes = not (eqb (get_or sources i 0) 0)
repeats_by None sources rest bytes = among bytes (texts_of rest)

-- is a slot that is found filled already, or a name that is not found in the remainder already?
abbrev pub taken_by : Option ℕ → ℕ → List ℕ → List Named → List ℕ → Bool
taken_by (Some i) next sources rest bytes = ltb i next || not (eqb (get_or sources i 0) 0)
taken_by None next sources rest bytes = among bytes (texts_of rest)

abbrev pub free_or : Bool → ℕ → Option ℕ → Result (Option ℕ) EntryRefusal
free_or b payload f = cond b (Err (Repeated payload)) (Ok f)

-- the entry's answer by its key: 18 where it is no text, 19 where what it names is taken
abbrev pub entered_by : Option Key → (ℕ → Result (Option ℕ) EntryRefusal) → Result (Option ℕ) EntryRefusal
entered_by (Some (Word t)) word = word (payload_of t.start t.len)
entered_by (Some (Number z)) word = Err NotText
entered_by None word = Err NotText

-- 19 of an entry whose key is the text of a payload, by the parameters and by the list
unfoldable pub word_in : List ℕ → Parameters → List ℕ → List ℕ → ℕ → List ℕ → List ℕ → ℕ → ℕ → Result (Option ℕ) EntryRefusal
word_in spec p area cells next sources rest count payload =
    let f : Option ℕ = find_in spec p (part_at area payload) in
    free_or (taken_by f next sources (held_names area cells rest count) (part_at area payload)) payload f

abbrev pub word_at : List ℕ → ParametersSpec → List ℕ → List ℕ → ℕ → List ℕ → List ℕ → ℕ → ℕ → Result (Option ℕ) EntryRefusal
word_at spec l area cells next sources rest count payload = word_in spec l.params area cells next sources rest count payload

-- 18 and 19 of the entry at a cell, likewise
unfoldable pub entered_in : List ℕ → Parameters → List ℕ → List ℕ → ℕ → ℕ → List ℕ → List ℕ → ℕ → Result (Option ℕ) EntryRefusal
entered_in spec p area cells pair next sources rest count =
    entered_by (key_at area cells pair) (word_in spec p area cells next sources rest count)

abbrev pub entered_at : List ℕ → ParametersSpec → List ℕ → List ℕ → ℕ → ℕ → List ℕ → List ℕ → ℕ → Result (Option ℕ) EntryRefusal
entered_at spec l area cells pair next sources rest count = entered_in spec l.params area cells pair next sources rest count

-- 01's number and detail for an entry that is refused, and for the answer of an entry
abbrev pub entry_refused : EntryRefusal → Answer
entry_refused NotText = refuse 18 none
entry_refused (Repeated payload) = refuse 19 (name (place_of call_area payload))

abbrev pub entry_answer : Result (Option ℕ) EntryRefusal → Answer
entry_answer (Ok f) = fine
entry_answer (Err e) = entry_refused e
