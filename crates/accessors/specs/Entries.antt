-- What the questions about the entries need and answer, and what writing the pairs of N needs.
use Rattle.std.specs.Prelude.{Option, Some, None, Result, Ok, Err, ◌≡◌, Bool, true, false, List, ℕ, ◌+◌, ◌≤◌, ◌<◌}
use Rattle.rules.specs.Text.{inside}
use Rattle.rules.specs.Value.{well_formed_key, call_text}
use Rattle.rules.specs.Answer.{Answer, fine, refuse}
use Rattle.rules.specs.CallRecord.{Head}
use Rattle.cells.specs.Record.{pair_at}
use Rattle.cells.specs.declared.value.Key.{Key}
use Rattle.cells.specs.declared.value.Key.TheVariants.{Word, Number}
use Rattle.calls.specs.Head.{Few}
use Rattle.calls.specs.Places.{named_at}
use Rattle.answers.specs.declared.answer.EntryRefusal.{EntryRefusal}
use Rattle.accessors.specs.Answer.{entry_denied, error_number, error_detail}

-- the keys of all the entries are well formed
pub record KeysFormed (area cells : List ℕ) (h : Head) : Type 0 where
  pub few : Few 64 h
  pub formed : (k : ℕ) → k < h.d → well_formed_key area (pair_at cells (named_at 64 h (h.n + k))) ≡ true

-- the first `count` names of N lie inside the area
pub record NamesInside (area cells : List ℕ) (h : Head) (count : ℕ) : Type 0 where
  pub few : count ≤ 128
  pub within : (j : ℕ) → j < count → inside area (pair_at cells (named_at 64 h j)).payload ≡ true

-- the first `count` names of N are texts, and their pairs stand not far into the record
pub record NamesText (cells : List ℕ) (h : Head) (count : ℕ) : Type 0 where
  pub few : count ≤ 128
  pub near : (j : ℕ) → j < count → named_at 64 h j ≤ 2048
  pub text : (j : ℕ) → j < count → (pair_at cells (named_at 64 h j)).kind ≡ call_text

-- was a text read?
abbrev pub word_read : Option Key → Bool
word_read (Some (Word t)) = true
word_read (Some (Number z)) = false
word_read None = false

-- 01's number and detail for the answer of 18 and 19
abbrev pub entries_answer : Result Unit EntryRefusal → Answer
entries_answer (Ok _) = fine
entries_answer (Err e) = refuse (error_number (entry_denied e)) (error_detail (entry_denied e))
