-- P and N of a record that passes 9 to 13 (01, placement), as lists of what stands at the places that the code computes: P, the written
-- names, the entries, and N where every key is a text. Then what 11 says of the names and keys that stand there, and how far into the
-- record that is. The call is `call_of cells area`, and `h` the head that was read. Assumes nothing.
use mathlib.Core.Path.{◌≡◌, refl, sym, ap, subst, ◌∙◌}
use mathlib.Core.Bool.{Bool, true, false, cond, not}
use mathlib.Core.List.{List, []}
use Prim.Native.Nat.{ℕ, ◌+◌, ◌-◌, ◌≤◌, ◌<◌}
use native.Mathlib.Nat.{zero-add}
use native.Mathlib.Omega.{arith}
use borrow.Author.Tests.{eqb-true, ltb-true, ltb-false}
use lib.Dec.{eqb, ltb}
use lib.ListN.{length}
use Rattle.rules.specs.Listing.{all}
use Rattle.rules.specs.Text.{inside, is_text, text_in}
use Rattle.rules.specs.Value.{Value, no_value, value_width, call_text, well_formed_name, well_formed_key}
use Rattle.rules.specs.Answer.{fine}
use Rattle.rules.specs.CallRecord.{Head, Named, Entry, word, number, head_width, pair_width, read_head, read_pair, read_call, call_length, key_in, named_in, entry_in, call_in, entries_of, positionals_of, named_of}
use Rattle.rules.specs.CallQuestions.{lengths_right, kinds_right, parts_well_formed, ask_form, ask_call}
use Rattle.rules.specs.Binding.{star_passes, double_passes}
use Rattle.rules.specs.Collection.{call_of}
use Rattle.rules.specs.Accessors.{is_word}
use Rattle.rules.proofs.LawsListing.{and_left, and_right, all_imp, all_map}
use Rattle.cells.specs.Record.{pair_at}
use Rattle.cells.specs.Listed.{listed}
use Rattle.calls.specs.Head.{Few, entries_from}
use Rattle.calls.specs.Places.{named_at}
use Rattle.calls.specs.Runs.{pairs_at}
use Rattle.cells.proofs.LawsListed.{elements, all_at}
use Rattle.calls.specs.Values.{positional_at, values_in}
use Rattle.calls.specs.Named.{pair_named, pair_entry, names_in, entries_in}
use Rattle.calls.proofs.LawsForm.{pair_name, entry_key}
use Rattle.calls.proofs.LawsKeys.{text_inside, key_text}
use Rattle.calls.proofs.LawsCall.{lengths_few, lengths_length, form_lengths, form_kinds, form_parts, call_form}
use Rattle.calls.proofs.LawsPlaces.{positionals_length, named_length, entries_length, entries_run, star_passes_lem, double_passes_lem, positional_at_lem, named_at_lem, entry_at, pair_within, named_formed, entry_formed, N-length, N-at}

-- ---- a text that is well formed

-- a name is a text and lies inside the area
pub name_text : (area : List ℕ) (v : Value) → well_formed_name area v ≡ true → v.kind ≡ call_text
unfolding well_formed_name
name_text area v e = eqb-true v.kind call_text (and_left (eqb v.kind call_text) (is_text 1 area v.payload) e)

pub name_inside_lem : (area : List ℕ) (v : Value) → well_formed_name area v ≡ true → inside area v.payload ≡ true
unfolding well_formed_name
name_inside_lem area v e = text_inside 1 area v.payload (and_right (eqb v.kind call_text) (is_text 1 area v.payload) e)

-- a key that is a text lies inside the area
pub key_inside : (area : List ℕ) (v : Value) → well_formed_key area v ≡ true → eqb v.kind call_text ≡ true → inside area v.payload ≡ true
key_inside area v e k = text_inside 0 area v.payload (key_text area v k e)

-- is a key a text? Its kind says so
pub word_text : (area : List ℕ) (v : Value) → is_word (key_in area v) ≡ eqb v.kind call_text
unfolding key_in
word_text area v = go (eqb v.kind call_text)
  where
    go : (b : Bool) → is_word (cond b (word (text_in area v.payload)) (number v.payload)) ≡ b
    go true = refl
    go false = refl

-- ---- a record that passes 9 to 13

module _ (area cells : List ℕ) (h : Head) (read : h ≡ read_head cells) (passed : ask_call 64 cells area ≡ fine) where
  form : ask_form 64 cells area ≡ fine
  form = call_form 64 cells area passed

  nine : lengths_right 64 cells ≡ true
  nine = form_lengths 64 cells area form

  ten : kinds_right (read_call cells) ≡ true
  ten = form_kinds 64 cells area form

  eleven : parts_well_formed area (read_call cells) ≡ true
  eleven = form_parts 64 cells area form

  pub passed_few : Few 64 h
  passed_few = lengths_few cells h read 64 nine

  -- 15 and 17
  pub passed_star : star_passes (call_of cells area).star ≡ not (eqb h.star_kind 2)
  unfolding call_of
  passed_star = star_passes_lem area cells h read ten

  pub passed_double : double_passes (call_of cells area).double ≡ not (eqb h.double_kind 2)
  unfolding call_of
  passed_double = double_passes_lem area cells h read ten

  -- P
  pub P-length : length (positionals_of (call_of cells area)) ≡ h.p + h.s
  unfolding call_of
  P-length = positionals_length area cells h read ten

  pub P-listed : positionals_of (call_of cells area) ≡ values_in cells h 0 (h.p + h.s)
  unfolding call_of positional_at pair_at
  P-listed =
      elements (positional_at cells h) no_value 0 (positionals_of (call_in area (read_call cells)))
      (λ k below. positional_at_lem area cells h read ten 64 nine k no_value (rw (← P-length) below) ∙ ap (positional_at cells h) (sym (zero-add k)))
      ∙ ap (listed (positional_at cells h) 0) P-length

  -- the written names, and the entries
  any_named : Named
  any_named = named_in area (read_pair [])

  any_entry : Entry
  any_entry = entry_in area (read_pair [])

  pub written_listed : (call_of cells area).named ≡ names_in area cells h h.n
  unfolding call_of pair_named
  written_listed =
      elements (pair_named area cells h) any_named 0 (call_in area (read_call cells)).named
      (λ k below. named_at_lem area cells h read ten 64 nine k any_named (rw (← named_length area cells h read ten) below) ∙ ap (pair_named area cells h) (sym (zero-add k)))
      ∙ ap (listed (pair_named area cells h) 0) (named_length area cells h read ten)

  pub entries_listed : entries_of (call_of cells area).double ≡ entries_in area cells h 0 h.d
  unfolding call_of pair_entry
  entries_listed =
      elements (λ k. pair_entry area cells h (h.n + k)) any_entry 0 (entries_of (call_in area (read_call cells)).double)
      (λ k below. entry_at area cells h read ten 64 nine k any_entry (rw (← entries_length area cells h read ten) below) ∙ ap (λ j. pair_entry area cells h (h.n + j)) (sym (zero-add k)))
      ∙ ap (listed (λ k. pair_entry area cells h (h.n + k)) 0) (entries_length area cells h read ten)

  -- what stands there is well formed, and not far into the record
  pub names_formed : (k : ℕ) → k < h.n → well_formed_name area (pair_at cells (named_at 64 h k)) ≡ true
  names_formed k below = pair_name area cells (named_at 64 h k) (named_formed area cells h read ten 64 nine eleven k below)

  pub keys_formed : (k : ℕ) → k < h.d → well_formed_key area (pair_at cells (named_at 64 h (h.n + k))) ≡ true
  keys_formed k below = entry_key area cells (named_at 64 h (h.n + k)) (entry_formed area cells h read ten 64 nine eleven k below)

  pub names_near : (k : ℕ) → k < h.n + h.d → named_at 64 h k ≤ 2048
  unfolding call_length head_width value_width pair_width
  names_near k below =
      omega (
        arith,
        pair_within area cells h read ten 64 nine k below,
        lengths_length cells h read 64 nine,
        passed_few.few_p,
        passed_few.few_n,
        passed_few.few_s,
        passed_few.few_d,
      )

  -- where every key is a text: the names, and N
  module _ (texts : all (λ e. is_word e.key) (entries_of (call_of cells area).double) ≡ true) where
    run_texts : all (λ p. eqb p.key.kind call_text) (pairs_at cells (entries_from h) h.d) ≡ true
    unfolding call_of entry_in
    run_texts =
        all_imp (λ p. is_word (entry_in area p).key) (λ p. eqb p.key.kind call_text) (λ p e. sym (word_text area p.key) ∙ e) (pairs_at cells (entries_from h) h.d)
        (sym (all_map (entry_in area) (λ e. is_word e.key) (pairs_at cells (entries_from h) h.d))
        ∙ ap (all (λ e. is_word e.key)) (sym (entries_run area cells h read ten))
        ∙ texts)

    pub N-listed : named_of (call_of cells area) ≡ names_in area cells h (h.n + h.d)
    unfolding call_of pair_named
    N-listed =
        elements (pair_named area cells h) any_named 0 (named_of (call_in area (read_call cells)))
        (λ k below. N-at area cells h read ten 64 nine run_texts k any_named (rw (← N-length area cells h read ten 64 nine run_texts) below) ∙ ap (pair_named area cells h) (sym (zero-add k)))
        ∙ ap (listed (pair_named area cells h) 0) (N-length area cells h read ten 64 nine run_texts)

    keys_text : (k : ℕ) → k < h.d → (pair_at cells (named_at 64 h (h.n + k))).kind ≡ call_text
    unfolding call_of entry_in read_pair pair_at
    keys_text k below =
        let there = named_at 64 h (h.n + k) in
        eqb-true (pair_at cells there).kind call_text
        (sym (word_text area (pair_at cells there))
        ∙ ap (λ (e : Entry). is_word e.key) (sym (entry_at area cells h read ten 64 nine k any_entry below))
        ∙ all_at (λ e. is_word e.key) (entries_of (call_in area (read_call cells)).double) k any_entry (rw (entries_length area cells h read ten) below) texts)

    pub names_text : (j : ℕ) → j < h.n + h.d → (pair_at cells (named_at 64 h j)).kind ≡ call_text
    names_text j below = go (ltb j h.n) refl
      where
        go : (b : Bool) → ltb j h.n ≡ b → (pair_at cells (named_at 64 h j)).kind ≡ call_text
        go true e = name_text area (pair_at cells (named_at 64 h j)) (names_formed j (ltb-true j h.n e))
        go false e =
            let l : h.n ≤ j = ltb-false j h.n e in
            let s : h.n + (j - h.n) ≡ j = omega arith in
            subst (λ (n : ℕ). (pair_at cells (named_at 64 h n)).kind ≡ call_text) s (keys_text (j - h.n) (omega arith))
