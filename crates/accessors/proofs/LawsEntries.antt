-- Laws of the keys of a call's dictionary (01, questions 18 and 19 as accessors ask them), in this order: a key that is well formed, by what
-- reading it answered, and 18 and 19 of one entry; a name held against those before it, and the keys that are texts; one more entry in the loop over the entries; and
-- what holds where none is refused. Assumes nothing.
use mathlib.Core.Path.{◌≡◌, refl, sym, ap, subst, ◌∙◌}
use mathlib.Core.Bool.{Bool, true, false, cond}
use mathlib.Core.List.{List, [], ◌∷◌, ◌++◌}
use Prim.Native.Nat.{ℕ, zero, suc, ◌+◌, ◌-◌, ◌≤◌, ◌<◌}
use native.Mathlib.Omega.{arith}
use borrow.Author.Tests.{ltb-true, ltb-false}
use lib.Dec.{ltb}
use native.Mathlib.Numerals.{add-one}
use Rattle.std.specs.List.{list_any, list_all, range_with_len}
use Rattle.std.specs.Prelude.{Option, Some, None, Result, Ok, Err}
use Rattle.rules.specs.Listing.{all}
use Rattle.rules.specs.Text.{payload_of, bytes_at, inside, text_in, same_bytes, among}
use Rattle.rules.specs.Value.{Value, well_formed_key}
use Rattle.rules.specs.Answer.{Answer, fine, refuse, name, call_area, part_of, Detail, ◌then◌}
use Rattle.rules.specs.CallRecord.{Head, Named, Key, Entry, word, number, word_of, read_pair, key_in, named_in, entry_in}
use Rattle.rules.specs.Parameters.{Parameter}
use Rattle.rules.specs.Binding.{texts_of, names_filled, ask_entry, ask_entries}
use Rattle.rules.specs.Accessors.{is_word}
use Rattle.rules.proofs.LawsListing.{and_both}
use Rattle.rules.proofs.LawsText.{payload_of_halves}
use Rattle.rules.proofs.LawsAnswer.{fine_refuse, then_left, then_right}
use Rattle.cells.specs.Text.{text_of, part_at}
use Rattle.cells.specs.Record.{pair_at, key_at}
use Rattle.cells.specs.Listed.{listed}
use Rattle.cells.specs.declared.value.Key as read
use Rattle.cells.specs.declared.value.Key.TheVariants.{Word, Number}
use Rattle.cells.proofs.LawsListed.{listed_next, listed_end, listed_more}
use Rattle.calls.specs.Places.{named_at}
use Rattle.calls.specs.Named.{pair_named, pair_entry, names_in, entries_in}
use Rattle.calls.proofs.LawsKeys.{Seen, as_word, as_number, seen}
use Rattle.calls.proofs.LawsNamed.{key_inside, word_text}
use Rattle.answers.specs.Answer.{place_of}
use Rattle.answers.specs.declared.answer.EntryRefusal.{EntryRefusal}
use Rattle.answers.specs.declared.answer.EntryRefusal.TheVariants.{NotText, Repeated}
use Rattle.accessors.specs.Entries.{KeysFormed, NamesInside, word_read, entries_answer}

-- ---- a key that was read

-- 19 of a text, and 18 and 19 of a key that was read
abbrev pub name_asked : List ℕ → List Named → ℕ → Result Unit EntryRefusal
name_asked area before payload = cond (among (part_at area payload) (texts_of before)) (Err (Repeated payload)) (Ok tt)

abbrev pub key_asked : List ℕ → List Named → Option read.Key → Result Unit EntryRefusal
key_asked area before (Some (Word t)) = name_asked area before (payload_of t.start t.len)
key_asked area before (Some (Number z)) = Err NotText
key_asked area before None = Err NotText

module _ (area cells : List ℕ) (at : ℕ) (formed : well_formed_key area (pair_at cells at) ≡ true) where
  pub text_read : (r : Option read.Key) → key_at area cells at ≡ r → word_read r ≡ is_word (key_in area (pair_at cells at))
  unfolding key_at
  text_read r e = go (seen area (pair_at cells at) formed)
    where
      go : Seen area (pair_at cells at) → word_read r ≡ is_word (key_in area (pair_at cells at))
      go (as_word d k b) = ap word_read (sym e ∙ d) ∙ sym (ap is_word k)
      go (as_number d k) = ap word_read (sym e ∙ d) ∙ sym (ap is_word k)

  -- the answer is that of 18 and 19
  pub entry_read : (before : List Named) (r : Option read.Key) → key_at area cells at ≡ r → entries_answer (key_asked area before r) ≡ ask_entry [] [] before (key_in area (pair_at cells at))
  unfolding key_at text_of text_in part_of names_filled
  entry_read before r e = go (seen area (pair_at cells at) formed)
    where
      pick : (b : Bool) (payload : ℕ) → entries_answer (cond b (Err (Repeated payload)) (Ok tt)) ≡ cond b (refuse 19 (name (place_of call_area payload))) fine
      pick true payload = refl
      pick false payload = refl

      go : Seen area (pair_at cells at) → entries_answer (key_asked area before r) ≡ ask_entry [] [] before (key_in area (pair_at cells at))
      go (as_word d k b) =
          ap (λ x. entries_answer (key_asked area before x)) (sym e ∙ d)
          ∙ ap (λ n. entries_answer (name_asked area before n)) (payload_of_halves (pair_at cells at).payload)
          ∙ ap (λ bytes. entries_answer (cond (among bytes (texts_of before)) (Err (Repeated (pair_at cells at).payload)) (Ok tt))) b
          ∙ pick (among (bytes_at area (pair_at cells at).payload) (texts_of before)) (pair_at cells at).payload
          ∙ sym (ap (ask_entry [] [] before) k)
      go (as_number d k) = ap (λ x. entries_answer (key_asked area before x)) (sym e ∙ d) ∙ sym (ap (ask_entry [] [] before) k)

-- ---- pair k of N

module _ (area cells : List ℕ) (h : Head) where
  pub pair_key : (k : ℕ) → (pair_entry area cells h k).key ≡ key_in area (pair_at cells (named_at 64 h k))
  unfolding pair_entry entry_in read_pair pair_at
  pair_key k = refl

  -- the bytes of a name that lies inside the area are the part that its payload names
  pub pair_bytes : (k : ℕ) → inside area (pair_at cells (named_at 64 h k)).payload ≡ true → (pair_named area cells h k).name.bytes ≡ part_at area (pair_at cells (named_at 64 h k)).payload
  unfolding part_at pair_named named_in text_in read_pair pair_at
  pair_bytes k e = sym (ap (λ b. cond b (bytes_at area (pair_at cells (named_at 64 h k)).payload) []) e)

  -- an entry whose key is a text is a named value
  pair_word : (k : ℕ) → is_word (pair_entry area cells h k).key ≡ true → word_of (pair_entry area cells h k).key (pair_entry area cells h k).value ≡ pair_named area cells h k ∷ []
  unfolding pair_entry entry_in read_pair pair_named named_in key_in pair_at
  pair_word k e =
      ap (λ b. word_of (cond b (word (text_in area (pair_at cells (named_at 64 h k)).payload)) (number (pair_at cells (named_at 64 h k)).payload)) (pair_entry area cells h k).value)
      (sym (word_text area (pair_at cells (named_at 64 h k))) ∙ e)

  -- ---- a name among names of N, and entries whose keys are texts, looked at one by one

  -- is the name of pair k these bytes, as the code reads it?
  abbrev pub has_name : List ℕ → ℕ → Bool
  has_name bytes k = same_bytes bytes (part_at area (pair_at cells (named_at 64 h k)).payload)

  pub names_any : (bytes : List ℕ) (i n : ℕ) → ((j : ℕ) → j < i + n → inside area (pair_at cells (named_at 64 h j)).payload ≡ true)
      → list_any (has_name bytes) (range_with_len i n) ≡ among bytes (texts_of (listed (pair_named area cells h) i n))
  unfolding texts_of
  names_any bytes i zero w = refl
  names_any bytes i (suc n) w = rw (add-one, pair_bytes i (w i (omega arith)), names_any bytes (suc i) n (λ j b. w j (omega arith)))

  -- is the key of pair k a text, as the code reads it?
  abbrev pub has_text : ℕ → Bool
  has_text k = word_read (key_at area cells (named_at 64 h k))

  pub keys_all : (i n : ℕ) → ((j : ℕ) → j < i + n → well_formed_key area (pair_at cells (named_at 64 h (h.n + j))) ≡ true)
      → list_all has_text (range_with_len (h.n + i) n) ≡ all (λ e. is_word e.key) (entries_in area cells h i n)
  keys_all i zero w = refl
  keys_all i (suc n) w =
      let next : h.n + i + 1 ≡ h.n + suc i = omega arith in
      rw (next, text_read area cells (named_at 64 h (h.n + i)) (w i (omega arith)) (key_at area cells (named_at 64 h (h.n + i))) refl, pair_key (h.n + i), keys_all (suc i) n (λ j b. w j (omega arith)))

  -- ---- one more entry

  -- what is left to ask from entry k on
  abbrev pub asked : ℕ → Answer
  asked k = ask_entries [] [] (names_in area cells h (h.n + k)) (entries_in area cells h k (h.d - k))

  module _ (k : ℕ) (below : k < h.d) where
    abbrev key : Key
    key = (pair_entry area cells h (h.n + k)).key

    abbrev rest : Answer
    rest = ask_entries [] [] (names_in area cells h (h.n + k) ++ word_of key (pair_entry area cells h (h.n + k)).value) (entries_in area cells h (k + 1) (h.d - (k + 1)))

    entries_next : asked k ≡ (ask_entry [] [] (names_in area cells h (h.n + k)) key then rest)
    entries_next = ap (ask_entries [] [] (names_in area cells h (h.n + k))) (listed_next (λ j. pair_entry area cells h (h.n + j)) k h.d below)

    -- a refusal of entry k is the answer
    pub entries_refused : (n : ℕ) (d : Detail) → ask_entry [] [] (names_in area cells h (h.n + k)) key ≡ refuse n d → asked k ≡ refuse n d
    entries_refused n d e = entries_next ∙ ap (λ a. a then rest) e

    module _ (passed : ask_entry [] [] (names_in area cells h (h.n + k)) key ≡ fine) where
      is_word_lem : is_word key ≡ true
      is_word_lem = go key passed
        where
          go : (x : Key) → ask_entry [] [] (names_in area cells h (h.n + k)) x ≡ fine → is_word x ≡ true
          go (word t) e = refl
          go (number n) e = fine_refuse (sym e)

      one_more : names_in area cells h (h.n + k) ++ word_of key (pair_entry area cells h (h.n + k)).value ≡ names_in area cells h (h.n + (k + 1))
      one_more =
          ap (λ vs. names_in area cells h (h.n + k) ++ vs) (pair_word (h.n + k) is_word_lem)
          ∙ sym (listed_more (pair_named area cells h) (h.n + k))
          ∙ ap (names_in area cells h) (next h.n k)
        where
          next : (a b : ℕ) → a + b + 1 ≡ a + (b + 1)
          next a b = omega arith

      pub entries_passed : asked k ≡ asked (k + 1)
      entries_passed =
          entries_next
          ∙ ap (λ a. a then rest) passed
          ∙ ap (λ vs. ask_entries [] [] vs (entries_in area cells h (k + 1) (h.d - (k + 1)))) one_more

      -- and its name lies inside the area
      pub inside_passed : KeysFormed area cells h → NamesInside area cells h (h.n + k) → NamesInside area cells h (h.n + (k + 1))
      inside_passed keys names =
          record {
            few = omega (arith, keys.few.few_n, keys.few.few_d);
            within = λ j l. go j l (ltb j (h.n + k)) refl;
          }
        where
          this : inside area (pair_at cells (named_at 64 h (h.n + k))).payload ≡ true
          this =
              key_inside area (pair_at cells (named_at 64 h (h.n + k))) (keys.formed k below)
              (sym (word_text area (pair_at cells (named_at 64 h (h.n + k)))) ∙ ap is_word (sym (pair_key (h.n + k))) ∙ is_word_lem)

          go : (j : ℕ) → j < h.n + (k + 1) → (b : Bool) → ltb j (h.n + k) ≡ b → inside area (pair_at cells (named_at 64 h j)).payload ≡ true
          go j l true e = names.within j (ltb-true j (h.n + k) e)
          go j l false e =
              let m : h.n + k ≤ j = ltb-false j (h.n + k) e in
              let s : h.n + k ≡ j = omega arith in
              subst (λ (i : ℕ). inside area (pair_at cells (named_at 64 h i)).payload ≡ true) s this

  -- nothing is left to ask
  pub entries_end : (k : ℕ) → h.d ≤ k → asked k ≡ fine
  entries_end k past = ap (ask_entries [] [] (names_in area cells h (h.n + k))) (listed_end (λ j. pair_entry area cells h (h.n + j)) k h.d past)

-- ---- where none is refused, every key is a text

pub entries_words : (qs : List Parameter) (P : List Value) (before : List Named) (es : List Entry) → ask_entries qs P before es ≡ fine → all (λ e. is_word e.key) es ≡ true
entries_words qs P before [] e = refl
entries_words qs P before (x ∷ es) e =
    and_both (is_word x.key) (all (λ y. is_word y.key) es)
    (go x.key (then_left (ask_entry qs P before x.key) (ask_entries qs P (before ++ word_of x.key x.value) es) e))
    (entries_words qs P (before ++ word_of x.key x.value) es (then_right (ask_entry qs P before x.key) (ask_entries qs P (before ++ word_of x.key x.value) es) e))
  where
    go : (k : Key) → ask_entry qs P before k ≡ fine → is_word k ≡ true
    go (word t) f = refl
    go (number n) f = fine_refuse (sym f)
