-- Laws of the accessors that read N (01, accessors): `names_map` and `no_named_args`. In this order: the cells of a named value, and one pair
-- more of them; what the questions about entries need, of a record that passes 9 to 13; `names_map` and `no_named_args`, by what each
-- question answered. `h` is the head that was read. Assumes nothing.
use mathlib.Core.Path.{◌≡◌, refl, sym, ap, ap₂, ◌∙◌}
use mathlib.Core.Bool.{true, false}
use mathlib.Core.List.{List, [], ◌++◌}
use Prim.Native.Nat.{ℕ, zero, suc, ◌+◌, ◌*◌, ◌≤◌}
use native.Mathlib.Nat.{zero-add}
use native.Mathlib.Omega.{arith}
use lib.ListN.{length, drop}
use lib.Seq.{drop-drop}
use Rattle.std.specs.Prelude.{Ok, Err}
use Rattle.rules.specs.Listing.{all}
use Rattle.rules.specs.Cells.{write_each}
use Rattle.rules.specs.Text.{text_in}
use Rattle.rules.specs.Value.{value_width, value_cells, read_value, call_text}
use Rattle.rules.specs.Answer.{Answer, fine, refuse, none, count_and_name, call_area, part_of, ◌then◌, ask}
use Rattle.rules.specs.CallRecord.{Head, Named, read_head, read_pair, pair_cells, named_in, entries_of, named_of}
use Rattle.rules.specs.Board.{named_cells}
use Rattle.rules.specs.CallQuestions.{ask_call}
use Rattle.rules.specs.Binding.{double_passes, ask_entries, ask_named_remainder}
use Rattle.rules.specs.Collection.{call_of}
use Rattle.rules.specs.Accessors.{denied, gives, access_of, ask_writing, is_word, names_map, names_map_cells, no_named_args}
use Rattle.rules.proofs.LawsRecord.{length_write_each}
use Rattle.cells.specs.Question.{number_of, refused}
use Rattle.cells.specs.declared.question.Question.{Question}
use Rattle.cells.specs.Record.{pair_at}
use Rattle.cells.specs.Out.{stored}
use Rattle.cells.proofs.LawsListed.{length_listed}
use Rattle.cells.proofs.LawsOut.{stored_stored, stored_first}
use Rattle.cells.proofs.LawsWrite.{value_cells_two, written_more}
use Rattle.calls.specs.Places.{named_at}
use Rattle.calls.specs.Named.{pair_named, names_in, entries_in}
use Rattle.calls.proofs.LawsNamed.{passed_few, name_inside_lem, written_listed, entries_listed, names_formed, keys_formed, names_near, N-listed, names_text}
use Rattle.answers.specs.Answer.{place_of}
use Rattle.answers.specs.declared.answer.EntryRefusal.{EntryRefusal}
use Rattle.answers.specs.declared.answer.EntryRefusal.TheVariants.{NotText, Repeated}
use Rattle.accessors.specs.Answer.{entry_denied, error_number, error_detail, numbered, Accessing}
use Rattle.accessors.specs.Entries.{KeysFormed, NamesInside, NamesText}
use Rattle.accessors.specs.declared.answer.FunctionError.TheVariants.{Record, KwArgsIsNotDict}
use Rattle.accessors.proofs.LawsAccess.{accessing_denied, accessing_gives, writing_numbered, writing_call, writing_long, double_refused, double_fine}
use Rattle.accessors.proofs.LawsEntries.{entries_words}

-- ---- the cells of named values

named_wide : (v : Named) → length (named_cells v) ≡ 4
unfolding named_cells pair_cells value_cells
named_wide v = refl

module _ (area cells : List ℕ) (h : Head) where
  -- those of a pair whose name is a text are the pair's own
  named_cells_lem : (k : ℕ) → (pair_at cells (named_at 64 h k)).kind ≡ call_text → named_cells (pair_named area cells h k) ≡ value_cells (pair_at cells (named_at 64 h k)) ++ value_cells (pair_at cells (named_at 64 h k + 2))
  unfolding named_cells pair_cells pair_named named_in text_in read_pair pair_at value_width
  named_cells_lem k e =
      ap₂ (λ n l. value_cells (record { kind = n; payload = (read_value (drop (named_at 64 h k) cells)).payload }) ++ value_cells (read_value l)) (sym e) (drop-drop 2 (named_at 64 h k) cells)

  -- one pair more, by its two values
  pub named_more : (k : ℕ) (before now : List ℕ) → (pair_at cells (named_at 64 h k)).kind ≡ call_text → 4 * k + 4 ≤ length before
      → now ≡ stored before 0 (write_each named_cells (names_in area cells h k)) → length now ≡ length before
      → stored (stored now (4 * k) (value_cells (pair_at cells (named_at 64 h k)))) (4 * k + 2) (value_cells (pair_at cells (named_at 64 h k + 2)))
      ≡ stored before 0 (write_each named_cells (names_in area cells h (k + 1)))
  named_more k before now text fits so long =
      stored_stored now (value_cells (pair_at cells (named_at 64 h k))) (value_cells (pair_at cells (named_at 64 h k + 2))) (4 * k) (4 * k + 2) (ap (λ n. 4 * k + n) (sym (value_cells_two (pair_at cells (named_at 64 h k)))))
      (omega (arith, value_cells_two (pair_at cells (named_at 64 h k + 2))))
      ∙ ap₂ (λ b l. stored b (4 * k) l) so (sym (named_cells_lem k text))
      ∙ ap₂ (λ n j. stored (stored before 0 (write_each named_cells (names_in area cells h k))) n (named_cells (pair_named area cells h j))) (sym (zero-add (4 * k))) (sym (zero-add k))
      ∙ written_more 4 named_cells named_wide (pair_named area cells h) 0 k 0 before (omega arith)

-- ---- a record that passes 9 to 13

module _ (area cells : List ℕ) (h : Head) (read : h ≡ read_head cells) (passed : ask_call 64 cells area ≡ fine) where
  pub entries_formed : KeysFormed area cells h
  entries_formed = record { few = passed_few area cells h read passed; formed = keys_formed area cells h read passed }

  pub names_inside : NamesInside area cells h h.n
  names_inside =
      record {
        few = omega (arith, (passed_few area cells h read passed).few_n);
        within = λ j below. name_inside_lem area (pair_at cells (named_at 64 h j)) (names_formed area cells h read passed j below);
      }

  pub names_few : h.n + h.d ≤ 128
  names_few = omega (arith, (passed_few area cells h read passed).few_n, (passed_few area cells h read passed).few_d)

  pub names_texts : all (λ e. is_word e.key) (entries_of (call_of cells area).double) ≡ true → NamesText cells h (h.n + h.d)
  names_texts texts = record { few = names_few; near = names_near area cells h read passed; text = names_text area cells h read passed texts }

  -- ---- `no_named_args`, by what its questions answered

  pub none_double : h.double_kind ≡ 2 → denied 17 none ≡ no_named_args 64 cells area
  unfolding no_named_args
  none_double e = rw (passed, double_refused area cells h read passed e)

  module _ (double : h.double_kind ≡ 2 → ⊥) where
    pub none_text : all (λ e. is_word e.key) (entries_in area cells h 0 h.d) ≡ false → denied 18 none ≡ no_named_args 64 cells area
    unfolding no_named_args
    none_text e = rw (passed, double_fine area cells h read passed double, entries_listed area cells h read passed, e)

    module _ (texts : all (λ e. is_word e.key) (entries_in area cells h 0 h.d) ≡ true) where
      asks_texts : all (λ e. is_word e.key) (entries_of (call_of cells area).double) ≡ true
      asks_texts = ap (all (λ e. is_word e.key)) (entries_listed area cells h read passed) ∙ texts

      -- 24 is what is left
      remainder_left : no_named_args 64 cells area ≡ access_of (ask_named_remainder false (names_in area cells h (h.n + h.d))) 0
      unfolding no_named_args
      remainder_left = rw (passed, double_fine area cells h read passed double, asks_texts, N-listed area cells h read passed asks_texts)

      pub none_gives : h.n + h.d ≡ 0 → gives 0 ≡ no_named_args 64 cells area
      none_gives e = sym (remainder_left ∙ ap (λ n. access_of (ask_named_remainder false (names_in area cells h n)) 0) e)

      pub none_extra : (count : ℕ) → h.n + h.d ≡ count → (count ≡ 0 → ⊥)
          → denied 24 (count_and_name count (place_of call_area (pair_at cells (named_at 64 h 0)).payload)) ≡ no_named_args 64 cells area
      unfolding part_of pair_named named_in text_in read_pair pair_at
      none_extra zero e some = absurd (some refl)
      none_extra (suc n) e some =
          ap (λ m. denied 24 (count_and_name (suc m) (place_of call_area (pair_at cells (named_at 64 h 0)).payload))) (sym (length_listed (pair_named area cells h) 1 n))
          ∙ sym (remainder_left ∙ ap (λ m. access_of (ask_named_remainder false (names_in area cells h m)) 0) e)

pub none_refused : (cells area : List ℕ) (n : ℕ) → ask_call 64 cells area ≡ refuse n none → denied n none ≡ no_named_args 64 cells area
unfolding no_named_args
none_refused cells area n e = rw e

-- ---- `names_map`

module _ (cells area out : List ℕ) where
  abbrev asking : Answer → Answer → Answer → Answer
  asking writing double entries = writing then double then entries

  abbrev asks : Answer
  asks = asking (ask_writing 64 64 cells area out) (ask 17 (double_passes (call_of cells area).double)) (ask_entries [] [] (call_of cells area).named (entries_of (call_of cells area).double))

  pub names_refused : (q : Question) → ask_writing 64 64 cells area out ≡ refused q → Accessing (names_map 64 64 cells area out) (names_map_cells cells area) out out (Err (Record q))
  unfolding names_map
  names_refused q e =
      accessing_denied asks (length (named_of (call_of cells area))) (names_map_cells cells area) out (Record q)
      (ap (λ a. asking a (ask 17 (double_passes (call_of cells area).double)) (ask_entries [] [] (call_of cells area).named (entries_of (call_of cells area).double))) e) (writing_numbered cells area out (number_of q) e)

  module _ (h : Head) (read : h ≡ read_head cells) (passed : ask_writing 64 64 cells area out ≡ fine) where
    call : ask_call 64 cells area ≡ fine
    call = writing_call cells area out passed

    pub names_double : h.double_kind ≡ 2 → Accessing (names_map 64 64 cells area out) (names_map_cells cells area) out out (Err KwArgsIsNotDict)
    unfolding names_map
    names_double e =
        accessing_denied asks (length (named_of (call_of cells area))) (names_map_cells cells area) out KwArgsIsNotDict
        (ap₂ (λ a b. asking a b (ask_entries [] [] (call_of cells area).named (entries_of (call_of cells area).double))) passed (double_refused area cells h read call e)) refl

    module _ (double : h.double_kind ≡ 2 → ⊥) where
      -- 18 and 19 are what is left
      entries_left : (a : Answer) → a ≡ ask_entries [] [] (names_in area cells h h.n) (entries_in area cells h 0 h.d) → asks ≡ a
      entries_left a e =
          ap₂ (λ x y. asking x y (ask_entries [] [] (call_of cells area).named (entries_of (call_of cells area).double))) passed (double_fine area cells h read call double)
          ∙ ap₂ (ask_entries [] []) (written_listed area cells h read call) (entries_listed area cells h read call)
          ∙ sym e

      pub names_entries : (e : EntryRefusal) → refuse (error_number (entry_denied e)) (error_detail (entry_denied e)) ≡ ask_entries [] [] (names_in area cells h h.n) (entries_in area cells h 0 h.d)
          → Accessing (names_map 64 64 cells area out) (names_map_cells cells area) out out (Err (entry_denied e))
      unfolding names_map
      names_entries e is =
          accessing_denied asks (length (named_of (call_of cells area))) (names_map_cells cells area) out (entry_denied e)
          (entries_left (refuse (error_number (entry_denied e)) (error_detail (entry_denied e))) is) (one_number e)
        where
          one_number : (x : EntryRefusal) → numbered (entry_denied x) ≡ true
          one_number NotText = refl
          one_number (Repeated name) = refl

      module _ (asked : fine ≡ ask_entries [] [] (names_in area cells h h.n) (entries_in area cells h 0 h.d)) where
        texts : all (λ e. is_word e.key) (entries_of (call_of cells area).double) ≡ true
        texts =
            ap (all (λ e. is_word e.key)) (entries_listed area cells h read call)
            ∙ entries_words [] [] (names_in area cells h h.n) (entries_in area cells h 0 h.d) (sym asked)

        pub writing_texts : NamesText cells h (h.n + h.d)
        writing_texts = names_texts area cells h read call texts

        pub writing_room : 4 * (h.n + h.d) ≤ length out
        writing_room = omega (arith, names_few area cells h read call, writing_long cells area out passed)

        pub names_written : (after : List ℕ) → after ≡ stored out 0 (write_each named_cells (names_in area cells h (h.n + h.d)))
            → Accessing (names_map 64 64 cells area out) (names_map_cells cells area) out after (Ok (h.n + h.d))
        unfolding names_map names_map_cells
        names_written after so =
            accessing_gives asks (length (named_of (call_of cells area))) (names_map_cells cells area) out (h.n + h.d) after
            (entries_left fine asked) (sym count)
            (so
            ∙ ap (λ vs. stored out 0 (write_each named_cells vs)) (sym (N-listed area cells h read call texts))
            ∙ stored_first out (write_each named_cells (named_of (call_of cells area))) fits)
          where
            count : length (named_of (call_of cells area)) ≡ h.n + h.d
            count = ap length (N-listed area cells h read call texts) ∙ length_listed (pair_named area cells h) 0 (h.n + h.d)

            fits : length (write_each named_cells (named_of (call_of cells area))) ≤ length out
            fits = omega (arith, length_write_each 4 (λ l. pair_named area cells h 0) named_cells named_wide (named_of (call_of cells area)), count, writing_room)
