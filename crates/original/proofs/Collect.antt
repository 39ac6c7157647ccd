-- The Rust's collector against 01: over every parameter record that passes 1 to 7 and every call record that passes 9 to 13,
-- `collect_inline_impl` ends as questions 15 to 24 and the placement say, with each name read in its area. It is read as TotalCollect has it;
-- that it doesn't panic over such a list is `collect_built`.
-- Assumes nothing.
use mathlib.Core.Path.{◌≡◌, refl}
use mathlib.Core.Bool.{Bool, true, false, cond}
use mathlib.Core.List.{List, [], ◌∷◌, map}
use mathlib.Core.Option.{some}
use Prim.Native.Nat.{ℕ, zero, suc, ◌≤◌}
use native.Mathlib.Omega.{arith}
use lib.Dec.{eqb}
use Rattle.rules.specs.Listing.{all}
use Rattle.rules.specs.Text.{same_bytes, differ, bytes_at, text_in}
use Rattle.rules.specs.Value.{call_text}
use Rattle.rules.specs.Answer.{fine, ◌then◌, ask, part_of, Part, spec_area, call_area}
use Rattle.rules.specs.ParameterRecord.{Step, read_parameters}
use Rattle.rules.specs.CallRecord.{Pair, read_call, named_in, key_in, entry_in, word, number, word_of, words, double_of, entries_of, call_in, named_of, positionals_of}
use Rattle.rules.specs.Parameters.{Style, pos_only, Act, adds, slash, bare_star, unknown_code, act, next_style, added, added_from, parameters_of}
use Rattle.rules.specs.ParameterQuestions.{ask_parameters, list_of}
use Rattle.rules.specs.CallQuestions.{entries_differ, names_differ, ask_form, ask_call}
use Rattle.rules.specs.Collection.{call_of}
use Rattle.rules.specs.Binding.{texts_of}
use Rattle.rules.proofs.LawsListing.{all_append, map_map}
use Rattle.rules.proofs.LawsText.{same_bytes_refl}
use Rattle.rules.proofs.LawsAnswer.{then_right, ask_true}
use Rattle.rules.proofs.LawsParameters.{list_positional_first, list_names_apart}
use Rattle.original.specs.Spec.{spec_of}
use Rattle.original.specs.Locals.{usize_max}
use Rattle.original.specs.Ending.{part_bytes, ending}
use Rattle.original.proofs.TotalCollect.{collect_inline}
use Rattle.original.proofs.LawsSpec.{no_parameter}
use Rattle.original.proofs.LawsEnds.{reads_parameter, reads_named}
use Rattle.original.proofs.LawsBuilt.{list_only_first, list_one_args, list_one_kwargs, list_few}
use Rattle.original.proofs.LawsCollect.{inline}

-- ---- names are read as their bytes

module _ (spec_bytes call_bytes : List ℕ) where
  abbrev read : Part → List ℕ
  read = part_bytes spec_bytes call_bytes

  spec_read : (payload : ℕ) → same_bytes (read (part_of spec_area (text_in spec_bytes payload))) (text_in spec_bytes payload).bytes ≡ true
  unfolding part_bytes part_of text_in bytes_at
  spec_read payload = same_bytes_refl (bytes_at spec_bytes payload)

  call_read : (payload : ℕ) → same_bytes (read (part_of call_area (text_in call_bytes payload))) (text_in call_bytes payload).bytes ≡ true
  unfolding part_bytes part_of text_in bytes_at
  call_read payload = same_bytes_refl (bytes_at call_bytes payload)

  reads_added : (s : Style) (a : Act) (name : ℕ) → all (reads_parameter read) (added spec_bytes s a name) ≡ true
  reads_added s (adds k) name = rw (spec_read name)
  reads_added s slash name = refl
  reads_added s bare_star name = refl
  reads_added s unknown_code name = refl

  reads_steps : (s : Style) (ts : List Step) → all (reads_parameter read) (added_from spec_bytes s ts) ≡ true
  reads_steps s [] = refl
  reads_steps s (t ∷ ts) =
      all_append (reads_parameter read) (added spec_bytes s (act t) t.name) (added_from spec_bytes (next_style s (act t)) ts) (reads_added s (act t) t.name) (reads_steps (next_style s (act t)) ts)

  reads_list : (cells : List ℕ) → all (reads_parameter read) (list_of cells spec_bytes) ≡ true
  unfolding list_of parameters_of
  reads_list cells = reads_steps pos_only (read_parameters cells).steps

  reads_pairs : (ps : List Pair) → all (reads_named read) (map (named_in call_bytes) ps) ≡ true
  unfolding named_in
  reads_pairs [] = refl
  reads_pairs (p ∷ ps) = rw (call_read p.key.payload) (reads_pairs ps)

  reads_words : (ps : List Pair) → all (reads_named read) (words (map (entry_in call_bytes) ps)) ≡ true
  unfolding entry_in key_in
  reads_words [] = refl
  reads_words (p ∷ ps) = all_append (reads_named read) (word_of (key_in call_bytes p.key) p.value) (words (map (entry_in call_bytes) ps)) (go (eqb p.key.kind call_text)) (reads_words ps)
    where
      go : (c : Bool) → all (reads_named read) (word_of (cond c (word (text_in call_bytes p.key.payload)) (number p.key.payload)) p.value) ≡ true
      go true = rw (call_read p.key.payload)
      go false = refl

  pub reads_call : (cells : List ℕ) → all (reads_named read) (named_of (call_of cells call_bytes)) ≡ true
  unfolding named_of call_of call_in
  reads_call cells =
      all_append (reads_named read) (map (named_in call_bytes) (read_call cells).named) (words (entries_of (double_of (read_call cells).double_kind (map (entry_in call_bytes) (read_call cells).entries))))
      (reads_pairs (read_call cells).named) (go (read_call cells).double_kind)
    where
      go : (k : ℕ) → all (reads_named read) (words (entries_of (double_of k (map (entry_in call_bytes) (read_call cells).entries)))) ≡ true
      go zero = refl
      go (suc zero) = reads_words (read_call cells).entries
      go (suc (suc k)) = refl

-- ---- of a call that passes

written_differ : (B : ℕ) (cells area : List ℕ) → ask_call B cells area ≡ fine → differ (texts_of (call_of cells area).named) ≡ true
unfolding ask_call names_differ call_of call_in texts_of
written_differ B cells area e =
    rw (map_map (named_in area) (λ v. v.name) (read_call cells).named)
    (ask_true 13 (names_differ area (read_call cells)) (then_right (ask 12 (entries_differ area (read_call cells))) (ask 13 (names_differ area (read_call cells))) (then_right (ask_form B cells area) (ask 12 (entries_differ area (read_call cells)) then ask 13 (names_differ area (read_call cells))) e)))

-- ---- the theorem

-- over all records that pass, for limits that a `usize` can count
pub collect_original : (A B : ℕ) (spec_cells spec_bytes call_cells call_bytes : List ℕ) → A ≤ usize_max → ask_parameters A spec_cells spec_bytes ≡ fine → ask_call B call_cells call_bytes ≡ fine
    → some (collect_inline (spec_of (list_of spec_cells spec_bytes)) (call_of call_cells call_bytes)) ≡ ending spec_bytes call_bytes (list_of spec_cells spec_bytes) (call_of call_cells call_bytes)
unfolding ending positionals_of named_of
collect_original A B spec_cells spec_bytes call_cells call_bytes small list_passes call_Passes =
    inline (part_bytes spec_bytes call_bytes) (list_of spec_cells spec_bytes) no_parameter (call_of call_cells call_bytes)
    (list_positional_first A spec_cells spec_bytes list_passes) (list_only_first A spec_cells spec_bytes list_passes) (list_names_apart A spec_cells spec_bytes list_passes)
    (list_one_args A spec_cells spec_bytes list_passes) (list_one_kwargs A spec_cells spec_bytes list_passes) (omega (arith, list_few A spec_cells spec_bytes list_passes))
    (written_differ B call_cells call_bytes call_Passes) (reads_list spec_bytes call_bytes spec_cells) (reads_call spec_bytes call_bytes call_cells)

-- 01's limit is one of those
pub limit_small : 64 ≤ usize_max
unfolding usize_max
limit_small = omega arith
