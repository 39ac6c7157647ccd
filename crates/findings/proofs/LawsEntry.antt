-- Laws of one entry: what the code answers for it is what 18 and 19 answer, after the names that are resolved so far; and a free entry is
-- resolved like a written name.
-- Assumes nothing.
use Rattle.std.specs.Prelude.{Option, Some, None, Ok, Err}
use mathlib.Core.Path.{◌≡◌, refl, sym, ap, ap₂, ◌∙◌}
use mathlib.Core.Bool.{Bool, true, false, cond, ◌||◌}
use mathlib.Core.List.{List, []}
use Prim.Native.Nat.{ℕ, min}
use native.Mathlib.Omega.{arith}
use lib.Dec.{eqb, ltb}
use lib.ListN.{length}
use Rattle.rules.specs.Text.{bytes_at, text_in, among}
use Rattle.rules.specs.Value.{Value, call_text, well_formed_key}
use Rattle.rules.specs.Answer.{fine, refuse, name, call_area, part_of}
use Rattle.rules.specs.CallRecord.{Named, word, number, key_in}
use Rattle.rules.specs.Parameters.{Parameter, positional_count}
use Rattle.rules.specs.Lookup.{find}
use Rattle.rules.specs.Passed.{positional_first, names_apart}
use Rattle.rules.specs.Binding.{texts_of, names_filled, ask_entry}
use Rattle.rules.proofs.LawsText.{payload_of_halves}
use Rattle.rules.proofs.LawsFound.{is_below, names_filled_lem}
use Rattle.cells.specs.Text.{text_of, part_at}
use Rattle.cells.specs.Value.{read_key}
use Rattle.cells.specs.Record.{pair_at, key_at}
use Rattle.cells.specs.declared.value.Key.TheVariants.{Word, Number}
use mir.Syntax.{w64}
use mir.Val.{to_z}
use Rattle.builder.specs.Params.{parameters_in}
use Rattle.builder.specs.declared.spec.ParametersSpec.{ParametersSpec}
use Rattle.lookup.specs.Lookup.{finding_of, find_in}
use Rattle.lookup.proofs.LawsBuilt.{lookup_columns}
use Rattle.answers.specs.Answer.{place_of}
use Rattle.calls.proofs.LawsNamed.{key_inside}
use Rattle.findings.specs.Resolved.{Resolved}
use Rattle.findings.specs.Resolve.{Prepared}
use Rattle.findings.specs.Entries.{held_names, taken_by, free_or, entered_by, word_in, word_at, entered_in, entered_at, entry_answer}
use Rattle.answers.specs.declared.answer.EntryRefusal.TheVariants.{NotText}
use Rattle.findings.proofs.LawsResolved.{repeats_is}
use Rattle.findings.proofs.LawsNames.{any_parameter}

-- ---- what is found is taken where 19 says so

module _ (qs : List Parameter) (cells area : List ℕ) (P : List Value) (N : List Named) (sources rest : List ℕ) (count next : ℕ) (b : List ℕ)
    (first : positional_first qs ≡ true) (apart : names_apart [] qs ≡ true) (upto : next ≡ min (length P) (positional_count qs)) (r : Resolved qs cells area N sources rest count) where
  taken_is : (f : Option ℕ) → finding_of f ≡ find qs b → taken_by f next sources (held_names area cells rest count) b ≡ (names_filled P 0 qs b || among b (texts_of N))
  taken_is (Some i) e = ap₂ (λ x y. x || y) (sym filled) (repeats_is qs cells area apart N sources rest count r b (Some i) e any_parameter)
    where
      filled : names_filled P 0 qs b ≡ ltb i next
      filled = names_filled_lem qs P b any_parameter first apart ∙ ap₂ is_below (sym upto) (sym e)
  taken_is None e = repeats_is qs cells area apart N sources rest count r b None e any_parameter ∙ ap (λ x. x || among b (texts_of N)) (sym filled)
    where
      filled : names_filled P 0 qs b ≡ false
      filled = names_filled_lem qs P b any_parameter first apart ∙ ap (is_below (min (length P) (positional_count qs))) (sym e)

-- ---- an entry by the cells of its key

module _ (spec : List ℕ) (l : ParametersSpec) (cells area : List ℕ) (list : Prepared spec l) (P : List Value) (N : List Named) (sources rest : List ℕ) (count next : ℕ)
    (upto : next ≡ min (length P) (positional_count (parameters_in spec l.params))) (r : Resolved (parameters_in spec l.params) cells area N sources rest count)
    (pair : ℕ) (formed : well_formed_key area (pair_at cells pair) ≡ true) where
  abbrev qs : List Parameter
  qs = parameters_in spec l.params

  abbrev found : Option ℕ
  found = find_in spec l.params (bytes_at area (pair_at cells pair).payload)

  -- the answer of the code for a key by its kind
  entered_kind : entered_at spec l area cells pair next sources rest count ≡ cond (eqb (pair_at cells pair).kind call_text) (word_at spec l area cells next sources rest count (pair_at cells pair).payload) (Err NotText)
  unfolding entered_in key_at read_key text_of
  entered_kind =
      ap (λ b. entered_by (cond b (Some (cond (eqb (pair_at cells pair).kind call_text) (Word (text_of (pair_at cells pair).payload)) (Number (to_z w64 (pair_at cells pair).payload)))) None) (word_at spec l area cells next sources rest count)) formed
      ∙ go (eqb (pair_at cells pair).kind call_text)
    where
      go : (b : Bool) → entered_by (Some (cond b (Word (text_of (pair_at cells pair).payload)) (Number (to_z w64 (pair_at cells pair).payload)))) (word_at spec l area cells next sources rest count)
          ≡ cond b (word_at spec l area cells next sources rest count (pair_at cells pair).payload) (Err NotText)
      go true = ap (word_at spec l area cells next sources rest count) (payload_of_halves (pair_at cells pair).payload)
      go false = refl

  module _ (text : eqb (pair_at cells pair).kind call_text ≡ true) where
    found_text : finding_of found ≡ find qs (bytes_at area (pair_at cells pair).payload)
    found_text = lookup_columns spec (bytes_at area (pair_at cells pair).payload) l.params list.is_list.room list.inside

    part_text : part_at area (pair_at cells pair).payload ≡ bytes_at area (pair_at cells pair).payload
    unfolding part_at
    part_text = ap (λ b. cond b (bytes_at area (pair_at cells pair).payload) []) (key_inside area (pair_at cells pair) formed text)

    word_is : word_at spec l area cells next sources rest count (pair_at cells pair).payload
        ≡ free_or (names_filled P 0 qs (bytes_at area (pair_at cells pair).payload) || among (bytes_at area (pair_at cells pair).payload) (texts_of N)) (pair_at cells pair).payload found
    unfolding word_in
    word_is =
        ap (λ b. free_or (taken_by (find_in spec l.params b) next sources (held_names area cells rest count) b) (pair_at cells pair).payload (find_in spec l.params b)) part_text
        ∙ ap (λ b. free_or b (pair_at cells pair).payload found) (taken_is qs cells area P N sources rest count next (bytes_at area (pair_at cells pair).payload) list.first list.apart upto r found found_text)

  -- the answer is that of 18 and 19
  pub entry_answer_lem : entry_answer (entered_at spec l area cells pair next sources rest count) ≡ ask_entry qs P N (key_in area (pair_at cells pair))
  unfolding key_in text_in part_of
  entry_answer_lem = ap entry_answer entered_kind ∙ go (eqb (pair_at cells pair).kind call_text) refl
    where
      pick : (b : Bool) → entry_answer (free_or b (pair_at cells pair).payload found) ≡ cond b (refuse 19 (name (place_of call_area (pair_at cells pair).payload))) fine
      pick true = refl
      pick false = refl

      go : (b : Bool) → eqb (pair_at cells pair).kind call_text ≡ b
          → entry_answer (cond b (word_at spec l area cells next sources rest count (pair_at cells pair).payload) (Err NotText)) ≡ ask_entry qs P N (cond b (word (text_in area (pair_at cells pair).payload)) (number (pair_at cells pair).payload))
      go true e = ap entry_answer (word_is e) ∙ pick (names_filled P 0 qs (bytes_at area (pair_at cells pair).payload) || among (bytes_at area (pair_at cells pair).payload) (texts_of N))
      go false e = refl

  -- what holds of a free entry: its key is a text, found as `rules` finds it, and none of the names before it
  pub entry_free : (f : Option ℕ) → entered_at spec l area cells pair next sources rest count ≡ Ok f
      → (eqb (pair_at cells pair).kind call_text ≡ true) × (finding_of f ≡ find qs (bytes_at area (pair_at cells pair).payload)) × (among (bytes_at area (pair_at cells pair).payload) (texts_of N) ≡ false)
  entry_free f e = go (eqb (pair_at cells pair).kind call_text) refl (sym entered_kind ∙ e)
    where
      go : (b : Bool) → eqb (pair_at cells pair).kind call_text ≡ b → cond b (word_at spec l area cells next sources rest count (pair_at cells pair).payload) (Err NotText) ≡ Ok f
          → (b ≡ true) × (finding_of f ≡ find qs (bytes_at area (pair_at cells pair).payload)) × (among (bytes_at area (pair_at cells pair).payload) (texts_of N) ≡ false)
      go true k w =
          free (names_filled P 0 qs (bytes_at area (pair_at cells pair).payload)) (among (bytes_at area (pair_at cells pair).payload) (texts_of N)) refl (sym (word_is k) ∙ w)
        where
          free : (x y : Bool) → y ≡ among (bytes_at area (pair_at cells pair).payload) (texts_of N) → free_or (x || y) (pair_at cells pair).payload found ≡ Ok f
              → (true ≡ true) × (finding_of f ≡ find qs (bytes_at area (pair_at cells pair).payload)) × (among (bytes_at area (pair_at cells pair).payload) (texts_of N) ≡ false)
          free true y p v = let z : ◌≡◌ {A = ℕ} 0 1 = cc in absurd (omega arith)
          free false true p v = let z : ◌≡◌ {A = ℕ} 0 1 = cc in absurd (omega arith)
          free false false p v = (refl, ap finding_of same ∙ found_text k, sym p)
            where
              same : f ≡ found
              same = cc
      go false k w = let z : ◌≡◌ {A = ℕ} 0 1 = cc in absurd (omega arith)
