-- Laws of the loop over the entries: one more entry that is free, and an entry that is refused.
-- Assumes nothing.
use Rattle.std.specs.Prelude.{Option, Ok, Err}
use mathlib.Core.Path.{◌≡◌, refl, sym, ap, ap₂, subst, ◌∙◌}
use mathlib.Core.Bool.{true, false, cond}
use mathlib.Core.List.{List, [], ◌∷◌, ◌++◌, append_assoc}
use Prim.Native.Nat.{ℕ, ◌+◌, ◌*◌, ◌-◌, min, ◌≤◌, ◌<◌}
use native.Mathlib.Omega.{arith}
use lib.Dec.{eqb}
use lib.ListN.{length, length-append}
use Rattle.rules.specs.Text.{bytes_at, text_in, among}
use Rattle.rules.specs.Value.{Value, call_text, value_width, well_formed_key}
use Rattle.rules.specs.Answer.{Answer, ◌then◌}
use Rattle.rules.specs.CallRecord.{Head, head_width, pair_width, Named, word, number, word_of, key_in, entry_in, named_in, read_pair}
use Rattle.rules.specs.Parameters.{Parameter, positional_count}
use Rattle.rules.specs.Lookup.{find}
use Rattle.rules.specs.Binding.{texts_of, ask_entries}
use Rattle.cells.specs.Record.{pair_at}
use Rattle.builder.specs.Params.{parameters_in}
use Rattle.builder.specs.declared.spec.ParametersSpec.{ParametersSpec}
use Rattle.cells.proofs.LawsListed.{length_listed, listed_next, listed_more}
use Rattle.calls.specs.Head.{Few, named_from, items_from, entries_from}
use Rattle.lookup.specs.Lookup.{finding_of}
use Rattle.calls.proofs.LawsNamed.{key_inside}
use Rattle.findings.specs.Resolved.{named_at, Resolved}
use Rattle.findings.specs.Resolve.{pairs_from, sources_after, rest_after, count_after}
use Rattle.findings.specs.Entries.{Held, entered_at, entry_refused, entry_answer}
use Rattle.findings.specs.EntriesDone.{written_names, entry_at, entries_in, EntriesReady}
use Rattle.answers.specs.declared.answer.EntryRefusal.{EntryRefusal}
use Rattle.answers.specs.declared.answer.EntryRefusal.TheVariants.{NotText, Repeated}
use Rattle.findings.proofs.LawsResolved.{entered}
use Rattle.findings.proofs.LawsNames.{any_parameter, few_list}
use Rattle.findings.proofs.LawsEntry.{entry_answer_lem, entry_free}

-- the remainder's pairs of names that are resolved are held
pub resolved_held : (qs : List Parameter) (cells area : List ℕ) (N : List Named) (sources rest : List ℕ) (count : ℕ) → Resolved qs cells area N sources rest count → length N ≤ 128 → Held area cells rest count
resolved_held qs cells area N sources rest count r few = record { few = omega (arith, r.in_rest); pairs = r.pairs; named = r.rest_named }

-- where the entries begin is near
pub entries_near : (h : Head) → Few 64 h → entries_from h ≤ 1024
unfolding entries_from items_from named_from head_width value_width pair_width
entries_near h few = omega (arith, few.few_p, few.few_n, few.few_s)

module _ (spec : List ℕ) (l : ParametersSpec) (cells area : List ℕ) (h : Head) (next : ℕ) (sources₀ rest₀ : List ℕ) (count₀ : ℕ) (ready : EntriesReady spec l cells area h next sources₀ rest₀ count₀) (k : ℕ) where
  abbrev qs : List Parameter
  qs = parameters_in spec l.params

  abbrev pair : ℕ
  pair = entries_from h + 4 * k

  -- the named values before entry k
  abbrev before : List Named
  before = written_names area cells h ++ pairs_from area cells (entries_from h) k

  length_before : length before ≡ h.n + k
  length_before =
      length-append (written_names area cells h) (pairs_from area cells (entries_from h) k)
      ∙ ap₂ (λ a b. a + b) (length_listed (λ j. named_at area cells (named_from h + 4 * j)) 0 h.n) (length_listed (λ j. named_at area cells (entries_from h + 4 * j)) 0 k)

  pub before_few : k ≤ h.d → length before ≤ 128
  before_few u = omega (arith, length_before, ready.few.few_n, ready.few.few_d)

  pub before_room : k < h.d → length before < 128
  before_room u = omega (arith, length_before, ready.few.few_n, ready.few.few_d)

  module _ (below : k < h.d) (sources rest : List ℕ) (count : ℕ) (r : Resolved qs cells area before sources rest count) where
    formed : well_formed_key area (pair_at cells pair) ≡ true
    formed = ready.keys_formed k below

    -- the entries from k on are entry k and those behind it
    pub asked_next : (P : List Value) → next ≡ min (length P) (positional_count qs)
        → ask_entries qs P before (entries_in area cells (entries_from h) k (h.d - k))
        ≡ (entry_answer (entered_at spec l area cells pair next sources rest count) then ask_entries qs P (before ++ word_of (key_in area (pair_at cells pair)) (named_at area cells pair).value) (entries_in area cells (entries_from h) (k + 1) (h.d - (k + 1))))
    unfolding entry_at entry_in read_pair pair_at named_at named_in
    asked_next P upto =
        ap (ask_entries qs P before) (listed_next (λ j. entry_at area cells (entries_from h + 4 * j)) k h.d below)
        ∙ ap (λ a. a then ask_entries qs P (before ++ word_of (key_in area (pair_at cells pair)) (named_at area cells pair).value) (entries_in area cells (entries_from h) (k + 1) (h.d - (k + 1))))
        (sym (entry_answer_lem spec l cells area ready.list P before sources rest count next upto r pair formed))

    -- a refused entry refuses the rest
    pub asked_refused : (P : List Value) → next ≡ min (length P) (positional_count qs) → (e : EntryRefusal) → entered_at spec l area cells pair next sources rest count ≡ Err e
        → ask_entries qs P before (entries_in area cells (entries_from h) k (h.d - k)) ≡ entry_refused e
    asked_refused P upto e is =
        asked_next P upto
        ∙ ap (λ r. entry_answer r then ask_entries qs P (before ++ word_of (key_in area (pair_at cells pair)) (named_at area cells pair).value) (entries_in area cells (entries_from h) (k + 1) (h.d - (k + 1)))) is
        ∙ first e _
      where
        first : (r : EntryRefusal) (b : Answer) → (entry_refused r then b) ≡ entry_refused r
        first NotText b = refl
        first (Repeated payload) b = refl

    module _ (f : Option ℕ) (free : entered_at spec l area cells pair next sources rest count ≡ Ok f) where
      facts : (eqb (pair_at cells pair).kind call_text ≡ true) × (finding_of f ≡ find qs (bytes_at area (pair_at cells pair).payload)) × (among (bytes_at area (pair_at cells pair).payload) (texts_of before) ≡ false)
      facts = entry_free spec l cells area ready.list ready.P before sources rest count next ready.upto r pair formed f free

      -- the named values with one more
      one_more : before ++ (named_at area cells pair ∷ []) ≡ written_names area cells h ++ pairs_from area cells (entries_from h) (k + 1)
      one_more =
          append_assoc (written_names area cells h) (pairs_from area cells (entries_from h) k) (named_at area cells pair ∷ [])
          ∙ ap (λ vs. written_names area cells h ++ vs) (sym (listed_more (λ j. named_at area cells (entries_from h + 4 * j)) k))

      pub asked_free : (P : List Value) → next ≡ min (length P) (positional_count qs)
          → ask_entries qs P before (entries_in area cells (entries_from h) k (h.d - k)) ≡ ask_entries qs P (written_names area cells h ++ pairs_from area cells (entries_from h) (k + 1)) (entries_in area cells (entries_from h) (k + 1) (h.d - (k + 1)))
      unfolding key_in named_at named_in read_pair pair_at
      asked_free P upto =
          asked_next P upto
          ∙ ap (λ a. a then ask_entries qs P (before ++ word_of (key_in area (pair_at cells pair)) (named_at area cells pair).value) (entries_in area cells (entries_from h) (k + 1) (h.d - (k + 1)))) (ap entry_answer free)
          ∙ ap (λ b. ask_entries qs P (before ++ word_of (cond b (word (text_in area (pair_at cells pair).payload)) (number (pair_at cells pair).payload)) (named_at area cells pair).value) (entries_in area cells (entries_from h) (k + 1) (h.d - (k + 1)))) facts.0
          ∙ ap (λ vs. ask_entries qs P vs (entries_in area cells (entries_from h) (k + 1) (h.d - (k + 1)))) one_more

      found_name : finding_of f ≡ find qs (named_at area cells pair).name.bytes
      unfolding named_at named_in text_in read_pair pair_at
      found_name = facts.1

      fresh_name : among (named_at area cells pair).name.bytes (texts_of before) ≡ false
      unfolding named_at named_in text_in read_pair pair_at
      fresh_name = facts.2

      pub resolved_free : Resolved qs cells area (written_names area cells h ++ pairs_from area cells (entries_from h) (k + 1)) (sources_after f pair sources) (rest_after f pair count rest) (count_after f count)
      resolved_free =
          subst (λ vs. Resolved qs cells area vs (sources_after f pair sources) (rest_after f pair count rest) (count_after f count)) one_more
          (entered qs cells area ready.list.apart (few_list spec l cells area ready.list) before sources rest count pair r f found_name fresh_name (before_room below) (record { near = omega (arith, entries_near h ready.few, ready.few.few_d); text = facts.0; inside = key_inside area (pair_at cells pair) formed facts.0 }) any_parameter)
