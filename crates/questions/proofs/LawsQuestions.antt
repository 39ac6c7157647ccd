-- Laws of a call that is asked 15 to 24 while its names are resolved: which refusal each step gives, and what is left to ask after it.
-- In order: the names of entries that passed 18; 15 and 16; 17 to 19; 20 to 24.
-- Assumes nothing.
use mathlib.Core.Path.{◌≡◌, refl, sym, ap, ap₂, subst, ◌∙◌}
use mathlib.Core.Bool.{Bool, true, false, cond}
use mathlib.Core.List.{List, [], ◌∷◌, ◌++◌}
use mathlib.Core.Option.{Option, none, some}
use Prim.Native.Nat.{ℕ, zero, suc, ◌+◌, ◌*◌, ◌-◌, ◌≤◌}
use native.Mathlib.Omega.{arith}
use borrow.Author.Tests.{eq-eqb, ne_eqb, eqb-true, eqb-false}
use lib.Dec.{eqb}
use lib.ListN.{drop, get_or, length-append}
use Rattle.rules.specs.Text.{Text, text_in}
use Rattle.rules.specs.Value.{Value, call_text}
use Rattle.rules.specs.Answer as answers
use Rattle.rules.specs.Answer.{Answer, fine, refuse, ◌then◌, name, part_of}
use Rattle.rules.specs.CallRecord.{Head, Call, Named, word, number, word_of, words, read_pair, named_in, key_in, entry_in, entries_of, positionals_of, named_of}
use Rattle.rules.specs.Parameters.{Parameter, positional_count}
use Rattle.rules.specs.Binding.{ask_repeats, ask_entry, ask_entries, ask_placed, ask_binding}
use Rattle.rules.proofs.LawsAnswer.{fine_refuse, then_right}
use Rattle.rules.proofs.LawsShort.{tally_most}
use Rattle.cells.specs.Record.{pair_at}
use Rattle.cells.specs.Listed.{listed}
use Rattle.builder.specs.Spec.{index_of}
use Rattle.builder.specs.Params.{parameter_of, parameter_at, parameters_in}
use Rattle.builder.specs.declared.spec.ParametersSpec.{ParametersSpec}
use Rattle.cells.proofs.LawsListed.{length_listed}
use Rattle.calls.specs.Head.{named_from, entries_from}
use Rattle.answers.specs.Answer.{answer_in, entry_refused}
use Rattle.findings.specs.Resolved.{named_at, Resolved}
use Rattle.findings.specs.Resolve.{pairs_from, with_count}
use Rattle.findings.specs.Found.{first_named, first_missing}
use Rattle.findings.specs.EntriesDone.{written_names, entry_at, entries_in, entries_answer, EntriesReady, EntriesDone}
use Rattle.questions.specs.Judge.{lost_to, missing_as, first_of, refused_at, star_as, repeats_as, required_as, surplus_as, unknown_as, placed_as, judged_answer, refusing}
use Rattle.questions.specs.Questions.{ask_after_names, CallReady, Judging}
use Rattle.std.specs.Prelude.{Result, Ok, Err}
use Rattle.answers.specs.declared.answer.Refusal.{Refusal}
use Rattle.answers.specs.declared.answer.Refusal.TheVariants.{ArgsArrayIsNotIterable, RepeatedParameter, ExtraPositionalArg, ExtraNamedArg}
use Rattle.answers.specs.declared.answer.EntryRefusal.{EntryRefusal}
use Rattle.answers.specs.declared.answer.EntryRefusal.TheVariants.{NotText, Repeated}
use Rattle.findings.proofs.LawsAsked.{repeated_at}
use Rattle.findings.proofs.LawsNames.{few_list}
use Rattle.slots.proofs.LawsPlaced.{parameter, repeats_found}
use Rattle.questions.proofs.LawsAskPlaced.{placed_asked}

-- ---- entries that passed 18 are named values

word_named : (area cells : List ℕ) (at : ℕ) (qs : List Parameter) (P : List Value) (before : List Named) (after : Answer) → (ask_entry qs P before (entry_at area cells at).key then after) ≡ fine
    → word_of (entry_at area cells at).key (entry_at area cells at).value ≡ named_at area cells at ∷ []
unfolding entry_at entry_in key_in named_at named_in
word_named area cells at qs P before after = go (eqb (read_pair (drop at cells)).key.kind call_text)
  where
    text : Text
    text = text_in area (read_pair (drop at cells)).key.payload

    go : (b : Bool) → (ask_entry qs P before (cond b (word text) (number (read_pair (drop at cells)).key.payload)) then after) ≡ fine
        → word_of (cond b (word text) (number (read_pair (drop at cells)).key.payload)) (read_pair (drop at cells)).value ≡ record { name = text; value = (read_pair (drop at cells)).value } ∷ []
    go true e = refl
    go false e = fine_refuse (sym e)

words_named : (area cells : List ℕ) (from : ℕ) (qs : List Parameter) (P : List Value) (before : List Named) (k n : ℕ) → ask_entries qs P before (entries_in area cells from k n) ≡ fine
    → words (entries_in area cells from k n) ≡ listed (λ j. named_at area cells (from + 4 * j)) k n
words_named area cells from qs P before k zero e = refl
words_named area cells from qs P before k (suc n) e =
    ap₂ (λ a b. a ++ b)
    (word_named area cells (from + 4 * k) qs P before (ask_entries qs P (before ++ word_of (entry_at area cells (from + 4 * k)).key (entry_at area cells (from + 4 * k)).value) (entries_in area cells from (suc k) n)) e)
    (words_named area cells from qs P (before ++ word_of (entry_at area cells (from + 4 * k)).key (entry_at area cells (from + 4 * k)).value) (suc k) n
    (then_right (ask_entry qs P before (entry_at area cells (from + 4 * k)).key) (ask_entries qs P (before ++ word_of (entry_at area cells (from + 4 * k)).key (entry_at area cells (from + 4 * k)).value) (entries_in area cells from (suc k) n)) e))

-- ---- an answer, with how many pairs the remainder then has

counted_is : (r : Result Unit Refusal) (n m : ℕ) → with_count r n ≡ Ok m → n ≡ m
counted_is (Ok u) n m e = cc
counted_is (Err a) n m e = absurd cc

-- ---- a refusal, which resolves nothing

-- 20 to 24 hand on no other refusal
placed_refusing : (l : ParametersSpec) (cells : List ℕ) (h : Head) (next : ℕ) (sources rest : List ℕ) (count : ℕ) → refusing (with_count (placed_as l cells h next sources rest count) count) ≡ true
unfolding placed_as required_as surplus_as unknown_as
placed_refusing l cells h next sources rest count =
    first (lost_to count 0 (index_of l.indices.kwargs)) (first_missing l.params.codes sources next (l.params.len - next))
    (lost_to (h.p + h.s) l.indices.num_positional (index_of l.indices.args))
  where
    styled : (style payload : ℕ) → refusing (Err (missing_as style payload)) ≡ true
    styled zero payload = refl
    styled (suc zero) payload = refl
    styled (suc (suc style)) payload = refl

    first : (a : Bool) (o : Option ℕ) (b : Bool)
        → refusing
        (with_count
        (first_of (cond a (Err (ExtraNamedArg count (pair_at cells (get_or rest 0 0)).payload)) (Ok tt))
        (first_of (refused_at o (λ i. missing_as (get_or l.params.styles i 0) (get_or l.params.names i 0))) (cond b (Err (ExtraPositionalArg (h.p + h.s - l.indices.num_positional))) (Ok tt))))
        count)
        ≡ true
    first true o b = refl
    first false (some i) b = styled (get_or l.params.styles i 0) (get_or l.params.names i 0)
    first false none true = refl
    first false none false = refl

pub judged_refused : {qs : List Parameter} {c : Call} {cells area : List ℕ} {asked : Answer} {sources rest : List ℕ} (a : Refusal) → refusing (Err a) ≡ true → answer_in (Err a) ≡ asked → Judging qs c cells area asked sources rest (Err a)
judged_refused a u e = record { answer = e; refusal = u; resolved = λ count f. absurd cc }

-- an entry's refusal is collection's
pub entry_refusing : (e : EntryRefusal) → refusing (Err (entry_refused e)) ≡ true
entry_refusing NotText = refl
entry_refusing (Repeated payload) = refl

entry_told : (e : EntryRefusal) → answer_in (Err (entry_refused e)) ≡ entries_answer (Err e)
entry_told NotText = refl
entry_told (Repeated payload) = refl

module _ {spec : List ℕ} {l : ParametersSpec} {cells area : List ℕ} {h : Head} {next : ℕ} {c : Call} (ready : CallReady spec l cells area h next c) where
  abbrev qs : List Parameter
  qs = parameters_in spec l.params

  abbrev P : List Value
  P = positionals_of c

  -- ---- 15 and 16

  pub next_few : next ≤ 64
  unfolding positional_count
  next_few = omega (arith, ready.upto, tally_most qs, few_list spec l cells area ready.list)

  pub entries_ready : {sources rest : List ℕ} {before : ℕ} → Resolved qs cells area (written_names area cells h) sources rest before → EntriesReady spec l cells area h next sources rest before
  entries_ready resolved = record { list = ready.list; P = P; upto = ready.upto; few = ready.few; keys_formed = ready.keys_formed; written = resolved }

  asked_star : h.star_kind ≡ 2 → refuse 15 answers.none ≡ ask_binding qs c
  unfolding ask_binding
  asked_star e = rw (ready.star, eq-eqb h.star_kind 2 e)

  module _ (iterable : h.star_kind ≡ 2 → ⊥) where
    after_star : ask_binding qs c ≡ (ask_repeats P c.named 0 qs then ask_after_names qs c)
    unfolding ask_binding ask_after_names
    after_star = rw (ready.star, ne_eqb h.star_kind 2 iterable)

    module _ (sources rest : List ℕ) (before : ℕ) (r : Resolved qs cells area (written_names area cells h) sources rest before) where
      repeats : (o : Option ℕ) → first_named sources 0 next ≡ o → ask_binding qs c ≡ (repeated_at (parameter spec l ready.list) o then ask_after_names qs c)
      repeats o e =
          after_star
          ∙ ap (λ a. a then ask_after_names qs c)
          (ap (λ vs. ask_repeats P vs 0 qs) ready.written
          ∙ repeats_found spec l ready.list cells area P (written_names area cells h) sources rest before next ready.upto r
          ∙ ap (repeated_at (parameter spec l ready.list)) e)

      asked_repeated : (i : ℕ) → first_named sources 0 next ≡ some i → answer_in (Err (RepeatedParameter (get_or l.params.names i 0))) ≡ ask_binding qs c
      unfolding parameter_at parameter_of part_of text_in
      asked_repeated i e = sym (repeats (some i) e)

  -- a refusal by 15 is the call's
  pub star_refused : (a : Refusal) → star_as h ≡ Err a → (refusing (Err a) ≡ true) × (answer_in (Err a) ≡ ask_binding qs c)
  unfolding star_as
  star_refused a = go (eqb h.star_kind 2) refl
    where
      go : (b : Bool) → eqb h.star_kind 2 ≡ b → ◌≡◌ {A = Result Unit Refusal} (cond b (Err ArgsArrayIsNotIterable) (Ok tt)) (Err a) → (refusing (Err a) ≡ true) × (answer_in (Err a) ≡ ask_binding qs c)
      go true e g = let same : ArgsArrayIsNotIterable ≡ a = cc in subst (λ x. (refusing (Err x) ≡ true) × (answer_in (Err x) ≡ ask_binding qs c)) same (refl, asked_star (eqb-true h.star_kind 2 e))
      go false e g = absurd cc

  iterable_of : {u : Unit} → star_as h ≡ Ok u → h.star_kind ≡ 2 → ⊥
  unfolding star_as
  iterable_of {u} = go (eqb h.star_kind 2) refl
    where
      go : (b : Bool) → eqb h.star_kind 2 ≡ b → ◌≡◌ {A = Result Unit Refusal} (cond b (Err ArgsArrayIsNotIterable) (Ok tt)) (Ok u) → h.star_kind ≡ 2 → ⊥
      go true e g = absurd cc
      go false e g = eqb-false h.star_kind 2 e

  module _ {u : Unit} (star : star_as h ≡ Ok u) {sources rest : List ℕ} {before : ℕ} (r : Resolved qs cells area (written_names area cells h) sources rest before) where
    -- so is one by 16, where 15 does not refuse
    pub repeats_refused : (a : Refusal) → repeats_as l.params next sources ≡ Err a → (refusing (Err a) ≡ true) × (answer_in (Err a) ≡ ask_binding qs c)
    unfolding repeats_as
    repeats_refused a = go (first_named sources 0 next) refl
      where
        go : (o : Option ℕ) → first_named sources 0 next ≡ o → refused_at o (λ i. RepeatedParameter (get_or l.params.names i 0)) ≡ Err a → (refusing (Err a) ≡ true) × (answer_in (Err a) ≡ ask_binding qs c)
        go (some i) f g =
            let same : RepeatedParameter (get_or l.params.names i 0) ≡ a = cc in
            subst (λ x. (refusing (Err x) ≡ true) × (answer_in (Err x) ≡ ask_binding qs c)) same (refl, asked_repeated (iterable_of star) sources rest before r i f)
        go none f g = absurd cc

    -- where neither refuses, 17 to 24 are left
    pub asked_names : {v : Unit} → repeats_as l.params next sources ≡ Ok v → ask_after_names qs c ≡ ask_binding qs c
    unfolding repeats_as
    asked_names {v} = go (first_named sources 0 next) refl
      where
        go : (o : Option ℕ) → first_named sources 0 next ≡ o → refused_at o (λ i. RepeatedParameter (get_or l.params.names i 0)) ≡ Ok v → ask_after_names qs c ≡ ask_binding qs c
        go (some i) f g = absurd cc
        go none f g = sym (repeats (iterable_of star) sources rest before r none f)

  -- ---- 17 to 19

  pub asked_double : h.double_kind ≡ 2 → refuse 17 answers.none ≡ ask_after_names qs c
  unfolding ask_after_names
  asked_double e = rw (ready.double, eq-eqb h.double_kind 2 e)

  module _ (dictionary : h.double_kind ≡ 2 → ⊥) {sources rest : List ℕ} {r : Result ℕ EntryRefusal} (done : EntriesDone spec l cells area h next sources rest r) where
    entries_asked : entries_answer r ≡ ask_entries qs P c.named (entries_of c.double)
    entries_asked = done.answer P ready.upto ∙ sym (ap₂ (ask_entries qs P) ready.written ready.entries)

    after_double : ask_after_names qs c ≡ (entries_answer r then ask_placed qs P (named_of c))
    unfolding ask_after_names
    after_double = rw (ready.double, ne_eqb h.double_kind 2 dictionary, ← entries_asked)

    pub asked_entries : (e : EntryRefusal) → r ≡ Err e → answer_in (Err (entry_refused e)) ≡ ask_after_names qs c
    asked_entries e is = entry_told e ∙ sym (after_double ∙ ap (λ a. a then ask_placed qs P (named_of c)) (ap entries_answer is) ∙ refused_then e)
      where
        refused_then : (e : EntryRefusal) → (entries_answer (Err e) then ask_placed qs P (named_of c)) ≡ entries_answer (Err e)
        refused_then NotText = refl
        refused_then (Repeated payload) = refl

    -- ---- 20 to 24

    module _ {count : ℕ} (all : r ≡ Ok count) where
      named_are : written_names area cells h ++ pairs_from area cells (entries_from h) h.d ≡ named_of c
      unfolding named_of
      named_are =
          sym
          (ap₂ (λ a b. a ++ b) ready.written
          (ap words ready.entries ∙ words_named area cells (entries_from h) qs P (written_names area cells h) 0 h.d (sym (done.answer P ready.upto) ∙ ap entries_answer all)))

      all_resolved : Resolved qs cells area (named_of c) sources rest count
      all_resolved = subst (λ N. Resolved qs cells area N sources rest count) named_are (done.resolved count all)

      few_kept : count ≤ 128
      few_kept =
          omega (
            arith,
            (done.resolved count all).in_rest,
            length-append (written_names area cells h) (pairs_from area cells (entries_from h) h.d),
            length_listed (λ j. named_at area cells (named_from h + 4 * j)) 0 h.n,
            length_listed (λ j. named_at area cells (entries_from h + 4 * j)) 0 h.d,
            ready.few.few_n,
            ready.few.few_d,
          )

      pub judged_placed : {judged : Result Unit Refusal} → judged ≡ placed_as l cells h next sources rest count → Judging qs c cells area (ask_after_names qs c) sources rest (with_count judged count)
      judged_placed {judged} is =
          record {
            answer =
                ap (λ r. judged_answer (with_count r count)) is
                ∙ placed_asked spec l ready.list cells area P (named_of c) sources rest count next ready.upto all_resolved few_kept h ready.values ready.long
                ∙ sym (after_double ∙ ap (λ x. entries_answer x then ask_placed qs P (named_of c)) all);
            refusal = ap (λ r. refusing (with_count r count)) is ∙ placed_refusing l cells h next sources rest count;
            resolved = λ n e. subst (λ m. Resolved qs cells area (named_of c) sources rest m) (counted_is judged count n e) all_resolved;
          }
