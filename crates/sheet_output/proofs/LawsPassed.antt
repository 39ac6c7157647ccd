-- Records that pass their questions can be printed, and what is printed of them fits (01, sheets and the questions): a call that passes 9 to 13
-- (`positionals_printable`, `named_printable`), how many values it has (`positionals_few`, `named_few`), how long any outcome's text is
-- (`output_fits`; `collected_fits` for what collection comes to), and that what collection answers is ready to be printed (`collected_ready`,
-- `collected_room`). Assumes nothing.
use mathlib.Core.Path.{◌≡◌, refl, sym, ap, ◌∙◌}
use mathlib.Core.Bool.{Bool, true, false, cond, not, ◌&&◌, ◌||◌}
use mathlib.Core.List.{List, [], ◌∷◌, ◌++◌, map}
use Prim.Native.Nat.{ℕ, zero, suc, ◌+◌, ◌*◌, ◌≤◌}
use native.Mathlib.Omega.{arith}
use lib.Dec.{eqb}
use lib.ListN.{length, length-append, length-map, length-drop}
use borrow.Author.Tests.{eqb-true}
use Rattle.rules.specs.Listing.{all, keep, map_from}
use Rattle.rules.specs.Text.{is_text, text_in}
use Rattle.rules.specs.Value.{Value, call_text, well_formed_default, well_formed_argument, well_formed_name, well_formed_key}
use Rattle.rules.specs.Answer as rules
use Rattle.rules.specs.Answer.{◌then◌}
use Rattle.rules.specs.CallRecord.{Pair, CallRecord, Call, Named, Entry, Key, word, number, read_head, read_call, named_in, key_in, entry_in, star_of, items_of, double_of, entries_of, word_of, words, call_in, positionals_of, named_of}
use Rattle.rules.specs.Parameters.{Parameter, positional_count}
use Rattle.rules.specs.Lookup.{known}
use Rattle.rules.specs.ParameterQuestions.{ask_parameters, list_of}
use Rattle.rules.specs.CallQuestions.{well_formed_pair, well_formed_entry, parts_well_formed, ask_call, ask_board}
use Rattle.rules.specs.Binding.{ask_binding}
use Rattle.rules.specs.Placement as placement
use Rattle.rules.specs.Placement.{slot_of, place, star_remainder, named_remainder}
use Rattle.rules.specs.Collection.{accepted, outcome_of, call_of, ask_records, collection}
use Rattle.rules.specs.SheetValue.{decimal}
use Rattle.rules.specs.SheetOutput.{line, slot_lines, star_lines, named_lines, accepted_text, detail_text, outcome_text}
use Rattle.sheet_output.specs.Printable.{printable, printable_text, printable_named, printable_parameter, AllPrintable, answer_inside}
use Rattle.rules.proofs.LawsListing.{and_left, and_right, and_both, all_append, all_drop, all_imp, all_map, all_keep}
use Rattle.rules.proofs.LawsText.{is_text_weaker}
use Rattle.rules.proofs.LawsAnswer.{then_left, then_right}
use Rattle.rules.proofs.LawsPrinted.{list_few}
use Rattle.rules.proofs.LawsDigits.{decimal_length}
use Rattle.rules.proofs.LawsSheetOutput.{line_length, refusal_length}
use Rattle.sheet_output.proofs.LawsPrintable.{printable_slot, slot_lines_length, star_lines_length, named_lines_length, detail_length, then_inside, binding_inside, parameters_inside, call_inside, board_inside, text_printable, parameters_printable}
use Rattle.builder.specs.Build.{IsList}
use Rattle.builder.specs.declared.spec.ParametersSpec.{ParametersSpec}
use Rattle.calls.specs.Head.{Few}
use Rattle.calls.proofs.LawsEach.{each_length}
use Rattle.calls.proofs.LawsCall.{parts_positionals, parts_named, parts_items, parts_entries, form_lengths, form_parts, call_form, lengths_few}
use Rattle.answers.specs.Answer.{told, counts_of}
use Rattle.answers.specs.declared.answer.Counts.{Counts}
use Rattle.std.specs.Prelude.{Result, Ok}
use Rattle.answers.specs.declared.answer.Refusal.{Refusal}
use Rattle.sheet_output.specs.Outcome.{Limits, OutcomeRoom, OutcomeReady}
use Rattle.sheet_output.proofs.LawsShown.{slot_is_printable}

-- ---- a call

argument_printable : (spec call : List ℕ) (v : Value) → well_formed_argument call v ≡ true → printable spec call v ≡ true
unfolding printable
argument_printable spec call v e = go (well_formed_default spec v) e
  where
    go : (d : Bool) {a : Bool} → a ≡ true → (d || a) ≡ true
    go true a = refl
    go false a = a

module _ (spec call : List ℕ) where
  items_printable : (kind : ℕ) (vs : List Value) → all (well_formed_argument call) vs ≡ true → all (printable spec call) (items_of (star_of kind vs)) ≡ true
  items_printable zero vs e = refl
  items_printable (suc zero) vs e = all_imp (well_formed_argument call) (printable spec call) (argument_printable spec call) vs e
  items_printable (suc (suc kind)) vs e = refl

  pair_printable : (p : Pair) → well_formed_pair call p ≡ true → printable_named spec call (named_in call p) ≡ true
  unfolding well_formed_pair well_formed_name printable_named named_in
  pair_printable p e =
      and_both (printable_text call (text_in call p.key.payload)) (printable spec call p.value)
      (text_printable call p.key.payload (is_text_weaker call p.key.payload (and_right (eqb p.key.kind call_text) (is_text 1 call p.key.payload) (and_left (eqb p.key.kind call_text && is_text 1 call p.key.payload) (well_formed_argument call p.value) e))))
      (argument_printable spec call p.value (and_right (eqb p.key.kind call_text && is_text 1 call p.key.payload) (well_formed_argument call p.value) e))

  -- an entry under a text; one under a number names nothing
  words_printable : (ps : List Pair) → all (well_formed_entry call) ps ≡ true → all (printable_named spec call) (words (map (entry_in call) ps)) ≡ true
  unfolding well_formed_entry well_formed_key printable_named entry_in key_in call_text
  words_printable [] e = refl
  words_printable (p ∷ ps) e =
      go (eqb p.key.kind 6) refl (words_printable ps (and_right (well_formed_entry call p) (all (well_formed_entry call) ps) e))
    where
      own : (well_formed_key call p.key && well_formed_argument call p.value) ≡ true
      own = and_left (well_formed_entry call p) (all (well_formed_entry call) ps) e

      text : (three : Bool) → eqb p.key.kind 3 ≡ three → eqb p.key.kind 6 ≡ true → (three || eqb p.key.kind 6 && is_text 0 call p.key.payload) ≡ true → is_text 0 call p.key.payload ≡ true
      text true t s w = absurd (omega (arith, eqb-true p.key.kind 3 t, eqb-true p.key.kind 6 s))
      text false t s w = and_right (eqb p.key.kind 6) (is_text 0 call p.key.payload) w

      go : (b : Bool) → eqb p.key.kind 6 ≡ b → all (printable_named spec call) (words (map (entry_in call) ps)) ≡ true
          → all (printable_named spec call) (word_of (cond b (word (text_in call p.key.payload)) (number p.key.payload)) p.value ++ words (map (entry_in call) ps)) ≡ true
      go true s rest =
          and_both (printable_text call (text_in call p.key.payload) && printable spec call p.value) (all (printable_named spec call) (words (map (entry_in call) ps)))
          (and_both (printable_text call (text_in call p.key.payload)) (printable spec call p.value)
          (text_printable call p.key.payload (text (eqb p.key.kind 3) refl s (and_left (well_formed_key call p.key) (well_formed_argument call p.value) own)))
          (argument_printable spec call p.value (and_right (well_formed_key call p.key) (well_formed_argument call p.value) own)))
          rest
      go false s rest = rest

  double_printable : (kind : ℕ) (ps : List Pair) → all (well_formed_entry call) ps ≡ true → all (printable_named spec call) (words (entries_of (double_of kind (map (entry_in call) ps)))) ≡ true
  double_printable zero ps e = refl
  double_printable (suc zero) ps e = words_printable ps e
  double_printable (suc (suc kind)) ps e = refl

  module _ (B : ℕ) (cells : List ℕ) (passes : ask_call B cells call ≡ rules.fine) where
    parts : parts_well_formed call (read_call cells) ≡ true
    parts = form_parts B cells call (call_form B cells call passes)

    pub positionals_printable : all (printable spec call) (positionals_of (call_of cells call)) ≡ true
    unfolding positionals_of call_of call_in
    positionals_printable =
        all_append (printable spec call) (read_call cells).positionals (items_of (star_of (read_call cells).star_kind (read_call cells).items))
        (all_imp (well_formed_argument call) (printable spec call) (argument_printable spec call) (read_call cells).positionals (parts_positionals call (read_call cells) parts))
        (items_printable (read_call cells).star_kind (read_call cells).items (parts_items call (read_call cells) parts))

    pub named_printable : all (printable_named spec call) (named_of (call_of cells call)) ≡ true
    unfolding named_of call_of call_in
    named_printable =
        all_append (printable_named spec call) (map (named_in call) (read_call cells).named) (words (entries_of (double_of (read_call cells).double_kind (map (entry_in call) (read_call cells).entries))))
        (all_map (named_in call) (printable_named spec call) (read_call cells).named
        ∙ all_imp (well_formed_pair call) (λ p. printable_named spec call (named_in call p)) pair_printable (read_call cells).named (parts_named call (read_call cells) parts))
        (double_printable (read_call cells).double_kind (read_call cells).entries (parts_entries call (read_call cells) parts))

-- ---- how many values there are

items_few : (kind : ℕ) (vs : List Value) → length (items_of (star_of kind vs)) ≤ length vs
items_few zero vs = omega arith
items_few (suc zero) vs = omega arith
items_few (suc (suc kind)) vs = omega arith

word_few : (k : Key) (v : Value) → length (word_of k v) ≤ 1
word_few (word t) v = omega arith
word_few (number n) v = omega arith

words_few : (es : List Entry) → length (words es) ≤ length es
words_few [] = omega arith
words_few (e ∷ es) =
    let rest : length (words es) ≤ length es = words_few es in
    omega (arith, length-append (word_of e.key e.value) (words es), word_few e.key e.value)

double_few : (kind : ℕ) (es : List Entry) → length (words (entries_of (double_of kind es))) ≤ length es
double_few zero es = omega arith
double_few (suc zero) es = words_few es
double_few (suc (suc kind)) es = omega arith

module _ (B : ℕ) (cells call : List ℕ) (passes : ask_call B cells call ≡ rules.fine) where
  few : Few B (read_head cells)
  few = lengths_few cells (read_head cells) refl B (form_lengths B cells call (call_form B cells call passes))

  pub positionals_few : length (positionals_of (call_of cells call)) ≤ 2 * B
  unfolding positionals_of call_of call_in read_call
  positionals_few =
      let r : CallRecord = read_call cells in
      let p : length r.positionals ≡ (read_head cells).p = simp each_length in
      let s : length r.items ≡ (read_head cells).s = simp each_length in
      omega (arith, few.few_p, few.few_s, length-append r.positionals (items_of (star_of r.star_kind r.items)), items_few r.star_kind r.items)

  pub named_few : length (named_of (call_of cells call)) ≤ 2 * B
  unfolding named_of call_of call_in read_call
  named_few =
      let r : CallRecord = read_call cells in
      let n : length r.named ≡ (read_head cells).n = simp each_length in
      let d : length r.entries ≡ (read_head cells).d = simp each_length in
      omega (
        arith,
        few.few_n,
        few.few_d,
        length-append (map (named_in call) r.named) (words (entries_of (double_of r.double_kind (map (entry_in call) r.entries)))),
        length-map r.named (named_in call),
        length-map r.entries (entry_in call),
        double_few r.double_kind (map (entry_in call) r.entries),
      )

-- ---- any outcome fits

module _ (spec call : List ℕ) (qs : List Parameter) (P : List Value) (N : List Named) (right : AllPrintable spec call qs P N) where
  slots_printable : (stars unnamed i : ℕ) (rs : List Parameter) → all (printable_parameter spec) rs ≡ true → all (printable_slot spec call) (map_from (slot_of P N stars unnamed) i rs) ≡ true
  slots_printable stars unnamed i [] e = refl
  slots_printable stars unnamed i (q ∷ rs) e =
      and_both (printable_slot spec call (slot_of P N stars unnamed i q)) (all (printable_slot spec call) (map_from (slot_of P N stars unnamed) (suc i) rs))
      (slot_is_printable spec call P N right.positionals right.named stars unnamed i q (and_left (printable_parameter spec q) (all (printable_parameter spec) rs) e))
      (slots_printable stars unnamed (suc i) rs (and_right (printable_parameter spec q) (all (printable_parameter spec) rs) e))

  keep_few : (f : Named → Bool) (vs : List Named) → length (keep f vs) ≤ length vs
  keep_few f [] = omega arith
  keep_few f (v ∷ vs) = go (f v) (keep_few f vs)
    where
      go : (b : Bool) → length (keep f vs) ≤ length vs → length (cond b (v ∷ keep f vs) (keep f vs)) ≤ suc (length vs)
      go true h = omega arith
      go false h = omega arith

  pub star_few : length (star_remainder qs P) ≤ length P
  unfolding star_remainder
  star_few = simp length-drop (omega arith)

  pub unnamed_few : length (named_remainder qs N) ≤ length N
  unfolding named_remainder
  unnamed_few = keep_few (λ v. not (known qs v.name.bytes)) N

  placed : all (printable_slot spec call) (place qs P N) ≡ true
  unfolding place
  placed = slots_printable (length (star_remainder qs P)) (length (named_remainder qs N)) 0 qs right.parameters

  star_all : all (printable spec call) (star_remainder qs P) ≡ true
  unfolding star_remainder
  star_all = all_drop (printable spec call) (positional_count qs) P right.positionals

  named_all : all (printable_named spec call) (named_remainder qs N) ≡ true
  unfolding named_remainder
  named_all = all_keep (printable_named spec call) (λ v. not (known qs v.name.bytes)) N right.named

  accepted_fits : (c : placement.Counts) → length qs ≤ 64 → length P ≤ 128 → length N ≤ 128 → length (accepted_text spec call qs P N c) ≤ 40960
  unfolding accepted_text
  accepted_fits c hq h_p h_n =
      let first : List ℕ = line (115 ∷ 108 ∷ 111 ∷ 116 ∷ []) (110 ∷ 97 ∷ 109 ∷ 101 ∷ []) (118 ∷ 97 ∷ 108 ∷ 117 ∷ 101 ∷ []) in
      let slots : List ℕ = slot_lines spec call 0 qs (place qs P N) in
      let stars : List ℕ = star_lines spec call (star_remainder qs P) in
      let named : List ℕ = named_lines spec call (named_remainder qs N) in
      let counted : List ℕ = line (116 ∷ 97 ∷ 107 ∷ 101 ∷ 110 ∷ []) (decimal c.taken) [] in
      let last : List ℕ = line (100 ∷ 101 ∷ 102 ∷ 97 ∷ 117 ∷ 108 ∷ 116 ∷ 101 ∷ 100 ∷ []) (decimal c.defaulted) [] in
      let l₁ : length (first ++ (slots ++ (stars ++ (named ++ (counted ++ last))))) ≡ length first + length (slots ++ (stars ++ (named ++ (counted ++ last)))) = length-append first (slots ++ (stars ++ (named ++ (counted ++ last)))) in
      let l₂ : length (slots ++ (stars ++ (named ++ (counted ++ last)))) ≡ length slots + length (stars ++ (named ++ (counted ++ last))) = length-append slots (stars ++ (named ++ (counted ++ last))) in
      let l₃ : length (stars ++ (named ++ (counted ++ last))) ≡ length stars + length (named ++ (counted ++ last)) = length-append stars (named ++ (counted ++ last)) in
      let l₄ : length (named ++ (counted ++ last)) ≡ length named + length (counted ++ last) = length-append named (counted ++ last) in
      let l₅ : length (counted ++ last) ≡ length counted + length last = length-append counted last in
      let b₁ : length first ≡ 4 + 4 + 5 + 3 = line_length (115 ∷ 108 ∷ 111 ∷ 116 ∷ []) (110 ∷ 97 ∷ 109 ∷ 101 ∷ []) (118 ∷ 97 ∷ 108 ∷ 117 ∷ 101 ∷ []) in
      let b₂ : length slots ≤ 152 * length qs = slots_fit in
      let b₃ : length stars ≤ 72 * length (star_remainder qs P) = stars_fit in
      let b₄ : length named ≤ 137 * length (named_remainder qs N) = named_fit in
      let b₅ : length counted ≡ 5 + length (decimal c.taken) + 0 + 3 = line_length (116 ∷ 97 ∷ 107 ∷ 101 ∷ 110 ∷ []) (decimal c.taken) [] in
      let b₆ : length last ≡ 9 + length (decimal c.defaulted) + 0 + 3 = line_length (100 ∷ 101 ∷ 102 ∷ 97 ∷ 117 ∷ 108 ∷ 116 ∷ 101 ∷ 100 ∷ []) (decimal c.defaulted) [] in
      omega (arith, star_few, unnamed_few, decimal_length c.taken, decimal_length c.defaulted)
    where
      slots_fit : length (slot_lines spec call 0 qs (place qs P N)) ≤ 152 * length qs
      slots_fit = slot_lines_length spec call 0 qs (place qs P N) right.parameters placed

      stars_fit : length (star_lines spec call (star_remainder qs P)) ≤ 72 * length (star_remainder qs P)
      stars_fit = star_lines_length spec call (star_remainder qs P) star_all

      named_fit : length (named_lines spec call (named_remainder qs N)) ≤ 137 * length (named_remainder qs N)
      named_fit = named_lines_length spec call (named_remainder qs N) named_all

-- at 64 parameters and 64 values in each part of a call, any text has at most 40,960 bytes
pub output_fits : (spec call : List ℕ) (qs : List Parameter) (P : List Value) (N : List Named) (asked : rules.Answer) (before : List ℕ)
    → (asked ≡ rules.fine → AllPrintable spec call qs P N) → answer_inside spec call asked ≡ true
    → (asked ≡ rules.fine → length qs ≤ 64) → (asked ≡ rules.fine → length P ≤ 128) → (asked ≡ rules.fine → length N ≤ 128)
    → length (outcome_text spec call qs P N (outcome_of asked qs P N before)) ≤ 40960
output_fits spec call qs P N rules.fine before right d hq h_p h_n = accepted_fits spec call qs P N (right refl) (placement.counts_of qs P N) (hq refl) (h_p refl) (h_n refl)
output_fits spec call qs P N (rules.refuse n d) before right e hq h_p h_n =
    omega (arith, refusal_length n (detail_text spec call d), detail_length spec call d e)

-- ---- what collection answers is ready to be printed

module _ (spec_cells spec call_cells call before : List ℕ) where
  abbrev qs : List Parameter
  qs = list_of spec_cells spec

  abbrev given : Call
  given = call_of call_cells call

  abbrev asked : rules.Answer
  asked = ask_records 64 64 spec_cells spec call_cells call before then ask_binding qs given

  records_fine : asked ≡ rules.fine → ask_records 64 64 spec_cells spec call_cells call before ≡ rules.fine
  records_fine e = then_left (ask_records 64 64 spec_cells spec call_cells call before) (ask_binding qs given) e

  list_fine : ask_records 64 64 spec_cells spec call_cells call before ≡ rules.fine → ask_parameters 64 spec_cells spec ≡ rules.fine
  unfolding ask_records
  list_fine e = then_left (ask_parameters 64 spec_cells spec) (ask_call 64 call_cells call then ask_board 64 64 before) e

  call_fine : ask_records 64 64 spec_cells spec call_cells call before ≡ rules.fine → ask_call 64 call_cells call ≡ rules.fine
  unfolding ask_records
  call_fine e = then_left (ask_call 64 call_cells call) (ask_board 64 64 before) (then_right (ask_parameters 64 spec_cells spec) (ask_call 64 call_cells call then ask_board 64 64 before) e)

  -- records that pass 1 to 14 can be printed
  pub records_printable : ask_records 64 64 spec_cells spec call_cells call before ≡ rules.fine → AllPrintable spec call qs (positionals_of given) (named_of given)
  records_printable e =
      record {
        parameters = parameters_printable 64 spec_cells spec (list_fine e);
        positionals = positionals_printable spec call 64 call_cells (call_fine e);
        named = named_printable spec call 64 call_cells (call_fine e);
      }

  records_inside : answer_inside spec call (ask_records 64 64 spec_cells spec call_cells call before) ≡ true
  unfolding ask_records
  records_inside =
      then_inside spec call (ask_parameters 64 spec_cells spec) (ask_call 64 call_cells call then ask_board 64 64 before) (parameters_inside spec call 64 spec_cells spec)
      (λ e. then_inside spec call (ask_call 64 call_cells call) (ask_board 64 64 before) (call_inside spec call 64 call_cells call) (λ f. board_inside spec call 64 64 before))

  pub collected_inside : answer_inside spec call asked ≡ true
  collected_inside =
      then_inside spec call (ask_records 64 64 spec_cells spec call_cells call before) (ask_binding qs given) records_inside
      (λ e. binding_inside spec call qs given (records_printable e))

  -- whatever collection comes to, its text fits
  pub collected_fits : length (outcome_text spec call qs (positionals_of given) (named_of given) (collection 64 64 spec_cells spec call_cells call before)) ≤ 40960
  unfolding collection
  collected_fits =
      output_fits spec call qs (positionals_of given) (named_of given) asked before (λ e. records_printable (records_fine e)) collected_inside
      (λ e. list_few 64 spec_cells spec (list_fine (records_fine e))) (λ e. positionals_few 64 call_cells call (call_fine (records_fine e)))
      (λ e. named_few 64 call_cells call (call_fine (records_fine e)))

  module _ (l : ParametersSpec) (list : ask_parameters 64 spec_cells spec ≡ rules.fine → IsList spec l qs) (board : List ℕ) (r : Result Counts Refusal) (ends : told r board ≡ collection 64 64 spec_cells spec call_cells call before) where
    pub collected_ready : OutcomeReady spec call l board r qs (positionals_of given) (named_of given) asked before
    unfolding collection
    collected_ready =
        record {
          answer = ends;
          list = λ e. (list (list_fine (records_fine e))).parameters;
          printable = λ e. records_printable (records_fine e);
          detail = collected_inside;
        }

    pub collected_room : (out : List ℕ) → 40960 ≤ length out → OutcomeRoom l r out
    unfolding collection placement.counts_of
    collected_room out h = record { limits = λ c e. limited c e asked (sym (ap (λ x. told x board) e) ∙ ends) refl; room = h }
      where
        limited : (c : Counts) → r ≡ Ok c → (a : rules.Answer) → accepted (counts_of c) board ≡ outcome_of a qs (positionals_of given) (named_of given) before → asked ≡ a → Limits l.params c
        limited c e (rules.refuse n d) o s = let z : ◌≡◌ {A = ℕ} 0 1 = cc in absurd (omega arith)
        limited c e rules.fine o s =
            let passed : ask_records 64 64 spec_cells spec call_cells call before ≡ rules.fine = records_fine s in
            let counts : counts_of c ≡ placement.counts_of qs (positionals_of given) (named_of given) = cc in
            let star : c.star ≡ length (star_remainder qs (positionals_of given)) = ap (λ (x : placement.Counts). x.star) counts in
            let named : c.named ≡ length (named_remainder qs (named_of given)) = ap (λ (x : placement.Counts). x.named) counts in
            record {
              slots = (list (list_fine passed)).room;
              star = omega (arith, star_few spec call qs (positionals_of given) (named_of given) (records_printable passed), positionals_few 64 call_cells call (call_fine passed));
              named = omega (arith, unnamed_few spec call qs (positionals_of given) (named_of given) (records_printable passed), named_few 64 call_cells call (call_fine passed));
            }
