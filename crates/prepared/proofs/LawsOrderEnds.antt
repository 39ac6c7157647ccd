-- Laws of how a call in the list's order ends: 12 and 13 are passed, since each name is that of another parameter; where 14 is passed, the values
-- as they stand in the record are the slots.
-- Assumes nothing.
use mathlib.Core.Path.{◌≡◌, refl, sym, ap, ap₂, subst, ◌∙◌}
use mathlib.Core.Bool.{true}
use mathlib.Core.List.{List, [], ◌∷◌, ◌++◌, map}
use Rattle.std.specs.Prelude.{Result, Err}
use Prim.Native.Nat.{ℕ, ◌+◌, ◌≤◌}
use native.Mathlib.Decide.{dec_le}
use native.Mathlib.Omega.{arith}
use lib.ListN.{length, drop, length-append}
use Rattle.rules.specs.Cells.{write_each, over}
use Rattle.rules.specs.Text.{differ}
use Rattle.rules.specs.Value.{Value, no_value, value_width, value_cells, read_value}
use Rattle.rules.specs.Answer.{fine}
use Rattle.rules.specs.CallRecord.{Head, Call, Named, Entry, Key, word, head_width, read_call, call_in, named_in, key_in, entry_in, words, entries_of, positionals_of, named_of}
use Rattle.rules.specs.CallQuestions.{kinds_right, keys_differ, entries_differ, names_differ, ask_form, ask_call}
use Rattle.rules.specs.Parameters.{Parameter}
use Rattle.rules.specs.Passed.{positional_first, names_apart}
use Rattle.rules.specs.Placement as rules
use Rattle.rules.specs.Board.{board_after}
use Rattle.rules.specs.Binding.{texts_of, ask_binding}
use Rattle.rules.specs.Collection.{call_of}
use Rattle.rules.proofs.LawsListing.{map_map, map_append}
use Rattle.rules.proofs.LawsText.{differ_front, differ_back}
use Rattle.rules.proofs.LawsRecord.{length_write_each}
use Rattle.rules.proofs.LawsBinding.{as_entry}
use Rattle.rules.proofs.LawsCut.{keys_words}
use Rattle.cells.specs.Out.{stored}
use Rattle.cells.proofs.LawsOut.{stored_first}
use Rattle.cells.proofs.LawsWrite.{value_cells_two}
use Rattle.answers.specs.Answer.{counts_of}
use Rattle.cells.specs.Question.{refused}
use Rattle.cells.specs.declared.question.Question.{Question}
use Rattle.answers.specs.declared.answer.Counts.{Counts}
use Rattle.answers.specs.declared.answer.Refusal.{Refusal}
use Rattle.answers.specs.declared.answer.Refusal.TheVariants.{Record}
use Rattle.calls.specs.Head.{items_from, named_from, entries_from}
use Rattle.calls.specs.Runs.{values_at, pairs_at}
use Rattle.calls.specs.Keys.{ask_keys}
use Rattle.calls.proofs.LawsEach.{each_length}
use Rattle.calls.proofs.LawsCall.{form_kinds, call_entries}
use Rattle.calls.proofs.LawsPlaces.{positionals_runs, named_run, entries_run}
use Rattle.collector.specs.Collect.{Ends, binding_of, bound_to}
use Rattle.collector.proofs.LawsEnds.{ends_accepted, bound_keys, bound_short_board, bound_binding}
use Rattle.prepared.specs.Prepared.{list_in}
use Rattle.prepared.specs.InOrder.{InOrder, OrderReady, pair_values, values_in_order, InOrderEnds}
use Rattle.prepared.proofs.LawsBind.{prepared_whole, prepared_first, prepared_apart}
use Rattle.prepared.proofs.LawsInOrder.{names_in_order, length_in_order, counts_in_order, written_in_order, words_entries, binding_in_order}
use Rattle.prepared.proofs.LawsSeenInOrder.{list_length}
use Rattle.prepared.proofs.LawsWrittenInOrder.{pair_values_length}

-- what 9 to 11 refuse
pub form_ends : (qs : List Parameter) (cells area board : List ℕ) (q : Question) → ask_form 64 cells area ≡ refused q → Ends (bound_to qs cells area board) board board (Err (Record q))
unfolding ask_keys
form_ends qs cells area board q e = bound_keys qs cells area board q (rw e)

-- ---- entries whose keys are texts

keys_of : (vs : List Named) → map (λ e. e.key) (map as_entry vs) ≡ map word (texts_of vs)
unfolding texts_of
keys_of [] = refl
keys_of (v ∷ vs) = ap {B = List Key} (λ ks. word v.name ∷ ks) (keys_of vs)

values_of : (vs : List Named) → map (λ e. e.value) (map as_entry vs) ≡ map (λ v. v.value) vs
values_of [] = refl
values_of (v ∷ vs) = ap {B = List Value} (λ xs. v.value ∷ xs) (values_of vs)

module _ (spec list cells area : List ℕ) (h : Head) (len : ℕ) (ready : OrderReady spec list cells area h len) (order : InOrder (list_in spec list) (call_of cells area)) where
  abbrev qs : List Parameter
  qs = list_in spec list

  abbrev c : Call
  c = call_of cells area

  abbrev P : List Value
  P = positionals_of c

  abbrev N : List Named
  N = named_of c

  abbrev es : List Entry
  es = entries_of c.double

  first : positional_first qs ≡ true
  first = prepared_first spec list ready.prepared

  apart : names_apart [] qs ≡ true
  apart = prepared_apart spec list ready.prepared

  ten : kinds_right (read_call cells) ≡ true
  ten = form_kinds 64 cells area ready.formed

  entered : es ≡ map as_entry (words es)
  entered = words_entries es order.texts

  written_run : c.named ≡ map (named_in area) (pairs_at cells (named_from h) h.n)
  unfolding call_of
  written_run = named_run area cells h ready.read ten

  entry_run : es ≡ map (entry_in area) (pairs_at cells (entries_from h) h.d)
  unfolding call_of
  entry_run = entries_run area cells h ready.read ten

  -- ---- 12 and 13

  differing : differ (texts_of c.named ++ texts_of (words es)) ≡ true
  unfolding named_of texts_of
  differing = ap differ (sym (map_append (λ v. v.name) c.named (words es))) ∙ names_in_order qs first apart P N order.few order.named

  names_passed : names_differ area (read_call cells) ≡ true
  unfolding names_differ texts_of call_of call_in
  names_passed = ap differ (sym (map_map (named_in area) (λ v. v.name) (read_call cells).named)) ∙ differ_front (texts_of c.named) (texts_of (words es)) differing

  keys_passed : entries_differ area (read_call cells) ≡ true
  unfolding entries_differ entry_in
  keys_passed =
      ap keys_differ
      (ap (map (λ p. key_in area p.key)) (call_entries cells h ready.read)
      ∙ sym (map_map (entry_in area) (λ e. e.key) (pairs_at cells (entries_from h) h.d))
      ∙ ap (map (λ e. e.key)) (sym entry_run ∙ entered)
      ∙ keys_of (words es))
      ∙ keys_words (texts_of (words es))
      ∙ differ_back (texts_of c.named) (texts_of (words es)) differing

  passed : ask_call 64 cells area ≡ fine
  unfolding ask_call
  passed = rw (ready.formed, keys_passed, names_passed)

  -- ---- the values

  all_values : P ++ map (λ v. v.value) N ≡ values_in_order cells h
  unfolding values_in_order named_of call_of named_in entry_in
  all_values =
      ap₂ {C = List Value} (λ xs ys. xs ++ ys)
      (positionals_runs area cells h ready.read ten)
      (map_append (λ v. v.value) c.named (words es)
      ∙ ap₂ {C = List Value} (λ xs ys. xs ++ ys)
      (ap (map (λ v. v.value)) written_run ∙ map_map (named_in area) (λ v. v.value) (pairs_at cells (named_from h) h.n))
      (sym (values_of (words es)) ∙ ap (map (λ e. e.value)) (sym entered ∙ entry_run) ∙ map_map (entry_in area) (λ e. e.value) (pairs_at cells (entries_from h) h.d)))

  few_values : length (values_in_order cells h) ≤ 64
  few_values =
      omega (
        arith,
        ap length (sym all_values) ∙ length_in_order qs first apart P N order.few order.named ∙ list_length spec list,
        (prepared_whole spec list ready.prepared).few,
      )

  pub in_order_few : h.p + h.s + h.n + h.d ≤ 64
  unfolding values_in_order
  in_order_few =
      omega (
        arith,
        few_values,
        length-append (values_at cells head_width h.p ++ values_at cells (items_from h) h.s) (pair_values cells (named_from h) h.n ++ pair_values cells (entries_from h) h.d),
        length-append (values_at cells head_width h.p) (values_at cells (items_from h) h.s),
        length-append (pair_values cells (named_from h) h.n) (pair_values cells (entries_from h) h.d),
        each_length value_width read_value h.p (drop head_width cells),
        each_length value_width read_value h.s (drop (items_from h) cells),
        pair_values_length cells (named_from h) h.n,
        pair_values_length cells (entries_from h) h.d,
      )

  -- ---- how it ends

  placed : (before : List ℕ) → 896 ≤ length before → stored before 0 (write_each value_cells (values_in_order cells h)) ≡ board_after qs P N before
  unfolding board_after
  placed before long =
      stored_first before (write_each value_cells (values_in_order cells h))
      (rw (length_write_each 2 (λ cells. no_value) value_cells value_cells_two (values_in_order cells h)) (omega (arith, few_values)))
      ∙ ap (λ xs. over xs before) (ap (write_each value_cells) (sym all_values) ∙ sym (written_in_order qs first apart P N order.few order.named))

  counts : counts_of (record { taken = len; defaulted = 0; star = 0; named = 0 }) ≡ rules.counts_of qs P N
  counts = rw (ready.count, sym (list_length spec list)) (sym (counts_in_order qs first apart P N order.few order.named))

  pub in_order_ends : (before after : List ℕ) (r : Result Counts Refusal) → InOrderEnds cells h len before after r → Ends (bound_to qs cells area before) before after r
  in_order_ends before after r e = go (dec_le 896 (length before))
    where
      go : Dec (896 ≤ length before) → Ends (bound_to qs cells area before) before after r
      go (no low) =
          let so = e.short (omega arith) in
          subst (λ b. Ends (bound_to qs cells area before) before b r) (sym so.1)
          (subst (λ x. Ends (bound_to qs cells area before) before before x) (sym so.0) (bound_short_board qs cells area before passed (omega arith)))
      go (yes long) =
          let so = e.long long in
          subst (λ o. Ends o before after r) (sym (bound_binding qs cells area before passed long))
          (subst (λ x. Ends (binding_of qs c before) before after x) (sym so.0)
          (ends_accepted qs P N before (ask_binding qs c) after (record { taken = len; defaulted = 0; star = 0; named = 0 }) (binding_in_order qs first apart c order) counts (so.1 ∙ placed before long)))
