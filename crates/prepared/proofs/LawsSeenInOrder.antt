-- Laws of seeing that a call stands in the list's order, in this order: lists by their elements; the first rows of a list, and how many
-- of them are positional; what the pairs of a call are asked for; the whole. `h` is the head that was read.
-- Assumes nothing.
use mathlib.Core.Path.{◌≡◌, refl, sym, ap, ap₂, subst, ◌∙◌}
use mathlib.Core.Bool.{Bool, true, false≢true}
use mathlib.Core.List.{List, [], ◌∷◌, ◌++◌}
use Prim.Native.Nat.{ℕ, zero, suc, ◌+◌, ◌*◌, ◌<◌, ◌≤◌, min}
use native.Mathlib.Nat.{zero-add, add-zero, suc-add}
use native.Mathlib.Omega.{arith}
use borrow.Author.Tests.{ltb-true, lt-ltb, eq-eqb, ne_eqb}
use lib.Dec.{eqb, ltb}
use lib.ListN.{length, drop, get_or}
use Rattle.rules.specs.Listing.{all}
use Rattle.rules.specs.Text.{text_in}
use Rattle.rules.specs.Value.{Value, no_value, value_width, call_text}
use Rattle.rules.specs.CallRecord.{Head, Call, Named, head_width, pair_width, read_pair, read_call, named_in, entry_in, call_in, words, entries_of, positionals_of, named_of}
use Rattle.rules.specs.CallQuestions.{lengths_right, kinds_right}
use Rattle.rules.specs.Parameters.{Parameter, positional, positional_count}
use Rattle.rules.specs.Lookup.{names}
use Rattle.rules.specs.Placement.{from_p}
use Rattle.rules.specs.Passed.{positional_first}
use Rattle.rules.specs.Accessors.{is_word}
use Rattle.rules.specs.Collection.{call_of}
use Rattle.rules.proofs.LawsListing.{and_left, and_right, and_both, not_of, all_imp, all_map}
use Rattle.rules.proofs.LawsCut.{name_key}
use Rattle.rules.proofs.LawsFound.{from_p_at}
use Rattle.cells.specs.Record.{pair_at}
use Rattle.cells.specs.Listed.{listed}
use Rattle.cells.proofs.LawsListed.{length_listed, listed_append, get_d_listed}
use Rattle.calls.specs.Head.{Few, named_from, items_from, entries_from}
use Rattle.calls.specs.Runs.{pairs_at}
use Rattle.calls.proofs.LawsNamed.{word_text}
use Rattle.calls.proofs.LawsCall.{lengths_few, entries_within, form_lengths, form_kinds}
use Rattle.calls.proofs.LawsPlaces.{words_named, named_run, entries_run, positionals_length, star_passes_lem, double_passes_lem}
use Rattle.findings.proofs.LawsRecord.{name_formed}
use Rattle.collector.proofs.LawsReady.{run_listed, named_near, named_there, keys_formed}
use Rattle.prepared.specs.Prepared.{list_in, is_prepared}
use Rattle.prepared.specs.Rows.{row_at, param_at, Keyed}
use Rattle.prepared.specs.InOrder.{in_turn, InOrder, OrderReady, positional_to, TurnReady, NamedAfter}
use Rattle.prepared.proofs.LawsRows.{list_listed}
use Rattle.prepared.proofs.LawsLoad.{row_position}
use Rattle.prepared.proofs.LawsBind.{prepared_whole, prepared_first, prepared_keyed}

-- ---- lists by their elements

next : (i k : ℕ) → i + suc k ≡ suc i + k
next i k = omega arith

module _ {X : Type 0} (f : ℕ → X) where
  drop_listed : (i m n : ℕ) → drop m (listed f i (m + n)) ≡ listed f (i + m) n
  drop_listed i zero n = rw (zero-add n, add-zero i)
  drop_listed i (suc m) n = rw (suc-add m n, next i m) (drop_listed (suc i) m n)

  all_listed : (test : X → Bool) (i n : ℕ) → ((k : ℕ) → k < n → test (f (i + k)) ≡ true) → all test (listed f i n) ≡ true
  all_listed test i zero each = refl
  all_listed test i (suc n) each =
      and_both (test (f i)) (all test (listed f (suc i) n)) (subst (λ (j : ℕ). test (f j) ≡ true) (add-zero i) (each 0 (omega arith)))
      (all_listed test (suc i) n (λ k l. subst (λ (j : ℕ). test (f j) ≡ true) (next i k) (each (suc k) (omega arith))))

-- parameters and named values that are in turn
turn_append : (ps qs : List Parameter) (us vs : List Named) → in_turn ps us ≡ true → in_turn qs vs ≡ true → in_turn (ps ++ qs) (us ++ vs) ≡ true
turn_append [] qs [] vs e f = f
turn_append [] qs (u ∷ us) vs e f = absurd (false≢true e)
turn_append (p ∷ ps) qs [] vs e f = absurd (false≢true e)
turn_append (p ∷ ps) qs (u ∷ us) vs e f =
    and_both (names u.name.bytes p) (in_turn (ps ++ qs) (us ++ vs)) (and_left (names u.name.bytes p) (in_turn ps us) e)
    (turn_append ps qs us vs (and_right (names u.name.bytes p) (in_turn ps us) e) f)

turn_listed
    : (q : ℕ → Parameter) (v : ℕ → Named) (row i n : ℕ) → ((k : ℕ) → k < n → names (v (i + k)).name.bytes (q (row + k)) ≡ true)
    → in_turn (listed q row n) (listed v i n) ≡ true
turn_listed q v row i zero each = refl
turn_listed q v row i (suc n) each =
    and_both (names (v i).name.bytes (q row)) (in_turn (listed q (suc row) n) (listed v (suc i) n))
    (rw (add-zero i, add-zero row) at (each 0 (omega arith)))
    (turn_listed q v (suc row) (suc i) n (λ k l. rw (next i k, next row k) at (each (suc k) (omega arith))))

-- ---- the first rows of a prepared list

keyed_upto : (spec list : List ℕ) (n m : ℕ) → Keyed spec list n → m ≤ n → Keyed spec list m
keyed_upto spec list n m k h = record { long = omega (arith, k.long); named_inside = λ j u. k.named_inside j (omega arith); keys = λ j u. k.keys j (omega arith) }

-- where the positional parameters come first, one of them has no more before it than there are others
more_than : (qs : List Parameter) (k : ℕ) (d : Parameter) → positional_first qs ≡ true → k < length qs → positional (get_or qs k d) ≡ true → k < positional_count qs
unfolding from_p
more_than qs k d first h e = omega (arith, ltb-true k (min (length P) (positional_count qs)) below)
  where
    P : List Value
    P = listed (λ i. no_value) 0 (suc k)

    long : k < length P
    long = rw (length_listed (λ i. no_value) 0 (suc k)) (omega arith)

    below : ltb k (min (length P) (positional_count qs)) ≡ true
    below = sym (from_p_at qs P first k d h) ∙ and_both (positional (get_or qs k d)) (ltb k (length P)) e (lt-ltb k (length P) long)

pub list_length : (spec list : List ℕ) → length (list_in spec list) ≡ get_or list 0 0
list_length spec list = ap length (list_listed spec list) ∙ length_listed (param_at spec list) 0 (get_or list 0 0)

module _ (spec list : List ℕ) (t : is_prepared spec list ≡ true) where
  list_at : (k : ℕ) (d : Parameter) → k < get_or list 0 0 → get_or (list_in spec list) k d ≡ param_at spec list k
  list_at k d h = ap (λ qs. get_or qs k d) (list_listed spec list) ∙ get_d_listed (param_at spec list) 0 (get_or list 0 0) k d h ∙ ap (param_at spec list) (zero-add k)

  -- the last of the first `count` rows is positional, so there are so many positional ones
  positions_few : (count : ℕ) → count ≤ get_or list 0 0 → positional_to list count ≡ true → count ≤ positional_count (list_in spec list)
  unfolding param_at
  positions_few zero h e = omega arith
  positions_few (suc k) h e =
      more_than (list_in spec list) k d (prepared_first spec list t) (rw (list_length spec list) h)
      (ap positional (list_at k d h) ∙ sym (row_position spec (row_at list k)) ∙ e)
    where
      d : Parameter
      d = param_at spec list 0

-- ---- a call that passes 9 to 11, against a prepared list

module _ (spec list cells area : List ℕ) (h : Head) (len : ℕ) (ready : OrderReady spec list cells area h len) where
  nine : lengths_right 64 cells ≡ true
  nine = form_lengths 64 cells area ready.formed

  ten : kinds_right (read_call cells) ≡ true
  ten = form_kinds 64 cells area ready.formed

  pub order_few : Few 64 h
  order_few = lengths_few cells h ready.read 64 nine

  -- all rows are there
  pub rows_there : (count : ℕ) → count ≤ len → 2 + 6 * count ≤ length list
  rows_there count l = let whole = prepared_whole spec list ready.prepared in omega (arith, whole.long, ready.count)

  rows_ready : (row : ℕ) → row ≤ len → Keyed spec list row
  rows_ready row l = keyed_upto spec list (get_or list 0 0) row (prepared_keyed spec list ready.prepared) (omega (arith, ready.count))

  rows_few : len ≤ 64
  rows_few = let whole = prepared_whole spec list ready.prepared in omega (arith, whole.few, ready.count)

  -- ---- what the pairs are asked for

  pub named_ready : h.p + h.s + h.n ≤ len → {from : ℕ} → from ≡ named_from h → TurnReady spec list cells area from h.n (h.p + h.s)
  named_ready l e =
      rw e
      (record {
        keyed = rows_ready (h.p + h.s + h.n) l;
        few = omega (arith, rows_few);
        near = named_near h order_few;
        within = named_there cells area h ready.read ready.formed;
        keys = λ k below. name_key area (pair_at cells (named_from h + 4 * k)) (name_formed cells area h ready.read ready.formed k below);
      })

  entries_near : entries_from h ≤ 1024
  unfolding entries_from items_from named_from head_width value_width pair_width
  entries_near = omega (arith, order_few.few_p, order_few.few_n, order_few.few_s)

  entries_there : entries_from h + 4 * h.d ≤ length cells
  unfolding pair_width
  entries_there = entries_within cells h ready.read 64 nine

  pub entries_ready : h.p + h.s + h.n + h.d ≤ len → {from : ℕ} → from ≡ entries_from h → TurnReady spec list cells area from h.d (h.p + h.s + h.n)
  entries_ready l e =
      rw e
      (record {
        keyed = rows_ready (h.p + h.s + h.n + h.d) l;
        few = omega (arith, rows_few);
        near = entries_near;
        within = entries_there;
        keys = keys_formed cells area h ready.read ready.formed;
      })

  -- ---- the answers: as many arguments as rows, both stars pass, the values are no more than the positional rows, and the pairs are named in turn

  module _
      (full : h.p + h.s + h.n + h.d ≡ len) (star : h.star_kind ≡ 2 → ⊥) (double : h.double_kind ≡ 2 → ⊥) (positions : positional_to list (h.p + h.s) ≡ true)
      {from_entries : ℕ} (ee : from_entries ≡ entries_from h) (entries_seen : (k : ℕ) → k < h.d → NamedAfter spec list cells area (from_entries + 4 * k) (h.p + h.s + h.n + k))
      {from_named : ℕ} (en : from_named ≡ named_from h) (named_seen : (k : ℕ) → k < h.n → NamedAfter spec list cells area (from_named + 4 * k) (h.p + h.s + k))
    where
      entries : (k : ℕ) → k < h.d → NamedAfter spec list cells area (entries_from h + 4 * k) (h.p + h.s + h.n + k)
      entries k below = subst (λ (from : ℕ). NamedAfter spec list cells area (from + 4 * k) (h.p + h.s + h.n + k)) ee (entries_seen k below)

      written : (k : ℕ) → k < h.n → NamedAfter spec list cells area (named_from h + 4 * k) (h.p + h.s + k)
      written k below = subst (λ (from : ℕ). NamedAfter spec list cells area (from + 4 * k) (h.p + h.s + k)) en (named_seen k below)

      abbrev values : ℕ
      values = h.p + h.s

      abbrev c : Call
      c = call_in area (read_call cells)

      -- written pair k and entry k as named values
      abbrev written_at : ℕ → Named
      written_at k = named_in area (read_pair (drop (named_from h + 4 * k) cells))

      abbrev entry_at : ℕ → Named
      entry_at k = named_in area (read_pair (drop (entries_from h + 4 * k) cells))

      -- every key is a text
      text_at : (k : ℕ) → k < h.d → eqb (read_pair (drop (entries_from h + 4 * (0 + k)) cells)).key.kind call_text ≡ true
      unfolding read_pair pair_at
      text_at k below = rw (zero-add k) (eq-eqb (pair_at cells (entries_from h + 4 * k)).kind call_text (entries k below).text)

      run_texts : all (λ p. eqb p.key.kind call_text) (pairs_at cells (entries_from h) h.d) ≡ true
      run_texts =
          sym (all_map (λ p. eqb p.key.kind call_text) (λ b. b) (pairs_at cells (entries_from h) h.d))
          ∙ ap (all (λ b. b)) (run_listed (λ p. eqb p.key.kind call_text) cells (entries_from h) h.d)
          ∙ all_listed (λ k. eqb (read_pair (drop (entries_from h + 4 * k) cells)).key.kind call_text) (λ b. b) 0 h.d text_at

      texts_hold : all (λ e. is_word e.key) (entries_of c.double) ≡ true
      unfolding entry_in
      texts_hold =
          ap (all (λ e. is_word e.key)) (entries_run area cells h ready.read ten)
          ∙ all_map (entry_in area) (λ e. is_word e.key) (pairs_at cells (entries_from h) h.d)
          ∙ all_imp (λ p. eqb p.key.kind call_text) (λ p. is_word (entry_in area p).key) (λ p e. word_text area p.key ∙ e) (pairs_at cells (entries_from h) h.d) run_texts

      -- N, and the parameters that it stands for
      N-parts : named_of c ≡ listed written_at 0 h.n ++ listed entry_at 0 h.d
      unfolding named_of
      N-parts =
          ap₂ {C = List Named} (λ vs ws. vs ++ ws) (named_run area cells h ready.read ten ∙ run_listed (named_in area) cells (named_from h) h.n)
          (ap words (entries_run area cells h ready.read ten)
          ∙ words_named area (pairs_at cells (entries_from h) h.d) run_texts
          ∙ run_listed (named_in area) cells (entries_from h) h.d)

      rest_parts : drop values (list_in spec list) ≡ listed (param_at spec list) values h.n ++ listed (param_at spec list) (values + h.n) h.d
      rest_parts =
          ap (drop values) (list_listed spec list ∙ ap (listed (param_at spec list) 0) many)
          ∙ drop_listed (param_at spec list) 0 values (h.n + h.d)
          ∙ ap (λ i. listed (param_at spec list) i (h.n + h.d)) (zero-add values)
          ∙ listed_append (param_at spec list) values h.n h.d
        where
          many : get_or list 0 0 ≡ values + (h.n + h.d)
          many = omega (arith, full, ready.count)

      written_named : (k : ℕ) → k < h.n → names (written_at (0 + k)).name.bytes (param_at spec list (values + k)) ≡ true
      unfolding named_in text_in read_pair pair_at
      written_named k below = rw (zero-add k) (written k below).named

      entry_named : (k : ℕ) → k < h.d → names (entry_at (0 + k)).name.bytes (param_at spec list (values + h.n + k)) ≡ true
      unfolding named_in text_in read_pair pair_at
      entry_named k below = rw (zero-add k) (entries k below).named

      named_hold : in_turn (drop (length (positionals_of c)) (list_in spec list)) (named_of c) ≡ true
      named_hold =
          ap₂ in_turn (ap (λ n. drop n (list_in spec list)) (positionals_length area cells h ready.read ten) ∙ rest_parts) N-parts
          ∙ turn_append (listed (param_at spec list) values h.n) (listed (param_at spec list) (values + h.n) h.d) (listed written_at 0 h.n) (listed entry_at 0 h.d)
          (turn_listed (param_at spec list) written_at values 0 h.n written_named)
          (turn_listed (param_at spec list) entry_at (values + h.n) 0 h.d entry_named)

      few_hold : length (positionals_of c) ≤ positional_count (list_in spec list)
      few_hold =
          rw (positionals_length area cells h ready.read ten)
          (positions_few spec list ready.prepared values (omega (arith, full, ready.count)) positions)

      pub seen_in_order : InOrder (list_in spec list) (call_of cells area)
      unfolding call_of
      seen_in_order =
          record {
            star = star_passes_lem area cells h ready.read ten ∙ not_of (eqb h.star_kind 2) (ne_eqb h.star_kind 2 star);
            double = double_passes_lem area cells h ready.read ten ∙ not_of (eqb h.double_kind 2) (ne_eqb h.double_kind 2 double);
            few = few_hold;
            texts = texts_hold;
            named = named_hold;
          }
