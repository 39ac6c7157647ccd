-- Where the values of P and the pairs of N stand (01, placement). Of a record that passes 10: P, the written pairs and the entries as
-- runs of its cells, how many there are of each, and 15 and 17 by the kinds of the two stars. Of one that passes 9 too: that each of
-- them is what stands at the place that `position_at` or `named_at` gives, and that the place lies inside the record. Where 11 passes,
-- what stands there is well formed. Where every key is a text, N is the written pairs and then all the entries.
-- The call is `call_in area (read_call cells)`, and `h` the head that was read. Assumes nothing.
use mathlib.Core.Path.{◌≡◌, refl, sym, ap, ap₂, ◌∙◌}
use mathlib.Core.Bool.{Bool, true, false, not, false≢true}
use mathlib.Core.List.{List, [], ◌∷◌, ◌++◌, map}
use Prim.Native.Nat.{ℕ, zero, suc, ◌+◌, ◌≤◌, ◌<◌}
use native.Mathlib.Omega.{arith}
use lib.Dec.{eqb}
use lib.ListN.{length, drop, get_or, length-append, length-map}
use borrow.Author.Tests.{eqb-true}
use Rattle.rules.specs.Listing.{all}
use Rattle.rules.specs.Value.{Value, value_width, read_value, call_text, no_value, well_formed_argument}
use Rattle.rules.specs.CallRecord.{Head, head_width, pair_width, Pair, read_pair, read_head, read_call, Named, Entry, key_in, named_in, entry_in, words, named_of, call_in, star_of, double_of, items_of, entries_of, positionals_of}
use Rattle.rules.specs.CallQuestions.{lengths_right, kind_right, kinds_right, well_formed_pair, well_formed_entry, parts_well_formed}
use Rattle.rules.specs.Binding.{star_passes, double_passes}
use Rattle.rules.proofs.LawsListing.{and_left, and_right, all_append}
use Rattle.calls.specs.Head.{named_from, items_from, entries_from}
use Rattle.calls.specs.Places.{in_runs, position_at, named_at}
use Rattle.calls.specs.Runs.{values_at, pairs_at}
use Rattle.cells.proofs.LawsListed.{all_at}
use Rattle.calls.proofs.LawsEach.{each_length, each_map, runs_first, runs_second, runs_both, runs_within}
use Rattle.calls.proofs.LawsCall.{call_positionals, call_named, call_items, call_entries, lengths_at_most, positionals_within, named_within, items_within, entries_within, parts_positionals, parts_named, parts_items, parts_entries}

-- ---- what question 10 says of a star

none_there : {X : Type 0} (xs : List X) → eqb (length xs) 0 ≡ true → [] ≡ xs
none_there [] e = refl
none_there (x ∷ xs) e = let z : suc (length xs) ≡ 0 = eqb-true (suc (length xs)) 0 e in absurd (omega arith)

-- kinds 0 and 2 come with nothing, kind 1 with whatever there is: for what a star of each kind has in it
kind_part : {X : Type 0} (part : ℕ → List X → List X) → ((xs : List X) → part 0 xs ≡ []) → ((xs : List X) → part 1 xs ≡ xs) → ((xs : List X) → part 2 xs ≡ [])
    → (kind : ℕ) (xs : List X) → kind_right kind (length xs) ≡ true → part kind xs ≡ xs
kind_part part p q r zero xs e = p xs ∙ none_there xs e
kind_part part p q r (suc zero) xs e = q xs
kind_part part p q r (suc (suc zero)) xs e = r xs ∙ none_there xs e
kind_part part p q r (suc (suc (suc kind))) xs e = absurd (false≢true e)

-- and for a test that refuses kind 2
kind_test : (test : ℕ → Bool) → test 0 ≡ true → test 1 ≡ true → test 2 ≡ false
    → (kind count : ℕ) → kind_right kind count ≡ true → test kind ≡ not (eqb kind 2)
kind_test test p q r zero count e = p
kind_test test p q r (suc zero) count e = q
kind_test test p q r (suc (suc zero)) count e = r
kind_test test p q r (suc (suc (suc kind))) count e = absurd (false≢true e)

-- entries whose keys are texts are named values, as written pairs are
pub words_named : (area : List ℕ) (ps : List Pair) → all (λ p. eqb p.key.kind call_text) ps ≡ true → words (map (entry_in area) ps) ≡ map (named_in area) ps
unfolding entry_in named_in key_in
words_named area [] e = refl
words_named area (p ∷ ps) e =
    let rest = words_named area ps (and_right (eqb p.key.kind call_text) (all (λ q. eqb q.key.kind call_text) ps) e) in
    rw (and_left (eqb p.key.kind call_text) (all (λ q. eqb q.key.kind call_text) ps) e)
    (ap {B = List Named} (λ r. named_in area p ∷ r) rest)

-- ---- a record that passes 10

module _ (area cells : List ℕ) (h : Head) (read : h ≡ read_head cells) (ten : kinds_right (read_call cells) ≡ true) where
  star_right : kind_right (read_call cells).star_kind (length (read_call cells).items) ≡ true
  unfolding kinds_right
  star_right =
      let r = read_call cells in
      and_left (kind_right r.star_kind (length r.items)) (kind_right r.double_kind (length r.entries)) ten

  double_right : kind_right (read_call cells).double_kind (length (read_call cells).entries) ≡ true
  unfolding kinds_right
  double_right =
      let r = read_call cells in
      and_right (kind_right r.star_kind (length r.items)) (kind_right r.double_kind (length r.entries)) ten

  -- P, the written pairs and the entries, as runs of the record's cells
  pub positionals_runs : positionals_of (call_in area (read_call cells)) ≡ values_at cells head_width h.p ++ values_at cells (items_from h) h.s
  unfolding positionals_of call_in
  positionals_runs =
      ap₂ {C = List Value} (λ vs ws. vs ++ ws) (call_positionals cells h read)
      (kind_part (λ k vs. items_of (star_of k vs)) (λ vs. refl) (λ vs. refl) (λ vs. refl) (read_call cells).star_kind (read_call cells).items star_right
      ∙ call_items cells h read)

  pub named_run : (call_in area (read_call cells)).named ≡ map (named_in area) (pairs_at cells (named_from h) h.n)
  unfolding call_in
  named_run = ap (map (named_in area)) (call_named cells h read)

  pub entries_run : entries_of (call_in area (read_call cells)).double ≡ map (entry_in area) (pairs_at cells (entries_from h) h.d)
  unfolding call_in
  entries_run =
      kind_part (λ k es. entries_of (double_of k es)) (λ es. refl) (λ es. refl) (λ es. refl) (read_call cells).double_kind (map (entry_in area) (read_call cells).entries)
      (rw (length-map (read_call cells).entries (entry_in area)) double_right)
      ∙ ap (map (entry_in area)) (call_entries cells h read)

  -- how many there are
  pub positionals_length : length (positionals_of (call_in area (read_call cells))) ≡ h.p + h.s
  positionals_length =
      rw (positionals_runs, length-append, each_length value_width read_value h.p (drop head_width cells), each_length value_width read_value h.s (drop (items_from h) cells))

  pub named_length : length (call_in area (read_call cells)).named ≡ h.n
  named_length = rw (named_run, length-map (pairs_at cells (named_from h) h.n) (named_in area), each_length pair_width read_pair h.n (drop (named_from h) cells))

  pub entries_length : length (entries_of (call_in area (read_call cells)).double) ≡ h.d
  entries_length = rw (entries_run, length-map (pairs_at cells (entries_from h) h.d) (entry_in area), each_length pair_width read_pair h.d (drop (entries_from h) cells))

  -- 15 and 17
  pub star_passes_lem : star_passes (call_in area (read_call cells)).star ≡ not (eqb h.star_kind 2)
  unfolding call_in read_call
  star_passes_lem = rw read (kind_test (λ k. star_passes (star_of k (read_call cells).items)) refl refl refl (read_call cells).star_kind (length (read_call cells).items) star_right)

  pub double_passes_lem : double_passes (call_in area (read_call cells)).double ≡ not (eqb h.double_kind 2)
  unfolding call_in read_call
  double_passes_lem =
      rw read
      (kind_test (λ k. double_passes (double_of k (map (entry_in area) (read_call cells).entries))) refl refl refl (read_call cells).double_kind (length (read_call cells).entries) double_right)

  -- ---- a record that passes 9 too: what stands at each place

  module _ (B : ℕ) (nine : lengths_right B cells ≡ true) where
    position_runs : (k : ℕ) → position_at B h k ≡ in_runs value_width head_width h.p (items_from h) h.s k
    unfolding position_at
    position_runs k = rw (lengths_at_most cells h read B nine)

    named_runs : (k : ℕ) → named_at B h k ≡ in_runs pair_width (named_from h) h.n (entries_from h) h.d k
    unfolding named_at
    named_runs k = rw (lengths_at_most cells h read B nine)

    -- value k of P
    pub positional_at_lem : (k : ℕ) (v : Value) → k < h.p + h.s → get_or (positionals_of (call_in area (read_call cells))) k v ≡ read_value (drop (position_at B h k) cells)
    positional_at_lem k v l =
        rw (positionals_runs, position_runs k) (runs_both value_width read_value cells head_width h.p (items_from h) h.s k v l)

    -- written pair k, which is pair k of N
    pub named_at_lem : (k : ℕ) (x : Named) → k < h.n → get_or (call_in area (read_call cells)).named k x ≡ named_in area (read_pair (drop (named_at B h k) cells))
    named_at_lem k x l =
        rw (named_run, named_runs k, each_map pair_width read_pair (named_in area) h.n (drop (named_from h) cells))
        (runs_first pair_width (λ c. named_in area (read_pair c)) cells (named_from h) h.n (entries_from h) h.d k x l)

    -- entry k, whose place is that of pair n + k
    pub entry_at : (k : ℕ) (x : Entry) → k < h.d → get_or (entries_of (call_in area (read_call cells)).double) k x ≡ entry_in area (read_pair (drop (named_at B h (h.n + k)) cells))
    entry_at k x l =
        rw (entries_run, named_runs (h.n + k), each_map pair_width read_pair (entry_in area) h.d (drop (entries_from h) cells))
        (runs_second pair_width (λ c. entry_in area (read_pair c)) cells (named_from h) h.n (entries_from h) h.d k x l)

    -- and every place lies inside the record
    pub position_within : (k : ℕ) → k < h.p + h.s → position_at B h k + value_width ≤ length cells
    position_within k l =
        rw (position_runs k)
        (runs_within value_width read_value cells head_width h.p (items_from h) h.s (length cells) k (positionals_within cells h read B nine) (items_within cells h read B nine) l)

    pub pair_within : (k : ℕ) → k < h.n + h.d → named_at B h k + pair_width ≤ length cells
    pair_within k l =
        rw (named_runs k)
        (runs_within pair_width read_pair cells (named_from h) h.n (entries_from h) h.d (length cells) k (named_within cells h read B nine) (entries_within cells h read B nine) l)

    -- where 11 passes too, what stands there is well formed
    module _ (eleven : parts_well_formed area (read_call cells) ≡ true) where
      run_formed : (test : Pair → Bool) (from count at k : ℕ) → k < count → all test (pairs_at cells from count) ≡ true
          → ((x : Pair) → get_or (pairs_at cells from count) k x ≡ read_pair (drop at cells)) → test (read_pair (drop at cells)) ≡ true
      run_formed test from count at k l e there =
          let x = read_pair [] in
          rw (sym (there x)) (all_at test (pairs_at cells from count) k x (rw (each_length pair_width read_pair count (drop from cells)) l) e)

      pub positional_formed : (k : ℕ) → k < h.p + h.s → well_formed_argument area (read_value (drop (position_at B h k) cells)) ≡ true
      positional_formed k l =
          rw (sym (positional_at_lem k no_value l))
          (all_at (well_formed_argument area) (positionals_of (call_in area (read_call cells))) k no_value (rw positionals_length l)
          (rw positionals_runs
          (all_append (well_formed_argument area) (values_at cells head_width h.p) (values_at cells (items_from h) h.s)
          (rw (sym (call_positionals cells h read)) (parts_positionals area (read_call cells) eleven))
          (rw (sym (call_items cells h read)) (parts_items area (read_call cells) eleven)))))

      pub named_formed : (k : ℕ) → k < h.n → well_formed_pair area (read_pair (drop (named_at B h k) cells)) ≡ true
      named_formed k l =
          run_formed (well_formed_pair area) (named_from h) h.n (named_at B h k) k l (rw (sym (call_named cells h read)) (parts_named area (read_call cells) eleven))
          (λ x. rw (named_runs k) (runs_first pair_width read_pair cells (named_from h) h.n (entries_from h) h.d k x l))

      pub entry_formed : (k : ℕ) → k < h.d → well_formed_entry area (read_pair (drop (named_at B h (h.n + k)) cells)) ≡ true
      entry_formed k l =
          run_formed (well_formed_entry area) (entries_from h) h.d (named_at B h (h.n + k)) k l (rw (sym (call_entries cells h read)) (parts_entries area (read_call cells) eleven))
          (λ x. rw (named_runs (h.n + k)) (runs_second pair_width read_pair cells (named_from h) h.n (entries_from h) h.d k x l))

    -- where every key is a text: how many N has, and pair k of N
    module _ (texts : all (λ p. eqb p.key.kind call_text) (pairs_at cells (entries_from h) h.d) ≡ true) where
      N-runs : named_of (call_in area (read_call cells)) ≡ map (named_in area) (pairs_at cells (named_from h) h.n) ++ map (named_in area) (pairs_at cells (entries_from h) h.d)
      unfolding named_of
      N-runs = ap₂ {C = List Named} (λ vs ws. vs ++ ws) named_run (ap words entries_run ∙ words_named area (pairs_at cells (entries_from h) h.d) texts)

      pub N-length : length (named_of (call_in area (read_call cells))) ≡ h.n + h.d
      N-length =
          rw (
            N-runs,
            length-append,
            length-map (pairs_at cells (named_from h) h.n) (named_in area),
            length-map (pairs_at cells (entries_from h) h.d) (named_in area),
            each_length pair_width read_pair h.n (drop (named_from h) cells),
            each_length pair_width read_pair h.d (drop (entries_from h) cells),
          )

      pub N-at : (k : ℕ) (x : Named) → k < h.n + h.d → get_or (named_of (call_in area (read_call cells))) k x ≡ named_in area (read_pair (drop (named_at B h k) cells))
      N-at k x l =
          rw (
            N-runs,
            named_runs k,
            each_map pair_width read_pair (named_in area) h.n (drop (named_from h) cells),
            each_map pair_width read_pair (named_in area) h.d (drop (entries_from h) cells),
          )
          (runs_both pair_width (λ c. named_in area (read_pair c)) cells (named_from h) h.n (entries_from h) h.d k x l)
