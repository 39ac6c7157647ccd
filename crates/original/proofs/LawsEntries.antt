-- Laws of the loop over the dictionary's entries (spec.rs 759-783): it ends as 18 and 19 answer, and where they refuse nothing the locals
-- hold what the names of N give.
-- Assumes nothing.
use mathlib.Core.Path.{◌≡◌, refl, sym, ap, ◌∙◌}
use mathlib.Core.Bool.{Bool, true, false, cond, ◌||◌, false≢true, true≢false}
use mathlib.Core.List.{List, [], ◌∷◌, ◌++◌, map, append-nil, append_assoc}
use mathlib.Core.Option.{Option, none, some}
use Prim.Native.Nat.{ℕ, min, ◌<◌}
use native.Mathlib.Nat.{zero-add}
use native.Mathlib.Omega.{arith}
use borrow.Author.Tests.{eqb-true, eq-eqb}
use lib.Dec.{ltb}
use lib.ListN.{length, get_or}
use Rattle.rules.specs.Listing.{all, map_from}
use Rattle.rules.specs.Text.{same_bytes, among}
use Rattle.rules.specs.Value.{Value, no_value}
use Rattle.rules.specs.Answer.{fine, refuse, name, Part, part_of, call_area}
use Rattle.rules.specs.CallRecord.{Named, Entry, Key, word, number, word_of, words}
use Rattle.rules.specs.Parameters.{Parameter, positional_count}
use Rattle.rules.specs.Lookup.{names, known, Finding, at, unknown, find_from, find}
use Rattle.rules.specs.Placement.{partner, named_remainder}
use Rattle.rules.specs.Binding.{texts_of, named_by, names_filled, ask_entry, ask_entries}
use Rattle.rules.specs.Passed.{positional_first, names_apart}
use Rattle.rules.proofs.LawsListing.{and_left, or_left, or_right}
use Rattle.rules.proofs.LawsText.{same_bytes_eq}
use Rattle.rules.proofs.LawsPlacement.{is_some as is_given, partner_some}
use Rattle.rules.proofs.LawsFound.{is_at, is_found, is_below, known_found, names_filled_lem, among_named, among_unknown}
use Rattle.original.specs.Spec.{is_some, spec_of}
use Rattle.original.specs.Locals.{Held, single, RepeatedArg, ok, err, Locals, holds_key, insert_hashed, insert_repeats, insert}
use Rattle.original.specs.Ending.{ends, error_of}
use Rattle.original.proofs.TotalCollect.{entry_repeats, entry_after, entry_at, entry_one, entry_each}
use Rattle.original.proofs.LawsSlots.{map_from_same₀, get_d_map_from}
use Rattle.original.proofs.LawsPositional.{same_locals}
use Rattle.original.proofs.LawsSpec.{index_found, get_from, Short, found_short}
use Rattle.original.proofs.LawsNamed.{write_at, names_here, write_named, over, partner_new, lazy, remainder_snoc}
use Rattle.original.proofs.LawsEnds.{ends_then, reads_named, all_front, all_back}

-- ---- the map

pub key_among : (b : List ℕ) (ms : List Named) → holds_key b ms ≡ among b (texts_of ms)
unfolding texts_of
key_among b [] = refl
key_among b (m ∷ ms) = go (same_bytes b m.name.bytes) (key_among b ms)
  where
    go : (c : Bool) → holds_key b ms ≡ among b (map (λ w. w.name) ms) → cond c true (holds_key b ms) ≡ (c || among b (map (λ w. w.name) ms))
    go true e = refl
    go false e = e

lazy_repeats : (v : Named) (ms : List Named) → insert_repeats v (lazy ms) ≡ among v.name.bytes (texts_of ms)
lazy_repeats v [] = key_among v.name.bytes []
lazy_repeats v (m ∷ ms) = key_among v.name.bytes (m ∷ ms)

-- a new key goes to the end
hashed_new : (v : Named) (ms : List Named) → among v.name.bytes (texts_of ms) ≡ false → insert_hashed v ms ≡ ms ++ (v ∷ [])
unfolding texts_of
hashed_new v [] e = refl
hashed_new v (m ∷ ms) e =
    rw (or_left (same_bytes v.name.bytes m.name.bytes) (among v.name.bytes (texts_of ms)) e)
    (ap {B = List Named} (λ r. m ∷ r) (hashed_new v ms (or_right (same_bytes v.name.bytes m.name.bytes) (among v.name.bytes (texts_of ms)) e)))

lazy_insert : (v : Named) (ms : List Named) → among v.name.bytes (texts_of ms) ≡ false → insert v (lazy ms) ≡ lazy (ms ++ (v ∷ []))
lazy_insert v [] e = refl
lazy_insert v (m ∷ ms) e = ap {B = Option (List Named)} some (hashed_new v (m ∷ ms) e)

known_not : (qs : List Parameter) (b : List ℕ) → find qs b ≡ unknown → known qs b ≡ false
unfolding find
known_not qs b e = sym (known_found qs b 0) ∙ ap is_found e

-- ---- one entry

-- slots that hold the first n of P, and past them what names give
abbrev pub held_with : List Value → ℕ → List Named → ℕ → Parameter → Option Held
held_with P n N k q = cond (ltb k n) (some (single (get_or P k no_value))) (over (partner q N) none)

held_some : (P : List Value) (n : ℕ) (N : List Named) (k : ℕ) (q : Parameter) → is_some (held_with P n N k q) ≡ (ltb k n || named_by N q)
held_some P n N k q = go (ltb k n) (partner q N) (partner_some q N)
  where
    go : (c : Bool) (o : Option Value) → is_given o ≡ named_by N q → is_some (cond c (some (single (get_or P k no_value))) (over o none)) ≡ (c || named_by N q)
    go true o e = refl
    go false none e = e
    go false (some v) e = e

module _ (qs : List Parameter) (d : Parameter) (P : List Value) (first : positional_first qs ≡ true) (apart : names_apart [] qs ≡ true) (stars : List Value) (low : ℕ) where
  abbrev below : ℕ
  below = min (length P) (positional_count qs)

  -- the locals when the names N are placed
  abbrev pub placed_locals : List Named → Locals
  placed_locals N =
      record {
        slots = map_from (held_with P (min (length P) (positional_count qs)) N) 0 qs;
        star_args = stars;
        kwargs = lazy (named_remainder qs N);
        next_position = min (length P) (positional_count qs);
        lowest_name = low;
      }

  entry_repeats_lem : (N : List Named) (v : Named) → entry_repeats (index_found (find qs v.name.bytes)) v (placed_locals N) ≡ (names_filled P 0 qs v.name.bytes || among v.name.bytes (texts_of N))
  unfolding find
  entry_repeats_lem N v =
      go (find_from 0 qs v.name.bytes) (known_found qs v.name.bytes 0) (names_here qs d apart v.name.bytes) (found_short 0 qs v.name.bytes (length qs) (omega arith))
      ∙ ap (λ (c : Bool). c || among v.name.bytes (texts_of N)) (sym (names_filled_lem qs P v.name.bytes d first apart))
    where
      go : (f : Finding) → is_found f ≡ known qs v.name.bytes → ((k : ℕ) → k < length qs → names v.name.bytes (get_or qs k d) ≡ is_at k f) → Short (length qs) f
          → entry_repeats (index_found f) v (placed_locals N) ≡ (is_below below f || among v.name.bytes (texts_of N))
      go (at i) k n s =
          ap is_some (get_d_map_from (held_with P below N) 0 qs i none d s ∙ ap (λ (j : ℕ). held_with P below N j (get_or qs i d)) (zero-add i))
          ∙ held_some P below N i (get_or qs i d)
          ∙ ap (λ (c : Bool). ltb i below || c) (sym (among_named v.name.bytes (get_or qs i d) N (n i s ∙ eq-eqb i i refl)))
      go unknown k n s = lazy_repeats v (named_remainder qs N) ∙ sym (among_unknown qs v.name.bytes N (sym k))

  entry_after_lem : (N : List Named) (v : Named) → (names_filled P 0 qs v.name.bytes || among v.name.bytes (texts_of N)) ≡ false
      → entry_after (index_found (find qs v.name.bytes)) v (placed_locals N) ≡ placed_locals (N ++ (v ∷ []))
  entry_after_lem N v free =
      go (find qs v.name.bytes) refl
    where
      new : among v.name.bytes (texts_of N) ≡ false
      new = or_right (names_filled P 0 qs v.name.bytes) (among v.name.bytes (texts_of N)) free

      not_below : is_below below (find qs v.name.bytes) ≡ false
      not_below = sym (names_filled_lem qs P v.name.bytes d first apart) ∙ or_left (names_filled P 0 qs v.name.bytes) (among v.name.bytes (texts_of N)) free

      -- what is found is no slot filled from P
      unfilled : (f : Finding) (k : ℕ) → is_below below f ≡ false → is_at k f ≡ true → ltb k below ≡ false
      unfilled (at i) k b e = ap (λ (j : ℕ). ltb j below) (sym (eqb-true i k e)) ∙ b
      unfilled unknown k b e = absurd (false≢true e)

      slot : (k : ℕ) → k < length qs → cond (names v.name.bytes (get_or qs k d)) (some (single v.value)) (held_with P below N k (get_or qs k d)) ≡ held_with P below (N ++ (v ∷ [])) k (get_or qs k d)
      slot k h = at_slot (ltb k below) refl (names v.name.bytes (get_or qs k d)) refl
        where
          at_slot : (t : Bool) → ltb k below ≡ t → (c : Bool) → names v.name.bytes (get_or qs k d) ≡ c
              → cond (names v.name.bytes (get_or qs k d)) (some (single v.value)) (cond t (some (single (get_or P k no_value))) (over (partner (get_or qs k d) N) none))
              ≡ cond t (some (single (get_or P k no_value))) (over (partner (get_or qs k d) (N ++ (v ∷ []))) none)
          at_slot true p true e = absurd (true≢false (sym p ∙ unfilled (find qs v.name.bytes) k not_below (sym (names_here qs d apart v.name.bytes k h) ∙ e)))
          at_slot true p false e = rw (e)
          at_slot false p c e = partner_new N v (get_or qs k d) none new

      written : write_at (find qs v.name.bytes) (some (single v.value)) (map_from (held_with P below N) 0 qs) ≡ map_from (held_with P below (N ++ (v ∷ []))) 0 qs
      written =
          write_named qs d apart (held_with P below N) v.name.bytes (some (single v.value))
          ∙ map_from_same₀ (λ k q. cond (names v.name.bytes q) (some (single v.value)) (held_with P below N k q)) (held_with P below (N ++ (v ∷ []))) d qs slot

      go : (f : Finding) → find qs v.name.bytes ≡ f → entry_after (index_found f) v (placed_locals N) ≡ placed_locals (N ++ (v ∷ []))
      go (at i) p =
          same_locals (ap (λ (f : Finding). write_at f (some (single v.value)) (map_from (held_with P below N) 0 qs)) (sym p) ∙ written) refl
          (ap lazy (sym (remainder_snoc qs N v ∙ ap (λ (f : Finding). named_remainder qs N ++ cond (is_found f) [] (v ∷ [])) p ∙ append-nil (named_remainder qs N)))) refl refl
      go unknown p =
          same_locals (ap (λ (f : Finding). write_at f (some (single v.value)) (map_from (held_with P below N) 0 qs)) (sym p) ∙ written) refl
          (lazy_insert v (named_remainder qs N) (sym (among_unknown qs v.name.bytes N (known_not qs v.name.bytes p)) ∙ new)
          ∙ ap lazy (sym (remainder_snoc qs N v ∙ ap (λ (f : Finding). named_remainder qs N ++ cond (is_found f) [] (v ∷ [])) p))) refl refl

  -- ---- all the entries

  module _ (read : Part → List ℕ) (named : List Named) where
    entry_one_lem : (N : List Named) (k : Key) (x : Value) → all (reads_named read) (word_of k x) ≡ true
        → some (entry_one (spec_of qs) k x (placed_locals N)) ≡ ends read named (ask_entry qs P N k) (ok (placed_locals (N ++ word_of k x)))
    unfolding error_of entry_at spec_of find
    entry_one_lem N (number n) x r = refl
    entry_one_lem N (word t) x r =
        rw (get_from 0 qs t.bytes, entry_repeats_lem N (record { name = t; value = x }))
        (go (names_filled P 0 qs t.bytes || among t.bytes (texts_of N)) refl)
      where
        go : (c : Bool) → (names_filled P 0 qs t.bytes || among t.bytes (texts_of N)) ≡ c
            → some (cond c (err (RepeatedArg t.bytes)) (ok (entry_after (index_found (find_from 0 qs t.bytes)) (record { name = t; value = x }) (placed_locals N))))
            ≡ ends read named (cond c (refuse 19 (name (part_of call_area t))) fine) (ok (placed_locals (N ++ (record { name = t; value = x } ∷ []))))
        go true p = ap (λ (bs : List ℕ). some (err (RepeatedArg bs))) (sym (same_bytes_eq (read (part_of call_area t)) t.bytes (and_left (reads_named read (record { name = t; value = x })) true r)))
        go false p = ap (λ (l : Locals). some (ok l)) (entry_after_lem N (record { name = t; value = x }) p)

    pub entry_each_lem : (N : List Named) (es : List Entry) → all (reads_named read) (words es) ≡ true
        → some (entry_each (spec_of qs) es (placed_locals N)) ≡ ends read named (ask_entries qs P N es) (ok (placed_locals (N ++ words es)))
    entry_each_lem N [] r = ap (λ (M : List Named). some (ok (placed_locals M))) (sym (append-nil N))
    entry_each_lem N (e ∷ es) r =
        ends_then read named (entry_one (spec_of qs) e.key e.value (placed_locals N)) (entry_each (spec_of qs) es) (ask_entry qs P N e.key) (ask_entries qs P (N ++ word_of e.key e.value) es)
        (placed_locals (N ++ word_of e.key e.value)) (ok (placed_locals (N ++ (word_of e.key e.value ++ words es))))
        (entry_one_lem N e.key e.value (all_front (reads_named read) (word_of e.key e.value) (words es) r))
        (λ f. entry_each_lem (N ++ word_of e.key e.value) es (all_back (reads_named read) (word_of e.key e.value) (words es) r)
        ∙ ap (λ (M : List Named). ends read named (ask_entries qs P (N ++ word_of e.key e.value) es) (ok (placed_locals M))) (append_assoc N (word_of e.key e.value) (words es)))
