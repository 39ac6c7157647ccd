-- Laws of calls in the list's order: the values of P stand for the first parameters and the named values of N for the others, each named after
-- its own. Nothing is refused, and the slots are the values.
-- Assumes nothing.
use mathlib.Core.Path.{◌≡◌, refl, sym, ap, ap₂, ◌∙◌}
use mathlib.Core.Bool.{Bool, true, false, cond, not, ◌&&◌, ◌||◌, false≢true, true≢false}
use mathlib.Core.List.{List, [], ◌∷◌, ◌++◌, map, append-nil}
use mathlib.Core.Option.{some}
use Prim.Native.Nat.{ℕ, zero, suc, ◌+◌, ◌≤◌}
use native.Mathlib.Nat.{zero-add}
use native.Mathlib.Omega.{arith}
use borrow.Author.Tests.{le-ltb}
use lib.Dec.{ltb}
use lib.ListN.{length, take, drop, get_or, drop_of_length-le, take-append-drop, length-append}
use lib.Seq.{append_snoc, length-take-le}
use Rattle.rules.specs.Listing.{all, any, tally, any_from, map_from}
use Rattle.rules.specs.Cells.{write_each}
use Rattle.rules.specs.Text.{among, differ}
use Rattle.rules.specs.Value.{Value, value_cells, no_value}
use Rattle.rules.specs.Answer.{fine, ◌then◌}
use Rattle.rules.specs.CallRecord.{Named, Call, Entry, Key, word, number, word_of, words, entries_of, positionals_of, named_of}
use Rattle.rules.specs.Parameters.{Parameter, positional, nameable, positional_count, has_args, has_kwargs}
use Rattle.rules.specs.Lookup.{names, known}
use Rattle.rules.specs.Passed.{positional_first, names_apart}
use Rattle.rules.specs.Placement.{Slot, taken, from_p, partner, otherwise, taken_or, slot_of, place, star_remainder, named_remainder, counts_of}
use Rattle.rules.specs.Accessors.{is_word}
use Rattle.rules.specs.Board.{slot_cells, written}
use Rattle.rules.specs.Binding.{texts_of, names_filled, ask_repeats, ask_entries, ask_star_remainder, ask_named_remainder, ask_placed, ask_binding}
use Rattle.rules.proofs.LawsListing.{and_left, and_right, and_both, and_no_right, or_left, or_right, or_neither, not_yes, not_of, all_imp, keep_all, any_append, map_append}
use Rattle.rules.proofs.LawsAnswer.{then_fine}
use Rattle.rules.proofs.LawsPlacement.{known_snoc}
use Rattle.rules.proofs.LawsFound.{none_after, among_unknown}
use Rattle.rules.proofs.LawsShort.{tally_most, slots_short, taken_cells, all_taken, none_defaulted, required_taken}
use Rattle.rules.proofs.LawsBinding.{repeats_slots, repeats_fine, as_entry, entries_fine, binding_parts}
use Rattle.prepared.specs.InOrder.{in_turn, InOrder}

-- ---- a list cut in two

or_yes : (x y : Bool) → y ≡ true → (x || y) ≡ true
or_yes true y e = refl
or_yes false y e = e

-- the index goes on where the front ends
map_from_append : {X Y : Type 0} (f : ℕ → X → Y) (i j : ℕ) (xs ys : List X) → length xs + i ≡ j → map_from f i (xs ++ ys) ≡ map_from f i xs ++ map_from f j ys
map_from_append f i j [] ys e = ap (λ n. map_from f n ys) (sym (zero-add i) ∙ e)
map_from_append {Y = Y} f i j (x ∷ xs) ys e = ap {B = List Y} (λ r. f i x ∷ r) (map_from_append f (suc i) j xs ys (omega arith))

-- where the positional parameters come first, a front no longer than their count has only such
none_tally : (qs : List Parameter) → all (λ p. not (positional p)) qs ≡ true → tally positional qs ≡ 0
none_tally [] e = refl
none_tally (q ∷ qs) e =
    go (positional q) (not_yes (positional q) (and_left (not (positional q)) (all (λ p. not (positional p)) qs) e)) (none_tally qs (and_right (not (positional q)) (all (λ p. not (positional p)) qs) e))
  where
    go : (b : Bool) → b ≡ false → tally positional qs ≡ 0 → cond b (suc (tally positional qs)) (tally positional qs) ≡ 0
    go true p z = absurd (true≢false p)
    go false p z = z

front_positional : (n : ℕ) (qs : List Parameter) → positional_first qs ≡ true → n ≤ tally positional qs → all positional (take n qs) ≡ true
front_positional zero qs e l = refl
front_positional (suc n) [] e l = refl
front_positional (suc n) (q ∷ qs) e l = go (positional q) e l (front_positional n qs)
  where
    go : (b : Bool) → cond b (positional_first qs) (all (λ p. not (positional p)) qs) ≡ true → suc n ≤ cond b (suc (tally positional qs)) (tally positional qs)
        → (positional_first qs ≡ true → n ≤ tally positional qs → all positional (take n qs) ≡ true) → (b && all positional (take n qs)) ≡ true
    go true f h ih = ih f (omega arith)
    go false f h ih = absurd (omega (arith, none_tally qs f))

-- the names of the rest are new among those of the front
apart_rest : (before front rest : List Parameter) → names_apart before (front ++ rest) ≡ true → names_apart (before ++ front) rest ≡ true
apart_rest before [] rest e = ap (λ l. names_apart l rest) (append-nil before) ∙ e
apart_rest before (q ∷ front) rest e =
    ap (λ l. names_apart l rest) (sym (append_snoc before q front))
    ∙ apart_rest (before ++ (q ∷ [])) front rest (and_right (not (nameable q) || not (known before q.name.bytes)) (names_apart (before ++ (q ∷ [])) (front ++ rest)) e)

-- a name of the parameters is none of those before them
none_before : (before qs : List Parameter) (b : List ℕ) → names_apart before qs ≡ true → known qs b ≡ true → known before b ≡ false
none_before before qs b a k = go (known before b) refl
  where
    go : (c : Bool) → known before b ≡ c → c ≡ false
    go true p = sym k ∙ none_after before qs b a p
    go false p = refl

-- ---- the named values stand in turn

abbrev is_known : List Parameter → Named → Bool
is_known qs v = known qs v.name.bytes

abbrev value_of : Named → Value
value_of v = v.value

-- there are as many of them as of the parameters, and these know them all
turn_length : (qs : List Parameter) (vs : List Named) → in_turn qs vs ≡ true → length vs ≡ length qs
turn_length [] [] t = refl
turn_length [] (v ∷ vs) t = absurd (false≢true t)
turn_length (q ∷ qs) [] t = absurd (false≢true t)
turn_length (q ∷ qs) (v ∷ vs) t = ap suc (turn_length qs vs (and_right (names v.name.bytes q) (in_turn qs vs) t))

turn_known : (qs : List Parameter) (vs : List Named) → in_turn qs vs ≡ true → all (is_known qs) vs ≡ true
unfolding known
turn_known [] [] t = refl
turn_known [] (v ∷ vs) t = absurd (false≢true t)
turn_known (q ∷ qs) [] t = absurd (false≢true t)
turn_known (q ∷ qs) (v ∷ vs) t =
    and_both (is_known (q ∷ qs) v) (all (is_known (q ∷ qs)) vs)
    (ap (λ c. c || any (names v.name.bytes) qs) (and_left (names v.name.bytes q) (in_turn qs vs) t))
    (all_imp (is_known qs) (is_known (q ∷ qs)) (λ w e. or_yes (names w.name.bytes q) (any (names w.name.bytes) qs) e) vs (turn_known qs vs (and_right (names v.name.bytes q) (in_turn qs vs) t)))

none_remain : (qs : List Parameter) (vs : List Named) → all (is_known qs) vs ≡ true → named_remainder qs vs ≡ []
unfolding named_remainder
none_remain qs vs k = keep_all (is_known qs) vs k

-- the first one names the first parameter, so none of the others
module _ (before : List Parameter) (q : Parameter) (qs : List Parameter) (v : Named) (vs : List Named) (a : names_apart before (q ∷ qs) ≡ true) (t : in_turn (q ∷ qs) (v ∷ vs) ≡ true) where
  turn_name : names v.name.bytes q ≡ true
  turn_name = and_left (names v.name.bytes q) (in_turn qs vs) t

  turn_rest : in_turn qs vs ≡ true
  turn_rest = and_right (names v.name.bytes q) (in_turn qs vs) t

  turn_apart : names_apart (before ++ (q ∷ [])) qs ≡ true
  turn_apart = and_right (not (nameable q) || not (known before q.name.bytes)) (names_apart (before ++ (q ∷ [])) qs) a

  turn_new : known qs v.name.bytes ≡ false
  turn_new = none_after (before ++ (q ∷ [])) qs v.name.bytes turn_apart (known_snoc before q v.name.bytes ∙ or_yes (known before v.name.bytes) (names v.name.bytes q) turn_name)

-- no name twice
turn_differ : (before qs : List Parameter) (vs : List Named) → names_apart before qs ≡ true → in_turn qs vs ≡ true → differ (texts_of vs) ≡ true
unfolding texts_of
turn_differ before [] [] a t = refl
turn_differ before [] (v ∷ vs) a t = absurd (false≢true t)
turn_differ before (q ∷ qs) [] a t = absurd (false≢true t)
turn_differ before (q ∷ qs) (v ∷ vs) a t =
    and_both (not (among v.name.bytes (texts_of vs))) (differ (texts_of vs)) (not_of (among v.name.bytes (texts_of vs)) new)
    (turn_differ (before ++ (q ∷ [])) qs vs (turn_apart before q qs v vs a t) (turn_rest before q qs v vs a t))
  where
    new : among v.name.bytes (texts_of vs) ≡ false
    new =
        among_unknown qs v.name.bytes vs (turn_new before q qs v vs a t)
        ∙ ap (λ r. among v.name.bytes (texts_of r)) (none_remain qs vs (turn_known qs vs (turn_rest before q qs v vs a t)))

-- ---- the slots are the values

-- a slot past P is not filled from it
past_P : (P : List Value) (i : ℕ) (q : Parameter) → length P ≤ i → from_p P i q ≡ false
unfolding from_p
past_P P i q l = and_no_right (positional q) (ltb i (length P)) (le-ltb i (length P) l)

-- a named value that names none of some parameters changes nothing of their slots
slots_unnamed : (P : List Value) (v : Named) (vs : List Named) (a b i : ℕ) (qs : List Parameter) → known qs v.name.bytes ≡ false → map_from (slot_of P (v ∷ vs) a b) i qs ≡ map_from (slot_of P vs a b) i qs
unfolding known slot_of
slots_unnamed P v vs a b i [] k = refl
slots_unnamed P v vs a b i (q ∷ qs) k =
    ap₂ {C = List Slot} (λ s ss. s ∷ ss)
    (ap (λ c. cond (from_p P i q) (taken (get_or P i no_value)) (taken_or (cond c (some v.value) (partner q vs)) (otherwise q.kind a b))) (or_left (names v.name.bytes q) (any (names v.name.bytes) qs) k))
    (slots_unnamed P v vs a b (suc i) qs (or_right (names v.name.bytes q) (any (names v.name.bytes) qs) k))

-- the rest's, filled from N
slots_turn : (P : List Value) (a b i : ℕ) (before qs : List Parameter) (vs : List Named) → length P ≤ i → names_apart before qs ≡ true → in_turn qs vs ≡ true
    → map_from (slot_of P vs a b) i qs ≡ map taken (map value_of vs)
unfolding slot_of
slots_turn P a b i before [] [] l n t = refl
slots_turn P a b i before [] (v ∷ vs) l n t = absurd (false≢true t)
slots_turn P a b i before (q ∷ qs) [] l n t = absurd (false≢true t)
slots_turn P a b i before (q ∷ qs) (v ∷ vs) l n t =
    ap₂ {C = List Slot} (λ s ss. s ∷ ss) here
    (slots_unnamed P v vs a b (suc i) qs (turn_new before q qs v vs n t)
    ∙ slots_turn P a b (suc i) (before ++ (q ∷ [])) qs vs (omega arith) (turn_apart before q qs v vs n t) (turn_rest before q qs v vs n t))
  where
    here : slot_of P (v ∷ vs) a b i q ≡ taken v.value
    here = rw (past_P P i q l, turn_name before q qs v vs n t)

-- ---- no name is that of a slot filled from P

-- not past P, and not in a front that knows it not
filled_past : (P : List Value) (b : List ℕ) (i : ℕ) (qs : List Parameter) → length P ≤ i → names_filled P i qs b ≡ false
unfolding names_filled
filled_past P b i [] l = refl
filled_past P b i (q ∷ qs) l =
    or_neither (from_p P i q && names b q) (any_from (λ k p. from_p P k p && names b p) (suc i) qs) (ap (λ c. c && names b q) (past_P P i q l)) (filled_past P b (suc i) qs (omega arith))

filled_none : (P : List Value) (b : List ℕ) (i : ℕ) (front rest : List Parameter) → known front b ≡ false → length front + i ≡ length P → names_filled P i (front ++ rest) b ≡ false
unfolding names_filled known
filled_none P b i [] rest k l = filled_past P b i rest (omega arith)
filled_none P b i (q ∷ front) rest k l =
    or_neither (from_p P i q && names b q) (any_from (λ j p. from_p P j p && names b p) (suc i) (front ++ rest))
    (and_no_right (from_p P i q) (names b q) (or_left (names b q) (any (names b) front) k))
    (filled_none P b (suc i) front rest (or_right (names b q) (any (names b) front) k) (omega arith))

-- ---- a front of positional parameters as long as P, and the rest in turn

module _ (front rest : List Parameter) (P : List Value) (N : List Named) (full : length front ≡ length P) (by_place : all positional front ≡ true) (apart : names_apart front rest ≡ true) (turn : in_turn rest N ≡ true) where
  slots_cut : (a b : ℕ) → map_from (slot_of P N a b) 0 (front ++ rest) ≡ map taken (P ++ map value_of N)
  slots_cut a b =
      map_from_append (slot_of P N a b) 0 (length P) front rest (omega arith)
      ∙ ap₂ {C = List Slot} (λ xs ys. xs ++ ys) (slots_short P N a b 0 front by_place (omega arith)) (slots_turn P a b (length P) front rest N (omega arith) apart turn)
      ∙ sym (map_append taken P (map value_of N))

  known_cut : all (is_known (front ++ rest)) N ≡ true
  unfolding known
  known_cut =
      all_imp (is_known rest) (is_known (front ++ rest))
      (λ v e. any_append (names v.name.bytes) front rest ∙ or_yes (any (names v.name.bytes) front) (any (names v.name.bytes) rest) e) N (turn_known rest N turn)

  unfilled_cut : any (λ v. names_filled P 0 (front ++ rest) v.name.bytes) N ≡ false
  unfilled_cut = go N (turn_known rest N turn)
    where
      go : (vs : List Named) → all (is_known rest) vs ≡ true → any (λ v. names_filled P 0 (front ++ rest) v.name.bytes) vs ≡ false
      go [] k = refl
      go (v ∷ vs) k =
          or_neither (names_filled P 0 (front ++ rest) v.name.bytes) (any (λ w. names_filled P 0 (front ++ rest) w.name.bytes) vs)
          (filled_none P v.name.bytes 0 front rest (none_before front rest v.name.bytes apart (and_left (is_known rest v) (all (is_known rest) vs) k)) (omega arith))
          (go vs (and_right (is_known rest v) (all (is_known rest) vs) k))

  length_cut : length (P ++ map value_of N) ≡ length (front ++ rest)
  length_cut = length-append P (map value_of N) ∙ omega (arith, lengths N, turn_length rest N turn, length-append front rest)
    where
      lengths : (vs : List Named) → length (map value_of vs) ≡ length vs
      lengths [] = refl
      lengths (v ∷ vs) = ap suc (lengths vs)

module _ (qs : List Parameter) (first : positional_first qs ≡ true) (apart : names_apart [] qs ≡ true) (P : List Value) (N : List Named) (few : length P ≤ positional_count qs) (turn : in_turn (drop (length P) qs) N ≡ true) where
  -- ---- the cut after as many parameters as P has values

  front_full : length (take (length P) qs) ≡ length P
  unfolding positional_count
  front_full = let most : tally positional qs ≤ length qs = tally_most qs in length-take-le (length P) qs (omega arith)

  front_by_place : all positional (take (length P) qs) ≡ true
  unfolding positional_count
  front_by_place = front_positional (length P) qs first few

  cut : take (length P) qs ++ drop (length P) qs ≡ qs
  cut = take-append-drop (length P) qs

  rest_apart : names_apart (take (length P) qs) (drop (length P) qs) ≡ true
  rest_apart = apart_rest [] (take (length P) qs) (drop (length P) qs) (ap (names_apart []) cut ∙ apart)

  -- ---- the names, the counts and the board

  pub names_in_order : differ (texts_of N) ≡ true
  names_in_order = turn_differ (take (length P) qs) (drop (length P) qs) N rest_apart turn

  place_in_order : place qs P N ≡ map taken (P ++ map value_of N)
  unfolding place
  place_in_order =
      ap (map_from (slot_of P N (length (star_remainder qs P)) (length (named_remainder qs N))) 0) (sym cut)
      ∙ slots_cut (take (length P) qs) (drop (length P) qs) P N front_full front_by_place rest_apart turn (length (star_remainder qs P)) (length (named_remainder qs N))

  star_in_order : star_remainder qs P ≡ []
  unfolding star_remainder
  star_in_order = drop_of_length-le P {i = positional_count qs} few

  named_in_order : named_remainder qs N ≡ []
  named_in_order =
      none_remain qs N
      (ap (λ l. all (is_known l) N) (sym cut) ∙ known_cut (take (length P) qs) (drop (length P) qs) P N front_full front_by_place rest_apart turn)

  pub length_in_order : length (P ++ map value_of N) ≡ length qs
  length_in_order = length_cut (take (length P) qs) (drop (length P) qs) P N front_full front_by_place rest_apart turn ∙ ap length cut

  pub counts_in_order : counts_of qs P N ≡ record { taken = length qs; defaulted = 0; star = 0; named = 0 }
  unfolding counts_of
  counts_in_order = rw (place_in_order, star_in_order, named_in_order, all_taken (P ++ map value_of N), none_defaulted (P ++ map value_of N), length_in_order)

  pub written_in_order : written qs P N ≡ write_each value_cells (P ++ map (λ v. v.value) N)
  unfolding written
  written_in_order = rw (place_in_order, star_in_order, named_in_order) (append-nil (write_each slot_cells (map taken (P ++ map value_of N))) ∙ taken_cells (P ++ map value_of N))

  -- ---- nothing is refused

  unfilled_in_order : any (λ v. names_filled P 0 qs v.name.bytes) N ≡ false
  unfilled_in_order =
      ap (λ l. any (λ v. names_filled P 0 l v.name.bytes) N) (sym cut)
      ∙ unfilled_cut (take (length P) qs) (drop (length P) qs) P N front_full front_by_place rest_apart turn

  placed_in_order : ask_placed qs P N ≡ fine
  unfolding ask_placed
  placed_in_order = rw (place_in_order, star_in_order, named_in_order, required_taken qs (P ++ map value_of N)) (rests (has_args qs) (has_kwargs qs))
    where
      rests : (a b : Bool) → (ask_named_remainder b [] then ask_star_remainder a []) ≡ fine
      rests true true = refl
      rests true false = refl
      rests false true = refl
      rests false false = refl

-- entries whose keys are texts are named values
pub words_entries : (es : List Entry) → all (λ e. is_word e.key) es ≡ true → es ≡ map as_entry (words es)
words_entries [] w = refl
words_entries (e ∷ es) w = go e.key refl w (words_entries es)
  where
    go : (k : Key) → e.key ≡ k → (is_word k && all (λ x. is_word x.key) es) ≡ true → (all (λ x. is_word x.key) es ≡ true → es ≡ map as_entry (words es))
        → e ∷ es ≡ map as_entry (word_of k e.value ++ words es)
    go (word t) p u ih = ap₂ {C = List Entry} (λ k r. record { key = k; value = e.value } ∷ r) p (ih u)
    go (number n) p u ih = absurd (false≢true u)

pub binding_in_order : (qs : List Parameter) → positional_first qs ≡ true → names_apart [] qs ≡ true → (c : Call) → InOrder qs c → ask_binding qs c ≡ fine
unfolding named_of
binding_in_order qs first apart c o =
    binding_parts qs c P W E (named_of c) o.star o.double refl refl refl (words_entries (entries_of c.double) o.texts)
    ∙ then_fine (ask_repeats P W 0 qs) (ask_entries qs P W (map as_entry E) then ask_placed qs P (named_of c))
    (repeats_fine P W 0 qs (repeats_slots P 0 qs W ∙ or_left (any filled W) (any filled E) unfilled))
    ∙ then_fine (ask_entries qs P W (map as_entry E)) (ask_placed qs P (named_of c))
    (entries_fine qs P W E (names_in_order qs first apart P (named_of c) o.few o.named) (or_right (any filled W) (any filled E) unfilled))
    ∙ placed_in_order qs first apart P (named_of c) o.few o.named
  where
    P : List Value
    P = positionals_of c

    W : List Named
    W = c.named

    E : List Named
    E = words (entries_of c.double)

    filled : Named → Bool
    filled v = names_filled P 0 qs v.name.bytes

    unfilled : (any filled W || any filled E) ≡ false
    unfilled = sym (any_append filled W E) ∙ unfilled_in_order qs first apart P (named_of c) o.few o.named
