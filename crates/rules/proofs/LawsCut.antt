-- Laws of a cut's call record: it passes 9 to 13, and the call that it describes has P and N back.
-- Assumes nothing.
use mathlib.Core.Path.{◌≡◌, refl, sym, ap, ap₂, subst, ◌∙◌}
use mathlib.Core.Bool.{Bool, true, false, not, ◌&&◌, ◌||◌}
use mathlib.Core.List.{List, [], ◌∷◌, ◌++◌, map}
use Prim.Native.Nat.{ℕ, ◌≤◌}
use native.Mathlib.Omega.{arith}
use borrow.Author.Tests.{le-leb, eq-eqb}
use lib.Dec.{leb, eqb}
use lib.ListN.{length, take, drop, length-take, length-drop, take-append-drop}
use Rattle.rules.specs.Listing.{all}
use Rattle.rules.specs.Text.{Text, same_bytes, among, differ, is_text}
use Rattle.rules.specs.Value.{Value, call_text, well_formed_argument, well_formed_name, well_formed_key}
use Rattle.rules.specs.Answer.{fine, ◌then◌}
use Rattle.rules.specs.CallRecord.{Pair, CallRecord, Named, word, call_length, encode_call, named_in, key_in, entry_in, star_of, double_of, items_of, entries_of, words, call_in, positionals_of, named_of}
use Rattle.rules.specs.Parameters.{Parameter}
use Rattle.rules.specs.CallQuestions.{lengths_right, kind_right, kinds_right, well_formed_pair, well_formed_entry, parts_well_formed, same_key, keys_differ, entries_differ, names_differ, ask_form, ask_call}
use Rattle.rules.specs.Binding.{texts_of, star_passes, double_passes, ask_repeats, ask_entries, ask_placed, ask_binding}
use Rattle.rules.specs.Demand3.{Cut, rest_kind, cut_record, whole_record}
use Rattle.rules.proofs.LawsListing.{and_left, and_right, and_both, all_take, all_drop, all_imp, map_append, map_map, map_where}
use Rattle.rules.proofs.LawsText.{differ_front, differ_back, is_text_weaker}
use Rattle.rules.proofs.LawsRecord.{head_of, read_head_encode_call, length_encode_call, read_call_encode_call}
use Rattle.rules.proofs.LawsBinding.{as_entry, words_as_entry, repeats, Ended, repeats_ended, binding_parts}

-- ---- 9 to 13 of an encoded call

-- each part has at most B
pub record Few (B : ℕ) (r : CallRecord) : Type 0 where
  pub positionals : length r.positionals ≤ B
  pub named : length r.named ≤ B
  pub items : length r.items ≤ B
  pub entries : length r.entries ≤ B

four_within : (a b c d B : ℕ) → a ≤ B → b ≤ B → c ≤ B → d ≤ B → (leb a B && leb b B && leb c B && leb d B) ≡ true
four_within a b c d B p q r s = rw (le-leb a B p, le-leb b B q, le-leb c B r, le-leb d B s)

few_right : (B : ℕ) (r : CallRecord) → Few B r → lengths_right B (encode_call r) ≡ true
unfolding lengths_right head_of
few_right B r few =
    rw (read_head_encode_call r)
    (and_both (leb (head_of r).p B && leb (head_of r).n B && leb (head_of r).s B && leb (head_of r).d B) (eqb (length (encode_call r)) (call_length (head_of r)))
    (four_within (length r.positionals) (length r.named) (length r.items) (length r.entries) B few.positionals few.named few.items few.entries)
    (eq-eqb (length (encode_call r)) (call_length (head_of r)) (length_encode_call r)))

pub form_fine : (B : ℕ) (area : List ℕ) (r : CallRecord) → Few B r → kinds_right r ≡ true → parts_well_formed area r ≡ true → ask_form B (encode_call r) area ≡ fine
unfolding ask_form
form_fine B area r few kinds parts = rw (read_call_encode_call r, few_right B r few, kinds, parts)

pub call_fine : (B : ℕ) (area : List ℕ) (r : CallRecord) → Few B r → kinds_right r ≡ true → parts_well_formed area r ≡ true → entries_differ area r ≡ true → names_differ area r ≡ true
    → ask_call B (encode_call r) area ≡ fine
unfolding ask_call
call_fine B area r few kinds parts keys written = rw (form_fine B area r few kinds parts, read_call_encode_call r, keys, written)

-- ---- a pair whose name is well formed is a well-formed entry under a text

name_kind : (area : List ℕ) (v : Value) → well_formed_name area v ≡ true → eqb v.kind call_text ≡ true
unfolding well_formed_name
name_kind area v e = and_left (eqb v.kind call_text) (is_text 1 area v.payload) e

pub name_key : (area : List ℕ) (v : Value) → well_formed_name area v ≡ true → well_formed_key area v ≡ true
unfolding well_formed_name well_formed_key
name_key area v e = go (eqb v.kind 3)
  where
    go : (b : Bool) → (b || eqb v.kind call_text && is_text 0 area v.payload) ≡ true
    go true = refl
    go false =
        and_both (eqb v.kind call_text) (is_text 0 area v.payload) (and_left (eqb v.kind call_text) (is_text 1 area v.payload) e)
        (is_text_weaker area v.payload (and_right (eqb v.kind call_text) (is_text 1 area v.payload) e))

pair_entry : (area : List ℕ) (p : Pair) → well_formed_pair area p ≡ true → well_formed_entry area p ≡ true
unfolding well_formed_pair well_formed_entry
pair_entry area p e =
    and_both (well_formed_key area p.key) (well_formed_argument area p.value)
    (name_key area p.key (and_left (well_formed_name area p.key) (well_formed_argument area p.value) e))
    (and_right (well_formed_name area p.key) (well_formed_argument area p.value) e)

pair_key : (area : List ℕ) (p : Pair) → well_formed_pair area p ≡ true → key_in area p.key ≡ word (named_in area p).name
unfolding well_formed_pair key_in named_in
pair_key area p e = rw (name_kind area p.key (and_left (well_formed_name area p.key) (well_formed_argument area p.value) e))

pair_word : (area : List ℕ) (p : Pair) → well_formed_pair area p ≡ true → entry_in area p ≡ as_entry (named_in area p)
unfolding entry_in named_in
pair_word area p e = ap (λ k. record { key = k; value = p.value }) (pair_key area p e)

-- ---- keys that are texts

pub keys_words : (ts : List Text) → keys_differ (map word ts) ≡ differ ts
keys_words [] = refl
keys_words (t ∷ ts) = ap₂ (λ a b. a && b) (apart ts) (keys_words ts)
  where
    apart : (us : List Text) → all (λ l. not (same_key (word t) l)) (map word us) ≡ not (among t.bytes us)
    apart [] = refl
    apart (u ∷ us) = go (same_bytes t.bytes u.bytes) (apart us)
      where
        go : (b : Bool) → all (λ l. not (same_key (word t) l)) (map word us) ≡ not (among t.bytes us) → (not b && all (λ l. not (same_key (word t) l)) (map word us)) ≡ not (b || among t.bytes us)
        go true e = refl
        go false e = e

-- ---- a rest behind a star

rest_right : {X : Type 0} (given : Bool) (xs : List X) → kind_right (rest_kind given xs) (length xs) ≡ true
rest_right true [] = refl
rest_right false [] = refl
rest_right given (x ∷ xs) = refl

rest_items : (given : Bool) (vs : List Value) → items_of (star_of (rest_kind given vs) vs) ≡ vs
rest_items true [] = refl
rest_items false [] = refl
rest_items given (v ∷ vs) = refl

rest_iterable : (given : Bool) (vs : List Value) → star_passes (star_of (rest_kind given vs) vs) ≡ true
rest_iterable true [] = refl
rest_iterable false [] = refl
rest_iterable given (v ∷ vs) = refl

rest_entries : (area : List ℕ) (given : Bool) (ps : List Pair) → entries_of (double_of (rest_kind given ps) (map (entry_in area) ps)) ≡ map (entry_in area) ps
rest_entries area true [] = refl
rest_entries area false [] = refl
rest_entries area given (p ∷ ps) = refl

rest_dictionary : (area : List ℕ) (given : Bool) (ps : List Pair) → double_passes (double_of (rest_kind given ps) (map (entry_in area) ps)) ≡ true
rest_dictionary area true [] = refl
rest_dictionary area false [] = refl
rest_dictionary area given (p ∷ ps) = refl

-- ---- the cut's record

module _ (B : ℕ) (area : List ℕ) (P : List Value) (N : List Pair)
    (values_formed : all (well_formed_argument area) P ≡ true) (pairs_formed : all (well_formed_pair area) N ≡ true)
    (no_name_twice : differ (texts_of (map (named_in area) N)) ≡ true) (few_values : length P ≤ B) (few_names : length N ≤ B) where
  -- the front and the rest of N, as named values, are N
  named_joined : (j : ℕ) → map (named_in area) (take j N) ++ map (named_in area) (drop j N) ≡ map (named_in area) N
  named_joined j = sym (map_append (named_in area) (take j N) (drop j N)) ∙ ap (map (named_in area)) (take-append-drop j N)

  texts_joined : (j : ℕ) → differ (map (λ p. (named_in area p).name) (take j N) ++ map (λ p. (named_in area p).name) (drop j N)) ≡ true
  unfolding texts_of
  texts_joined j =
      ap differ (sym (map_append (λ p. (named_in area p).name) (take j N) (drop j N)) ∙ ap (map (λ p. (named_in area p).name)) (take-append-drop j N) ∙ sym (map_map (named_in area) (λ v. v.name) N))
      ∙ no_name_twice

  cut_few : (c : Cut) → Few B (cut_record P N c)
  unfolding cut_record
  cut_few c =
      record {
        positionals = simp length-take (omega arith);
        named = simp length-take (omega arith);
        items = simp length-drop (omega arith);
        entries = simp length-drop (omega arith);
      }

  cut_kinds : (c : Cut) → kinds_right (cut_record P N c) ≡ true
  unfolding kinds_right cut_record
  cut_kinds c =
      and_both (kind_right (rest_kind c.list_given (drop c.at_p P)) (length (drop c.at_p P))) (kind_right (rest_kind c.dictionary_given (drop c.at_n N)) (length (drop c.at_n N)))
      (rest_right c.list_given (drop c.at_p P)) (rest_right c.dictionary_given (drop c.at_n N))

  cut_parts : (c : Cut) → parts_well_formed area (cut_record P N c) ≡ true
  unfolding parts_well_formed cut_record
  cut_parts c =
      rw (
        all_take (well_formed_argument area) c.at_p P values_formed,
        all_take (well_formed_pair area) c.at_n N pairs_formed,
        all_drop (well_formed_argument area) c.at_p P values_formed,
        all_imp (well_formed_pair area) (well_formed_entry area) (pair_entry area) (drop c.at_n N) (all_drop (well_formed_pair area) c.at_n N pairs_formed),
      )

  cut_keys : (c : Cut) → entries_differ area (cut_record P N c) ≡ true
  unfolding entries_differ cut_record
  cut_keys c =
      ap keys_differ
      (map_where (λ p. key_in area p.key) (λ p. word (named_in area p).name) (well_formed_pair area) (pair_key area) (drop c.at_n N) (all_drop (well_formed_pair area) c.at_n N pairs_formed)
      ∙ sym (map_map (λ p. (named_in area p).name) word (drop c.at_n N)))
      ∙ keys_words (map (λ p. (named_in area p).name) (drop c.at_n N))
      ∙ differ_back (map (λ p. (named_in area p).name) (take c.at_n N)) (map (λ p. (named_in area p).name) (drop c.at_n N)) (texts_joined c.at_n)

  cut_names : (c : Cut) → names_differ area (cut_record P N c) ≡ true
  unfolding names_differ cut_record
  cut_names c = differ_front (map (λ p. (named_in area p).name) (take c.at_n N)) (map (λ p. (named_in area p).name) (drop c.at_n N)) (texts_joined c.at_n)

  -- 9 to 13 pass
  pub cut_fine : (c : Cut) → ask_call B (encode_call (cut_record P N c)) area ≡ fine
  cut_fine c = call_fine B area (cut_record P N c) (cut_few c) (cut_kinds c) (cut_parts c) (cut_keys c) (cut_names c)

  -- and 9 to 11 for P and N written out whole
  pub whole_fine : ask_form B (encode_call (whole_record P N)) area ≡ fine
  unfolding whole_record kinds_right parts_well_formed
  whole_fine =
      form_fine B area (whole_record P N) (record { positionals = few_values; named = few_names; items = omega arith; entries = omega arith }) refl (rw (values_formed, pairs_formed))

  -- ---- the call that a cut's record describes

  pub cut_positionals : (c : Cut) → positionals_of (call_in area (cut_record P N c)) ≡ P
  unfolding positionals_of call_in cut_record
  cut_positionals c = ap (λ vs. take c.at_p P ++ vs) (rest_items c.list_given (drop c.at_p P)) ∙ take-append-drop c.at_p P

  -- the entries are the rest of N
  pub cut_entries : (c : Cut) → entries_of (call_in area (cut_record P N c)).double ≡ map as_entry (map (named_in area) (drop c.at_n N))
  unfolding call_in cut_record
  cut_entries c =
      rest_entries area c.dictionary_given (drop c.at_n N)
      ∙ map_where (entry_in area) (λ p. as_entry (named_in area p)) (well_formed_pair area) (pair_word area) (drop c.at_n N) (all_drop (well_formed_pair area) c.at_n N pairs_formed)
      ∙ sym (map_map (named_in area) as_entry (drop c.at_n N))

  -- the written names are the front of N
  pub cut_written : (c : Cut) → (call_in area (cut_record P N c)).named ≡ map (named_in area) (take c.at_n N)
  unfolding call_in cut_record
  cut_written c = refl

  pub cut_named : (c : Cut) → named_of (call_in area (cut_record P N c)) ≡ map (named_in area) N
  unfolding named_of
  cut_named c =
      ap₂ (λ vs es. vs ++ words es) (cut_written c) (cut_entries c)
      ∙ ap (λ vs. map (named_in area) (take c.at_n N) ++ vs) (words_as_entry (map (named_in area) (drop c.at_n N)))
      ∙ named_joined c.at_n

  cut_star : (c : Cut) → star_passes (call_in area (cut_record P N c)).star ≡ true
  unfolding call_in cut_record
  cut_star c = rest_iterable c.list_given (drop c.at_p P)

  cut_double : (c : Cut) → double_passes (call_in area (cut_record P N c)).double ≡ true
  unfolding call_in cut_record
  cut_double c = rest_dictionary area c.dictionary_given (drop c.at_n N)

  -- 16 to 24 of a cut: repeats, or 20 to 24 of P and N
  pub cut_ended : (qs : List Parameter) (c : Cut) → Ended (repeats qs P (map (named_in area) N)) (ask_binding qs (call_in area (cut_record P N c))) (ask_placed qs P (map (named_in area) N))
  cut_ended qs c =
      let front : List Named = map (named_in area) (take c.at_n N) in
      let rest : List Named = map (named_in area) (drop c.at_n N) in
      rw (binding_parts qs (call_in area (cut_record P N c)) P front rest (map (named_in area) N) (cut_star c) (cut_double c) (cut_positionals c) (cut_named c) (cut_written c) (cut_entries c))
      (subst (λ vs. Ended (repeats qs P vs) (ask_repeats P front 0 qs then ask_entries qs P front (map as_entry rest) then ask_placed qs P (map (named_in area) N)) (ask_placed qs P (map (named_in area) N))) (named_joined c.at_n)
      (repeats_ended qs P front rest (ask_placed qs P (map (named_in area) N)) (ap (λ vs. differ (texts_of vs)) (named_joined c.at_n) ∙ no_name_twice)))
