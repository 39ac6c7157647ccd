-- Laws of questions 15 to 24 over the cuts of P and N: the written names' repeats (16) and the entries' (19) are together the repeats of N,
-- and where there is none what is left, 20 to 24, reads P and N alone.
-- Assumes nothing.
use mathlib.Core.Path.{◌≡◌, refl, ap, ap₂, ◌∙◌}
use mathlib.Core.Bool.{Bool, true, false, cond, ◌&&◌, ◌||◌, false≢true, true≢false}
use mathlib.Core.List.{List, [], ◌∷◌, ◌++◌, map}
use Prim.Native.Nat.{ℕ, suc}
use lib.Seq.{append_snoc}
use Rattle.rules.specs.Listing.{any, any_from}
use Rattle.rules.specs.Text.{among, differ}
use Rattle.rules.specs.Value.{Value}
use Rattle.rules.specs.Answer.{Answer, fine, refuse, ◌then◌, Detail, name, part_of, spec_area, call_area}
use Rattle.rules.specs.CallRecord.{Call, Named, Entry, word, words, entries_of, positionals_of, named_of}
use Rattle.rules.specs.Parameters.{Parameter}
use Rattle.rules.specs.Lookup.{names}
use Rattle.rules.specs.Placement.{from_p}
use Rattle.rules.specs.Binding.{texts_of, named_by, ask_repeats, names_filled, ask_entry, ask_entries, ask_placed, ask_binding, star_passes, double_passes}
use Rattle.rules.proofs.LawsListing.{or_left, or_right, any_from_same, any_from_none, any_from_or, any_append, map_append}
use Rattle.rules.proofs.LawsText.{differ_middle}

-- ---- the repeats

-- is one of the named values that of a slot filled from P?
unfoldable pub repeats : List Parameter → List Value → List Named → Bool
repeats qs P N = any (λ v. names_filled P 0 qs v.name.bytes) N

-- a slot that is filled and named is a name of a filled slot
pub repeats_slots : (P : List Value) (i : ℕ) (qs : List Parameter) (N : List Named) → any_from (λ k q. from_p P k q && named_by N q) i qs ≡ any (λ v. names_filled P i qs v.name.bytes) N
unfolding named_by names_filled
repeats_slots P i qs [] = any_from_none (λ k q. from_p P k q && false) (λ k q. off (from_p P k q)) i qs
  where
    off : (b : Bool) → (b && false) ≡ false
    off true = refl
    off false = refl
repeats_slots P i qs (v ∷ vs) =
    any_from_same (λ k q. from_p P k q && (names v.name.bytes q || any (λ w. names w.name.bytes q) vs))
    (λ k q. from_p P k q && names v.name.bytes q || from_p P k q && any (λ w. names w.name.bytes q) vs)
    (λ k q. spread (from_p P k q) (names v.name.bytes q) (any (λ w. names w.name.bytes q) vs)) i qs
    ∙ any_from_or (λ k q. from_p P k q && names v.name.bytes q) (λ k q. from_p P k q && any (λ w. names w.name.bytes q) vs) i qs
    ∙ ap (λ b. any_from (λ k q. from_p P k q && names v.name.bytes q) i qs || b) (repeats_slots P i qs vs)
  where
    spread : (a b c : Bool) → (a && (b || c)) ≡ (a && b || a && c)
    spread true b c = refl
    spread false b c = refl

-- ---- 16

pub repeats_fine : (P : List Value) (W : List Named) (i : ℕ) (qs : List Parameter) → any_from (λ k q. from_p P k q && named_by W q) i qs ≡ false → ask_repeats P W i qs ≡ fine
repeats_fine P W i [] e = refl
repeats_fine P W i (q ∷ qs) e =
    go (from_p P i q && named_by W q) (or_left (from_p P i q && named_by W q) (any_from (λ k p. from_p P k p && named_by W p) (suc i) qs) e)
    (repeats_fine P W (suc i) qs (or_right (from_p P i q && named_by W q) (any_from (λ k p. from_p P k p && named_by W p) (suc i) qs) e))
  where
    go : (b : Bool) → b ≡ false → ask_repeats P W (suc i) qs ≡ fine → cond b (refuse 16 (name (part_of spec_area q.name))) (ask_repeats P W (suc i) qs) ≡ fine
    go true p h = absurd (true≢false p)
    go false p h = h

pub repeats_refused : (P : List Value) (W : List Named) (i : ℕ) (qs : List Parameter) → any_from (λ k q. from_p P k q && named_by W q) i qs ≡ true → (d : Detail) × (ask_repeats P W i qs ≡ refuse 16 d)
repeats_refused P W i [] e = absurd (false≢true e)
repeats_refused P W i (q ∷ qs) e = go (from_p P i q && named_by W q) e (repeats_refused P W (suc i) qs)
  where
    go : (b : Bool) → (b || any_from (λ k p. from_p P k p && named_by W p) (suc i) qs) ≡ true
        → (any_from (λ k p. from_p P k p && named_by W p) (suc i) qs ≡ true → (d : Detail) × (ask_repeats P W (suc i) qs ≡ refuse 16 d))
        → (d : Detail) × (cond b (refuse 16 (name (part_of spec_area q.name))) (ask_repeats P W (suc i) qs) ≡ refuse 16 d)
    go true p ih = (name (part_of spec_area q.name), refl)
    go false p ih = ih p

-- ---- 18 and 19

-- a named value as an entry
abbrev pub as_entry : Named → Entry
as_entry v = record { key = word v.name; value = v.value }

pub words_as_entry : (vs : List Named) → words (map as_entry vs) ≡ vs
words_as_entry [] = refl
words_as_entry (v ∷ vs) = ap {B = List Named} (λ r. v ∷ r) (words_as_entry vs)

module _ (qs : List Parameter) (P : List Value) where
  -- an entry after others whose names differ from its own is refused by 19 exactly where its name is that of a slot filled from P
  entry_answer_lem : (before : List Named) (v : Named) (vs : List Named) → differ (texts_of (before ++ v ∷ vs)) ≡ true
      → ask_entry qs P before (word v.name) ≡ cond (names_filled P 0 qs v.name.bytes) (refuse 19 (name (part_of call_area v.name))) fine
  unfolding texts_of
  entry_answer_lem before v vs e =
      ap (λ b. cond b (refuse 19 (name (part_of call_area v.name))) fine)
      (ap (λ b. names_filled P 0 qs v.name.bytes || b) free ∙ last (names_filled P 0 qs v.name.bytes))
    where
      free : among v.name.bytes (map (λ w. w.name) before) ≡ false
      free = differ_middle (map (λ w. w.name) before) v.name (map (λ w. w.name) vs) (rw (map_append (λ w. w.name) before (v ∷ vs)) at e)

      last : (b : Bool) → (b || false) ≡ b
      last true = refl
      last false = refl

  pub entries_fine : (before vs : List Named) → differ (texts_of (before ++ vs)) ≡ true → any (λ v. names_filled P 0 qs v.name.bytes) vs ≡ false → ask_entries qs P before (map as_entry vs) ≡ fine
  entries_fine before [] e a = refl
  entries_fine before (v ∷ vs) e a =
      ap (λ x. x then ask_entries qs P (before ++ (v ∷ [])) (map as_entry vs))
      (entry_answer_lem before v vs e ∙ ap (λ b. cond b (refuse 19 (name (part_of call_area v.name))) fine) (or_left (names_filled P 0 qs v.name.bytes) (any (λ w. names_filled P 0 qs w.name.bytes) vs) a))
      ∙ entries_fine (before ++ (v ∷ [])) vs (rw (append_snoc before v vs) e) (or_right (names_filled P 0 qs v.name.bytes) (any (λ w. names_filled P 0 qs w.name.bytes) vs) a)

  pub entries_refused : (before vs : List Named) → differ (texts_of (before ++ vs)) ≡ true → any (λ v. names_filled P 0 qs v.name.bytes) vs ≡ true
      → (d : Detail) × (ask_entries qs P before (map as_entry vs) ≡ refuse 19 d)
  entries_refused before [] e a = absurd (false≢true a)
  entries_refused before (v ∷ vs) e a =
      go (names_filled P 0 qs v.name.bytes) (entry_answer_lem before v vs e) a (entries_refused (before ++ (v ∷ [])) vs (rw (append_snoc before v vs) e))
    where
      go : (b : Bool) → ask_entry qs P before (word v.name) ≡ cond b (refuse 19 (name (part_of call_area v.name))) fine
          → (b || any (λ w. names_filled P 0 qs w.name.bytes) vs) ≡ true
          → (any (λ w. names_filled P 0 qs w.name.bytes) vs ≡ true → (d : Detail) × (ask_entries qs P (before ++ (v ∷ [])) (map as_entry vs) ≡ refuse 19 d))
          → (d : Detail) × ((ask_entry qs P before (word v.name) then ask_entries qs P (before ++ (v ∷ [])) (map as_entry vs)) ≡ refuse 19 d)
      go true h p ih = (name (part_of call_area v.name), ap (λ x. x then ask_entries qs P (before ++ (v ∷ [])) (map as_entry vs)) h)
      go false h p ih = ((ih p).0, ap (λ x. x then ask_entries qs P (before ++ (v ∷ [])) (map as_entry vs)) h ∙ (ih p).1)

-- ---- 16 to 19 over a cut

-- how a chain ends that asks after repeats in written names W and in entries E and then goes on to `rest`
pub data Ended (repeated : Bool) (a rest : Answer) : Type 0 where
  onwards : repeated ≡ false → a ≡ rest → Ended repeated a rest
  by16 : repeated ≡ true → (d : Detail) → a ≡ refuse 16 d → Ended repeated a rest
  by19 : repeated ≡ true → (d : Detail) → a ≡ refuse 19 d → Ended repeated a rest

pub repeats_ended : (qs : List Parameter) (P : List Value) (W E : List Named) (rest : Answer) → differ (texts_of (W ++ E)) ≡ true
    → Ended (repeats qs P (W ++ E)) (ask_repeats P W 0 qs then ask_entries qs P W (map as_entry E) then rest) rest
unfolding repeats
repeats_ended qs P W E rest e = go (any (λ v. names_filled P 0 qs v.name.bytes) W) refl (any (λ v. names_filled P 0 qs v.name.bytes) E) refl
  where
    in_W : (b : Bool) → any (λ v. names_filled P 0 qs v.name.bytes) W ≡ b → any_from (λ k q. from_p P k q && named_by W q) 0 qs ≡ b
    in_W b p = repeats_slots P 0 qs W ∙ p

    joined : (a b : Bool) → any (λ v. names_filled P 0 qs v.name.bytes) W ≡ a → any (λ v. names_filled P 0 qs v.name.bytes) E ≡ b → any (λ v. names_filled P 0 qs v.name.bytes) (W ++ E) ≡ (a || b)
    joined a b p q = any_append (λ v. names_filled P 0 qs v.name.bytes) W E ∙ ap₂ (λ x y. x || y) p q

    go : (a : Bool) → any (λ v. names_filled P 0 qs v.name.bytes) W ≡ a → (b : Bool) → any (λ v. names_filled P 0 qs v.name.bytes) E ≡ b
        → Ended (any (λ v. names_filled P 0 qs v.name.bytes) (W ++ E)) (ask_repeats P W 0 qs then ask_entries qs P W (map as_entry E) then rest) rest
    go true p b q =
        let r = repeats_refused P W 0 qs (in_W true p) in
        by16 (joined true b p q) r.0 (ap (λ x. x then ask_entries qs P W (map as_entry E) then rest) r.1)
    go false p true q =
        let r = entries_refused qs P W E e q in
        by19 (joined false true p q) r.0
        (ap (λ x. x then ask_entries qs P W (map as_entry E) then rest) (repeats_fine P W 0 qs (in_W false p)) ∙ ap (λ x. x then rest) r.1)
    go false p false q =
        onwards (joined false false p q)
        (ap (λ x. x then ask_entries qs P W (map as_entry E) then rest) (repeats_fine P W 0 qs (in_W false p)) ∙ ap (λ x. x then rest) (entries_fine qs P W E e q))

-- 15 and 17 aside, a call's questions are asked of its P, its written names, its entries and its N
pub binding_parts : (qs : List Parameter) (c : Call) (P : List Value) (W E N : List Named) → star_passes c.star ≡ true → double_passes c.double ≡ true → positionals_of c ≡ P → named_of c ≡ N
    → c.named ≡ W → entries_of c.double ≡ map as_entry E → ask_binding qs c ≡ (ask_repeats P W 0 qs then ask_entries qs P W (map as_entry E) then ask_placed qs P N)
unfolding ask_binding
binding_parts qs c P W E N star double positionals named written entries = rw (star, double, positionals, named, written, entries)
