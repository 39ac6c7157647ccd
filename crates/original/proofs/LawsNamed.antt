-- Laws of the loop over written names (spec.rs 714-730): what the slots, the map of names that fit no parameter and `lowest_name` are after
-- some of them. What a name finds, and what one more name writes, serve the loop over the dictionary's entries too.
-- Assumes nothing.
use mathlib.Core.Path.{◌≡◌, refl, sym, ap, ap₂, ◌∙◌}
use mathlib.Core.Bool.{Bool, true, false, cond, not, ◌||◌, true≢false}
use mathlib.Core.List.{List, [], ◌∷◌, ◌++◌, map, append-nil}
use mathlib.Core.Option.{Option, none, some}
use Prim.Native.Nat.{ℕ, suc, ◌+◌, min, ◌≤◌, ◌<◌}
use native.Mathlib.Nat.{zero-add}
use native.Mathlib.Omega.{arith}
use borrow.Author.Tests.{eqb-true, eq-eqb}
use lib.Dec.{eqb}
use lib.ListN.{length, get_or, set}
use lib.Seq.{append_snoc}
use Rattle.rules.specs.Listing.{any, keep, map_from}
use Rattle.rules.specs.Text.{among, differ}
use Rattle.rules.specs.Value.{Value}
use Rattle.rules.specs.CallRecord.{Named}
use Rattle.rules.specs.Parameters.{Parameter}
use Rattle.rules.specs.Lookup.{names, known, Finding, at, unknown, find_from, find}
use Rattle.rules.specs.Placement.{partner, named_remainder}
use Rattle.rules.specs.Binding.{texts_of, named_by}
use Rattle.rules.specs.Passed.{names_apart}
use Rattle.rules.proofs.LawsListing.{same_test, any_append, map_append}
use Rattle.rules.proofs.LawsText.{differ_middle}
use Rattle.rules.proofs.LawsPlacement.{is_some, partner_some}
use Rattle.rules.proofs.LawsFound.{is_at, is_found, known_found, names_at, among_named, or_else, partner_snoc, keep_snoc}
use Rattle.original.specs.Spec.{get, spec_of}
use Rattle.original.specs.Locals.{Held, single, Locals, insert_unique_unchecked}
use Rattle.original.proofs.TotalCollect.{name_at, name_each}
use Rattle.original.proofs.LawsSpec.{index_found, get_from}
use Rattle.original.proofs.LawsSlots.{map_from_same₀, set_map_from₀}
use Rattle.original.proofs.LawsPositional.{same_locals}

eqb_comm : (a b : ℕ) → eqb a b ≡ eqb b a
eqb_comm a b = same_test (eqb a b) (eqb b a) (λ e. eq-eqb b a (sym (eqb-true a b e))) (λ e. eq-eqb a b (sym (eqb-true b a e)))

-- ---- what it writes

abbrev pub write_at : Finding → Option Held → List (Option Held) → List (Option Held)
write_at (at i) x ss = set ss i x
write_at unknown x ss = ss

module _ (qs : List Parameter) (d : Parameter) (apart : names_apart [] qs ≡ true) where
  pub names_here : (b : List ℕ) (k : ℕ) → k < length qs → names b (get_or qs k d) ≡ is_at k (find qs b)
  unfolding find
  names_here b k h = names_at [] 0 qs b apart k d h ∙ ap (λ (n : ℕ). is_at n (find_from 0 qs b)) (zero-add k)

  -- a name writes the slot that it names, and none where it names none
  pub write_named : (h : ℕ → Parameter → Option Held) (b : List ℕ) (x : Option Held) → write_at (find qs b) x (map_from h 0 qs) ≡ map_from (λ k q. cond (names b q) x (h k q)) 0 qs
  write_named h b x = go (find qs b) (names_here b)
    where
      go : (f : Finding) → ((k : ℕ) → k < length qs → names b (get_or qs k d) ≡ is_at k f) → write_at f x (map_from h 0 qs) ≡ map_from (λ k q. cond (names b q) x (h k q)) 0 qs
      go (at i) e =
          set_map_from₀ h qs i x
          ∙ map_from_same₀ (λ k q. cond (eqb k i) x (h k q)) (λ k q. cond (names b q) x (h k q)) d qs
          (λ k l. ap (λ (c : Bool). cond c x (h k (get_or qs k d))) (eqb_comm k i ∙ sym (e k l)))
      go unknown e = map_from_same₀ h (λ k q. cond (names b q) x (h k q)) d qs (λ k l. ap (λ (c : Bool). cond c x (h k (get_or qs k d))) (sym (e k l)))

-- a value given by name over what a slot held
abbrev pub over : Option Value → Option Held → Option Held
over (some v) s = some (single v)
over none s = s

-- a name that is new among those before writes what one more partner is
pub partner_new : (N : List Named) (v : Named) (q : Parameter) (s : Option Held) → among v.name.bytes (texts_of N) ≡ false
    → cond (names v.name.bytes q) (some (single v.value)) (over (partner q N) s) ≡ over (partner q (N ++ (v ∷ []))) s
partner_new N v q s new =
    rw (partner_snoc q N v) (go (names v.name.bytes q) refl (partner q N) refl)
  where
    go : (c : Bool) → names v.name.bytes q ≡ c → (o : Option Value) → partner q N ≡ o
        → cond c (some (single v.value)) (over o s) ≡ over (or_else o (cond c (some v.value) none)) s
    go true p none e = refl
    go true p (some w) e = absurd (true≢false (sym (ap is_some e) ∙ partner_some q N ∙ sym (among_named v.name.bytes q N p) ∙ new))
    go false p none e = refl
    go false p (some w) e = refl

-- ---- the map of names that fit no parameter

-- the lazy map that holds some pairs
abbrev pub lazy : List Named → Option (List Named)
lazy [] = none
lazy (v ∷ vs) = some (v ∷ vs)

pub lazy_unique : (v : Named) (vs : List Named) → insert_unique_unchecked v (lazy vs) ≡ lazy (vs ++ (v ∷ []))
lazy_unique v [] = refl
lazy_unique v (w ∷ vs) = refl

-- one more name is one more of the remainder, where it is found nowhere
pub remainder_snoc : (qs : List Parameter) (N : List Named) (v : Named) → named_remainder qs (N ++ (v ∷ [])) ≡ named_remainder qs N ++ cond (is_found (find qs v.name.bytes)) [] (v ∷ [])
unfolding named_remainder find
remainder_snoc qs N v =
    keep_snoc (λ w. not (known qs w.name.bytes)) N v
    ∙ ap (λ (c : Bool). keep (λ w. not (known qs w.name.bytes)) N ++ cond (not c) (v ∷ []) []) (sym (known_found qs v.name.bytes 0))
    ∙ ap (λ (r : List Named). keep (λ w. not (known qs w.name.bytes)) N ++ r) (turn (is_found (find_from 0 qs v.name.bytes)))
  where
    turn : (c : Bool) → cond (not c) (v ∷ []) [] ≡ cond c [] (v ∷ [])
    turn true = refl
    turn false = refl

-- ---- the lowest name

-- the index of the first parameter that passes a test, counted from i, or m
abbrev pub first_or : ℕ → (Parameter → Bool) → ℕ → List Parameter → ℕ
first_or m f i [] = m
first_or m f i (q ∷ qs) = cond (f q) i (first_or m f (suc i) qs)

abbrev pub lowest_after : Finding → ℕ → ℕ
lowest_after (at i) low = min low i
lowest_after unknown low = low

first_least : (m : ℕ) (f : Parameter → Bool) (i : ℕ) (qs : List Parameter) → i ≤ m → length qs + i ≤ m → i ≤ first_or m f i qs
first_least m f i [] h l = h
first_least m f i (q ∷ qs) h l = go (f q) (first_least m f (suc i) qs (omega arith) (omega arith))
  where
    go : (c : Bool) → suc i ≤ first_or m f (suc i) qs → i ≤ cond c i (first_or m f (suc i) qs)
    go true e = omega arith
    go false e = omega arith

found_least : (i : ℕ) (qs : List Parameter) (b : List ℕ) (low : ℕ) → low ≤ i → lowest_after (find_from i qs b) low ≡ low
found_least i [] b low h = refl
found_least i (q ∷ qs) b low h = go (names b q) (found_least (suc i) qs b low (omega arith))
  where
    go : (c : Bool) → lowest_after (find_from (suc i) qs b) low ≡ low → lowest_after (cond c (at i) (find_from (suc i) qs b)) low ≡ low
    go true e = omega arith
    go false e = e

pub lowest_named : (m : ℕ) (f : Parameter → Bool) (b : List ℕ) (i : ℕ) (qs : List Parameter) → length qs + i ≤ m
    → lowest_after (find_from i qs b) (first_or m f i qs) ≡ first_or m (λ q. f q || names b q) i qs
lowest_named m f b i [] l = refl
lowest_named m f b i (q ∷ qs) l = go (names b q) (f q) (lowest_named m f b (suc i) qs (omega arith))
  where
    go : (n c : Bool) → lowest_after (find_from (suc i) qs b) (first_or m f (suc i) qs) ≡ first_or m (λ p. f p || names b p) (suc i) qs
        → lowest_after (cond n (at i) (find_from (suc i) qs b)) (cond c i (first_or m f (suc i) qs)) ≡ cond (c || n) i (first_or m (λ p. f p || names b p) (suc i) qs)
    go true true e = omega arith
    go true false e = let least : suc i ≤ first_or m f (suc i) qs = first_least m f (suc i) qs (omega arith) (omega arith) in omega arith
    go false true e = found_least (suc i) qs b i (omega arith)
    go false false e = e

pub first_same : (m : ℕ) (f g : Parameter → Bool) → ((q : Parameter) → f q ≡ g q) → (i : ℕ) (qs : List Parameter) → first_or m f i qs ≡ first_or m g i qs
first_same m f g e i [] = refl
first_same m f g e i (q ∷ qs) = ap₂ (λ (c : Bool) (n : ℕ). cond c i n) (e q) (first_same m f g e (suc i) qs)

pub first_none : (m : ℕ) (i : ℕ) (qs : List Parameter) → first_or m (named_by []) i qs ≡ m
unfolding named_by
first_none m i [] = refl
first_none m i (q ∷ qs) = first_none m (suc i) qs

named_by_snoc : (N : List Named) (v : Named) (q : Parameter) → named_by (N ++ (v ∷ [])) q ≡ (named_by N q || names v.name.bytes q)
unfolding named_by
named_by_snoc N v q = any_append (λ w. names w.name.bytes q) N (v ∷ []) ∙ ap (λ (c : Bool). any (λ w. names w.name.bytes q) N || c) (last (names v.name.bytes q))
  where
    last : (c : Bool) → (c || false) ≡ c
    last true = refl
    last false = refl

pub new_among : (N : List Named) (v : Named) (vs : List Named) → differ (texts_of (N ++ v ∷ vs)) ≡ true → among v.name.bytes (texts_of N) ≡ false
unfolding texts_of
new_among N v vs e = differ_middle (map (λ w. w.name) N) v.name (map (λ w. w.name) vs) (rw (map_append (λ w. w.name) N (v ∷ vs)) at e)

-- ---- the loop

module _ (qs : List Parameter) (d : Parameter) (m : ℕ) (h : ℕ → Parameter → Option Held) (stars : List Value) (next : ℕ) where
  -- the locals after the names N
  abbrev pub after_names : List Named → Locals
  after_names N =
      record {
        slots = map_from (λ k q. over (partner q N) (h k q)) 0 qs;
        star_args = stars;
        kwargs = lazy (named_remainder qs N);
        next_position = next;
        lowest_name = first_or m (named_by N) 0 qs;
      }

  name_one : names_apart [] qs ≡ true → length qs ≤ m → (N : List Named) (v : Named) → among v.name.bytes (texts_of N) ≡ false
      → name_at (get (spec_of qs).names v.name.bytes) v (after_names N) ≡ after_names (N ++ (v ∷ []))
  unfolding spec_of find
  name_one apart short N v new =
      rw (get_from 0 qs v.name.bytes)
      (go (find_from 0 qs v.name.bytes) written rest lowest)
    where
      written : write_at (find_from 0 qs v.name.bytes) (some (single v.value)) (map_from (λ k q. over (partner q N) (h k q)) 0 qs) ≡ map_from (λ k q. over (partner q (N ++ (v ∷ []))) (h k q)) 0 qs
      written =
          write_named qs d apart (λ k q. over (partner q N) (h k q)) v.name.bytes (some (single v.value))
          ∙ map_from_same₀ (λ k q. cond (names v.name.bytes q) (some (single v.value)) (over (partner q N) (h k q))) (λ k q. over (partner q (N ++ (v ∷ []))) (h k q)) d qs
          (λ k l. partner_new N v (get_or qs k d) (h k (get_or qs k d)) new)

      rest : named_remainder qs (N ++ (v ∷ [])) ≡ named_remainder qs N ++ cond (is_found (find_from 0 qs v.name.bytes)) [] (v ∷ [])
      rest = remainder_snoc qs N v

      lowest : lowest_after (find_from 0 qs v.name.bytes) (first_or m (named_by N) 0 qs) ≡ first_or m (named_by (N ++ (v ∷ []))) 0 qs
      lowest =
          lowest_named m (named_by N) v.name.bytes 0 qs (omega arith)
          ∙ first_same m (λ q. named_by N q || names v.name.bytes q) (named_by (N ++ (v ∷ []))) (λ q. sym (named_by_snoc N v q)) 0 qs

      go : (f : Finding) → write_at f (some (single v.value)) (map_from (λ k q. over (partner q N) (h k q)) 0 qs) ≡ map_from (λ k q. over (partner q (N ++ (v ∷ []))) (h k q)) 0 qs
          → named_remainder qs (N ++ (v ∷ [])) ≡ named_remainder qs N ++ cond (is_found f) [] (v ∷ [])
          → lowest_after f (first_or m (named_by N) 0 qs) ≡ first_or m (named_by (N ++ (v ∷ []))) 0 qs
          → name_at (index_found f) v (after_names N) ≡ after_names (N ++ (v ∷ []))
      go (at i) w r l = same_locals w refl (ap lazy (sym (r ∙ append-nil (named_remainder qs N)))) refl l
      go unknown w r l = same_locals w refl (lazy_unique v (named_remainder qs N) ∙ ap lazy (sym r)) refl l

  pub name_each_lem : names_apart [] qs ≡ true → length qs ≤ m → (N vs : List Named) → differ (texts_of (N ++ vs)) ≡ true → name_each (spec_of qs) vs (after_names N) ≡ after_names (N ++ vs)
  name_each_lem apart short N [] e = ap after_names (sym (append-nil N))
  name_each_lem apart short N (v ∷ vs) e =
      ap (name_each (spec_of qs) vs) (name_one apart short N v (new_among N v vs e))
      ∙ name_each_lem apart short (N ++ (v ∷ [])) vs (rw (append_snoc N v vs) e)
      ∙ ap after_names (append_snoc N v vs)
