-- Laws of the two statements on *args and **kwargs (spec.rs 831-850): they end as 23 and 24 answer, and where these refuse nothing the slots
-- are those of the placement, with the remainders themselves where 01 has their counts.
-- Assumes nothing.
use mathlib.Core.Path.{◌≡◌, refl, sym, ap, ◌∙◌}
use mathlib.Core.Bool.{Bool, true, false, cond, false≢true}
use mathlib.Core.List.{List, [], ◌∷◌, map}
use mathlib.Core.Option.{Option, none, some}
use Prim.Native.Nat.{ℕ, suc, min}
use native.Mathlib.Omega.{arith}
use borrow.Author.Tests.{eq-eqb, ne_eqb}
use lib.Dec.{ltb}
use lib.ListN.{length, get_or, set}
use Rattle.rules.specs.Listing.{all, any, first_from, map_from}
use Rattle.rules.specs.Value.{Value, no_value}
use Rattle.rules.specs.Answer.{Part}
use Rattle.rules.specs.CallRecord.{Named}
use Rattle.rules.specs.Parameters.{Parameter, ParameterKind, required, optional, defaulted, args, kwargs, plain, is_args, is_kwargs, positional, nameable, positional_count, args_index, kwargs_index, has_args, has_kwargs}
use Rattle.rules.specs.Lookup.{names}
use Rattle.rules.specs.Placement.{taken, from_p, partner, otherwise, taken_or, slot_of, place, star_remainder, named_remainder}
use Rattle.rules.specs.Binding.{ask_star_remainder, ask_named_remainder}
use Rattle.rules.specs.Passed.{positional_first}
use Rattle.rules.proofs.LawsListing.{and_left}
use Rattle.rules.proofs.LawsFound.{from_p_at}
use Rattle.original.specs.Spec.{is_some, spec_of}
use Rattle.original.specs.Locals.{Held, single, tuple, dict, ok, alloc, Locals}
use Rattle.original.specs.Ending.{ends, error_of, held_in}
use Rattle.original.proofs.TotalCollect.{set_args, set_kwargs}
use Rattle.original.proofs.LawsSlots.{map_from_same₀, map_map_from, once, write_to, write_once}
use Rattle.original.proofs.LawsSpec.{first_any}
use Rattle.original.proofs.LawsNamed.{over, lazy}
use Rattle.original.proofs.LawsEntries.{held_with}
use Rattle.original.proofs.LawsSettled.{with_default}
use Rattle.original.proofs.LawsEnds.{reads_named}

module _ (qs : List Parameter) (d : Parameter) (read : Part → List ℕ) (named : List Named) where
  -- 23
  pub args_set : once (λ q. is_args q.kind) qs ≡ true → (h : ℕ → Parameter → Option Held) (stars : List Value) (kw : Option (List Named)) (next low : ℕ)
      → some (set_args (spec_of qs).args (record { slots = map_from h 0 qs; star_args = stars; kwargs = kw; next_position = next; lowest_name = low }))
      ≡ ends read named (ask_star_remainder (has_args qs) stars)
      (ok (record { slots = map_from (λ k q. cond (is_args q.kind) (some (tuple stars)) (h k q)) 0 qs; star_args = stars; kwargs = kw; next_position = next; lowest_name = low }))
  unfolding spec_of args_index has_args error_of
  args_set o h stars kw next low =
      go (first_from (λ q. is_args q.kind) 0 qs) (first_any (λ q. is_args q.kind) 0 qs) (write_once (λ q. is_args q.kind) qs d o h (some (tuple stars))) stars refl
    where
      locals : List (Option Held) → List Value → Locals
      locals m vs = record { slots = m; star_args = vs; kwargs = kw; next_position = next; lowest_name = low }

      go : (i : Option ℕ) → is_some i ≡ any (λ q. is_args q.kind) qs → write_to i (some (tuple stars)) (map_from h 0 qs) ≡ map_from (λ k q. cond (is_args q.kind) (some (tuple stars)) (h k q)) 0 qs
          → (vs : List Value) → vs ≡ stars
          → some (set_args i (record { slots = map_from h 0 qs; star_args = vs; kwargs = kw; next_position = next; lowest_name = low }))
          ≡ ends read named (ask_star_remainder (any (λ q. is_args q.kind) qs) vs)
          (ok (record { slots = map_from (λ k q. cond (is_args q.kind) (some (tuple stars)) (h k q)) 0 qs; star_args = vs; kwargs = kw; next_position = next; lowest_name = low }))
      go (some i) t w vs e = rw (sym t) (ap (λ (m : List (Option Held)). some (ok (locals m vs))) (ap (λ (x : List Value). set (map_from h 0 qs) i (some (tuple x))) e ∙ w))
      go none t w [] e = rw (sym t) (ap (λ (m : List (Option Held)). some (ok (locals m []))) w)
      go none t w (v ∷ vs) e = rw (sym t, ne_eqb (suc (length vs)) 0 (λ (x : suc (length vs) ≡ 0). absurd (omega arith)))

alloc_lazy : (vs : List Named) → alloc (lazy vs) ≡ dict vs
alloc_lazy [] = refl
alloc_lazy (v ∷ vs) = refl

module _ (qs : List Parameter) (d : Parameter) (read : Part → List ℕ) where
  -- 24
  pub kwargs_set : once (λ q. is_kwargs q.kind) qs ≡ true → (h : ℕ → Parameter → Option Held) (stars : List Value) (named : List Named) (next low : ℕ) → all (reads_named read) named ≡ true
      → some (set_kwargs (spec_of qs).kwargs (record { slots = map_from h 0 qs; star_args = stars; kwargs = lazy named; next_position = next; lowest_name = low }))
      ≡ ends read named (ask_named_remainder (has_kwargs qs) named) (ok (map_from (λ k q. cond (is_kwargs q.kind) (some (dict named)) (h k q)) 0 qs))
  unfolding spec_of kwargs_index has_kwargs error_of
  kwargs_set o h stars named next low r =
      go (first_from (λ q. is_kwargs q.kind) 0 qs) (first_any (λ q. is_kwargs q.kind) 0 qs) (write_once (λ q. is_kwargs q.kind) qs d o h (some (dict named))) named refl r
    where
      go : (i : Option ℕ) → is_some i ≡ any (λ q. is_kwargs q.kind) qs → write_to i (some (dict named)) (map_from h 0 qs) ≡ map_from (λ k q. cond (is_kwargs q.kind) (some (dict named)) (h k q)) 0 qs
          → (vs : List Named) → vs ≡ named → all (reads_named read) vs ≡ true
          → some (set_kwargs i (record { slots = map_from h 0 qs; star_args = stars; kwargs = lazy vs; next_position = next; lowest_name = low }))
          ≡ ends read vs (ask_named_remainder (any (λ q. is_kwargs q.kind) qs) vs) (ok (map_from (λ k q. cond (is_kwargs q.kind) (some (dict named)) (h k q)) 0 qs))
      go (some i) t w vs e a = rw (sym t) (ap (λ (m : List (Option Held)). some (ok m)) (ap (λ (x : Held). set (map_from h 0 qs) i (some x)) (alloc_lazy vs ∙ ap dict e) ∙ w))
      go none t w [] e a = rw (sym t) (ap (λ (m : List (Option Held)). some (ok m)) w)
      go none t w (v ∷ vs) e a =
          rw (sym t, eq-eqb (suc (length vs)) (suc (length vs)) refl, and_left (reads_named read v) (all (reads_named read) vs) a)

-- ---- the slots

pub unnamed : (q : Parameter) (N : List Named) → plain q.kind ≡ false → partner q N ≡ none
unfolding names nameable
unnamed q [] e = refl
unnamed q (v ∷ vs) e = rw (e) (unnamed q vs e)

pub unplaced : (q : Parameter) (P : List Value) (k : ℕ) → plain q.kind ≡ false → from_p P k q ≡ false
unfolding from_p positional
unplaced q P k e = rw (e)

module _ (stars : List Value) (named : List Named) (a b : ℕ) where
  held_slot : (P : List Value) (N : List Named) (n k : ℕ) (q : Parameter) → from_p P k q ≡ ltb k n
      → cond (is_kwargs q.kind) (some (dict named)) (cond (is_args q.kind) (some (tuple stars)) (with_default q.kind (held_with P n N k q))) ≡ held_in stars named (slot_of P N a b k q)
  unfolding slot_of
  held_slot P N n k q e = go q.kind refl
    where
      given : (c : Bool) (o : Option Value) (x : ParameterKind) → (plain x ≡ true)
          → cond (is_kwargs x) (some (dict named)) (cond (is_args x) (some (tuple stars)) (with_default x (cond c (some (single (get_or P k no_value))) (over o none))))
          ≡ held_in stars named (cond c (taken (get_or P k no_value)) (taken_or o (otherwise x a b)))
      given true o required p = refl
      given true o optional p = refl
      given true o (defaulted v) p = refl
      given true o args p = absurd (false≢true p)
      given true o kwargs p = absurd (false≢true p)
      given false none required p = refl
      given false none optional p = refl
      given false none (defaulted v) p = refl
      given false none args p = absurd (false≢true p)
      given false none kwargs p = absurd (false≢true p)
      given false (some w) required p = refl
      given false (some w) optional p = refl
      given false (some w) (defaulted v) p = refl
      given false (some w) args p = absurd (false≢true p)
      given false (some w) kwargs p = absurd (false≢true p)

      go : (x : ParameterKind) → q.kind ≡ x
          → cond (is_kwargs x) (some (dict named)) (cond (is_args x) (some (tuple stars)) (with_default x (held_with P n N k q)))
          ≡ held_in stars named (cond (from_p P k q) (taken (get_or P k no_value)) (taken_or (partner q N) (otherwise x a b)))
      go required p = rw (e) (given (ltb k n) (partner q N) required refl)
      go optional p = rw (e) (given (ltb k n) (partner q N) optional refl)
      go (defaulted v) p = rw (e) (given (ltb k n) (partner q N) (defaulted v) refl)
      go args p = rw (unplaced q P k (ap plain p), unnamed q N (ap plain p))
      go kwargs p = rw (unplaced q P k (ap plain p), unnamed q N (ap plain p))

pub slots_placed : (qs : List Parameter) (d : Parameter) (P : List Value) (N : List Named) → positional_first qs ≡ true
    → map_from (λ k q. cond (is_kwargs q.kind) (some (dict (named_remainder qs N))) (cond (is_args q.kind) (some (tuple (star_remainder qs P))) (with_default q.kind (held_with P (min (length P) (positional_count qs)) N k q)))) 0 qs
    ≡ map (held_in (star_remainder qs P) (named_remainder qs N)) (place qs P N)
unfolding place
slots_placed qs d P N first =
    map_from_same₀
    (λ k q. cond (is_kwargs q.kind) (some (dict (named_remainder qs N))) (cond (is_args q.kind) (some (tuple (star_remainder qs P))) (with_default q.kind (held_with P (min (length P) (positional_count qs)) N k q))))
    (λ k q. held_in (star_remainder qs P) (named_remainder qs N) (slot_of P N (length (star_remainder qs P)) (length (named_remainder qs N)) k q)) d qs
    (λ k h. held_slot (star_remainder qs P) (named_remainder qs N) (length (star_remainder qs P)) (length (named_remainder qs N)) P N (min (length P) (positional_count qs)) k (get_or qs k d) (from_p_at qs P first k d h))
    ∙ sym (map_map_from (held_in (star_remainder qs P) (named_remainder qs N)) (slot_of P N (length (star_remainder qs P)) (length (named_remainder qs N))) 0 qs)
