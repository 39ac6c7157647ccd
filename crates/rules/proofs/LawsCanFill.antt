-- Laws of can-fill: of named values with no name twice it says yes exactly where there are no repeats and 20 to 24 are fine.
-- Assumes nothing.
use mathlib.Core.Path.{◌≡◌, refl, sym, ap, ap₂, ◌∙◌}
use mathlib.Core.Bool.{Bool, true, false, cond, not, ◌&&◌, ◌||◌}
use mathlib.Core.List.{List, [], ◌∷◌, map}
use mathlib.Core.Option.{Option, none, some}
use Prim.Native.Nat.{ℕ, zero, suc, ◌+◌}
use lib.Dec.{leb, ltb, eqb, leb-zero, leb-suc-zero, leb-suc-suc}
use lib.ListN.{length, drop, get_or}
use Rattle.rules.specs.Listing.{all, keep, any_from, map_from}
use Rattle.rules.specs.Text.{differ}
use Rattle.rules.specs.Value.{Value, no_value}
use Rattle.rules.specs.Answer.{refuse, ◌then◌, name, part_of, spec_area}
use Rattle.rules.specs.CallRecord.{Named}
use Rattle.rules.specs.Parameters.{Parameter, ParameterKind, required, optional, defaulted, args, kwargs, is_required, positional, positional_count, has_args, has_kwargs}
use Rattle.rules.specs.Lookup.{names, known}
use Rattle.rules.specs.Placement.{Slot, taken, is_unfilled, otherwise, taken_or, partner, from_p, slot_of, place, star_remainder, named_remainder}
use Rattle.rules.specs.Binding.{texts_of, named_by, missing, ask_required, ask_star_remainder, ask_named_remainder, ask_placed}
use Rattle.rules.specs.CanFill.{fillings, filled_twice, left_empty, can_fill}
use Rattle.rules.proofs.LawsListing.{any_from_same, all_map, tally_map}
use Rattle.rules.proofs.LawsAnswer.{is_fine, is_fine_then}
use Rattle.rules.proofs.LawsPlacement.{is_some, partner_some, tally_naming}
use Rattle.rules.proofs.LawsBinding.{repeats, repeats_slots}

-- ---- 23 and 24

none_left : {X : Type 0} → List X → Bool
none_left [] = true
none_left (x ∷ xs) = false

star_fine : (b : Bool) (vs : List Value) → is_fine (ask_star_remainder b vs) ≡ (none_left vs || b)
unfolding none_left
star_fine true [] = refl
star_fine true (v ∷ vs) = refl
star_fine false [] = refl
star_fine false (v ∷ vs) = refl

named_fine : (b : Bool) (vs : List Named) → is_fine (ask_named_remainder b vs) ≡ (none_left vs || b)
unfolding none_left
named_fine true [] = refl
named_fine true (v ∷ vs) = refl
named_fine false [] = refl
named_fine false (v ∷ vs) = refl

none_past : (n : ℕ) (vs : List Value) → none_left (drop n vs) ≡ leb (length vs) n
unfolding none_left
none_past zero [] = refl
none_past zero (v ∷ vs) = sym (leb-suc-zero (length vs))
none_past (suc n) [] = sym (leb-zero (suc n))
none_past (suc n) (v ∷ vs) = none_past n vs ∙ sym (leb-suc-suc (length vs) n)

none_unknown : (f : Named → Bool) (vs : List Named) → none_left (keep (λ v. not (f v)) vs) ≡ all f vs
unfolding none_left
none_unknown f [] = refl
none_unknown f (v ∷ vs) = go (f v) (none_unknown f vs)
  where
    go : (b : Bool) → none_left (keep (λ w. not (f w)) vs) ≡ all f vs → none_left (cond (not b) (v ∷ keep (λ w. not (f w)) vs) (keep (λ w. not (f w)) vs)) ≡ (b && all f vs)
    go true e = e
    go false e = refl

-- ---- how often a slot is filled

module _ (P : List Value) (N : List Named) (differs : differ (texts_of N) ≡ true) where
  fillings_are : (i : ℕ) (q : Parameter) → fillings (length P) (map (λ v. v.name.bytes) N) i q ≡ cond (from_p P i q) 1 0 + cond (named_by N q) 1 0
  unfolding fillings from_p
  fillings_are i q = ap (λ n. cond (positional q && ltb i (length P)) 1 0 + n) (tally_map (λ v. v.name.bytes) (λ n. names n q) N ∙ tally_naming q N differs)

  twice : (qs : List Parameter) → filled_twice qs (length P) (map (λ v. v.name.bytes) N) ≡ repeats qs P N
  unfolding filled_twice repeats
  twice qs =
      any_from_same (λ i q. ltb 1 (fillings (length P) (map (λ v. v.name.bytes) N) i q)) (λ i q. from_p P i q && named_by N q) (λ i q. ap (ltb 1) (fillings_are i q) ∙ both (from_p P i q) (named_by N q)) 0 qs
      ∙ repeats_slots P 0 qs N
    where
      both : (a b : Bool) → ltb 1 (cond a 1 0 + cond b 1 0) ≡ (a && b)
      both true true = refl
      both true false = refl
      both false true = refl
      both false false = refl

  slot_unfilled : (a b i : ℕ) (q : Parameter) → (is_required q.kind && eqb (fillings (length P) (map (λ v. v.name.bytes) N) i q) 0) ≡ (is_required q.kind && is_unfilled (slot_of P N a b i q))
  unfolding slot_of
  slot_unfilled a b i q =
      ap (λ n. is_required q.kind && eqb n 0) (fillings_are i q ∙ ap (λ c. cond (from_p P i q) 1 0 + cond c 1 0) (sym (partner_some q N)))
      ∙ go q.kind (from_p P i q) (partner q N)
    where
      go : (k : ParameterKind) (f : Bool) (o : Option Value) → (is_required k && eqb (cond f 1 0 + cond (is_some o) 1 0) 0) ≡ (is_required k && is_unfilled (cond f (taken (get_or P i no_value)) (taken_or o (otherwise k a b))))
      go required true none = refl
      go required true (some v) = refl
      go required false none = refl
      go required false (some v) = refl
      go optional f o = refl
      go (defaulted w) f o = refl
      go args f o = refl
      go kwargs f o = refl

required_fine : (f : ℕ → Parameter → Slot) (i : ℕ) (qs : List Parameter) → is_fine (ask_required qs (map_from f i qs)) ≡ not (any_from (λ k q. is_required q.kind && is_unfilled (f k q)) i qs)
required_fine f i [] = refl
required_fine f i (q ∷ qs) = go (is_required q.kind && is_unfilled (f i q)) (required_fine f (suc i) qs)
  where
    go : (b : Bool) → is_fine (ask_required qs (map_from f (suc i) qs)) ≡ not (any_from (λ k p. is_required p.kind && is_unfilled (f k p)) (suc i) qs)
        → is_fine (cond b (refuse (missing q.style) (name (part_of spec_area q.name))) (ask_required qs (map_from f (suc i) qs))) ≡ not (b || any_from (λ k p. is_required p.kind && is_unfilled (f k p)) (suc i) qs)
    go true e = refl
    go false e = e

-- ---- can-fill

pub can_fill_is : (qs : List Parameter) (P : List Value) (N : List Named) → differ (texts_of N) ≡ true
    → can_fill qs (length P) (map (λ v. v.name.bytes) N) ≡ (not (repeats qs P N) && is_fine (ask_placed qs P N))
unfolding can_fill ask_placed place star_remainder named_remainder left_empty
can_fill_is qs P N differs =
    ap₂ (λ x y. x && y) (ap₂ (λ x y. x && y) (ap₂ (λ x y. x && y) stars (ap not (twice P N differs qs))) nameds) (ap not required_left)
    ∙ shuffle (is_fine (ask_star_remainder (has_args qs) (star_remainder qs P))) (repeats qs P N) (is_fine (ask_named_remainder (has_kwargs qs) (named_remainder qs N))) (is_fine (ask_required qs (place qs P N)))
    ∙ ap (λ b. not (repeats qs P N) && b) (sym chain)
  where
    stars : (leb (length P) (positional_count qs) || has_args qs) ≡ is_fine (ask_star_remainder (has_args qs) (star_remainder qs P))
    stars = ap (λ b. b || has_args qs) (sym (none_past (positional_count qs) P)) ∙ sym (star_fine (has_args qs) (star_remainder qs P))

    nameds : (all (known qs) (map (λ v. v.name.bytes) N) || has_kwargs qs) ≡ is_fine (ask_named_remainder (has_kwargs qs) (named_remainder qs N))
    nameds =
        ap (λ b. b || has_kwargs qs) (all_map (λ v. v.name.bytes) (known qs) N ∙ sym (none_unknown (λ v. known qs v.name.bytes) N))
        ∙ sym (named_fine (has_kwargs qs) (named_remainder qs N))

    twice_not : (b : Bool) → b ≡ not (not b)
    twice_not true = refl
    twice_not false = refl

    required_left : left_empty qs (length P) (map (λ v. v.name.bytes) N) ≡ not (is_fine (ask_required qs (place qs P N)))
    required_left =
        any_from_same (λ i q. is_required q.kind && eqb (fillings (length P) (map (λ v. v.name.bytes) N) i q) 0)
        (λ i q. is_required q.kind && is_unfilled (slot_of P N (length (star_remainder qs P)) (length (named_remainder qs N)) i q))
        (slot_unfilled P N differs (length (star_remainder qs P)) (length (named_remainder qs N))) 0 qs
        ∙ twice_not (any_from (λ i q. is_required q.kind && is_unfilled (slot_of P N (length (star_remainder qs P)) (length (named_remainder qs N)) i q)) 0 qs)
        ∙ ap not (sym (required_fine (slot_of P N (length (star_remainder qs P)) (length (named_remainder qs N))) 0 qs))

    shuffle : (a r c d : Bool) → (a && not r && c && not (not d)) ≡ (not r && (c && (d && a)))
    shuffle true true c d = refl
    shuffle true false true true = refl
    shuffle true false true false = refl
    shuffle true false false d = refl
    shuffle false true c d = refl
    shuffle false false true true = refl
    shuffle false false true false = refl
    shuffle false false false d = refl

    chain : is_fine (ask_named_remainder (has_kwargs qs) (named_remainder qs N) then ask_required qs (place qs P N) then ask_star_remainder (has_args qs) (star_remainder qs P))
        ≡ (is_fine (ask_named_remainder (has_kwargs qs) (named_remainder qs N)) && (is_fine (ask_required qs (place qs P N)) && is_fine (ask_star_remainder (has_args qs) (star_remainder qs P))))
    chain =
        is_fine_then (ask_named_remainder (has_kwargs qs) (named_remainder qs N)) (ask_required qs (place qs P N) then ask_star_remainder (has_args qs) (star_remainder qs P))
        ∙ ap (λ b. is_fine (ask_named_remainder (has_kwargs qs) (named_remainder qs N)) && b) (is_fine_then (ask_required qs (place qs P N)) (ask_star_remainder (has_args qs) (star_remainder qs P)))
