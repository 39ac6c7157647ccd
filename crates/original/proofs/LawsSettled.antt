-- Laws of the loop that sets defaults (spec.rs 793-826): it ends as 20 to 22 answer, and where they refuse nothing each empty slot holds its
-- parameter's default, if there is one. The slots below `next_position`, which the loop leaves out, are filled.
-- Assumes nothing.
use mathlib.Core.Path.{◌≡◌, refl, sym, ap, ◌∙◌}
use mathlib.Core.Bool.{Bool, true, false, cond, not, ◌&&◌}
use mathlib.Core.List.{List, [], ◌∷◌, map}
use mathlib.Core.Option.{Option, none, some}
use Prim.Native.Nat.{ℕ, zero, suc, ◌+◌, ◌-◌, min, ◌≤◌, ◌<◌}
use native.Mathlib.Nat.{zero-add, le_of_suc-le-suc, not-suc-le-zero}
use native.Mathlib.Omega.{arith}
use borrow.Author.Tests.{eqb-true, eqb-false, ltb-true, ltb-false, lt-ltb, le-ltb, le-leb, lt-leb}
use lib.Dec.{eqb, ltb, leb}
use lib.ListN.{length, drop, get_or, set, length-map, drop_of_length-le}
use lib.Seq.{drop-cons, set-get_or}
use Rattle.rules.specs.Listing.{all, tally, map_from}
use Rattle.rules.specs.Text.{Text}
use Rattle.rules.specs.Value.{Value, no_value}
use Rattle.rules.specs.Answer.{Answer, fine, refuse, ◌then◌, name, Part, part_of, spec_area}
use Rattle.rules.specs.CallRecord.{Named}
use Rattle.rules.specs.Parameters.{Parameter, ParameterKind, required, optional, defaulted, args, kwargs, Style, pos_only, pos_or_named, named_only, no_more, comes_before, plain, is_required, takes_position, positional, positional_only, positional_count, positional_only_count}
use Rattle.rules.specs.Placement.{Slot, taken, is_unfilled, from_p, partner, otherwise, taken_or, slot_of, named_remainder}
use Rattle.rules.specs.Binding.{missing, ask_required}
use Rattle.rules.specs.Passed.{positional_first}
use Rattle.rules.proofs.LawsAnswer.{then_last}
use Rattle.rules.proofs.LawsListing.{and_left, and_right}
use Rattle.rules.proofs.LawsText.{same_bytes_eq}
use Rattle.rules.proofs.LawsFound.{from_p_at}
use Rattle.rules.proofs.LawsShort.{tally_most}
use Rattle.original.specs.Spec.{is_some, spec_of}
use Rattle.original.specs.Locals.{Held, single, FunctionError, MissingPositionalOnly, MissingNamedOnly, Missing, ok, Locals}
use Rattle.original.specs.Collect.{missing_at}
use Rattle.original.specs.Ending.{ends, failing, error_of}
use Rattle.original.proofs.TotalCollect.{no_text, no_kind, settle_empty, settle_one, settle_each, settle}
use Rattle.original.proofs.LawsSlots.{map_from_same₀, set_map_from₀, get_d_map_from, come_first, first_at}
use Rattle.original.proofs.LawsNamed.{over, lazy}
use Rattle.original.proofs.LawsEntries.{held_with}
use Rattle.original.proofs.LawsEnds.{ends_then, reads_parameter}

-- what an empty slot is given
abbrev pub with_default : ParameterKind → Option Held → Option Held
with_default required s = s
with_default optional s = s
with_default (defaulted v) (some h) = some h
with_default (defaulted v) none = some (single v)
with_default args s = s
with_default kwargs s = s

default_filled : (k : ParameterKind) (h : Held) → with_default k (some h) ≡ some h
default_filled required h = refl
default_filled optional h = refl
default_filled (defaulted v) h = refl
default_filled args h = refl
default_filled kwargs h = refl

pub get_d_map_in : {X Y : Type 0} (f : X → Y) (xs : List X) (k : ℕ) (y : Y) (d : X) → k < length xs → get_or (map f xs) k y ≡ f (get_or xs k d)
get_d_map_in f [] k y d h = absurd (not-suc-le-zero h)
get_d_map_in f (x ∷ xs) zero y d h = refl
get_d_map_in f (x ∷ xs) (suc k) y d h = get_d_map_in f xs k y d (le_of_suc-le-suc h)

all_at : {X : Type 0} (f : X → Bool) (xs : List X) → all f xs ≡ true → (k : ℕ) (d : X) → k < length xs → f (get_or xs k d) ≡ true
all_at f [] e k d h = absurd (not-suc-le-zero h)
all_at f (x ∷ xs) e zero d h = and_left (f x) (all f xs) e
all_at f (x ∷ xs) e (suc k) d h = all_at f xs (and_right (f x) (all f xs) e) k d (le_of_suc-le-suc h)

-- positional parameters come first, said in the general form
first_positional : (qs : List Parameter) → positional_first qs ≡ true → come_first positional qs ≡ true
first_positional [] e = refl
first_positional (q ∷ qs) e = go (positional q) e (first_positional qs)
  where
    go : (c : Bool) → cond c (positional_first qs) (all (λ p. not (positional p)) qs) ≡ true → (positional_first qs ≡ true → come_first positional qs ≡ true)
        → cond c (come_first positional qs) (all (λ p. not (positional p)) qs) ≡ true
    go true f ih = ih f
    go false f ih = f

pub positional_short : (qs : List Parameter) (n : ℕ) → min n (positional_count qs) ≤ length qs
unfolding positional_count
positional_short qs n = omega (arith, tally_most qs)

-- ---- which parameter is missing

module _ (read : Part → List ℕ) (named : List Named) where
  -- the number by the style and the wording by the index are one
  missing_error : (s : Style) (bytes : List ℕ) (p : Part) (index only all_of : ℕ) → read p ≡ bytes → comes_before s pos_or_named ≡ ltb index only → takes_position s ≡ ltb index all_of
      → error_of read named (missing s) (name p) ≡ some (cond (ltb index only) (MissingPositionalOnly bytes) (cond (leb all_of index) (MissingNamedOnly bytes) (Missing bytes)))
  unfolding error_of comes_before
  missing_error pos_only bytes p index only all_of r e g = rw (sym e) (ap (λ (b : List ℕ). some (MissingPositionalOnly b)) r)
  missing_error pos_or_named bytes p index only all_of r e g =
      rw (sym e, lt-leb all_of index (ltb-true index all_of (sym g))) (ap (λ (b : List ℕ). some (Missing b)) r)
  missing_error named_only bytes p index only all_of r e g =
      rw (sym e, le-leb all_of index (ltb-false index all_of (sym g))) (ap (λ (b : List ℕ). some (MissingNamedOnly b)) r)
  missing_error no_more bytes p index only all_of r e g =
      rw (sym e, le-leb all_of index (ltb-false index all_of (sym g))) (ap (λ (b : List ℕ). some (MissingNamedOnly b)) r)

-- 20 to 22 of one parameter
abbrev ask_one : Parameter → Slot → Answer
ask_one q s = cond (is_required q.kind && is_unfilled s) (refuse (missing q.style) (name (part_of spec_area q.name))) fine

ask_required_cons : (q : Parameter) (qs : List Parameter) (s : Slot) (ss : List Slot) → ask_required (q ∷ qs) (s ∷ ss) ≡ (ask_one q s then ask_required qs ss)
ask_required_cons q qs s ss = go (is_required q.kind && is_unfilled s)
  where
    go : (c : Bool) → cond c (refuse (missing q.style) (name (part_of spec_area q.name))) (ask_required qs ss) ≡ (cond c (refuse (missing q.style) (name (part_of spec_area q.name))) fine then ask_required qs ss)
    go true = refl
    go false = refl

-- a required parameter's slot is empty in 01 where it is empty in the Rust
unfilled_slot : (P : List Value) (N : List Named) (a b n k : ℕ) (q : Parameter) → from_p P k q ≡ ltb k n → is_unfilled (cond (from_p P k q) (taken (get_or P k no_value)) (taken_or (partner q N) (otherwise required a b))) ≡ not (is_some (held_with P n N k q))
unfilled_slot P N a b n k q e = rw (e) (go (ltb k n) (partner q N))
  where
    go : (c : Bool) (o : Option Value) → is_unfilled (cond c (taken (get_or P k no_value)) (taken_or o (otherwise required a b))) ≡ not (is_some (cond c (some (single (get_or P k no_value))) (over o none)))
    go true o = refl
    go false none = refl
    go false (some v) = refl

slot_filled : (P : List Value) (N : List Named) (a b k : ℕ) (q : Parameter) → from_p P k q ≡ true → is_unfilled (slot_of P N a b k q) ≡ false
unfolding slot_of
slot_filled P N a b k q e = rw (e)

module _ (qs : List Parameter) (d : Parameter) (P : List Value) (N : List Named) (a b : ℕ) where
  -- the slots when those below `index` have had their defaults
  abbrev settled_below : ℕ → ℕ → Parameter → Option Held
  settled_below index k q = cond (ltb k index) (with_default q.kind (held_with P (min (length P) (positional_count qs)) N k q)) (held_with P (min (length P) (positional_count qs)) N k q)

  abbrev pub settled_slot : ℕ → Parameter → Option Held
  settled_slot k q = with_default q.kind (held_with P (min (length P) (positional_count qs)) N k q)

  slot_there : (index : ℕ) → index < length qs → get_or (map_from (settled_below index) 0 qs) index none ≡ held_with P (min (length P) (positional_count qs)) N index (get_or qs index d)
  slot_there index h =
      get_d_map_from (settled_below index) 0 qs index none d h
      ∙ ap (λ (j : ℕ). settled_below index j (get_or qs index d)) (zero-add index)
      ∙ ap (λ (c : Bool). cond c (settled_slot index (get_or qs index d)) (held_with P (min (length P) (positional_count qs)) N index (get_or qs index d))) (le-ltb index index (omega arith))

  settled_suc : (index : ℕ) → index < length qs
      → set (map_from (settled_below index) 0 qs) index (settled_slot index (get_or qs index d)) ≡ map_from (settled_below (suc index)) 0 qs
  settled_suc index h =
      set_map_from₀ (settled_below index) qs index (settled_slot index (get_or qs index d))
      ∙ map_from_same₀ (λ k q. cond (eqb k index) (settled_slot index (get_or qs index d)) (settled_below index k q)) (settled_below (suc index)) d qs (λ k l. at k (eqb k index) refl (ltb k index) refl)
    where
      at : (k : ℕ) (c : Bool) → eqb k index ≡ c → (t : Bool) → ltb k index ≡ t
          → cond c (settled_slot index (get_or qs index d)) (cond t (settled_slot k (get_or qs k d)) (held_with P (min (length P) (positional_count qs)) N k (get_or qs k d))) ≡ settled_below (suc index) k (get_or qs k d)
      at k true p t r =
          let same : k ≡ index = eqb-true k index p in
          rw (lt-ltb k (suc index) (omega arith)) (ap (λ (j : ℕ). settled_slot j (get_or qs j d)) (sym same))
      at k false p true r = rw (lt-ltb k (suc index) (omega (arith, ltb-true k index r)))
      at k false p false r = rw (le-ltb k (suc index) (past (eqb-false k index p) (ltb-false k index r)))
        where
          past : (k ≡ index → ⊥) → index ≤ k → suc index ≤ k
          past o m = omega arith

  module _ (read : Part → List ℕ) (named : List Named) (first : positional_first qs ≡ true) (only : come_first positional_only qs ≡ true) (reads : all (reads_parameter read) qs ≡ true) where
    missing_here : (index : ℕ) → index < length qs → (get_or qs index d).kind ≡ required
        → error_of read named (missing (get_or qs index d).style) (name (part_of spec_area (get_or qs index d).name)) ≡ some (missing_at (spec_of qs) index (get_or (spec_of qs).param_names index no_text).bytes)
    unfolding missing_at spec_of positional positional_only positional_count positional_only_count
    missing_here index h k =
        missing_error read named (get_or qs index d).style (get_or qs index d).name.bytes (part_of spec_area (get_or qs index d).name) index (tally positional_only qs) (tally positional qs)
        (same_bytes_eq (read (part_of spec_area (get_or qs index d).name)) (get_or qs index d).name.bytes (all_at (reads_parameter read) qs reads index d h))
        (sym (ap (λ (x : ParameterKind). plain x && comes_before (get_or qs index d).style pos_or_named) k) ∙ first_at positional_only qs only index d h)
        (sym (ap (λ (x : ParameterKind). plain x && takes_position (get_or qs index d).style) k) ∙ first_at positional qs (first_positional qs first) index d h)
        ∙ ap (λ (bs : List ℕ). some (cond (ltb index (tally positional_only qs)) (MissingPositionalOnly bs) (cond (leb (tally positional qs) index) (MissingNamedOnly bs) (Missing bs))))
        (ap (λ (t : Text). t.bytes) (sym (get_d_map_in (λ q. q.name) qs index no_text d h)))

    -- one slot, by its parameter's kind and by what it holds
    module _ (index : ℕ) (h : index < length qs) where
      abbrev this : Parameter
      this = get_or qs index d

      abbrev before : List (Option Held)
      before = map_from (settled_below index) 0 qs

      abbrev after : List (Option Held)
      after = map_from (settled_below (suc index)) 0 qs

      abbrev holds : Option Held
      holds = held_with P (min (length P) (positional_count qs)) N index (get_or qs index d)

      abbrev emptied : ParameterKind → Bool
      emptied k = is_unfilled (cond (from_p P index this) (taken (get_or P index no_value)) (taken_or (partner this N) (otherwise k a b)))

      written : (s : Option Held) → settled_slot index this ≡ s → set before index s ≡ after
      written s e = ap (set before index) (sym e) ∙ settled_suc index h

      kept : (s : Option Held) → holds ≡ s → settled_slot index this ≡ s → before ≡ after
      kept s p e = sym (set-get_or before index none) ∙ ap (set before index) (slot_there index h ∙ p) ∙ written s e

      by_kind : (k : ParameterKind) → this.kind ≡ k → (o : Option Held) → holds ≡ o → settled_slot index this ≡ with_default k o
          → some (cond (is_some o) (ok before) (settle_empty (spec_of qs) index k before))
          ≡ ends read named (cond (is_required k && emptied k) (refuse (missing this.style) (name (part_of spec_area this.name))) fine) (ok after)
      by_kind required r (some x) p w =
          rw (unfilled_slot P N a b (min (length P) (positional_count qs)) index this (from_p_at qs P first index d h), p)
          (ap (λ (m : List (Option Held)). some (ok m)) (kept (some x) p w))
      by_kind required r none p w =
          rw (unfilled_slot P N a b (min (length P) (positional_count qs)) index this (from_p_at qs P first index d h), p)
          (sym (ap (λ (e : Option FunctionError). failing e) (missing_here index h r)))
      by_kind optional r (some x) p w = ap (λ (m : List (Option Held)). some (ok m)) (kept (some x) p w)
      by_kind optional r none p w = ap (λ (m : List (Option Held)). some (ok m)) (kept none p w)
      by_kind (defaulted v) r (some x) p w = ap (λ (m : List (Option Held)). some (ok m)) (kept (some x) p w)
      by_kind (defaulted v) r none p w = ap (λ (m : List (Option Held)). some (ok m)) (written (some (single v)) w)
      by_kind args r (some x) p w = ap (λ (m : List (Option Held)). some (ok m)) (kept (some x) p w)
      by_kind args r none p w = ap (λ (m : List (Option Held)). some (ok m)) (kept none p w)
      by_kind kwargs r (some x) p w = ap (λ (m : List (Option Held)). some (ok m)) (kept (some x) p w)
      by_kind kwargs r none p w = ap (λ (m : List (Option Held)). some (ok m)) (kept none p w)

      settle_one_lem : some (settle_one (spec_of qs) index before) ≡ ends read named (ask_one this (slot_of P N a b index this)) (ok after)
      unfolding settle_one slot_of spec_of
      settle_one_lem =
          rw (slot_there index h, get_d_map_in (λ q. q.kind) qs index no_kind d h)
          (by_kind this.kind refl holds refl refl)

    settle_each_lem : (count index : ℕ) → index + count ≡ length qs
        → some (settle_each (spec_of qs) index count (map_from (settled_below index) 0 qs)) ≡ ends read named (ask_required (drop index qs) (map_from (slot_of P N a b) index (drop index qs))) (ok (map_from (settled_below (length qs)) 0 qs))
    settle_each_lem zero index e = rw (drop_of_length-le qs {i = index} (omega arith)) (ap (λ (j : ℕ). some (ok (map_from (settled_below j) 0 qs))) (at e))
      where
        at : index + 0 ≡ length qs → index ≡ length qs
        at f = omega arith
    settle_each_lem (suc count) index e =
        rw (drop-cons qs index d (omega arith), ask_required_cons (get_or qs index d) (drop (suc index) qs) (slot_of P N a b index (get_or qs index d)) (map_from (slot_of P N a b) (suc index) (drop (suc index) qs)))
        (ends_then read named (settle_one (spec_of qs) index (map_from (settled_below index) 0 qs)) (settle_each (spec_of qs) (suc index) count)
        (ask_one (get_or qs index d) (slot_of P N a b index (get_or qs index d))) (ask_required (drop (suc index) qs) (map_from (slot_of P N a b) (suc index) (drop (suc index) qs)))
        (map_from (settled_below (suc index)) 0 qs) (ok (map_from (settled_below (length qs)) 0 qs))
        (settle_one_lem index (omega arith))
        (λ f. settle_each_lem count (suc index) (omega arith)))

    -- the slots filled from P are not asked after
    ask_skipped : (i : ℕ) → i ≤ min (length P) (positional_count qs) → ask_required (drop i qs) (map_from (slot_of P N a b) i (drop i qs)) ≡ ask_required qs (map_from (slot_of P N a b) 0 qs)
    ask_skipped zero h = refl
    ask_skipped (suc i) h =
        sym (rw (drop-cons qs i d (omega (arith, below)), ask_required_cons (get_or qs i d) (drop (suc i) qs) (slot_of P N a b i (get_or qs i d)) (map_from (slot_of P N a b) (suc i) (drop (suc i) qs)), filled) refl)
        ∙ ask_skipped i (omega arith)
      where
        below : min (length P) (positional_count qs) ≤ length qs
        below = positional_short qs (length P)

        filled : ask_one (get_or qs i d) (slot_of P N a b i (get_or qs i d)) ≡ fine
        filled =
            ap (λ (c : Bool). cond (is_required (get_or qs i d).kind && c) (refuse (missing (get_or qs i d).style) (name (part_of spec_area (get_or qs i d).name))) fine)
            (slot_filled P N a b i (get_or qs i d) (from_p_at qs P first i d (omega (arith, below)) ∙ lt-ltb i (min (length P) (positional_count qs)) h))
            ∙ off (is_required (get_or qs i d).kind)
          where
            off : (c : Bool) → cond (c && false) (refuse (missing (get_or qs i d).style) (name (part_of spec_area (get_or qs i d).name))) fine ≡ fine
            off true = refl
            off false = refl

    -- the locals after the loop
    abbrev pub settled_locals : List Value → ℕ → Locals
    settled_locals stars low =
        record {
          slots = map_from settled_slot 0 qs;
          star_args = stars;
          kwargs = lazy (named_remainder qs N);
          next_position = min (length P) (positional_count qs);
          lowest_name = low;
        }

    pub settle_all : (stars : List Value) (low : ℕ)
        → some (settle (spec_of qs) (record {
          slots = map_from (held_with P (min (length P) (positional_count qs)) N) 0 qs;
          star_args = stars;
          kwargs = lazy (named_remainder qs N);
          next_position = min (length P) (positional_count qs);
          lowest_name = low;
        }))
        ≡ ends read named (ask_required qs (map_from (slot_of P N a b) 0 qs)) (ok (settled_locals stars low))
    unfolding settle spec_of
    settle_all stars low =
        rw (length-map qs (λ q. q.kind), start)
        (ends_then read named (settle_each (spec_of qs) below (length qs - below) (map_from (settled_below below) 0 qs))
        (λ after. ok (record { slots = after; star_args = stars; kwargs = lazy (named_remainder qs N); next_position = below; lowest_name = low }))
        (ask_required (drop below qs) (map_from (slot_of P N a b) below (drop below qs))) fine
        (map_from (settled_below (length qs)) 0 qs) (ok (settled_locals stars low))
        (settle_each_lem (length qs - below) below (omega (arith, short)))
        (λ f. ap (λ (m : List (Option Held)). some (ok (record { slots = m; star_args = stars; kwargs = lazy (named_remainder qs N); next_position = below; lowest_name = low }))) finish)
        ∙ ap (λ (x : Answer). ends read named x (ok (settled_locals stars low))) (then_last (ask_required (drop below qs) (map_from (slot_of P N a b) below (drop below qs))) ∙ ask_skipped below (omega arith)))
      where
        below : ℕ
        below = min (length P) (positional_count qs)

        short : min (length P) (positional_count qs) ≤ length qs
        short = positional_short qs (length P)

        at : (k : ℕ) (q : Parameter) (c : Bool) → cond c (some (single (get_or P k no_value))) (over (partner q N) none) ≡ cond c (with_default q.kind (cond c (some (single (get_or P k no_value))) (over (partner q N) none))) (cond c (some (single (get_or P k no_value))) (over (partner q N) none))
        at k q true = sym (default_filled q.kind (single (get_or P k no_value)))
        at k q false = refl

        start : map_from (held_with P (min (length P) (positional_count qs)) N) 0 qs ≡ map_from (settled_below (min (length P) (positional_count qs))) 0 qs
        start = map_from_same₀ (held_with P below N) (settled_below below) d qs (λ k l. at k (get_or qs k d) (ltb k below))

        finish : map_from (settled_below (length qs)) 0 qs ≡ map_from settled_slot 0 qs
        finish = map_from_same₀ (settled_below (length qs)) settled_slot d qs (λ k l. rw (lt-ltb k (length qs) l))
