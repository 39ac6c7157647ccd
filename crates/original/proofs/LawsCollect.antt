-- The collector whole: for a list whose positional and positional-only parameters come first, whose nameable names differ and which has *args
-- and **kwargs at most once, and for a call whose written names differ, `collect_inline_impl`, as TotalCollect has it, ends as 15 to 24 answer in
-- 01's own order.
-- Assumes nothing.
use mathlib.Core.Path.{◌≡◌, refl, sym, ap, ap₂, subst, ◌∙◌}
use mathlib.Core.Bool.{Bool, true, false, cond, not, ◌&&◌, false≢true, true≢false}
use mathlib.Core.List.{List, [], ◌∷◌, ◌++◌, map, append-nil}
use mathlib.Core.Option.{Option, none, some}
use Prim.Native.Nat.{ℕ, zero, suc, ◌+◌, min, ◌≤◌, ◌<◌}
use native.Mathlib.Nat.{zero-add, add-zero, le_of_suc-le-suc, not-suc-le-zero}
use native.Mathlib.Omega.{arith}
use borrow.Author.Tests.{eqb-true, ltb-true, ltb-false, lt-ltb, le-leb}
use lib.Dec.{eqb, ltb, leb}
use lib.ListN.{length, drop, get_or, replicate, length-map, length-append}
use Rattle.rules.specs.Listing.{all, map_from}
use Rattle.rules.specs.Text.{differ}
use Rattle.rules.specs.Value.{Value, no_value}
use Rattle.rules.specs.Answer.{Answer, fine, refuse, ◌then◌, ask, name, Part, part_of, spec_area}
use Rattle.rules.specs.CallRecord.{Call, Named, Star, no_star, iterable, not_iterable, Double, no_double, dictionary, not_dictionary, items_of, entries_of, words, positionals_of, named_of}
use Rattle.rules.specs.Parameters.{Parameter, is_args, is_kwargs, positional_only, positional_count, has_args, has_kwargs}
use Rattle.rules.specs.Lookup.{known}
use Rattle.rules.specs.Placement.{taken, from_p, partner, place, star_remainder, named_remainder}
use Rattle.rules.specs.Binding.{texts_of, named_by, star_passes, double_passes, ask_repeats, ask_entries, ask_required, ask_star_remainder, ask_named_remainder}
use Rattle.rules.specs.UnknownFirst.{placed_missing_first, binding_missing_first}
use Rattle.rules.specs.Passed.{positional_first, names_apart}
use Rattle.rules.proofs.LawsAnswer.{fine_refuse, then_right}
use Rattle.rules.proofs.LawsUnknownFirst.{missing_first_fine}
use Rattle.rules.proofs.LawsPlacement.{is_some as is_given, partner_some}
use Rattle.rules.proofs.LawsFound.{from_p_at}
use Rattle.rules.proofs.LawsShort.{place_short, binding_short}
use Rattle.original.specs.Spec.{spec_of}
use Rattle.original.specs.Locals.{Held, single, tuple, Result, ok, usize_max, Locals}
use Rattle.original.specs.Arguments.{zip_slots}
use Rattle.original.specs.Collect.{start_locals, star_is_none, double_is_none, is_short}
use Rattle.original.specs.Ending.{ends, error_of, held_in}
use Rattle.original.proofs.TotalCollect.{◌total_then◌, take_each, take_positionals, name_each, take_star, test_repeats, take_double, settle, set_args, set_kwargs, collect_slow, collect_inline}
use Rattle.original.proofs.LawsInside.{kinds_all}
use Rattle.original.proofs.LawsSlots.{shift, map_from_same₀, come_first, once}
use Rattle.original.proofs.LawsPositional.{same_locals, held_below, take_positionals_lem, over_between, take_items}
use Rattle.original.proofs.LawsNamed.{over, lazy, first_or, first_none, name_each_lem}
use Rattle.original.proofs.LawsRepeats.{repeats_tested}
use Rattle.original.proofs.LawsEntries.{held_with, entry_each_lem}
use Rattle.original.proofs.LawsSettled.{with_default, positional_short, settle_all}
use Rattle.original.proofs.LawsRemainders.{args_set, kwargs_set, slots_placed}
use Rattle.original.proofs.LawsEnds.{ends_then, reads_parameter, reads_named, all_keep, all_back}

-- ---- slots that no name and no position both fill

-- where 16 refuses nothing, no slot filled from P is named
none_repeated : (P : List Value) (W : List Named) (i : ℕ) (qs : List Parameter) → ask_repeats P W i qs ≡ fine → (k : ℕ) (d : Parameter) → k < length qs → (from_p P (i + k) (get_or qs k d) && named_by W (get_or qs k d)) ≡ false
none_repeated P W i [] e k d h = absurd (not-suc-le-zero h)
none_repeated P W i (q ∷ qs) e k d h = go (from_p P i q && named_by W q) refl e k h (none_repeated P W (suc i) qs)
  where
    go : (c : Bool) → (from_p P i q && named_by W q) ≡ c → cond c (refuse 16 (name (part_of spec_area q.name))) (ask_repeats P W (suc i) qs) ≡ fine → (j : ℕ) → j < suc (length qs)
        → (ask_repeats P W (suc i) qs ≡ fine → (n : ℕ) (d₁ : Parameter) → n < length qs → (from_p P (suc i + n) (get_or qs n d₁) && named_by W (get_or qs n d₁)) ≡ false)
        → (from_p P (i + j) (get_or (q ∷ qs) j d) && named_by W (get_or (q ∷ qs) j d)) ≡ false
    go true p f j l ih = fine_refuse (sym f)
    go false p f zero l ih = rw (add-zero i) p
    go false p f (suc j) l ih = subst (λ (n : ℕ). (from_p P n (get_or qs j d) && named_by W (get_or qs j d)) ≡ false) (shift i j) (ih f j d (le_of_suc-le-suc l))

-- positionals, names over them and items over these are then positionals and, past them, names
apart_slot : (P : List Value) (W : List Named) (from to k : ℕ) (q : Parameter) → from ≤ to → (ltb k to && named_by W q) ≡ false
    → over_between P from to (λ j p. over (partner p W) (held_below P from j p)) k q ≡ held_with P to W k q
apart_slot P W from to k q l e = go (ltb k to) refl (ltb k from) refl (partner q W) (partner_some q W) e
  where
    go : (t : Bool) → ltb k to ≡ t → (f : Bool) → ltb k from ≡ f → (o : Option Value) → is_given o ≡ named_by W q → (t && named_by W q) ≡ false
        → cond (leb from k && t) (some (single (get_or P k no_value))) (over o (cond f (some (single (get_or P k no_value))) none)) ≡ cond t (some (single (get_or P k no_value))) (over o none)
    go true p f r (some v) s x = absurd (true≢false (s ∙ x))
    go true p true r none s x = both (leb from k)
      where
        both : (c : Bool) → cond (c && true) (some (single (get_or P k no_value))) (some (single (get_or P k no_value))) ≡ some (single (get_or P k no_value))
        both true = refl
        both false = refl
    go true p false r none s x = rw (le-leb from k (ltb-false k from r))
    go false p true r o s x = absurd (true≢false (sym (lt-ltb k to (omega (arith, ltb-true k from r))) ∙ p))
    go false p false r o s x = none_of (leb from k)
      where
        none_of : (c : Bool) → cond (c && false) (some (single (get_or P k no_value))) (over o none) ≡ over o none
        none_of true = refl
        none_of false = refl

take_star_lem : (read : Part → List ℕ) (named : List Named) (qs : List Parameter) (x : Star) (l l' : Locals) → take_each (spec_of qs) (items_of x) l ≡ l' → some (take_star (spec_of qs) x l) ≡ ends read named (ask 15 (star_passes x)) (ok l')
unfolding error_of
take_star_lem read named qs no_star l l' e = ap (λ (m : Locals). some (ok m)) e
take_star_lem read named qs (iterable vs) l l' e = ap (λ (m : Locals). some (ok m)) e
take_star_lem read named qs not_iterable l l' e = refl

zip_all : (vs : List Value) → zip_slots vs (replicate (length vs) none) ≡ map (λ v. some (single v)) vs
zip_all [] = refl
zip_all (v ∷ vs) = ap {B = List (Option Held)} (λ r. some (single v) ∷ r) (zip_all vs)

map_taken : (stars : List Value) (named : List Named) (vs : List Value) → map (held_in stars named) (map taken vs) ≡ map (λ v. some (single v)) vs
map_taken stars named [] = refl
map_taken stars named (v ∷ vs) = ap {B = List (Option Held)} (λ r. some (single v) ∷ r) (map_taken stars named vs)

chain : (a b c e f g h : Answer) → ((((((a then b) then (c then e)) then f) then g) then h)) ≡ (a then b then c then e then f then g then h)
chain fine fine fine fine fine g h = refl
chain fine fine fine fine (refuse n x) g h = refl
chain fine fine fine (refuse n x) f g h = refl
chain fine fine (refuse n x) e f g h = refl
chain fine (refuse n x) c e f g h = refl
chain (refuse n x) b c e f g h = refl

module _ (read : Part → List ℕ) (qs : List Parameter) (d : Parameter) (c : Call) (first : positional_first qs ≡ true) (only : come_first positional_only qs ≡ true) (apart : names_apart [] qs ≡ true)
    (one_args : once (λ q. is_args q.kind) qs ≡ true) (one_kwargs : once (λ q. is_kwargs q.kind) qs ≡ true) (few : length qs ≤ usize_max)
    (differs : differ (texts_of c.named) ≡ true) (reads : all (reads_parameter read) qs ≡ true) (reads-names : all (reads_named read) (named_of c) ≡ true) where
  abbrev P : List Value
  P = c.positionals ++ items_of c.star

  abbrev W : List Named
  W = c.named

  abbrev N : List Named
  N = c.named ++ words (entries_of c.double)

  abbrev up_to : ℕ
  up_to = min (length P) (positional_count qs)

  abbrev from : ℕ
  from = min (length c.positionals) (positional_count qs)

  abbrev lowest : ℕ
  lowest = first_or usize_max (named_by W) 0 qs

  abbrev named : List Named
  named = named_remainder qs N

  -- after the positionals and the written names
  abbrev after_written : Locals
  after_written =
      record {
        slots = map_from (λ k q. over (partner q W) (held_below P from k q)) 0 qs;
        star_args = drop (positional_count qs) c.positionals;
        kwargs = lazy (named_remainder qs W);
        next_position = from;
        lowest_name = lowest;
      }

  -- after the star's items
  abbrev after_items : Locals
  after_items =
      record {
        slots = map_from (over_between P from up_to (λ k q. over (partner q W) (held_below P from k q))) 0 qs;
        star_args = drop (positional_count qs) P;
        kwargs = lazy (named_remainder qs W);
        next_position = up_to;
        lowest_name = lowest;
      }

  -- when the names M are placed
  abbrev with_names : List Named → Locals
  with_names M =
      record {
        slots = map_from (held_with P up_to M) 0 qs;
        star_args = star_remainder qs P;
        kwargs = lazy (named_remainder qs M);
        next_position = up_to;
        lowest_name = lowest;
      }

  written : name_each (spec_of qs) W (take_positionals (spec_of qs) c.positionals (start_locals (replicate (length qs) none))) ≡ after_written
  unfolding spec_of named_remainder
  written =
      ap (name_each (spec_of qs) W)
      (take_positionals_lem (spec_of qs) qs d c.positionals (items_of c.star) ∙ same_locals refl refl refl refl (sym (first_none usize_max 0 qs)))
      ∙ name_each_lem qs d usize_max (held_below P from) (drop (positional_count qs) c.positionals) from apart few [] W differs

  items : some (take_star (spec_of qs) c.star after_written) ≡ ends read named (ask 15 (star_passes c.star)) (ok after_items)
  unfolding spec_of
  items =
      take_star_lem read named qs c.star after_written after_items
      (take_items (spec_of qs) qs d c.positionals (items_of c.star) (λ k q. over (partner q W) (held_below P from k q)) (lazy (named_remainder qs W)) lowest)

  tested : some (test_repeats (spec_of qs) after_items) ≡ ends read named (ask_repeats P W 0 qs) (ok after_items)
  unfolding test_repeats spec_of
  tested =
      repeats_tested read named P W up_to usize_max d after_items [] 0 qs refl
      (λ k h. subst (λ (n : ℕ). from_p P n (get_or qs k d) ≡ ltb n up_to) (sym (zero-add k)) (from_p_at qs P first k d h))
      (omega (arith, positional_short qs (length P), few)) reads

  placed_written : ask_repeats P W 0 qs ≡ fine → after_items ≡ with_names W
  unfolding star_remainder
  placed_written e =
      same_locals
      (map_from_same₀ (over_between P from up_to (λ k q. over (partner q W) (held_below P from k q))) (held_with P up_to W) d qs
      (λ k h. apart_slot P W from up_to k (get_or qs k d) (omega (arith, length-append c.positionals (items_of c.star))) (free k h)))
      refl refl refl refl
    where
      free : (k : ℕ) → k < length qs → (ltb k up_to && named_by W (get_or qs k d)) ≡ false
      free k h =
          ap (λ (b : Bool). b && named_by W (get_or qs k d)) (sym (from_p_at qs P first k d h))
          ∙ subst (λ (n : ℕ). (from_p P n (get_or qs k d) && named_by W (get_or qs k d)) ≡ false) (zero-add k) (none_repeated P W 0 qs e k d h)

  doubled : some (take_double (spec_of qs) c.double (with_names W)) ≡ ends read named (ask 17 (double_passes c.double) then ask_entries qs P W (entries_of c.double)) (ok (with_names N))
  unfolding named_of error_of
  doubled = go c.double (all_back (reads_named read) W (words (entries_of c.double)) reads-names)
    where
      go : (x : Double) → all (reads_named read) (words (entries_of x)) ≡ true
          → some (take_double (spec_of qs) x (with_names W)) ≡ ends read named (ask 17 (double_passes x) then ask_entries qs P W (entries_of x)) (ok (with_names (W ++ words (entries_of x))))
      go no_double r = ap (λ (M : List Named). some (ok (with_names M))) (sym (append-nil W))
      go (dictionary es) r = entry_each_lem qs d P first apart (star_remainder qs P) lowest read named W es r
      go not_dictionary r = refl

  -- the slots with defaults, and then with *args
  abbrev defaulted_slot : ℕ → Parameter → Option Held
  defaulted_slot k q = with_default q.kind (held_with P up_to N k q)

  abbrev args_slot : ℕ → Parameter → Option Held
  args_slot k q = cond (is_args q.kind) (some (tuple (star_remainder qs P))) (defaulted_slot k q)

  abbrev with_slots : (ℕ → Parameter → Option Held) → Locals
  with_slots h = record { slots = map_from h 0 qs; star_args = star_remainder qs P; kwargs = lazy named; next_position = up_to; lowest_name = lowest }

  settled : some (settle (spec_of qs) (with_names N)) ≡ ends read named (ask_required qs (place qs P N)) (ok (with_slots defaulted_slot))
  unfolding place
  settled = settle_all qs d P N (length (star_remainder qs P)) (length named) read named first only reads (star_remainder qs P) lowest

  args_done : some (set_args (spec_of qs).args (with_slots defaulted_slot)) ≡ ends read named (ask_star_remainder (has_args qs) (star_remainder qs P)) (ok (with_slots args_slot))
  args_done = args_set qs d read named one_args defaulted_slot (star_remainder qs P) (lazy named) up_to lowest

  reads_rest : all (reads_named read) named ≡ true
  unfolding named_of named_remainder
  reads_rest = all_keep (reads_named read) (λ v. not (known qs v.name.bytes)) N reads-names

  abbrev result : Result (List (Option Held))
  result = ok (map (held_in (star_remainder qs P) named) (place qs P N))

  kwargs_done : some (set_kwargs (spec_of qs).kwargs (with_slots args_slot)) ≡ ends read named (ask_named_remainder (has_kwargs qs) named) result
  kwargs_done =
      kwargs_set qs d read one_kwargs args_slot (star_remainder qs P) named up_to lowest reads_rest
      ∙ ap (λ (m : List (Option Held)). ends read named (ask_named_remainder (has_kwargs qs) named) (ok m)) (slots_placed qs d P N first)

  -- the statements in their order, each with the question that it ends by
  pub slow : some (collect_slow (spec_of qs) c (replicate (length qs) none)) ≡ ends read named (binding_missing_first qs c) result
  unfolding collect_slow binding_missing_first placed_missing_first positionals_of named_of
  slow =
      rw (written)
      (ends_then read named x₄ (set_kwargs (spec_of qs).kwargs) a₄ (ask_named_remainder (has_kwargs qs) named) (with_slots args_slot) result
      (ends_then read named x₃ (set_args (spec_of qs).args) a₃ (ask_star_remainder (has_args qs) (star_remainder qs P)) (with_slots defaulted_slot) (ok (with_slots args_slot))
      (ends_then read named x₂ (settle (spec_of qs)) a₂ (ask_required qs (place qs P N)) (with_names N) (ok (with_slots defaulted_slot))
      (ends_then read named x₁ (take_double (spec_of qs) c.double) a₁ (ask 17 (double_passes c.double) then ask_entries qs P W (entries_of c.double)) after_items (ok (with_names N))
      (ends_then read named (take_star (spec_of qs) c.star after_written) (test_repeats (spec_of qs)) (ask 15 (star_passes c.star)) (ask_repeats P W 0 qs) after_items (ok after_items) items (λ f. tested))
      (λ f. ap (λ (l : Locals). some (take_double (spec_of qs) c.double l)) (placed_written (then_right (ask 15 (star_passes c.star)) (ask_repeats P W 0 qs) f)) ∙ doubled))
      (λ f. settled))
      (λ f. args_done))
      (λ f. kwargs_done)
      ∙ ap (λ (x : Answer). ends read named x result)
      (chain (ask 15 (star_passes c.star)) (ask_repeats P W 0 qs) (ask 17 (double_passes c.double)) (ask_entries qs P W (entries_of c.double)) (ask_required qs (place qs P N)) (ask_star_remainder (has_args qs) (star_remainder qs P)) (ask_named_remainder (has_kwargs qs) named)))
    where
      a₁ : Answer
      a₁ = ask 15 (star_passes c.star) then ask_repeats P W 0 qs

      a₂ : Answer
      a₂ = a₁ then (ask 17 (double_passes c.double) then ask_entries qs P W (entries_of c.double))

      a₃ : Answer
      a₃ = a₂ then ask_required qs (place qs P N)

      a₄ : Answer
      a₄ = a₃ then ask_star_remainder (has_args qs) (star_remainder qs P)

      x₁ : Result Locals
      x₁ = take_star (spec_of qs) c.star after_written total_then test_repeats (spec_of qs)

      x₂ : Result Locals
      x₂ = x₁ total_then take_double (spec_of qs) c.double

      x₃ : Result Locals
      x₃ = x₂ total_then settle (spec_of qs)

      x₄ : Result Locals
      x₄ = x₃ total_then set_args (spec_of qs).args

  -- ---- the short path

  short : is_short (spec_of qs) c ≡ true → some (ok (zip_slots c.positionals (replicate (length qs) none))) ≡ ends read named (binding_missing_first qs c) result
  unfolding is_short spec_of
  short e =
      rw (missing_first_fine qs c (binding_short qs c.positionals (sym count ∙ just) just c refl unnamed starless doubleless))
      (ap (λ (m : List (Option Held)). some (ok m))
      (ap (λ (n : ℕ). zip_slots c.positionals (replicate n none)) (sym just)
      ∙ zip_all c.positionals
      ∙ sym (map_taken (star_remainder qs P) named c.positionals)
      ∙ ap (map (held_in (star_remainder qs P) named)) (sym (ap₂ (λ (p : List Value) (m : List Named). place qs p m) all_written none_named ∙ place_short qs c.positionals (sym count ∙ just) just))))
    where
      of_five : (u v w x y : Bool) → (u && v && w && x && y) ≡ true → (u ≡ true) × (v ≡ true) × (w ≡ true) × (x ≡ true) × (y ≡ true)
      of_five true true true true true f = (refl, refl, refl, refl, refl)
      of_five true true true true false f = absurd (false≢true f)
      of_five true true true false y f = absurd (false≢true f)
      of_five true true false x y f = absurd (false≢true f)
      of_five true false w x y f = absurd (false≢true f)
      of_five false v w x y f = absurd (false≢true f)

      tests
          : (eqb (length c.positionals) (positional_count qs) ≡ true) × (eqb (length c.positionals) (length (map (λ q. q.kind) qs)) ≡ true) × (eqb (length c.named) 0 ≡ true)
          × (star_is_none c.star ≡ true) × (double_is_none c.double ≡ true)
      tests = of_five (eqb (length c.positionals) (positional_count qs)) (eqb (length c.positionals) (length (map (λ q. q.kind) qs))) (eqb (length c.named) 0) (star_is_none c.star) (double_is_none c.double) e

      count : length c.positionals ≡ positional_count qs
      count = eqb-true (length c.positionals) (positional_count qs) tests.0

      just : length c.positionals ≡ length qs
      just = eqb-true (length c.positionals) (length (map (λ q. q.kind) qs)) tests.1 ∙ length-map qs (λ q. q.kind)

      unnamed : c.named ≡ []
      unnamed = empty c.named (eqb-true (length c.named) 0 tests.2)
        where
          empty : (vs : List Named) → length vs ≡ 0 → vs ≡ []
          empty [] f = refl
          empty (v ∷ vs) f = absurd (omega arith)

      starless : c.star ≡ no_star
      starless = go c.star tests.3
        where
          go : (x : Star) → star_is_none x ≡ true → x ≡ no_star
          go no_star f = refl
          go (iterable vs) f = absurd (false≢true f)
          go not_iterable f = absurd (false≢true f)

      doubleless : c.double ≡ no_double
      doubleless = go c.double tests.4
        where
          go : (x : Double) → double_is_none x ≡ true → x ≡ no_double
          go no_double f = refl
          go (dictionary es) f = absurd (false≢true f)
          go not_dictionary f = absurd (false≢true f)

      all_written : P ≡ c.positionals
      all_written = ap (λ (x : Star). c.positionals ++ items_of x) starless ∙ append-nil c.positionals

      none_named : N ≡ []
      none_named = ap₂ (λ (vs : List Named) (x : Double). vs ++ words (entries_of x)) unnamed doubleless

  -- ---- whole

  pub inline : some (collect_inline (spec_of qs) c) ≡ ends read named (binding_missing_first qs c) result
  unfolding collect_inline
  inline = rw (kinds) (go (is_short (spec_of qs) c) refl)
    where
      go : (b : Bool) → is_short (spec_of qs) c ≡ b
          → some (cond b (ok (zip_slots c.positionals (replicate (length qs) none))) (collect_slow (spec_of qs) c (replicate (length qs) none))) ≡ ends read named (binding_missing_first qs c) result
      go true p = short p
      go false p = slow

      kinds : length (spec_of qs).param_kinds ≡ length qs
      kinds = kinds_all qs
