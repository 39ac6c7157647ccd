-- Laws of the Rust's can-fill, loop by loop: what the positionals fill, what each name does to the slots, which slots are missing at the
-- end. How often a slot is filled is 0 or 1 for what is filled so far, and one more for each name still to come that is its parameter's:
-- that count stays the same from turn to turn, until a turn returns false.
-- Assumes nothing.
use mathlib.Core.Path.{◌≡◌, refl, sym, ap, ap₂, subst, ◌∙◌}
use mathlib.Core.Bool.{Bool, true, false, cond, not, ◌&&◌, ◌||◌, false≢true, true≢false}
use mathlib.Core.List.{List, [], ◌∷◌, map}
use mathlib.Core.Option.{Option, none, some}
use Prim.Native.Nat.{ℕ, zero, suc, ◌+◌, min, ◌≤◌, ◌<◌, suc-le-suc}
use native.Mathlib.Nat.{add-zero, zero-add, le_of_suc-le-suc, not-suc-le-zero}
use native.Mathlib.Omega.{arith}
use borrow.Author.Tests.{ltb-true, ltb-false, lt-ltb, le-ltb, le-leb, lt-leb, eqb-true, eqb-false, eq-eqb}
use lib.Dec.{leb, ltb, eqb}
use lib.ListN.{length, get_or, set, length-set}
use lib.Seq.{get_or-set_same, get_or-set_other}
use Rattle.rules.specs.Listing.{all, tally, any_from}
use Rattle.rules.specs.Parameters.{Parameter, ParameterKind, is_required, kwargs_index, has_kwargs}
use Rattle.rules.specs.Parameters as kind
use Rattle.rules.specs.Lookup.{names, known}
use Rattle.rules.specs.Passed.{names_apart}
use Rattle.rules.proofs.LawsListing.{or_left, or_right, or_neither, any_from_same, any_from_none}
use Rattle.original.specs.Spec.{is_some, is_none, ParametersSpec, get, symbols_from, spec_of}
use Rattle.original.specs.Builder.{next}
use Rattle.original.specs.Slices.{store_at}
use Rattle.original.specs.CanFill.{Loop, returns_false, goes_on, unless_returned, then_names, fill_positions, fill_at, fill_name, fill_names, none_missing}
use Rattle.original.proofs.LawsSpec.{get_known, is_index, get_at, get_within, kwargs_some}
use Rattle.original.proofs.LawsSlots.{shift}
use Rattle.original.proofs.LawsInside.{read_inside, store_inside}

-- ---- the loop over positions

-- the loop has filled the first slots, up to the positional count
pub record Positioned (slots num to : ℕ) (loop : Option Loop) : Type 0 where
  pub filled : List Bool
  pub ends : loop ≡ some (goes_on filled)
  pub long : length filled ≡ slots
  pub first : (k : ℕ) → k < slots → get_or filled k false ≡ ltb k (min to num)

module _ (self : ParametersSpec) (slots : ℕ) (within : self.num_positional ≤ slots) where
  -- positionals that have a slot each, or *args to go to, are gone through to the last
  pub positions_end : (left p to : ℕ) (filled : List Bool) → p + left ≡ to → length filled ≡ slots → ((k : ℕ) → k < slots → get_or filled k false ≡ ltb k (min p self.num_positional))
      → (leb to self.num_positional || is_some self.args) ≡ true → Positioned slots self.num_positional to (fill_positions self p left filled)
  positions_end zero p to filled upto long first room =
      record { filled = filled; ends = refl; long = long; first = λ k h. first k h ∙ ap (λ n. ltb k (min n self.num_positional)) (sym (add-zero p) ∙ upto) }
  positions_end (suc left) p to filled upto long first room = go (ltb p num) refl (λ f. positions_end left (suc p) to f (omega arith))
    where
      num : ℕ
      num = self.num_positional

      one_more : p < num → (k : ℕ) → k < slots → (c : Bool) → eqb p k ≡ c → get_or (set filled p true) k false ≡ ltb k (min (suc p) num)
      one_more l k h true e =
          let same : p ≡ k = eqb-true p k e in
          ap (λ n. get_or (set filled p true) n false) (sym same) ∙ get_or-set_same filled p true false (omega arith) ∙ sym (lt-ltb k (min (suc p) num) (omega arith))
      one_more l k h false e = get_or-set_other filled p k true false (λ (s : k ≡ p). eqb-false p k e (sym s)) ∙ first k h ∙ below (ltb k (min p num)) refl
        where
          below : (b : Bool) → ltb k (min p num) ≡ b → b ≡ ltb k (min (suc p) num)
          below true t = sym (lt-ltb k (min (suc p) num) (omega (arith, ltb-true k (min p num) t)))
          below false t = sym (le-ltb k (min (suc p) num) (omega (arith, ltb-false k (min p num) t, eqb-false p k e)))

      past : num ≤ p → ((k : ℕ) → k < slots → get_or filled k false ≡ ltb k (min (suc p) num))
      past h k l = let same : min p num ≡ min (suc p) num = omega arith in first k l ∙ ap (ltb k) same

      go : (b : Bool) → ltb p num ≡ b
          → ((f : List Bool) → length f ≡ slots → ((k : ℕ) → k < slots → get_or f k false ≡ ltb k (min (suc p) num)) → (leb to num || is_some self.args) ≡ true → Positioned slots num to (fill_positions self (suc p) left f))
          → Positioned slots num to (cond b (next (store_at filled p true) (fill_positions self (suc p) left)) (cond (is_some self.args) (fill_positions self (suc p) left filled) (some returns_false)))
      go true e ih =
          subst (λ o. Positioned slots num to (next o (fill_positions self (suc p) left))) (sym (store_inside filled p true (omega (arith, ltb-true p num e))))
          (ih (set filled p true) (length-set filled p true ∙ long) (λ k h. one_more (ltb-true p num e) k h (eqb p k) refl) room)
      go false e ih = starred (is_some self.args) refl
        where
          starred : (a : Bool) → is_some self.args ≡ a → Positioned slots num to (cond a (fill_positions self (suc p) left filled) (some returns_false))
          starred true t = ih filled long (past (ltb-false p num e)) room
          starred false t = absurd (false≢true (sym (or_neither (leb to num) (is_some self.args) (lt-leb to num (omega (arith, ltb-false p num e))) t) ∙ room))

  -- others make it return
  pub positions_return : (left p to : ℕ) (filled : List Bool) → p + left ≡ to → length filled ≡ slots → p ≤ self.num_positional → (leb to self.num_positional || is_some self.args) ≡ false
      → fill_positions self p left filled ≡ some returns_false
  positions_return zero p to filled upto long few room = absurd (true≢false (sym (le-leb to self.num_positional (omega arith)) ∙ or_left (leb to self.num_positional) (is_some self.args) room))
  positions_return (suc left) p to filled upto long few room = go (ltb p self.num_positional) refl (λ f. positions_return left (suc p) to f (omega arith))
    where
      go : (b : Bool) → ltb p self.num_positional ≡ b
          → ((f : List Bool) → length f ≡ slots → suc p ≤ self.num_positional → (leb to self.num_positional || is_some self.args) ≡ false → fill_positions self (suc p) left f ≡ some returns_false)
          → cond b (next (store_at filled p true) (fill_positions self (suc p) left)) (cond (is_some self.args) (fill_positions self (suc p) left filled) (some returns_false)) ≡ some returns_false
      go true e ih =
          ap (λ o. next o (fill_positions self (suc p) left)) (store_inside filled p true (omega (arith, ltb-true p self.num_positional e)))
          ∙ ih (set filled p true) (length-set filled p true ∙ long) (ltb-true p self.num_positional e) room
      go false e ih = ap (λ a. cond a (fill_positions self (suc p) left filled) (some returns_false)) (or_right (leb to self.num_positional) (is_some self.args) room)

-- ---- the loop over slots and kinds

pub missing_any : (f : ℕ → Bool) (i : ℕ) (qs : List Parameter) (filled : List Bool) → length filled ≡ length qs → ((k : ℕ) → k < length qs → get_or filled k false ≡ f (i + k))
    → none_missing filled (map (λ q. q.kind) qs) ≡ not (any_from (λ k q. is_required q.kind && not (f k)) i qs)
missing_any f i [] [] long e = refl
missing_any f i [] (x ∷ filled) long e = refl
missing_any f i (q ∷ qs) [] long e = absurd (omega arith)
missing_any f i (q ∷ qs) (x ∷ filled) long e = go x (e 0 (omega arith) ∙ ap f (add-zero i)) q.kind (missing_any f (suc i) qs filled (omega arith) (λ k h. e (suc k) (suc-le-suc h) ∙ ap f (step i k)))
  where
    kinds : List ParameterKind
    kinds = map (λ p. p.kind) qs

    step : (a b : ℕ) → a + suc b ≡ suc a + b
    step a b = omega arith

    others : Bool
    others = any_from (λ k p. is_required p.kind && not (f k)) (suc i) qs

    go : (y : Bool) → y ≡ f i → (k : ParameterKind) → none_missing filled kinds ≡ not others → none_missing (y ∷ filled) (k ∷ kinds) ≡ not (is_required k && not (f i) || others)
    go true t k rest = rest ∙ ap (λ b. not (b || others)) (sym (ap (λ c. is_required k && not c) (sym t) ∙ never (is_required k)))
      where
        never : (b : Bool) → (b && false) ≡ false
        never true = refl
        never false = refl
    go false t kind.required rest = ap (λ c. not (not c || others)) t
    go false t kind.optional rest = rest
    go false t (kind.defaulted v) rest = rest
    go false t kind.args rest = rest
    go false t kind.kwargs rest = rest

-- ---- the loop over names

-- tests that agree at each index
any_from_at : {X : Type 0} (f g : ℕ → X → Bool) (i : ℕ) (xs : List X) (d : X) → ((k : ℕ) → k < length xs → f (i + k) (get_or xs k d) ≡ g (i + k) (get_or xs k d)) → any_from f i xs ≡ any_from g i xs
any_from_at f g i [] d e = refl
any_from_at f g i (x ∷ xs) d e =
    ap₂ (λ a b. a || b) (ap (λ n. f n x) (sym (add-zero i)) ∙ e 0 (omega arith) ∙ ap (λ n. g n x) (add-zero i))
    (any_from_at f g (suc i) xs d (λ k h. ap (λ n. f n (get_or xs k d)) (shift i k) ∙ e (suc k) (suc-le-suc h) ∙ ap (λ n. g n (get_or xs k d)) (sym (shift i k))))

any_from_hit : {X : Type 0} (f : ℕ → X → Bool) (i : ℕ) (xs : List X) (k : ℕ) (d : X) → k < length xs → f (i + k) (get_or xs k d) ≡ true → any_from f i xs ≡ true
any_from_hit f i [] k d h e = absurd (not-suc-le-zero h)
any_from_hit f i (x ∷ xs) zero d h e = ap (λ b. b || any_from f (suc i) xs) (ap (λ n. f n x) (sym (add-zero i)) ∙ e)
any_from_hit f i (x ∷ xs) (suc k) d h e = later (f i x) (any_from_hit f (suc i) xs k d (le_of_suc-le-suc h) (ap (λ n. f n (get_or xs k d)) (shift i k) ∙ e))
  where
    later : (b : Bool) → any_from f (suc i) xs ≡ true → (b || any_from f (suc i) xs) ≡ true
    later true p = refl
    later false p = p

-- can-fill's last three tests, by how often each slot is filled and whether unknown names have **kwargs to go to
abbrev pub fills_once : List Parameter → (ℕ → Parameter → ℕ) → Bool → Bool
fills_once qs count fit = not (any_from (λ k q. ltb 1 (count k q)) 0 qs) && fit && not (any_from (λ k q. is_required q.kind && eqb (count k q) 0) 0 qs)

-- how often a slot is filled, by what is filled so far and the names that are to come
abbrev pub count_of : List Bool → List (List ℕ) → ℕ → Parameter → ℕ
count_of filled written k q = cond (get_or filled k false) 1 0 + tally (λ n. names n q) written

abbrev pub fitting : List Parameter → List (List ℕ) → Bool
fitting qs written = all (known qs) written || has_kwargs qs

-- the answer after the loop over the names
abbrev pub answer_after : List Parameter → Option Loop → Option Bool
answer_after qs o = unless_returned o (λ g. some (none_missing g (map (λ q. q.kind) qs)))

module _ (qs : List Parameter) (d : Parameter) where
  pub same_counts : (f g : ℕ → Parameter → ℕ) (fit : Bool) → ((k : ℕ) → k < length qs → f k (get_or qs k d) ≡ g k (get_or qs k d)) → fills_once qs f fit ≡ fills_once qs g fit
  same_counts f g fit e =
      ap₂ (λ a b. not a && fit && not b)
      (any_from_at (λ k q. ltb 1 (f k q)) (λ k q. ltb 1 (g k q)) 0 qs d (λ k h. ap (ltb 1) (at k h)))
      (any_from_at (λ k q. is_required q.kind && eqb (f k q) 0) (λ k q. is_required q.kind && eqb (g k q) 0) 0 qs d (λ k h. ap (λ n. is_required (get_or qs k d).kind && eqb n 0) (at k h)))
    where
      at : (k : ℕ) → k < length qs → f (0 + k) (get_or qs k d) ≡ g (0 + k) (get_or qs k d)
      at k h = ap (λ n. f n (get_or qs k d)) (zero-add k) ∙ e k h ∙ ap (λ n. g n (get_or qs k d)) (sym (zero-add k))

  twice_no : (f : ℕ → Parameter → ℕ) (fit : Bool) (k : ℕ) → k < length qs → 1 < f k (get_or qs k d) → fills_once qs f fit ≡ false
  twice_no f fit k h twice = ap (λ a. not a && fit && not (any_from (λ i q. is_required q.kind && eqb (f i q) 0) 0 qs)) (any_from_hit (λ i q. ltb 1 (f i q)) 0 qs k d h (ap (λ n. ltb 1 (f n (get_or qs k d))) (zero-add k) ∙ lt-ltb 1 (f k (get_or qs k d)) twice))

  unfit_no : (f : ℕ → Parameter → ℕ) → fills_once qs f false ≡ false
  unfit_no f = go (any_from (λ k q. ltb 1 (f k q)) 0 qs)
    where
      go : (b : Bool) → (not b && false && not (any_from (λ k q. is_required q.kind && eqb (f k q) 0) 0 qs)) ≡ false
      go true = refl
      go false = refl

  module _ (apart : names_apart [] qs ≡ true) (b : List ℕ) (bs : List (List ℕ)) (filled : List Bool) (long : length filled ≡ length qs) where
    -- what is to be shown after this name
    abbrev Later : Type 0
    Later = (f : List Bool) → length f ≡ length qs → answer_after qs (fill_names (spec_of qs) bs f) ≡ some (fills_once qs (count_of f bs) (fitting qs bs))

    -- a name of a parameter: its slot is filled already, and so twice with it, or is filled now
    turn_found : (i : ℕ) → get (symbols_from 0 qs) b ≡ some i → Later
        → answer_after qs (then_names (fill_name (spec_of qs) (some i) filled) (fill_names (spec_of qs) bs)) ≡ some (fills_once qs (count_of filled (b ∷ bs)) (fitting qs (b ∷ bs)))
    turn_found i e later =
        ap (λ o. answer_after qs (then_names (next o (λ already. fill_at i already filled)) (fill_names (spec_of qs) bs))) (read_inside filled i false (omega (arith, within)))
        ∙ go (get_or filled i false) refl
      where
        within : i < length qs
        within = get_within qs b i e

        named : (k : ℕ) → k < length qs → names b (get_or qs k d) ≡ eqb i k
        named k h = get_at qs b apart k d h ∙ ap (is_index k) e

        to_come : ℕ → ℕ
        to_come k = tally (λ n. names n (get_or qs k d)) bs

        -- the counts stay as they are when the slot is filled
        moved : get_or filled i false ≡ false → (k : ℕ) → k < length qs → count_of (set filled i true) bs k (get_or qs k d) ≡ count_of filled (b ∷ bs) k (get_or qs k d)
        moved free k h = at (eqb i k) refl ∙ ap (λ c. cond (get_or filled k false) 1 0 + cond c (suc (to_come k)) (to_come k)) (sym (named k h))
          where
            at : (c : Bool) → eqb i k ≡ c → cond (get_or (set filled i true) k false) 1 0 + to_come k ≡ cond (get_or filled k false) 1 0 + cond c (suc (to_come k)) (to_come k)
            at true t =
                let same : i ≡ k = eqb-true i k t in
                ap₂ (λ x y. cond x 1 0 + y) (ap (λ n. get_or (set filled i true) n false) (sym same) ∙ get_or-set_same filled i true false (omega (arith, within))) refl
                ∙ one (to_come k)
                ∙ ap (λ x. cond x 1 0 + suc (to_come k)) (sym (ap (λ n. get_or filled n false) (sym same) ∙ free))
              where
                one : (n : ℕ) → 1 + n ≡ 0 + suc n
                one n = omega arith
            at false t = ap (λ x. cond x 1 0 + to_come k) (get_or-set_other filled i k true false (λ (s : k ≡ i). eqb-false i k t (sym s)))

        twice : get_or filled i false ≡ true → 1 < count_of filled (b ∷ bs) i (get_or qs i d)
        twice t =
            let counted : count_of filled (b ∷ bs) i (get_or qs i d) ≡ 1 + suc (to_come i) = ap₂ (λ x y. cond x 1 0 + cond y (suc (to_come i)) (to_come i)) t (named i within ∙ eq-eqb i i refl) in
            omega arith

        fits : fitting qs bs ≡ fitting qs (b ∷ bs)
        fits = ap (λ c. c && all (known qs) bs || has_kwargs qs) (sym (sym (get_known qs b) ∙ ap is_some e))

        go : (c : Bool) → get_or filled i false ≡ c
            → answer_after qs (then_names (fill_at i c filled) (fill_names (spec_of qs) bs)) ≡ some (fills_once qs (count_of filled (b ∷ bs)) (fitting qs (b ∷ bs)))
        go true t = ap some (sym (twice_no (count_of filled (b ∷ bs)) (fitting qs (b ∷ bs)) i within (twice t)))
        go false t =
            ap (λ o. answer_after qs (then_names (next o (λ after. some (goes_on after))) (fill_names (spec_of qs) bs))) (store_inside filled i true (omega (arith, within)))
            ∙ later (set filled i true) (length-set filled i true ∙ long)
            ∙ ap some (same_counts (count_of (set filled i true) bs) (count_of filled (b ∷ bs)) (fitting qs bs) (moved t) ∙ ap (fills_once qs (count_of filled (b ∷ bs))) fits)

    -- a name of none: it changes no slot, and without **kwargs the answer is no
    turn_unknown : get (symbols_from 0 qs) b ≡ none → Later
        → answer_after qs (then_names (fill_name (spec_of qs) none filled) (fill_names (spec_of qs) bs)) ≡ some (fills_once qs (count_of filled (b ∷ bs)) (fitting qs (b ∷ bs)))
    unfolding spec_of
    turn_unknown e later = go (kwargs_index qs) refl
      where
        unnamed : (k : ℕ) → k < length qs → count_of filled bs k (get_or qs k d) ≡ count_of filled (b ∷ bs) k (get_or qs k d)
        unnamed k h =
            ap (λ c. cond (get_or filled k false) 1 0 + cond c (suc (tally (λ n. names n (get_or qs k d)) bs)) (tally (λ n. names n (get_or qs k d)) bs))
            (sym (get_at qs b apart k d h ∙ ap (is_index k) e))

        fit : (o : Option ℕ) → kwargs_index qs ≡ o → fitting qs (b ∷ bs) ≡ is_some o
        fit o t = ap₂ (λ x y. x && all (known qs) bs || y) (sym (get_known qs b) ∙ ap is_some e) (sym (kwargs_some qs) ∙ ap is_some t)

        lets : (o : Option ℕ) → kwargs_index qs ≡ o → is_some o ≡ true → fitting qs bs ≡ true
        lets o t s = ap (λ y. all (known qs) bs || y) (sym (kwargs_some qs) ∙ ap is_some t ∙ s) ∙ or-true (all (known qs) bs)
          where
            or-true : (c : Bool) → (c || true) ≡ true
            or-true true = refl
            or-true false = refl

        go : (o : Option ℕ) → kwargs_index qs ≡ o
            → answer_after qs (then_names (cond (is_none o) (some returns_false) (some (goes_on filled))) (fill_names (spec_of qs) bs)) ≡ some (fills_once qs (count_of filled (b ∷ bs)) (fitting qs (b ∷ bs)))
        go none t = ap some (sym (ap (fills_once qs (count_of filled (b ∷ bs))) (fit none t) ∙ unfit_no (count_of filled (b ∷ bs))))
        go (some k) t =
            later filled long
            ∙ ap some (same_counts (count_of filled bs) (count_of filled (b ∷ bs)) (fitting qs bs) unnamed ∙ ap (fills_once qs (count_of filled (b ∷ bs))) (lets (some k) t refl ∙ sym (fit (some k) t)))

  -- the loop over the names and the one after it answer by the counts of what is filled before them
  pub names_end : names_apart [] qs ≡ true → (written : List (List ℕ)) (filled : List Bool) → length filled ≡ length qs
      → answer_after qs (fill_names (spec_of qs) written filled) ≡ some (fills_once qs (count_of filled written) (fitting qs written))
  unfolding spec_of
  names_end apart [] filled long =
      ap some
      (missing_any (λ k. get_or filled k false) 0 qs filled long (λ k h. ap (λ n. get_or filled n false) (sym (zero-add k)))
      ∙ ap₂ (λ a b. not a && true && not b) (sym none_twice) (sym none_counted))
    where
      none_twice : any_from (λ k q. ltb 1 (cond (get_or filled k false) 1 0 + 0)) 0 qs ≡ false
      none_twice = any_from_none (λ k q. ltb 1 (cond (get_or filled k false) 1 0 + 0)) (λ k q. go (get_or filled k false)) 0 qs
        where
          go : (c : Bool) → ltb 1 (cond c 1 0 + 0) ≡ false
          go true = refl
          go false = refl

      none_counted : any_from (λ k q. is_required q.kind && eqb (cond (get_or filled k false) 1 0 + 0) 0) 0 qs ≡ any_from (λ k q. is_required q.kind && not (get_or filled k false)) 0 qs
      none_counted = any_from_same (λ k q. is_required q.kind && eqb (cond (get_or filled k false) 1 0 + 0) 0) (λ k q. is_required q.kind && not (get_or filled k false)) (λ k q. ap (λ c. is_required q.kind && c) (go (get_or filled k false))) 0 qs
        where
          go : (c : Bool) → eqb (cond c 1 0 + 0) 0 ≡ not c
          go true = refl
          go false = refl
  names_end apart (b ∷ bs) filled long = go (get (symbols_from 0 qs) b) refl (names_end apart bs)
    where
      go : (o : Option ℕ) → get (symbols_from 0 qs) b ≡ o
          → ((f : List Bool) → length f ≡ length qs → answer_after qs (fill_names (spec_of qs) bs f) ≡ some (fills_once qs (count_of f bs) (fitting qs bs)))
          → answer_after qs (then_names (fill_name (spec_of qs) o filled) (fill_names (spec_of qs) bs)) ≡ some (fills_once qs (count_of filled (b ∷ bs)) (fitting qs (b ∷ bs)))
      go (some i) e later = turn_found apart b bs filled long i e later
      go none e later = turn_unknown apart b bs filled long e later
