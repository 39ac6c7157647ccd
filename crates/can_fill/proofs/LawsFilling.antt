-- Laws of can-fill by index: how often a slot is filled, names that fill slots one by one, the first that cannot, and what is left empty.
-- In this order: tests over a list; a slot's fillings; the names so far, with one more, stopped, and at their end; required slots; and the
-- indices of *args and **kwargs. `next` is how many slots are filled by position.
-- Assumes nothing.
use mathlib.Core.Path.{◌≡◌, refl, sym, ap, ap₂, subst, ◌∙◌}
use mathlib.Core.Bool.{Bool, true, false, cond, not, ◌&&◌, ◌||◌, true≢false}
use mathlib.Core.List.{List, [], ◌∷◌, ◌++◌}
use Prim.Native.Nat.{ℕ, zero, suc, ◌+◌, ◌-◌, min, ◌≤◌, ◌<◌, suc-le-suc}
use native.Mathlib.Nat.{add-zero, zero-add, le_of_suc-le-suc, not-suc-le-zero}
use native.Mathlib.Omega.{arith}
use borrow.Author.Tests.{ltb-false, lt-ltb, le-ltb, eq-eqb, ne_eqb, eqb-true, eqb-false, not-true}
use lib.Dec.{ltb, eqb}
use lib.ListN.{length, get_or, set, length-set}
use lib.Seq.{get_or-set_same, get_or-set_other}
use Rattle.std.specs.Prelude.{Option, Some, None}
use Rattle.std.specs.Prelude as std
use Rattle.rules.specs.Listing.{all, tally, first_index, any_from}
use Rattle.rules.specs.Value.{no_value}
use Rattle.rules.specs.Parameters.{Parameter, positional, positional_count, is_required, has_args, has_kwargs, args_index, kwargs_index}
use Rattle.rules.specs.Lookup.{names, known, find, at, unknown}
use Rattle.rules.specs.Passed.{positional_first, names_apart}
use Rattle.rules.specs.Placement.{from_p}
use Rattle.rules.specs.CanFill.{fillings, filled_twice, left_empty}
use Rattle.rules.proofs.LawsListing.{and_left, and_right, and_no_left, and_no_right, or_neither, tally_append}
use Rattle.rules.proofs.LawsIndex.{first_index_from}
use Rattle.rules.proofs.LawsFound.{from_p_at}
use Rattle.cells.specs.Listed.{listed}
use Rattle.builder.specs.Spec.{index_of}
use Rattle.builder.specs.Params.{parameter_of, parameter_at, parameters_in}
use Rattle.builder.specs.declared.params.Parameters.{Parameters}
use Rattle.cells.proofs.LawsListed.{length_listed, tally_snoc, get_d_listed}
use Rattle.lookup.specs.Lookup.{finding_of}
use Rattle.findings.specs.Found.{first_missing}
use Rattle.can_fill.specs.CanFill.{free_for, named_after}
use Rattle.findings.proofs.LawsAsked.{is_some, any_first}
use Rattle.findings.proofs.LawsNames.{any_parameter}
use Rattle.findings.proofs.LawsKinds.{required_code, args_found, kwargs_found}
use Rattle.findings.proofs.LawsResolved.{named_at_lem, known_at, find_within}

-- ---- tests over a list

suc_step : (a b : ℕ) → suc a + b ≡ a + suc b
suc_step a b = omega arith

pub or-true : (b : Bool) → (b || true) ≡ true
or-true true = refl
or-true false = refl

any_from_hit : {X : Type 0} (f : ℕ → X → Bool) (i : ℕ) (xs : List X) (k : ℕ) (d : X) → k < length xs → f (i + k) (get_or xs k d) ≡ true → any_from f i xs ≡ true
any_from_hit f i [] k d h e = absurd (not-suc-le-zero h)
any_from_hit f i (x ∷ xs) zero d h e = ap (λ b. b || any_from f (suc i) xs) (ap (λ n. f n x) (sym (add-zero i)) ∙ e)
any_from_hit f i (x ∷ xs) (suc k) d h e = later (f i x) (any_from_hit f (suc i) xs k d (le_of_suc-le-suc h) (ap (λ n. f n (get_or xs k d)) (suc_step i k) ∙ e))
  where
    later : (b : Bool) → any_from f (suc i) xs ≡ true → (b || any_from f (suc i) xs) ≡ true
    later true p = refl
    later false p = p

any_from_miss : {X : Type 0} (f : ℕ → X → Bool) (i : ℕ) (xs : List X) (d : X) → ((k : ℕ) → k < length xs → f (i + k) (get_or xs k d) ≡ false) → any_from f i xs ≡ false
any_from_miss f i [] d e = refl
any_from_miss f i (x ∷ xs) d e =
    or_neither (f i x) (any_from f (suc i) xs) (ap (λ n. f n x) (sym (add-zero i)) ∙ e 0 (omega arith))
    (any_from_miss f (suc i) xs d (λ k h. ap (λ n. f n (get_or xs k d)) (suc_step i k) ∙ e (suc k) (suc-le-suc h)))

all_after : {X : Type 0} (f : X → Bool) (xs ys : List X) → all f (xs ++ ys) ≡ (all f xs && all f ys)
all_after f [] ys = refl
all_after f (x ∷ xs) ys = go (f x) (all_after f xs ys)
  where
    go : (b : Bool) → all f (xs ++ ys) ≡ (all f xs && all f ys) → (b && all f (xs ++ ys)) ≡ (b && all f xs && all f ys)
    go true e = e
    go false e = refl

-- ---- how often a slot is filled

module _ (qs : List Parameter) (p next : ℕ) (first : positional_first qs ≡ true) (upto : next ≡ min p (positional_count qs)) where
  fillings_at : (M : List (List ℕ)) (k : ℕ) (d : Parameter) → k < length qs → fillings p M k (get_or qs k d) ≡ cond (ltb k next) 1 0 + tally (λ n. names n (get_or qs k d)) M
  unfolding fillings from_p
  fillings_at M k d h =
      ap (λ b. cond b 1 0 + tally (λ n. names n (get_or qs k d)) M)
      (subst (λ n. (positional (get_or qs k d) && ltb k n) ≡ ltb k (min n (positional_count qs))) (length_listed (λ i. no_value) 0 p) (from_p_at qs (listed (λ i. no_value) 0 p) first k d h)
      ∙ ap (ltb k) (sym upto))

-- ---- the names so far

-- each is counted at its slot, no slot is filled twice, and those that are not found have **kwargs to go to
pub record Counted (qs : List Parameter) (next : ℕ) (M : List (List ℕ)) (named : List ℕ) : Type 0 where
  pub counts : (k : ℕ) (d : Parameter) → k < length qs → tally (λ n. names n (get_or qs k d)) M ≡ get_or named k 0
  pub once : (k : ℕ) → k < length qs → cond (ltb k next) 1 0 + get_or named k 0 ≤ 1
  pub fit : (all (known qs) M || has_kwargs qs) ≡ true
  pub slots : length named ≡ 64

pub counted_none : (qs : List Parameter) (next : ℕ) (named : List ℕ) → length qs ≤ 64 → length named ≡ 64 → ((k : ℕ) → k < 64 → get_or named k 0 ≡ 0) → Counted qs next [] named
counted_none qs next named few slots zeros =
    record {
      counts = λ k d h. sym (zeros k (omega arith));
      once = λ k h. omega (arith, zeros k (omega arith), one (ltb k next));
      fit = refl;
      slots = slots;
    }
  where
    one : (b : Bool) → cond b 1 0 ≤ 1
    one true = omega arith
    one false = omega arith

module _ (qs : List Parameter) (next : ℕ) (apart : names_apart [] qs ≡ true) (few : length qs ≤ 64) (M : List (List ℕ)) (named : List ℕ) (so_far : Counted qs next M named) (b : List ℕ) where
  -- a name that can fill what is found for it is one more
  pub counted_more : (f : Option ℕ) → finding_of f ≡ find qs b → free_for f (has_kwargs qs) next named ≡ true → Counted qs next (M ++ (b ∷ [])) (named_after f named)
  counted_more (Some i) e free =
      record {
        counts = λ k d h. tally_snoc (λ n. names n (get_or qs k d)) M b ∙ ap₂ (λ c n. cond c (n + 1) n) (named_at_lem qs [] [] apart b (at i) (sym e) k d h) (so_far.counts k d h) ∙ slot k (eqb i k) refl;
        once = λ k h. open_slot k h (eqb i k) refl;
        fit = ap (λ c. c || has_kwargs qs) (all_after (known qs) M (b ∷ []) ∙ ap (λ c. all (known qs) M && (c && true)) (known_at qs [] [] b (at i) (sym e)) ∙ and-true (all (known qs) M)) ∙ so_far.fit;
        slots = simp length-set so_far.slots;
      }
    where
      within : i < length named
      within = omega (arith, so_far.slots, find_within qs b i (sym e))

      not_named : eqb (get_or named i 0) 1 ≡ false
      not_named = not-true (eqb (get_or named i 0) 1) (and_right (not (ltb i next)) (not (eqb (get_or named i 0) 1)) free)

      past : next ≤ i
      past = ltb-false i next (not-true (ltb i next) (and_left (not (ltb i next)) (not (eqb (get_or named i 0) 1)) free))

      empty : get_or named i 0 ≡ 0
      empty = omega (arith, so_far.once i (find_within qs b i (sym e)), eqb-false (get_or named i 0) 1 not_named)

      and-true : (c : Bool) → (c && (true && true)) ≡ c
      and-true true = refl
      and-true false = refl

      slot : (k : ℕ) (c : Bool) → eqb i k ≡ c → cond c (get_or named k 0 + 1) (get_or named k 0) ≡ get_or (set named i 1) k 0
      slot k true same =
          ap (λ n. get_or named n 0 + 1) (sym (eqb-true i k same)) ∙ ap (λ n. n + 1) empty ∙ sym (ap (λ n. get_or (set named i 1) n 0) (sym (eqb-true i k same)) ∙ get_or-set_same named i 1 0 within)
      slot k false other = sym (get_or-set_other named i k 1 0 (λ (s : k ≡ i). eqb-false i k other (sym s)))

      open_slot : (k : ℕ) → k < length qs → (c : Bool) → eqb i k ≡ c → cond (ltb k next) 1 0 + get_or (set named i 1) k 0 ≤ 1
      open_slot k h true same =
          let here : i ≡ k = eqb-true i k same in
          let none_by_position : ltb k next ≡ false = le-ltb k next (omega (arith, past)) in
          rw none_by_position (omega (arith, slot k true same, ap (λ n. get_or named n 0) here, empty))
      open_slot k h false other = rw (sym (slot k false other)) (so_far.once k h)
  counted_more None e free =
      record {
        counts = λ k d h. tally_snoc (λ n. names n (get_or qs k d)) M b ∙ ap (λ c. cond c (tally (λ n. names n (get_or qs k d)) M + 1) (tally (λ n. names n (get_or qs k d)) M)) (named_at_lem qs [] [] apart b unknown (sym e) k d h) ∙ so_far.counts k d h;
        once = so_far.once;
        fit = rw free (or-true (all (known qs) (M ++ (b ∷ []))));
        slots = so_far.slots;
      }

  -- a name that cannot is why the whole call cannot
  pub counted_stop : (p : ℕ) → positional_first qs ≡ true → next ≡ min p (positional_count qs) → (f : Option ℕ) → finding_of f ≡ find qs b → free_for f (has_kwargs qs) next named ≡ false → (rest : List (List ℕ))
      → (not (filled_twice qs p (M ++ (b ∷ rest))) && (all (known qs) (M ++ (b ∷ rest)) || has_kwargs qs)) ≡ false
  unfolding filled_twice
  counted_stop p first upto (Some i) e taken rest =
      and_no_left (not (any_from (λ k q. ltb 1 (fillings p (M ++ (b ∷ rest)) k q)) 0 qs)) (all (known qs) (M ++ (b ∷ rest)) || has_kwargs qs)
      (ap not (any_from_hit (λ k q. ltb 1 (fillings p (M ++ (b ∷ rest)) k q)) 0 qs i any_parameter within (ap (λ n. ltb 1 (fillings p (M ++ (b ∷ rest)) n (get_or qs i any_parameter))) (zero-add i) ∙ lt-ltb 1 (fillings p (M ++ (b ∷ rest)) i (get_or qs i any_parameter)) twice)))
    where
      within : i < length qs
      within = find_within qs b i (sym e)

      is_named : names b (get_or qs i any_parameter) ≡ true
      is_named = named_at_lem qs [] [] apart b (at i) (sym e) i any_parameter within ∙ eq-eqb i i refl

      more : get_or named i 0 + 1 ≤ tally (λ n. names n (get_or qs i any_parameter)) (M ++ (b ∷ rest))
      more =
          let one : tally (λ n. names n (get_or qs i any_parameter)) (b ∷ rest) ≡ suc (tally (λ n. names n (get_or qs i any_parameter)) rest) =
          ap (λ c. cond c (suc (tally (λ n. names n (get_or qs i any_parameter)) rest)) (tally (λ n. names n (get_or qs i any_parameter)) rest)) is_named in
          omega (arith, tally_append (λ n. names n (get_or qs i any_parameter)) M (b ∷ rest), one, so_far.counts i any_parameter within)

      filled : (c e₁ : Bool) → ltb i next ≡ c → eqb (get_or named i 0) 1 ≡ e₁ → (not c && not e₁) ≡ false → 1 ≤ cond c 1 0 + get_or named i 0
      filled true x u v w = omega arith
      filled false true u v w = omega (arith, eqb-true (get_or named i 0) 1 v)
      filled false false u v w = absurd (true≢false w)

      twice : 1 < fillings p (M ++ (b ∷ rest)) i (get_or qs i any_parameter)
      twice = rw (fillings_at qs p next first upto (M ++ (b ∷ rest)) i any_parameter within) (omega (arith, more, filled (ltb i next) (eqb (get_or named i 0) 1) refl refl taken))
  counted_stop p first upto None e taken rest =
      and_no_right (not (any_from (λ k q. ltb 1 (fillings p (M ++ (b ∷ rest)) k q)) 0 qs)) (all (known qs) (M ++ (b ∷ rest)) || has_kwargs qs)
      (or_neither (all (known qs) (M ++ (b ∷ rest))) (has_kwargs qs)
      (all_after (known qs) M (b ∷ rest) ∙ ap (λ c. all (known qs) M && (c && all (known qs) rest)) (known_at qs [] [] b unknown (sym e)) ∙ and_no_right (all (known qs) M) false refl)
      taken)

module _ (qs : List Parameter) (p next : ℕ) (first : positional_first qs ≡ true) (upto : next ≡ min p (positional_count qs)) (M : List (List ℕ)) (named : List ℕ) where
  -- all the names are counted: none is against them
  pub counted_end : Counted qs next M named → (not (filled_twice qs p M) && (all (known qs) M || has_kwargs qs)) ≡ true
  unfolding filled_twice
  counted_end all_of =
      ap₂ (λ x y. not x && y)
      (any_from_miss (λ k q. ltb 1 (fillings p M k q)) 0 qs any_parameter (λ k h. ap (λ n. ltb 1 (fillings p M n (get_or qs k any_parameter))) (zero-add k) ∙ le-ltb 1 (fillings p M k (get_or qs k any_parameter)) (at_most k h)))
      all_of.fit
    where
      at_most : (k : ℕ) → k < length qs → fillings p M k (get_or qs k any_parameter) ≤ 1
      at_most k h = rw (fillings_at qs p next first upto M k any_parameter h) (rw (all_of.counts k any_parameter h) (all_of.once k h))

  -- what is left empty is what a search over the codes from `next` on finds
  pub left_first : (codes : List ℕ) → ((k : ℕ) → k < length qs → is_required (get_or qs k any_parameter).kind ≡ eqb (get_or codes k 0) 1)
      → ((k : ℕ) (d : Parameter) → k < length qs → tally (λ n. names n (get_or qs k d)) M ≡ get_or named k 0)
      → left_empty qs p M ≡ is_some (first_missing codes named next (length qs - next))
  unfolding left_empty first_missing
  left_first codes coded counts =
      any_first (λ k. any_parameter) (λ i. not (ltb i next) && (eqb (get_or codes i 0) 1 && eqb (get_or named i 0) 0)) (λ i q. is_required q.kind && eqb (fillings p M i q) 0) 0 qs any_parameter
      (λ k h. ap (λ i. is_required (get_or qs k any_parameter).kind && eqb (fillings p M i (get_or qs k any_parameter)) 0) (zero-add k) ∙ here k h ∙ ap (λ i. not (ltb i next) && (eqb (get_or codes i 0) 1 && eqb (get_or named i 0) 0)) (sym (zero-add k)))
      ∙ ap is_some (first_index_from (λ i. eqb (get_or codes i 0) 1 && eqb (get_or named i 0) 0) next 0 (length qs) (omega arith) ∙ ap (λ n. first_index (λ i. eqb (get_or codes i 0) 1 && eqb (get_or named i 0) 0) next (n - next)) (zero-add (length qs)))
    where
      split : (r b : Bool) (n : ℕ) → (r && eqb (cond b 1 0 + n) 0) ≡ (not b && (r && eqb n 0))
      split true true n = ne_eqb (1 + n) 0 (λ e. absurd (omega arith))
      split true false n = ap (λ m. eqb m 0) (zero-add n)
      split false true n = refl
      split false false n = refl

      here : (k : ℕ) → k < length qs → (is_required (get_or qs k any_parameter).kind && eqb (fillings p M k (get_or qs k any_parameter)) 0) ≡ (not (ltb k next) && (eqb (get_or codes k 0) 1 && eqb (get_or named k 0) 0))
      here k h =
          ap₂ (λ r n. r && eqb n 0) (coded k h) (fillings_at qs p next first upto M k any_parameter h ∙ ap (λ n. cond (ltb k next) 1 0 + n) (counts k any_parameter h))
          ∙ split (eqb (get_or codes k 0) 1) (ltb k next) (get_or named k 0)

-- ---- the code of a required parameter

pub required_at : (area : List ℕ) (ps : Parameters) (k : ℕ) (d : Parameter) → k < ps.len → is_required (get_or (parameters_in area ps) k d).kind ≡ eqb (get_or ps.codes k 0) 1
unfolding parameters_in parameter_at parameter_of
required_at area ps k d h =
    ap (λ q. is_required q.kind) (get_d_listed (parameter_at area ps) 0 ps.len k d h ∙ ap (parameter_at area ps) (zero-add k))
    ∙ required_code (get_or ps.codes k 0) (record { kind = get_or ps.default_kinds k 0; payload = get_or ps.default_payloads k 0 })

-- ---- the indices of *args and **kwargs

pub there_is : (i : Option ℕ) → std.is_some i ≡ is_some (index_of i)
there_is (Some i) = refl
there_is None = refl

pub args_there : (i : Option ℕ) (qs : List Parameter) → index_of i ≡ args_index qs → std.is_some i ≡ has_args qs
args_there i qs e = there_is i ∙ ap is_some e ∙ sym (args_found qs)

pub kwargs_there : (i : Option ℕ) (qs : List Parameter) → index_of i ≡ kwargs_index qs → std.is_some i ≡ has_kwargs qs
kwargs_there i qs e = there_is i ∙ ap is_some e ∙ sym (kwargs_found qs)
