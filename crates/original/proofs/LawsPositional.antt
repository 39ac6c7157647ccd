-- Laws of the loops over positionals: what the slots, `star_args` and `next_position` are after the written positionals (spec.rs 691-706)
-- and after the star's items (734-744). P is all of them, the written ones first.
-- Assumes nothing.
use mathlib.Core.Path.{◌≡◌, refl, sym, ap, ◌∙◌}
use mathlib.Core.Bool.{Bool, true, false, cond, ◌&&◌}
use mathlib.Core.List.{List, [], ◌∷◌, ◌++◌, append-nil}
use mathlib.Core.Option.{Option, none, some}
use Prim.Native.Nat.{ℕ, suc, ◌+◌, min, ◌≤◌, ◌<◌}
use native.Mathlib.Omega.{arith}
use borrow.Author.Tests.{ltb-true, ltb-false, leb-true, eqb-true, eqb-false, lt-ltb, le-ltb, le-leb, lt-leb}
use lib.Dec.{eqb, ltb, leb, leb-zero}
use lib.ListN.{length, drop, get_or, set, replicate, drop_of_length-le, length-append, get_or-append}
use lib.Seq.{drop-cons, get_or_at, drop-append-le, append_snoc, drop-nil}
use Rattle.rules.specs.Listing.{map_from}
use Rattle.rules.specs.Value.{Value, no_value}
use Rattle.rules.specs.CallRecord.{Named}
use Rattle.rules.specs.Parameters.{Parameter}
use Rattle.original.specs.Spec.{ParametersSpec}
use Rattle.original.specs.Locals.{Held, single, Locals, usize_max}
use Rattle.original.specs.Arguments.{zip_slots}
use Rattle.original.specs.Collect.{start_locals}
use Rattle.original.proofs.TotalCollect.{take_one, take_each, take_positionals}
use Rattle.original.proofs.LawsSlots.{map_from_same₀, set_map_from₀, replicate_map_from}

pub same_locals : {s s' : List (Option Held)} {t t' : List Value} {k k' : Option (List Named)} {n n' l l' : ℕ} → s ≡ s' → t ≡ t' → k ≡ k' → n ≡ n' → l ≡ l'
    → ◌≡◌ {A = Locals} (record { slots = s; star_args = t; kwargs = k; next_position = n; lowest_name = l }) (record { slots = s'; star_args = t'; kwargs = k'; next_position = n'; lowest_name = l' })
same_locals a b c d e = rw (a, b, c, d, e)

-- ---- one value after another

module _ (spec : ParametersSpec) (qs : List Parameter) (d : Parameter) (P : List Value) (from : ℕ) (h : ℕ → Parameter → Option Held) (kw : Option (List Named)) (low : ℕ) where
  -- slots that hold P from `from` up to n, over what was there
  abbrev pub filled : ℕ → ℕ → Parameter → Option Held
  filled n k q = cond (leb from k && ltb k n) (some (single (get_or P k no_value))) (h k q)

  -- the locals after the values `done`
  abbrev pub after_taking : List Value → Locals
  after_taking done =
      record {
        slots = map_from (filled (min (length done) spec.num_positional)) 0 qs;
        star_args = drop spec.num_positional done;
        kwargs = kw;
        next_position = min (length done) spec.num_positional;
        lowest_name = low;
      }

  filled_suc : (n n' : ℕ) (v : Value) → n' ≡ suc n → from ≤ n → get_or P n no_value ≡ v → (k : ℕ) (q : Parameter) → cond (eqb k n) (some (single v)) (filled n k q) ≡ filled n' k q
  filled_suc n n' v e l g k q = go (eqb k n) refl (ltb k n) refl
    where
      go : (c : Bool) → eqb k n ≡ c → (t : Bool) → ltb k n ≡ t → cond c (some (single v)) (cond (leb from k && t) (some (single (get_or P k no_value))) (h k q)) ≡ filled n' k q
      go true p t r =
          let same : k ≡ n = eqb-true k n p in
          rw (le-leb from k (omega arith), lt-ltb k n' (omega arith)) (ap (λ (x : Value). some (single x)) (sym g ∙ ap (λ (m : ℕ). get_or P m no_value) (sym same)))
      go false p true r = rw (lt-ltb k n' (omega (arith, ltb-true k n r)))
      go false p false r =
          let other : k ≡ n → ⊥ = eqb-false k n p in
          rw (le-ltb k n' (past other (ltb-false k n r)))
        where
          past : (k ≡ n → ⊥) → n ≤ k → n' ≤ k
          past o m = omega arith

  take_one_lem : (done : List Value) (v : Value) (more : List Value) → P ≡ done ++ v ∷ more → from ≤ min (length done) spec.num_positional
      → take_one spec v (after_taking done) ≡ after_taking (done ++ (v ∷ []))
  unfolding take_one
  take_one_lem done v more e l = go (ltb (min (length done) num) num) refl
    where
      num : ℕ
      num = spec.num_positional

      one_more : length (done ++ (v ∷ [])) ≡ length done + 1
      one_more = length-append done (v ∷ [])

      go : (b : Bool) → ltb (min (length done) spec.num_positional) spec.num_positional ≡ b
          → cond b
          (record {
            slots = set (map_from (filled (min (length done) spec.num_positional)) 0 qs) (min (length done) spec.num_positional) (some (single v));
            star_args = drop spec.num_positional done;
            kwargs = kw;
            next_position = suc (min (length done) spec.num_positional);
            lowest_name = low;
          })
          (record {
            slots = map_from (filled (min (length done) spec.num_positional)) 0 qs;
            star_args = drop spec.num_positional done ++ (v ∷ []);
            kwargs = kw;
            next_position = min (length done) spec.num_positional;
            lowest_name = low;
          })
          ≡ after_taking (done ++ (v ∷ []))
      go true p =
          let below : min (length done) num < num = ltb-true (min (length done) num) num p in
          let next : min (length (done ++ (v ∷ []))) num ≡ suc (min (length done) num) = omega (arith, one_more, below) in
          same_locals
          (set_map_from₀ (filled (min (length done) num)) qs (min (length done) num) (some (single v))
          ∙ map_from_same₀ (λ k q. cond (eqb k (min (length done) num)) (some (single v)) (filled (min (length done) num) k q)) (filled (min (length (done ++ (v ∷ []))) num)) d qs
          (λ k r. filled_suc (min (length done) num) (min (length (done ++ (v ∷ []))) num) v next l (ap (λ (x : List Value). get_or x (min (length done) num) no_value) e ∙ get_or_at done v more no_value (min (length done) num) (omega (arith, below))) k (get_or qs k d)))
          (drop_of_length-le done {i = num} (omega (arith, below)) ∙ sym (drop_of_length-le (done ++ (v ∷ [])) {i = num} (omega (arith, one_more, below))))
          refl
          (sym next)
          refl
      go false p =
          let full : num ≤ min (length done) num = ltb-false (min (length done) num) num p in
          let next : min (length (done ++ (v ∷ []))) num ≡ min (length done) num = omega (arith, one_more, full) in
          same_locals
          (ap (λ (n : ℕ). map_from (filled n) 0 qs) (sym next))
          (sym (drop-append-le num done (v ∷ []) (omega (arith, full))))
          refl
          (sym next)
          refl

  pub take_each_lem : (done vs more : List Value) → P ≡ done ++ (vs ++ more) → from ≤ min (length done) spec.num_positional
      → take_each spec vs (after_taking done) ≡ after_taking (done ++ vs)
  take_each_lem done [] more e l = ap after_taking (sym (append-nil done))
  take_each_lem done (v ∷ vs) more e l =
      ap (take_each spec vs) (take_one_lem done v (vs ++ more) e l)
      ∙ take_each_lem (done ++ (v ∷ [])) vs more (e ∙ sym (append_snoc done v (vs ++ more))) (omega (arith, length-append done (v ∷ [])))
      ∙ ap after_taking (append_snoc done v vs)

-- ---- the written positionals

-- slots that hold the first n of P, and nothing else
abbrev pub held_below : List Value → ℕ → ℕ → Parameter → Option Held
held_below P n k q = cond (ltb k n) (some (single (get_or P k no_value))) none

zip_none : (vs : List Value) → zip_slots vs [] ≡ []
zip_none [] = refl
zip_none (v ∷ vs) = refl

pub zip_map_from : (vs : List Value) (i : ℕ) (qs : List Parameter) → zip_slots (drop i vs) (replicate (length qs) none) ≡ map_from (held_below vs (length vs)) i qs
zip_map_from vs i [] = zip_none (drop i vs)
zip_map_from vs i (q ∷ qs) = go (ltb i (length vs)) refl (zip_map_from vs (suc i) qs)
  where
    go : (b : Bool) → ltb i (length vs) ≡ b → zip_slots (drop (suc i) vs) (replicate (length qs) none) ≡ map_from (held_below vs (length vs)) (suc i) qs
        → zip_slots (drop i vs) (none ∷ replicate (length qs) none) ≡ cond b (some (single (get_or vs i no_value))) none ∷ map_from (held_below vs (length vs)) (suc i) qs
    go true p ih = rw (drop-cons vs i no_value (ltb-true i (length vs) p)) (ap {B = List (Option Held)} (λ r. some (single (get_or vs i no_value)) ∷ r) ih)
    go false p ih =
        rw (drop_of_length-le vs {i = i} (ltb-false i (length vs) p))
        (ap {B = List (Option Held)} (λ r. none ∷ r) (ap (λ (x : List Value). zip_slots x (replicate (length qs) none)) (sym (drop_of_length-le vs {i = suc i} (omega (arith, ltb-false i (length vs) p)))) ∙ ih))

module _ (spec : ParametersSpec) (qs : List Parameter) (d : Parameter) (written items : List Value) where
  -- the locals after the written positionals
  abbrev pub after_positionals : Locals
  after_positionals =
      record {
        slots = map_from (held_below (written ++ items) (min (length written) spec.num_positional)) 0 qs;
        star_args = drop spec.num_positional written;
        kwargs = none;
        next_position = min (length written) spec.num_positional;
        lowest_name = usize_max;
      }

  pub take_positionals_lem : take_positionals spec written (start_locals (replicate (length qs) none)) ≡ after_positionals
  unfolding take_positionals start_locals
  take_positionals_lem = go (leb (length written) spec.num_positional) refl
    where
      go : (b : Bool) → leb (length written) spec.num_positional ≡ b
          → cond b
          (record { slots = zip_slots written (replicate (length qs) none); star_args = []; kwargs = none; next_position = length written; lowest_name = usize_max })
          (take_each spec written (record { slots = replicate (length qs) none; star_args = []; kwargs = none; next_position = 0; lowest_name = usize_max }))
          ≡ after_positionals
      go true p =
          let next : length written ≡ min (length written) spec.num_positional = omega (arith, leb-true (length written) spec.num_positional p) in
          same_locals
          (zip_map_from written 0 qs
          ∙ map_from_same₀ (held_below written (length written)) (held_below (written ++ items) (min (length written) spec.num_positional)) d qs (λ k h. at k next (ltb k (length written)) refl))
          (sym (drop_of_length-le written {i = spec.num_positional} (omega (arith, leb-true (length written) spec.num_positional p))))
          refl
          next
          refl
        where
          at : (k : ℕ) → length written ≡ min (length written) spec.num_positional → (c : Bool) → ltb k (length written) ≡ c
              → cond c (some (single (get_or written k no_value))) none ≡ cond (ltb k (min (length written) spec.num_positional)) (some (single (get_or (written ++ items) k no_value))) none
          at k next true r = rw (← next, r, get_or-append written items no_value k (ltb-true k (length written) r))
          at k next false r = rw (← next, r)
      go false p =
          ap (take_each spec written) start
          ∙ take_each_lem spec qs d (written ++ items) 0 (λ k q. none) none usize_max [] written items refl (omega arith)
          ∙ same_locals (map_from_same₀ (filled spec qs d (written ++ items) 0 (λ k q. none) none usize_max (min (length written) spec.num_positional)) (held_below (written ++ items) (min (length written) spec.num_positional)) d qs (λ k h. rw (leb-zero k))) refl refl refl refl
        where
          start
              : ◌≡◌ {A = Locals} (record { slots = replicate (length qs) none; star_args = []; kwargs = none; next_position = 0; lowest_name = usize_max })
              (after_taking spec qs d (written ++ items) 0 (λ k q. none) none usize_max [])
          start =
              same_locals
              (replicate_map_from (filled spec qs d (written ++ items) 0 (λ k q. none) none usize_max (min 0 spec.num_positional)) none 0 qs (λ k q. rw (le-ltb k (min 0 spec.num_positional) (omega arith), leb-zero k)))
              (sym (drop-nil spec.num_positional))
              refl
              (omega arith)
              refl

-- ---- the star's items, over slots that names were written to

-- the slots after the items: P from the first item's place on, over what was there
abbrev pub over_between : List Value → ℕ → ℕ → (ℕ → Parameter → Option Held) → ℕ → Parameter → Option Held
over_between P from to h k q = cond (leb from k && ltb k to) (some (single (get_or P k no_value))) (h k q)

pub take_items : (spec : ParametersSpec) (qs : List Parameter) (d : Parameter) (written items : List Value) (h : ℕ → Parameter → Option Held) (kw : Option (List Named)) (low : ℕ)
    → take_each spec items
    (record {
      slots = map_from h 0 qs;
      star_args = drop spec.num_positional written;
      kwargs = kw;
      next_position = min (length written) spec.num_positional;
      lowest_name = low;
    })
    ≡ record {
      slots =
          map_from (over_between (written ++ items) (min (length written) spec.num_positional) (min (length (written ++ items)) spec.num_positional) h) 0 qs;
      star_args = drop spec.num_positional (written ++ items);
      kwargs = kw;
      next_position = min (length (written ++ items)) spec.num_positional;
      lowest_name = low;
    }
take_items spec qs d written items h kw low =
    ap (take_each spec items) start
    ∙ take_each_lem spec qs d (written ++ items) from h kw low written items [] (ap (λ (r : List Value). written ++ r) (sym (append-nil items))) (omega arith)
  where
    from : ℕ
    from = min (length written) spec.num_positional

    at : (k : ℕ) (q : Parameter) (c : Bool) → ltb k from ≡ c → h k q ≡ cond (leb from k && c) (some (single (get_or (written ++ items) k no_value))) (h k q)
    at k q true r = rw (lt-leb from k (ltb-true k from r))
    at k q false r = off (leb from k)
      where
        off : (b : Bool) → h k q ≡ cond (b && false) (some (single (get_or (written ++ items) k no_value))) (h k q)
        off true = refl
        off false = refl

    start
        : ◌≡◌ {A = Locals} (record { slots = map_from h 0 qs; star_args = drop spec.num_positional written; kwargs = kw; next_position = min (length written) spec.num_positional; lowest_name = low })
        (after_taking spec qs d (written ++ items) from h kw low written)
    start = same_locals (map_from_same₀ h (filled spec qs d (written ++ items) from h kw low from) d qs (λ k r. at k (get_or qs k d) (ltb k from) refl)) refl refl refl refl
