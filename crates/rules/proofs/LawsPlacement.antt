-- Laws of placement, for a list whose positional parameters come first and whose nameable names differ: how many slots are taken, from P
-- and from N, and that with the remainders this is all of P and N.
-- Assumes nothing.
use mathlib.Core.Path.{◌≡◌, refl, sym, ap, ap₂, fun_ext, ◌∙◌}
use mathlib.Core.Bool.{Bool, true, false, cond, not, ◌&&◌, ◌||◌, false≢true, true≢false}
use mathlib.Core.List.{List, [], ◌∷◌, ◌++◌, append-nil}
use mathlib.Core.Option.{Option, none, some}
use Prim.Native.Nat.{ℕ, suc, ◌+◌, ◌-◌, min}
use native.Mathlib.Nat.{zero-add}
use native.Mathlib.Omega.{arith}
use borrow.Author.Tests.{ltb-true, ltb-false}
use lib.Dec.{ltb}
use lib.ListN.{length, drop, get_or, length-drop}
use lib.Seq.{append_snoc}
use Rattle.rules.specs.Listing.{all, any, tally, keep, any_from, map_from}
use Rattle.rules.specs.Text.{same_bytes, among, differ}
use Rattle.rules.specs.Value.{Value, no_value}
use Rattle.rules.specs.CallRecord.{Named}
use Rattle.rules.specs.Parameters.{Parameter, ParameterKind, required, optional, defaulted, args, kwargs, positional, nameable, positional_count}
use Rattle.rules.specs.Lookup.{names, known}
use Rattle.rules.specs.Placement.{taken, is_taken, otherwise, taken_or, partner, from_p, slot_of, place, star_remainder, named_remainder, counts_of}
use Rattle.rules.specs.Binding.{texts_of, named_by}
use Rattle.rules.proofs.LawsListing.{and_left, and_right, or_left, or_right, or_neither, not_yes, any_append, tally_keep}
use Rattle.rules.proofs.LawsText.{same_bytes_eq, eq_same_bytes}
use Rattle.rules.specs.Passed.{positional_first, names_apart}

-- how many elements pass a test at their index, counted from i
abbrev tally_from : {X : Type 0} → (ℕ → X → Bool) → ℕ → List X → ℕ
tally_from f i [] = 0
tally_from f i (x ∷ xs) = cond (f i x) (suc (tally_from f (suc i) xs)) (tally_from f (suc i) xs)

-- ---- a slot is taken from P or from N

abbrev pub is_some : Option Value → Bool
is_some none = false
is_some (some v) = true

pub partner_some : (q : Parameter) (N : List Named) → is_some (partner q N) ≡ named_by N q
unfolding named_by
partner_some q [] = refl
partner_some q (v ∷ vs) = go (names v.name.bytes q) (partner_some q vs)
  where
    go : (b : Bool) → is_some (partner q vs) ≡ any (λ w. names w.name.bytes q) vs → is_some (cond b (some v.value) (partner q vs)) ≡ (b || any (λ w. names w.name.bytes q) vs)
    go true e = refl
    go false e = e

untaken : (k : ParameterKind) (a b : ℕ) → is_taken (otherwise k a b) ≡ false
untaken required a b = refl
untaken optional a b = refl
untaken (defaulted v) a b = refl
untaken args a b = refl
untaken kwargs a b = refl

slot_taken : (P : List Value) (N : List Named) (a b i : ℕ) (q : Parameter) → is_taken (slot_of P N a b i q) ≡ (from_p P i q || named_by N q)
unfolding slot_of
slot_taken P N a b i q = go (from_p P i q) ∙ ap (λ c. from_p P i q || c) (partner_some q N)
  where
    given : (o : Option Value) → is_taken (taken_or o (otherwise q.kind a b)) ≡ is_some o
    given none = untaken q.kind a b
    given (some v) = refl

    go : (c : Bool) → is_taken (cond c (taken (get_or P i no_value)) (taken_or (partner q N) (otherwise q.kind a b))) ≡ (c || is_some (partner q N))
    go true = refl
    go false = given (partner q N)

slots_taken : (P : List Value) (N : List Named) (a b i : ℕ) (qs : List Parameter) → tally is_taken (map_from (slot_of P N a b) i qs) ≡ tally_from (λ k q. from_p P k q || named_by N q) i qs
slots_taken P N a b i [] = refl
slots_taken P N a b i (q ∷ qs) = ap₂ (λ c n. cond c (suc n) n) (slot_taken P N a b i q) (slots_taken P N a b (suc i) qs)

-- where no slot is filled from both, those filled are counted apart
both_apart : (f : ℕ → Parameter → Bool) (g : Parameter → Bool) (i : ℕ) (qs : List Parameter) → any_from (λ k q. f k q && g q) i qs ≡ false
    → tally_from (λ k q. f k q || g q) i qs ≡ tally_from f i qs + tally g qs
both_apart f g i [] e = refl
both_apart f g i (q ∷ qs) e =
    go (f i q) (g q) (or_left (f i q && g q) (any_from (λ k p. f k p && g p) (suc i) qs) e)
    (tally_from (λ k p. f k p || g p) (suc i) qs) (tally_from f (suc i) qs) (tally g qs)
    (both_apart f g (suc i) qs (or_right (f i q && g q) (any_from (λ k p. f k p && g p) (suc i) qs) e))
  where
    go : (a b : Bool) → (a && b) ≡ false → (x y z : ℕ) → x ≡ y + z → cond (a || b) (suc x) x ≡ cond a (suc y) y + cond b (suc z) z
    go true true p x y z h = absurd (true≢false p)
    go true false p x y z h = omega arith
    go false true p x y z h = omega arith
    go false false p x y z h = h

-- ---- from P: as many as there are values, or positional parameters

none_from_P : (P : List Value) (i : ℕ) (qs : List Parameter) → all (λ p. not (positional p)) qs ≡ true → (tally_from (from_p P) i qs ≡ 0) × (tally positional qs ≡ 0)
unfolding from_p
none_from_P P i [] e = (refl, refl)
none_from_P P i (q ∷ qs) e =
    go (positional q) (not_yes (positional q) (and_left (not (positional q)) (all (λ p. not (positional p)) qs) e))
    (none_from_P P (suc i) qs (and_right (not (positional q)) (all (λ p. not (positional p)) qs) e))
  where
    go : (b : Bool) → b ≡ false → (tally_from (from_p P) (suc i) qs ≡ 0) × (tally positional qs ≡ 0)
        → (cond (b && ltb i (length P)) (suc (tally_from (from_p P) (suc i) qs)) (tally_from (from_p P) (suc i) qs) ≡ 0) × (cond b (suc (tally positional qs)) (tally positional qs) ≡ 0)
    go true p h = absurd (true≢false p)
    go false p h = h

from_P : (P : List Value) (i : ℕ) (qs : List Parameter) → positional_first qs ≡ true → tally_from (from_p P) i qs ≡ min (length P - i) (tally positional qs)
unfolding from_p
from_P P i [] e = omega arith
from_P P i (q ∷ qs) e = go (positional q) e (λ f. from_P P (suc i) qs f)
  where
    at : (b : Bool) → ltb i (length P) ≡ b → tally_from (from_p P) (suc i) qs ≡ min (length P - suc i) (tally positional qs)
        → cond b (suc (tally_from (from_p P) (suc i) qs)) (tally_from (from_p P) (suc i) qs) ≡ min (length P - i) (suc (tally positional qs))
    at true p h = omega (arith, ltb-true i (length P) p)
    at false p h = omega (arith, ltb-false i (length P) p)

    go : (b : Bool) → cond b (positional_first qs) (all (λ p. not (positional p)) qs) ≡ true
        → (positional_first qs ≡ true → tally_from (from_p P) (suc i) qs ≡ min (length P - suc i) (tally positional qs))
        → cond (b && ltb i (length P)) (suc (tally_from (from_p P) (suc i) qs)) (tally_from (from_p P) (suc i) qs) ≡ min (length P - i) (cond b (suc (tally positional qs)) (tally positional qs))
    go true f ih = at (ltb i (length P)) refl (ih f)
    go false f ih = let none = none_from_P P (suc i) qs f in omega (arith, none.0, none.1)

-- ---- from N: each name names at most one parameter, and each parameter is named at most once

abbrev sum_over : {X : Type 0} → (X → ℕ) → List X → ℕ
sum_over f [] = 0
sum_over f (x ∷ xs) = f x + sum_over f xs

sum_over_same : {X : Type 0} (f g : X → ℕ) → ((x : X) → f x ≡ g x) → (xs : List X) → sum_over f xs ≡ sum_over g xs
sum_over_same f g e [] = refl
sum_over_same f g e (x ∷ xs) = ap₂ (λ a b. a + b) (e x) (sum_over_same f g e xs)

sum_over_tally : {X : Type 0} (f : X → Bool) (xs : List X) → sum_over (λ x. cond (f x) 1 0) xs ≡ tally f xs
sum_over_tally f [] = refl
sum_over_tally f (x ∷ xs) = go (f x) (sum_over_tally f xs)
  where
    go : (b : Bool) → sum_over (λ y. cond (f y) 1 0) xs ≡ tally f xs → cond b 1 0 + sum_over (λ y. cond (f y) 1 0) xs ≡ cond b (suc (tally f xs)) (tally f xs)
    go true e = omega arith
    go false e = omega arith

-- a disjunction of tests that never both pass is counted apart
tally_or : {X : Type 0} (f g : X → Bool) → ((x : X) → (f x && g x) ≡ false) → (xs : List X) → tally (λ x. f x || g x) xs ≡ tally f xs + tally g xs
tally_or f g e [] = refl
tally_or f g e (x ∷ xs) = go (f x) (g x) (e x) (tally (λ y. f y || g y) xs) (tally f xs) (tally g xs) (tally_or f g e xs)
  where
    go : (a b : Bool) → (a && b) ≡ false → (u v w : ℕ) → u ≡ v + w → cond (a || b) (suc u) u ≡ cond a (suc v) v + cond b (suc w) w
    go true true p u v w h = absurd (true≢false p)
    go true false p u v w h = omega arith
    go false true p u v w h = omega arith
    go false false p u v w h = h

-- the named values that name q, and how many there are
abbrev pub naming : Parameter → Named → Bool
naming q v = names v.name.bytes q

abbrev is_known : List Parameter → Named → Bool
is_known qs v = known qs v.name.bytes

-- a name that is q's is not that of a parameter before q, where q's is new
pub name_apart : (before : List Parameter) (q : Parameter) → (not (nameable q) || not (known before q.name.bytes)) ≡ true → (b : List ℕ) → (known before b && names b q) ≡ false
unfolding names
name_apart before q new b = go (nameable q) new (same_bytes b q.name.bytes) refl
  where
    off : (k : Bool) → (false || not k) ≡ true → (k && true) ≡ false
    off true e = absurd (false≢true e)
    off false e = refl

    none_of : (k : Bool) → (k && false) ≡ false
    none_of true = refl
    none_of false = refl

    go : (n : Bool) → (not n || not (known before q.name.bytes)) ≡ true → (s : Bool) → same_bytes b q.name.bytes ≡ s → (known before b && (n && s)) ≡ false
    go true e true p = rw (same_bytes_eq b q.name.bytes p) (off (known before q.name.bytes) e)
    go true e false p = none_of (known before b)
    go false e s p = none_of (known before b)

pub known_snoc : (before : List Parameter) (q : Parameter) (b : List ℕ) → known (before ++ (q ∷ [])) b ≡ (known before b || names b q)
unfolding known
known_snoc before q b = any_append (names b) before (q ∷ []) ∙ ap (λ c. any (names b) before || c) (last (names b q))
  where
    last : (c : Bool) → (c || false) ≡ c
    last true = refl
    last false = refl

-- the named values that are known are those that name each parameter in turn
known_sum : (N : List Named) (before qs : List Parameter) → names_apart before qs ≡ true → tally (is_known (before ++ qs)) N ≡ tally (is_known before) N + sum_over (λ q. tally (naming q) N) qs
known_sum N before [] e = rw (append-nil before) (omega arith)
known_sum N before (q ∷ qs) e =
    ap (λ l. tally (is_known l) N) (sym (append_snoc before q qs))
    ∙ known_sum N (before ++ (q ∷ [])) qs (and_right (not (nameable q) || not (known before q.name.bytes)) (names_apart (before ++ (q ∷ [])) qs) e)
    ∙ ap (λ n. n + sum_over (λ p. tally (naming p) N) qs) one
    ∙ sum (tally (is_known before) N) (tally (naming q) N) (sum_over (λ p. tally (naming p) N) qs)
  where
    one : tally (is_known (before ++ (q ∷ []))) N ≡ tally (is_known before) N + tally (naming q) N
    one =
        ap (λ (f : Named → Bool). tally f N) (fun_ext (λ v. known_snoc before q v.name.bytes))
        ∙ tally_or (is_known before) (naming q) (λ v. name_apart before q (and_left (not (nameable q) || not (known before q.name.bytes)) (names_apart (before ++ (q ∷ [])) qs) e) v.name.bytes) N

    sum : (a b c : ℕ) → a + b + c ≡ a + (b + c)
    sum a b c = omega arith

pub names_bytes : (b : List ℕ) (q : Parameter) → names b q ≡ true → b ≡ q.name.bytes
unfolding names
names_bytes b q e = same_bytes_eq b q.name.bytes (and_right (nameable q) (same_bytes b q.name.bytes) e)

-- a name that stands among none of the rest's names q no more there
named_once : (b : List ℕ) (q : Parameter) (N : List Named) → names b q ≡ true → among b (texts_of N) ≡ false → named_by N q ≡ false
unfolding named_by texts_of
named_once b q [] n e = refl
named_once b q (v ∷ vs) n e =
    or_neither (names v.name.bytes q) (any (λ w. names w.name.bytes q) vs)
    (other (or_left (same_bytes b v.name.bytes) (among b (texts_of vs)) e))
    (named_once b q vs n (or_right (same_bytes b v.name.bytes) (among b (texts_of vs)) e))
  where
    other : same_bytes b v.name.bytes ≡ false → names v.name.bytes q ≡ false
    other d = go (names v.name.bytes q) refl
      where
        go : (c : Bool) → names v.name.bytes q ≡ c → c ≡ false
        go true p = sym (eq_same_bytes b v.name.bytes (names_bytes b q n ∙ sym (names_bytes v.name.bytes q p))) ∙ d
        go false p = refl

pub tally_naming : (q : Parameter) (N : List Named) → differ (texts_of N) ≡ true → tally (naming q) N ≡ cond (named_by N q) 1 0
unfolding named_by texts_of
tally_naming q [] e = refl
tally_naming q (v ∷ vs) e =
    go (names v.name.bytes q) refl (tally_naming q vs (and_right (not (among v.name.bytes (texts_of vs))) (differ (texts_of vs)) e))
  where
    go : (c : Bool) → names v.name.bytes q ≡ c → tally (naming q) vs ≡ cond (named_by vs q) 1 0 → cond c (suc (tally (naming q) vs)) (tally (naming q) vs) ≡ cond (c || named_by vs q) 1 0
    go true p h = ap suc (h ∙ ap (λ b. cond b 1 0) (named_once v.name.bytes q vs p (not_yes (among v.name.bytes (texts_of vs)) (and_left (not (among v.name.bytes (texts_of vs))) (differ (texts_of vs)) e))))
    go false p h = h

-- no parameters know no name
none_known : (N : List Named) → tally (is_known []) N ≡ 0
unfolding known
none_known [] = refl
none_known (v ∷ vs) = none_known vs

-- ---- nothing is lost

-- where no slot below the length of P is named too, every value of P and N is in a slot or in a remainder
pub none_lost : (qs : List Parameter) (P : List Value) (N : List Named) → positional_first qs ≡ true → names_apart [] qs ≡ true → differ (texts_of N) ≡ true
    → any_from (λ k q. from_p P k q && named_by N q) 0 qs ≡ false
    → length P + length N ≡ (counts_of qs P N).taken + (counts_of qs P N).star + (counts_of qs P N).named
unfolding counts_of place star_remainder named_remainder positional_count
none_lost qs P N first apart differs repeats =
    omega (arith, slots, from_P P 0 qs first, length-drop (tally positional qs) P, tally_keep (is_known qs) N, named)
  where
    slots : tally is_taken (map_from (slot_of P N (length (drop (tally positional qs) P)) (length (keep (λ v. not (known qs v.name.bytes)) N))) 0 qs) ≡ tally_from (from_p P) 0 qs + tally (named_by N) qs
    slots = slots_taken P N (length (drop (tally positional qs) P)) (length (keep (λ v. not (known qs v.name.bytes)) N)) 0 qs ∙ both_apart (from_p P) (named_by N) 0 qs repeats

    named : tally (is_known qs) N ≡ tally (named_by N) qs
    named =
        known_sum N [] qs apart
        ∙ ap (λ n. n + sum_over (λ q. tally (naming q) N) qs) (none_known N)
        ∙ zero-add (sum_over (λ q. tally (naming q) N) qs)
        ∙ sum_over_same (λ q. tally (naming q) N) (λ q. cond (named_by N q) 1 0) (λ q. tally_naming q N differs) qs
        ∙ sum_over_tally (named_by N) qs
