-- Laws of lookup and placement by index, for a list whose positional parameters come first and whose nameable names differ: what a finding
-- says of the parameter at an index, which slots P fills, what one more named value changes, and the questions from an index on.
-- Assumes nothing.
use mathlib.Core.Path.{◌≡◌, refl, sym, ap, ap₂, subst, ◌∙◌}
use mathlib.Core.Bool.{Bool, true, false, cond, not, ◌&&◌, ◌||◌, true≢false}
use mathlib.Core.List.{List, [], ◌∷◌, ◌++◌, map}
use mathlib.Core.Option.{Option, none, some}
use Prim.Native.Nat.{ℕ, zero, suc, ◌+◌, min, ◌<◌, suc-le-suc}
use native.Mathlib.Nat.{add-zero, zero-add, le_of_suc-le-suc, not-suc-le-zero}
use native.Mathlib.Omega.{arith}
use borrow.Author.Tests.{ltb-true, ltb-false, lt-ltb, le-ltb, eq-eqb, ne_eqb}
use lib.Dec.{eqb, ltb, leb-suc-suc}
use lib.ListN.{length, get_or}
use Rattle.rules.specs.Listing.{all, any, tally, keep, any_from}
use Rattle.rules.specs.Text.{same_bytes, among}
use Rattle.rules.specs.Value.{Value}
use Rattle.rules.specs.CallRecord.{Named}
use Rattle.rules.specs.Parameters.{Parameter, positional, nameable, positional_count}
use Rattle.rules.specs.Lookup.{names, known, Finding, at, unknown, find_from, find}
use Rattle.rules.specs.Placement.{from_p, partner, named_remainder}
use Rattle.rules.specs.Binding.{texts_of, named_by, names_filled}
use Rattle.rules.proofs.LawsListing.{and_left, and_right, not_yes, or_left, or_right, or_neither, same_test}
use Rattle.rules.proofs.LawsText.{same_bytes_eq, eq_same_bytes}
use Rattle.rules.specs.Passed.{positional_first, names_apart}
use Rattle.rules.proofs.LawsPlacement.{name_apart, known_snoc, names_bytes}

-- ---- a finding

-- is it the parameter at index k?
abbrev pub is_at : ℕ → Finding → Bool
is_at k (at i) = eqb i k
is_at k unknown = false

abbrev pub is_found : Finding → Bool
is_found (at i) = true
is_found unknown = false

pub known_found : (qs : List Parameter) (b : List ℕ) (i : ℕ) → is_found (find_from i qs b) ≡ known qs b
unfolding known
known_found [] b i = refl
known_found (q ∷ qs) b i = go (names b q) (known_found qs b (suc i))
  where
    go : (c : Bool) → is_found (find_from (suc i) qs b) ≡ any (names b) qs → is_found (cond c (at i) (find_from (suc i) qs b)) ≡ (c || any (names b) qs)
    go true e = refl
    go false e = e

-- a name that is known before the parameters is that of none of them
pub none_after : (before qs : List Parameter) (b : List ℕ) → names_apart before qs ≡ true → known before b ≡ true → known qs b ≡ false
unfolding known
none_after before [] b a k = refl
none_after before (q ∷ qs) b a k =
    or_neither (names b q) (any (names b) qs) here
    (none_after (before ++ (q ∷ [])) qs b (and_right (not (nameable q) || not (known before q.name.bytes)) (names_apart (before ++ (q ∷ [])) qs) a)
    (known_snoc before q b ∙ ap (λ c. c || names b q) k))
  where
    here : names b q ≡ false
    here = ap (λ c. c && names b q) (sym k) ∙ name_apart before q (and_left (not (nameable q) || not (known before q.name.bytes)) (names_apart (before ++ (q ∷ [])) qs) a) b

-- what is found from i on is no index below i
found_from : (i : ℕ) (qs : List Parameter) (b : List ℕ) (k : ℕ) → k < i → is_at k (find_from i qs b) ≡ false
found_from i [] b k h = refl
found_from i (q ∷ qs) b k h = go (names b q) (found_from (suc i) qs b k (omega arith))
  where
    go : (c : Bool) → is_at k (find_from (suc i) qs b) ≡ false → is_at k (cond c (at i) (find_from (suc i) qs b)) ≡ false
    go true e = ne_eqb i k (λ (p : i ≡ k). absurd (omega arith))
    go false e = e

unfound : (i : ℕ) (qs : List Parameter) (b : List ℕ) (k : ℕ) → known qs b ≡ false → is_at k (find_from i qs b) ≡ false
unfound i qs b k e = go (find_from i qs b) (known_found qs b i ∙ e)
  where
    go : (f : Finding) → is_found f ≡ false → is_at k f ≡ false
    go (at j) p = absurd (true≢false p)
    go unknown p = refl

-- the parameter at an index is named by some bytes exactly where they are found there
pub names_at : (before : List Parameter) (i : ℕ) (qs : List Parameter) (b : List ℕ) → names_apart before qs ≡ true → (k : ℕ) (d : Parameter) → k < length qs → names b (get_or qs k d) ≡ is_at (i + k) (find_from i qs b)
names_at before i [] b a k d h = absurd (not-suc-le-zero h)
names_at before i (q ∷ qs) b a zero d h = go (names b q) refl
  where
    go : (c : Bool) → names b q ≡ c → c ≡ is_at (i + 0) (cond c (at i) (find_from (suc i) qs b))
    go true p = sym (eq-eqb i (i + 0) (omega arith))
    go false p = sym (found_from (suc i) qs b (i + 0) (omega arith))
names_at before i (q ∷ qs) b a (suc k) d h = go (names b q) refl (names_at (before ++ (q ∷ [])) (suc i) qs b later k d (le_of_suc-le-suc h))
  where
    later : names_apart (before ++ (q ∷ [])) qs ≡ true
    later = and_right (not (nameable q) || not (known before q.name.bytes)) (names_apart (before ++ (q ∷ [])) qs) a

    or_yes : (x y : Bool) → y ≡ true → (x || y) ≡ true
    or_yes true y e = refl
    or_yes false y e = e

    step : (x y : ℕ) → suc x + y ≡ x + suc y
    step x y = omega arith

    go : (c : Bool) → names b q ≡ c → names b (get_or qs k d) ≡ is_at (suc i + k) (find_from (suc i) qs b) → names b (get_or qs k d) ≡ is_at (i + suc k) (cond c (at i) (find_from (suc i) qs b))
    go true p rest =
        rest
        ∙ unfound (suc i) qs b (suc i + k) (none_after (before ++ (q ∷ [])) qs b later (known_snoc before q b ∙ or_yes (known before b) (names b q) p))
        ∙ sym (ne_eqb i (i + suc k) (λ (e : i ≡ i + suc k). absurd (omega arith)))
    go false p rest = rest ∙ ap (λ n. is_at n (find_from (suc i) qs b)) (step i k)

-- ---- which parameters are positional

none_at : (qs : List Parameter) → all (λ p. not (positional p)) qs ≡ true → (k : ℕ) (d : Parameter) → k < length qs → positional (get_or qs k d) ≡ false
none_at [] e k d h = absurd (not-suc-le-zero h)
none_at (q ∷ qs) e zero d h = not_yes (positional q) (and_left (not (positional q)) (all (λ p. not (positional p)) qs) e)
none_at (q ∷ qs) e (suc k) d h = none_at qs (and_right (not (positional q)) (all (λ p. not (positional p)) qs) e) k d (le_of_suc-le-suc h)

positional_from : (qs : List Parameter) → positional_first qs ≡ true → (k : ℕ) (d : Parameter) → k < length qs → positional (get_or qs k d) ≡ ltb k (tally positional qs)
positional_from [] e k d h = absurd (not-suc-le-zero h)
positional_from (q ∷ qs) e k d h = go (positional q) refl e k h (positional_from qs)
  where
    none_tally : (ps : List Parameter) → all (λ p. not (positional p)) ps ≡ true → tally positional ps ≡ 0
    none_tally [] f = refl
    none_tally (p ∷ ps) f = zero_of (positional p) (not_yes (positional p) (and_left (not (positional p)) (all (λ x. not (positional x)) ps) f)) (none_tally ps (and_right (not (positional p)) (all (λ x. not (positional x)) ps) f))
      where
        zero_of : (c : Bool) → c ≡ false → tally positional ps ≡ 0 → cond c (suc (tally positional ps)) (tally positional ps) ≡ 0
        zero_of true p₁ z = absurd (true≢false p₁)
        zero_of false p₁ z = z

    go : (c : Bool) → positional q ≡ c → cond c (positional_first qs) (all (λ p. not (positional p)) qs) ≡ true → (j : ℕ) → j < suc (length qs)
        → (positional_first qs ≡ true → (i : ℕ) (d₁ : Parameter) → i < length qs → positional (get_or qs i d₁) ≡ ltb i (tally positional qs))
        → positional (get_or (q ∷ qs) j d) ≡ ltb j (cond c (suc (tally positional qs)) (tally positional qs))
    go true p f zero l ih = p ∙ sym (lt-ltb 0 (suc (tally positional qs)) (omega arith))
    go true p f (suc j) l ih = ih f j d (le_of_suc-le-suc l) ∙ sym (leb-suc-suc (suc j) (tally positional qs))
    go false p f zero l ih = p ∙ sym (le-ltb 0 (tally positional qs) (omega (arith, none_tally qs f)))
    go false p f (suc j) l ih = none_at qs f j d (le_of_suc-le-suc l) ∙ sym (le-ltb (suc j) (tally positional qs) (omega (arith, none_tally qs f)))

-- slot k is filled from P where k is below both the values and the positional parameters
pub from_p_at : (qs : List Parameter) (P : List Value) → positional_first qs ≡ true → (k : ℕ) (d : Parameter) → k < length qs → from_p P k (get_or qs k d) ≡ ltb k (min (length P) (positional_count qs))
unfolding from_p positional_count
from_p_at qs P e k d h = ap (λ c. c && ltb k (length P)) (positional_from qs e k d h) ∙ go (ltb k (tally positional qs)) refl (ltb k (length P)) refl
  where
    go : (a : Bool) → ltb k (tally positional qs) ≡ a → (b : Bool) → ltb k (length P) ≡ b → (a && b) ≡ ltb k (min (length P) (tally positional qs))
    go true p true q = sym (lt-ltb k (min (length P) (tally positional qs)) (omega (arith, ltb-true k (tally positional qs) p, ltb-true k (length P) q)))
    go true p false q = sym (le-ltb k (min (length P) (tally positional qs)) (omega (arith, ltb-false k (length P) q)))
    go false p b q = sym (le-ltb k (min (length P) (tally positional qs)) (omega (arith, ltb-false k (tally positional qs) p)))

-- ---- repeats, by what is found

-- is the slot that was found below `next`?
abbrev pub is_below : ℕ → Finding → Bool
is_below next (at i) = ltb i next
is_below next unknown = false

unnamed : (P : List Value) (i : ℕ) (qs : List Parameter) (b : List ℕ) → known qs b ≡ false → any_from (λ k q. from_p P k q && names b q) i qs ≡ false
unfolding known
unnamed P i [] b e = refl
unnamed P i (q ∷ qs) b e =
    or_neither (from_p P i q && names b q) (any_from (λ k p. from_p P k p && names b p) (suc i) qs)
    (ap (λ c. from_p P i q && c) (or_left (names b q) (any (names b) qs) e) ∙ off (from_p P i q))
    (unnamed P (suc i) qs b (or_right (names b q) (any (names b) qs) e))
  where
    off : (c : Bool) → (c && false) ≡ false
    off true = refl
    off false = refl

filled_from : (P : List Value) (next : ℕ) (before : List Parameter) (i : ℕ) (qs : List Parameter) (b : List ℕ) (d : Parameter) → names_apart before qs ≡ true
    → ((k : ℕ) → k < length qs → from_p P (i + k) (get_or qs k d) ≡ ltb (i + k) next) → any_from (λ k q. from_p P k q && names b q) i qs ≡ is_below next (find_from i qs b)
filled_from P next before i [] b d a f = refl
filled_from P next before i (q ∷ qs) b d a f =
    go (names b q) refl (filled_from P next (before ++ (q ∷ [])) (suc i) qs b d later (λ k h. shifted k (f (suc k) (suc-le-suc h))))
  where
    later : names_apart (before ++ (q ∷ [])) qs ≡ true
    later = and_right (not (nameable q) || not (known before q.name.bytes)) (names_apart (before ++ (q ∷ [])) qs) a

    shifted : (k : ℕ) → from_p P (i + suc k) (get_or qs k d) ≡ ltb (i + suc k) next → from_p P (suc i + k) (get_or qs k d) ≡ ltb (suc i + k) next
    shifted k e = subst (λ (n : ℕ). from_p P n (get_or qs k d) ≡ ltb n next) (step i k) e
      where
        step : (x y : ℕ) → x + suc y ≡ suc x + y
        step x y = omega arith

    here : from_p P i q ≡ ltb i next
    here = subst (λ (n : ℕ). from_p P n q ≡ ltb n next) (add-zero i) (f 0 (omega arith))

    or_yes : (x y : Bool) → y ≡ true → (x || y) ≡ true
    or_yes true y e = refl
    or_yes false y e = e

    last : (c : Bool) → (c && true || false) ≡ c
    last true = refl
    last false = refl

    none : (c x : Bool) → (c && false || x) ≡ x
    none true x = refl
    none false x = refl

    go : (c : Bool) → names b q ≡ c → any_from (λ k p. from_p P k p && names b p) (suc i) qs ≡ is_below next (find_from (suc i) qs b)
        → (from_p P i q && c || any_from (λ k p. from_p P k p && names b p) (suc i) qs) ≡ is_below next (cond c (at i) (find_from (suc i) qs b))
    go true p rest =
        ap (λ x. from_p P i q && true || x) (unnamed P (suc i) qs b (none_after (before ++ (q ∷ [])) qs b later (known_snoc before q b ∙ or_yes (known before b) (names b q) p)))
        ∙ last (from_p P i q) ∙ here
    go false p rest = none (from_p P i q) (any_from (λ k p₁. from_p P k p₁ && names b p₁) (suc i) qs) ∙ rest

-- a name is that of a slot filled from P exactly where the slot that is found is below both the values and the positional parameters
pub names_filled_lem : (qs : List Parameter) (P : List Value) (b : List ℕ) (d : Parameter) → positional_first qs ≡ true → names_apart [] qs ≡ true → names_filled P 0 qs b ≡ is_below (min (length P) (positional_count qs)) (find qs b)
unfolding names_filled find
names_filled_lem qs P b d first apart =
    filled_from P (min (length P) (positional_count qs)) [] 0 qs b d apart
    (λ k h. subst (λ (n : ℕ). from_p P n (get_or qs k d) ≡ ltb n (min (length P) (positional_count qs))) (sym (zero-add k)) (from_p_at qs P first k d h))

-- a name that is a parameter's stands among other names exactly where one of these is the parameter's
pub among_named : (b : List ℕ) (q : Parameter) (vs : List Named) → names b q ≡ true → among b (texts_of vs) ≡ named_by vs q
unfolding named_by texts_of
among_named b q [] n = refl
among_named b q (v ∷ vs) n = ap₂ (λ x y. x || y) same (among_named b q vs n)
  where
    same : same_bytes b v.name.bytes ≡ names v.name.bytes q
    same =
        same_test (same_bytes b v.name.bytes) (names v.name.bytes q)
        (λ e. subst (λ (x : List ℕ). names x q ≡ true) (same_bytes_eq b v.name.bytes e) n)
        (λ e. eq_same_bytes b v.name.bytes (names_bytes b q n ∙ sym (names_bytes v.name.bytes q e)))

-- a name of no parameter stands among other names exactly where it stands among their remainder
pub among_unknown : (qs : List Parameter) (b : List ℕ) (vs : List Named) → known qs b ≡ false → among b (texts_of vs) ≡ among b (texts_of (named_remainder qs vs))
unfolding texts_of named_remainder
among_unknown qs b [] e = refl
among_unknown qs b (v ∷ vs) e = go (known qs v.name.bytes) refl (among_unknown qs b vs e)
  where
    rest : List Named
    rest = keep (λ w. not (known qs w.name.bytes)) vs

    go : (c : Bool) → known qs v.name.bytes ≡ c → among b (map (λ w. w.name) vs) ≡ among b (map (λ w. w.name) rest)
        → (same_bytes b v.name.bytes || among b (map (λ w. w.name) vs)) ≡ among b (map (λ w. w.name) (cond (not c) (v ∷ rest) rest))
    go true p h = ap (λ x. x || among b (map (λ w. w.name) vs)) (other (same_bytes b v.name.bytes) refl) ∙ h
      where
        other : (x : Bool) → same_bytes b v.name.bytes ≡ x → x ≡ false
        other true s = sym p ∙ ap (known qs) (sym (same_bytes_eq b v.name.bytes s)) ∙ e
        other false s = refl
    go false p h = ap (λ x. same_bytes b v.name.bytes || x) h

-- ---- one more named value

abbrev pub or_else : Option Value → Option Value → Option Value
or_else (some v) o = some v
or_else none o = o

pub partner_snoc : (q : Parameter) (vs : List Named) (v : Named) → partner q (vs ++ (v ∷ [])) ≡ or_else (partner q vs) (cond (names v.name.bytes q) (some v.value) none)
partner_snoc q [] v = refl
partner_snoc q (w ∷ vs) v = go (names w.name.bytes q) (partner_snoc q vs v)
  where
    go : (c : Bool) → partner q (vs ++ (v ∷ [])) ≡ or_else (partner q vs) (cond (names v.name.bytes q) (some v.value) none)
        → cond c (some w.value) (partner q (vs ++ (v ∷ []))) ≡ or_else (cond c (some w.value) (partner q vs)) (cond (names v.name.bytes q) (some v.value) none)
    go true e = refl
    go false e = e

pub keep_snoc : {X : Type 0} (f : X → Bool) (xs : List X) (x : X) → keep f (xs ++ (x ∷ [])) ≡ keep f xs ++ cond (f x) (x ∷ []) []
keep_snoc f [] x = go (f x)
  where
    go : (c : Bool) → cond c (x ∷ []) [] ≡ cond c (x ∷ []) []
    go c = refl
keep_snoc {X} f (y ∷ xs) x = go (f y) (keep_snoc f xs x)
  where
    go : (c : Bool) → keep f (xs ++ (x ∷ [])) ≡ keep f xs ++ cond (f x) (x ∷ []) [] → cond c (y ∷ keep f (xs ++ (x ∷ []))) (keep f (xs ++ (x ∷ []))) ≡ cond c (y ∷ keep f xs) (keep f xs) ++ cond (f x) (x ∷ []) []
    go true e = ap {B = List X} (λ r. y ∷ r) e
    go false e = e
