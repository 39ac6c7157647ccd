-- Laws of slots that are read off a list of parameters, one for each by its index: a write at an index, two readings that agree, the
-- parameters that pass a test first, or once, and what the slots hold one after the other.
-- Assumes nothing.
use mathlib.Core.Path.{◌≡◌, refl, sym, ap, ap₂, subst, ◌∙◌}
use mathlib.Core.Bool.{Bool, true, false, cond, not, ◌||◌, true≢false}
use mathlib.Core.List.{List, [], ◌∷◌, ◌++◌, map, flat_map, append-nil}
use mathlib.Core.Option.{Option, none, some}
use Prim.Native.Nat.{ℕ, zero, suc, ◌+◌, ◌<◌, suc-le-suc}
use native.Mathlib.Nat.{add-zero, zero-add, le_of_suc-le-suc, not-suc-le-zero}
use native.Mathlib.Omega.{arith}
use borrow.Author.Tests.{eq-eqb, ne_eqb, lt-ltb, le-ltb}
use lib.Dec.{eqb, ltb, leb-suc-suc}
use lib.ListN.{length, get_or, set, replicate}
use Rattle.rules.specs.Listing.{all, any, tally, first_from, map_from}
use Rattle.rules.proofs.LawsListing.{and_left, and_right, not_yes}

-- one more before the sum is one more behind it
pub shift : (x y : ℕ) → suc x + y ≡ x + suc y
shift x y = omega arith

module _ {X Y : Type 0} where
  pub map_from_same : (f g : ℕ → X → Y) (d : X) (i : ℕ) (xs : List X) → ((k : ℕ) → k < length xs → f (i + k) (get_or xs k d) ≡ g (i + k) (get_or xs k d)) → map_from f i xs ≡ map_from g i xs
  map_from_same f g d i [] e = refl
  map_from_same f g d i (x ∷ xs) e =
      ap₂ {C = List Y} (λ y ys. y ∷ ys)
      (subst (λ (n : ℕ). f n x ≡ g n x) (add-zero i) (e 0 (omega arith)))
      (map_from_same f g d (suc i) xs (λ k h. subst (λ (n : ℕ). f n (get_or xs k d) ≡ g n (get_or xs k d)) (sym (shift i k)) (e (suc k) (suc-le-suc h))))

  -- the same from index 0 on
  pub map_from_same₀ : (f g : ℕ → X → Y) (d : X) (xs : List X) → ((k : ℕ) → k < length xs → f k (get_or xs k d) ≡ g k (get_or xs k d)) → map_from f 0 xs ≡ map_from g 0 xs
  map_from_same₀ f g d xs e = map_from_same f g d 0 xs (λ k h. subst (λ (n : ℕ). f n (get_or xs k d) ≡ g n (get_or xs k d)) (sym (zero-add k)) (e k h))

  pub get_d_map_from : (f : ℕ → X → Y) (i : ℕ) (xs : List X) (k : ℕ) (y : Y) (d : X) → k < length xs → get_or (map_from f i xs) k y ≡ f (i + k) (get_or xs k d)
  get_d_map_from f i [] k y d h = absurd (not-suc-le-zero h)
  get_d_map_from f i (x ∷ xs) zero y d h = ap (λ (n : ℕ). f n x) (sym (add-zero i))
  get_d_map_from f i (x ∷ xs) (suc k) y d h = get_d_map_from f (suc i) xs k y d (le_of_suc-le-suc h) ∙ ap (λ (n : ℕ). f n (get_or xs k d)) (shift i k)

  -- a write at an index changes what stands there alone
  pub set_map_from : (f : ℕ → X → Y) (i : ℕ) (xs : List X) (k : ℕ) (y : Y) → set (map_from f i xs) k y ≡ map_from (λ n x. cond (eqb n (i + k)) y (f n x)) i xs
  set_map_from f i [] k y = refl
  set_map_from f i (x ∷ xs) zero y =
      ap₂ {C = List Y} (λ z zs. z ∷ zs)
      (sym (ap (λ (b : Bool). cond b y (f i x)) (eq-eqb i (i + 0) (omega arith))))
      (map_from_same f (λ n x₁. cond (eqb n (i + 0)) y (f n x₁)) x (suc i) xs
      (λ k h. sym (ap (λ (b : Bool). cond b y (f (suc i + k) (get_or xs k x))) (ne_eqb (suc i + k) (i + 0) (λ (e : suc i + k ≡ i + 0). absurd (omega arith))))))
  set_map_from f i (x ∷ xs) (suc k) y =
      ap₂ {C = List Y} (λ z zs. z ∷ zs)
      (sym (ap (λ (b : Bool). cond b y (f i x)) (ne_eqb i (i + suc k) (λ (e : i ≡ i + suc k). absurd (omega arith)))))
      (set_map_from f (suc i) xs k y ∙ ap (λ (m : ℕ). map_from (λ n x₁. cond (eqb n m) y (f n x₁)) (suc i) xs) (shift i k))

  pub set_map_from₀ : (f : ℕ → X → Y) (xs : List X) (k : ℕ) (y : Y) → set (map_from f 0 xs) k y ≡ map_from (λ n x. cond (eqb n k) y (f n x)) 0 xs
  set_map_from₀ f xs k y = set_map_from f 0 xs k y ∙ ap (λ (m : ℕ). map_from (λ n x. cond (eqb n m) y (f n x)) 0 xs) (zero-add k)

  pub replicate_map_from : (f : ℕ → X → Y) (y : Y) (i : ℕ) (xs : List X) → ((n : ℕ) (x : X) → f n x ≡ y) → replicate (length xs) y ≡ map_from f i xs
  replicate_map_from f y i [] e = refl
  replicate_map_from f y i (x ∷ xs) e = ap₂ {C = List Y} (λ z zs. z ∷ zs) (sym (e i x)) (replicate_map_from f y (suc i) xs e)

pub map_map_from : {X Y Z : Type 0} (g : Y → Z) (f : ℕ → X → Y) (i : ℕ) (xs : List X) → map g (map_from f i xs) ≡ map_from (λ n x. g (f n x)) i xs
map_map_from g f i [] = refl
map_map_from {Z = Z} g f i (x ∷ xs) = ap {B = List Z} (λ r. g (f i x) ∷ r) (map_map_from g f (suc i) xs)

-- ---- those that pass a test first, or once

-- is this the index that was found?
abbrev pub is_the : ℕ → Option ℕ → Bool
is_the n none = false
is_the n (some i) = eqb n i

module _ {X : Type 0} (f : X → Bool) where
  abbrev pub come_first : List X → Bool
  come_first [] = true
  come_first (x ∷ xs) = cond (f x) (come_first xs) (all (λ y. not (f y)) xs)

  abbrev pub once : List X → Bool
  once [] = true
  once (x ∷ xs) = cond (f x) (all (λ y. not (f y)) xs) (once xs)

  none_at : (xs : List X) → all (λ y. not (f y)) xs ≡ true → (k : ℕ) (d : X) → k < length xs → f (get_or xs k d) ≡ false
  none_at [] e k d h = absurd (not-suc-le-zero h)
  none_at (x ∷ xs) e zero d h = not_yes (f x) (and_left (not (f x)) (all (λ y. not (f y)) xs) e)
  none_at (x ∷ xs) e (suc k) d h = none_at xs (and_right (not (f x)) (all (λ y. not (f y)) xs) e) k d (le_of_suc-le-suc h)

  none_tally : (xs : List X) → all (λ y. not (f y)) xs ≡ true → tally f xs ≡ 0
  none_tally [] e = refl
  none_tally (x ∷ xs) e = go (f x) (not_yes (f x) (and_left (not (f x)) (all (λ y. not (f y)) xs) e)) (none_tally xs (and_right (not (f x)) (all (λ y. not (f y)) xs) e))
    where
      go : (c : Bool) → c ≡ false → tally f xs ≡ 0 → cond c (suc (tally f xs)) (tally f xs) ≡ 0
      go true p z = absurd (true≢false p)
      go false p z = z

  -- where those that pass come first, they are those below their number
  pub first_at : (xs : List X) → come_first xs ≡ true → (k : ℕ) (d : X) → k < length xs → f (get_or xs k d) ≡ ltb k (tally f xs)
  first_at [] e k d h = absurd (not-suc-le-zero h)
  first_at (x ∷ xs) e k d h = go (f x) refl e k h (first_at xs)
    where
      go : (c : Bool) → f x ≡ c → cond c (come_first xs) (all (λ y. not (f y)) xs) ≡ true → (j : ℕ) → j < suc (length xs)
          → (come_first xs ≡ true → (i : ℕ) (d₁ : X) → i < length xs → f (get_or xs i d₁) ≡ ltb i (tally f xs))
          → f (get_or (x ∷ xs) j d) ≡ ltb j (cond c (suc (tally f xs)) (tally f xs))
      go true p g zero l ih = p ∙ sym (lt-ltb 0 (suc (tally f xs)) (omega arith))
      go true p g (suc j) l ih = ih g j d (le_of_suc-le-suc l) ∙ sym (leb-suc-suc (suc j) (tally f xs))
      go false p g zero l ih = p ∙ sym (le-ltb 0 (tally f xs) (omega (arith, none_tally xs g)))
      go false p g (suc j) l ih = none_at xs g j d (le_of_suc-le-suc l) ∙ sym (le-ltb (suc j) (tally f xs) (omega (arith, none_tally xs g)))

  pub first_after : (i : ℕ) (xs : List X) (n : ℕ) → n < i → is_the n (first_from f i xs) ≡ false
  first_after i [] n h = refl
  first_after i (x ∷ xs) n h = go (f x) (first_after (suc i) xs n (omega arith))
    where
      go : (c : Bool) → is_the n (first_from f (suc i) xs) ≡ false → is_the n (cond c (some i) (first_from f (suc i) xs)) ≡ false
      go true e = ne_eqb n i (λ (p : n ≡ i). absurd (omega arith))
      go false e = e

  -- where one passes, it is the one that is found
  pub the_first : (i : ℕ) (xs : List X) → once xs ≡ true → (k : ℕ) (d : X) → k < length xs → f (get_or xs k d) ≡ is_the (i + k) (first_from f i xs)
  the_first i [] e k d h = absurd (not-suc-le-zero h)
  the_first i (x ∷ xs) e k d h = go (f x) refl e k h (the_first (suc i) xs)
    where
      go : (c : Bool) → f x ≡ c → cond c (all (λ y. not (f y)) xs) (once xs) ≡ true → (j : ℕ) → j < suc (length xs)
          → (once xs ≡ true → (n : ℕ) (d₁ : X) → n < length xs → f (get_or xs n d₁) ≡ is_the (suc i + n) (first_from f (suc i) xs))
          → f (get_or (x ∷ xs) j d) ≡ is_the (i + j) (cond c (some i) (first_from f (suc i) xs))
      go true p g zero l ih = p ∙ sym (eq-eqb (i + 0) i (omega arith))
      go true p g (suc j) l ih = none_at xs g j d (le_of_suc-le-suc l) ∙ sym (ne_eqb (i + suc j) i (λ (q : i + suc j ≡ i). absurd (omega arith)))
      go false p g zero l ih = p ∙ sym (first_after (suc i) xs (i + 0) (omega arith))
      go false p g (suc j) l ih = ih g j d (le_of_suc-le-suc l) ∙ ap (λ (n : ℕ). is_the n (first_from f (suc i) xs)) (shift i j)

-- a write where one parameter passes a test, if one does
abbrev pub write_to : {Y : Type 0} → Option ℕ → Y → List Y → List Y
write_to none y ys = ys
write_to (some i) y ys = set ys i y

pub write_once : {X Y : Type 0} (f : X → Bool) (xs : List X) (d : X) → once f xs ≡ true → (h : ℕ → X → Y) (y : Y) → write_to (first_from f 0 xs) y (map_from h 0 xs) ≡ map_from (λ k x. cond (f x) y (h k x)) 0 xs
write_once {X} {Y} f xs d o h y = go (first_from f 0 xs) (λ k l. the_first f 0 xs o k d l ∙ ap (λ (n : ℕ). is_the n (first_from f 0 xs)) (zero-add k))
  where
    go : (i : Option ℕ) → ((k : ℕ) → k < length xs → f (get_or xs k d) ≡ is_the k i) → write_to i y (map_from h 0 xs) ≡ map_from (λ k x. cond (f x) y (h k x)) 0 xs
    go none e = map_from_same₀ h (λ k x. cond (f x) y (h k x)) d xs (λ k l. ap (λ (c : Bool). cond c y (h k (get_or xs k d))) (sym (e k l)))
    go (some i) e =
        set_map_from₀ h xs i y
        ∙ map_from_same₀ (λ k x. cond (eqb k i) y (h k x)) (λ k x. cond (f x) y (h k x)) d xs (λ k l. ap (λ (c : Bool). cond c y (h k (get_or xs k d))) (sym (e k l)))

-- ---- lists that the elements give, one after the other

module _ {X Y Z : Type 0} (test : X → Bool) (f : Z → List Y) (h : ℕ → X → Z) (ys : List Y) (gives : (k : ℕ) (x : X) → f (h k x) ≡ cond (test x) ys []) where
  flat_map_none : (i : ℕ) (xs : List X) → all (λ x. not (test x)) xs ≡ true → flat_map f (map_from h i xs) ≡ []
  unfolding flat_map
  flat_map_none i [] e = refl
  flat_map_none i (x ∷ xs) e =
      ap₂ (λ (us vs : List Y). us ++ vs)
      (gives i x ∙ ap (λ b. cond b ys []) (not_yes (test x) (and_left (not (test x)) (all (λ y. not (test y)) xs) e)))
      (flat_map_none (suc i) xs (and_right (not (test x)) (all (λ y. not (test y)) xs) e))

  -- where those that pass a test give `ys` and the others nothing, and one passes at most
  pub flat_map_once : (i : ℕ) (xs : List X) → once test xs ≡ true → flat_map f (map_from h i xs) ≡ cond (any test xs) ys []
  unfolding flat_map
  flat_map_once i [] e = refl
  flat_map_once i (x ∷ xs) e = ap (λ (us : List Y). us ++ flat_map f (map_from h (suc i) xs)) (gives i x) ∙ go (test x) e (flat_map_once (suc i) xs)
    where
      go : (c : Bool) → cond c (all (λ y. not (test y)) xs) (once test xs) ≡ true → (once test xs ≡ true → flat_map f (map_from h (suc i) xs) ≡ cond (any test xs) ys [])
          → cond c ys [] ++ flat_map f (map_from h (suc i) xs) ≡ cond (c || any test xs) ys []
      go true o ih = ap (λ (us : List Y). ys ++ us) (flat_map_none (suc i) xs o) ∙ append-nil ys
      go false o ih = ih o
