-- Laws of tests and counts over lists: what a conjunction of tests gives; `all`, `any`, `tally` and `keep` of a front, a rest, two lists
-- joined and a mapped list; tests that agree at every element.
-- Assumes nothing.
use mathlib.Core.Path.{◌≡◌, refl, sym, ap, ap₂}
use mathlib.Core.Bool.{Bool, true, false, cond, not, ◌&&◌, ◌||◌, false≢true, true≢false}
use mathlib.Core.List.{List, [], ◌∷◌, ◌++◌, map}
use Prim.Native.Nat.{ℕ, zero, suc, ◌+◌}
use native.Mathlib.Omega.{arith}
use lib.ListN.{length, take, drop}
use Rattle.rules.specs.Listing.{all, any, tally, keep, any_from}

-- ---- one test

pub and_left : (a b : Bool) → (a && b) ≡ true → a ≡ true
and_left true b e = refl
and_left false b e = e

pub and_right : (a b : Bool) → (a && b) ≡ true → b ≡ true
and_right true b e = e
and_right false b e = absurd (false≢true e)

pub and_both : (a b : Bool) → a ≡ true → b ≡ true → (a && b) ≡ true
and_both true b p q = q
and_both false b p q = p

pub and_no_left : (a b : Bool) → a ≡ false → (a && b) ≡ false
and_no_left true b e = absurd (true≢false e)
and_no_left false b e = refl

pub and_no_right : (a b : Bool) → b ≡ false → (a && b) ≡ false
and_no_right true b e = e
and_no_right false b e = refl

pub or_left : (a b : Bool) → (a || b) ≡ false → a ≡ false
or_left true b e = e
or_left false b e = refl

pub or_right : (a b : Bool) → (a || b) ≡ false → b ≡ false
or_right true b e = absurd (true≢false e)
or_right false b e = e

pub or_neither : (a b : Bool) → a ≡ false → b ≡ false → (a || b) ≡ false
or_neither true b p q = p
or_neither false b p q = q

pub not_yes : (a : Bool) → not a ≡ true → a ≡ false
not_yes true e = absurd (false≢true e)
not_yes false e = refl

pub not_of : (a : Bool) → a ≡ false → not a ≡ true
not_of true e = absurd (true≢false e)
not_of false e = refl

-- two tests are equal when each follows from the other
pub same_test : (a b : Bool) → (a ≡ true → b ≡ true) → (b ≡ true → a ≡ true) → a ≡ b
same_test true b f g = sym (f refl)
same_test false true f g = g refl
same_test false false f g = refl

-- ---- lists of tests

module _ {X : Type 0} (f : X → Bool) where
  pub all_take : (n : ℕ) (xs : List X) → all f xs ≡ true → all f (take n xs) ≡ true
  all_take zero xs e = refl
  all_take (suc n) [] e = refl
  all_take (suc n) (x ∷ xs) e = and_both (f x) (all f (take n xs)) (and_left (f x) (all f xs) e) (all_take n xs (and_right (f x) (all f xs) e))

  pub all_drop : (n : ℕ) (xs : List X) → all f xs ≡ true → all f (drop n xs) ≡ true
  all_drop zero xs e = e
  all_drop (suc n) [] e = refl
  all_drop (suc n) (x ∷ xs) e = all_drop n xs (and_right (f x) (all f xs) e)

  pub all_append : (xs ys : List X) → all f xs ≡ true → all f ys ≡ true → all f (xs ++ ys) ≡ true
  all_append [] ys p q = q
  all_append (x ∷ xs) ys p q = and_both (f x) (all f (xs ++ ys)) (and_left (f x) (all f xs) p) (all_append xs ys (and_right (f x) (all f xs) p) q)

  pub any_append : (xs ys : List X) → any f (xs ++ ys) ≡ (any f xs || any f ys)
  any_append [] ys = refl
  any_append (x ∷ xs) ys = go (f x) (any_append xs ys)
    where
      go : (b : Bool) → any f (xs ++ ys) ≡ (any f xs || any f ys) → (b || any f (xs ++ ys)) ≡ (b || any f xs || any f ys)
      go true e = refl
      go false e = e

  pub tally_append : (xs ys : List X) → tally f (xs ++ ys) ≡ tally f xs + tally f ys
  tally_append [] ys = omega arith
  tally_append (x ∷ xs) ys = go (f x) (tally_append xs ys)
    where
      go : (b : Bool) → tally f (xs ++ ys) ≡ tally f xs + tally f ys
          → cond b (suc (tally f (xs ++ ys))) (tally f (xs ++ ys)) ≡ cond b (suc (tally f xs)) (tally f xs) + tally f ys
      go true e = omega arith
      go false e = e

  -- those that pass and those that are kept for not passing are all there are
  pub tally_keep : (xs : List X) → length xs ≡ tally f xs + length (keep (λ x. not (f x)) xs)
  tally_keep [] = refl
  tally_keep (x ∷ xs) = go (f x) (tally_keep xs)
    where
      go : (b : Bool) → length xs ≡ tally f xs + length (keep (λ y. not (f y)) xs)
          → suc (length xs) ≡ cond b (suc (tally f xs)) (tally f xs) + length (cond (not b) (x ∷ keep (λ y. not (f y)) xs) (keep (λ y. not (f y)) xs))
      go true e = omega arith
      go false e = omega arith

  pub all_behind : (xs ys : List X) → all f (xs ++ ys) ≡ true → all f ys ≡ true
  all_behind [] ys e = e
  all_behind (x ∷ xs) ys e = all_behind xs ys (and_right (f x) (all f (xs ++ ys)) e)

  pub all_keep : (g : X → Bool) (xs : List X) → all f xs ≡ true → all f (keep g xs) ≡ true
  all_keep g [] e = refl
  all_keep g (x ∷ xs) e = go (g x) (all_keep g xs (and_right (f x) (all f xs) e))
    where
      go : (b : Bool) → all f (keep g xs) ≡ true → all f (cond b (x ∷ keep g xs) (keep g xs)) ≡ true
      go true r = and_both (f x) (all f (keep g xs)) (and_left (f x) (all f xs) e) r
      go false r = r

  -- one passes where another implies it
  pub all_imp : (g : X → Bool) → ((x : X) → f x ≡ true → g x ≡ true) → (xs : List X) → all f xs ≡ true → all g xs ≡ true
  all_imp g h [] e = refl
  all_imp g h (x ∷ xs) e = and_both (g x) (all g xs) (h x (and_left (f x) (all f xs) e)) (all_imp g h xs (and_right (f x) (all f xs) e))

  -- nothing is kept exactly where nothing passes
  pub keep_some : (xs : List X) → any f xs ≡ true → keep f xs ≡ [] → ⊥
  keep_some [] e none = false≢true e
  keep_some (x ∷ xs) e none = go (f x) e none (keep_some xs)
    where
      go : (b : Bool) → (b || any f xs) ≡ true → cond b (x ∷ keep f xs) (keep f xs) ≡ [] → (any f xs ≡ true → keep f xs ≡ [] → ⊥) → ⊥
      go true p q ih = let z : suc (length (keep f xs)) ≡ 0 = ap length q in omega arith
      go false p q ih = ih p q

  pub keep_all : (xs : List X) → all f xs ≡ true → keep (λ x. not (f x)) xs ≡ []
  keep_all [] e = refl
  keep_all (x ∷ xs) e = go (f x) (and_left (f x) (all f xs) e) (keep_all xs (and_right (f x) (all f xs) e))
    where
      go : (b : Bool) → b ≡ true → keep (λ y. not (f y)) xs ≡ [] → cond (not b) (x ∷ keep (λ y. not (f y)) xs) (keep (λ y. not (f y)) xs) ≡ []
      go true p e₁ = e₁
      go false p e₁ = absurd (false≢true p)

module _ {X Y : Type 0} (g : X → Y) where
  pub all_map : (f : Y → Bool) (xs : List X) → all f (map g xs) ≡ all (λ x. f (g x)) xs
  all_map f [] = refl
  all_map f (x ∷ xs) = ap (λ b. f (g x) && b) (all_map f xs)

  pub any_map : (f : Y → Bool) (xs : List X) → any f (map g xs) ≡ any (λ x. f (g x)) xs
  any_map f [] = refl
  any_map f (x ∷ xs) = ap (λ b. f (g x) || b) (any_map f xs)

  pub tally_map : (f : Y → Bool) (xs : List X) → tally f (map g xs) ≡ tally (λ x. f (g x)) xs
  tally_map f [] = refl
  tally_map f (x ∷ xs) = ap (λ n. cond (f (g x)) (suc n) n) (tally_map f xs)

  pub map_take : (n : ℕ) (xs : List X) → map g (take n xs) ≡ take n (map g xs)
  map_take zero xs = refl
  map_take (suc n) [] = refl
  map_take (suc n) (x ∷ xs) = ap {B = List Y} (λ r. g x ∷ r) (map_take n xs)

  pub map_drop : (n : ℕ) (xs : List X) → map g (drop n xs) ≡ drop n (map g xs)
  map_drop zero xs = refl
  map_drop (suc n) [] = refl
  map_drop (suc n) (x ∷ xs) = map_drop n xs

  pub map_append : (xs ys : List X) → map g (xs ++ ys) ≡ map g xs ++ map g ys
  map_append [] ys = refl
  map_append (x ∷ xs) ys = ap {B = List Y} (λ r. g x ∷ r) (map_append xs ys)

  -- two maps that agree on the elements that pass a test
  pub map_where : (h : X → Y) (f : X → Bool) → ((x : X) → f x ≡ true → g x ≡ h x) → (xs : List X) → all f xs ≡ true → map g xs ≡ map h xs
  map_where h f e [] a = refl
  map_where h f e (x ∷ xs) a =
      ap₂ {C = List Y} (λ u r. u ∷ r) (e x (and_left (f x) (all f xs) a)) (map_where h f e xs (and_right (f x) (all f xs) a))

pub map_map : {X Y Z : Type 0} (g : X → Y) (h : Y → Z) (xs : List X) → map h (map g xs) ≡ map (λ x. h (g x)) xs
map_map g h [] = refl
map_map {Z = Z} g h (x ∷ xs) = ap {B = List Z} (λ r. h (g x) ∷ r) (map_map g h xs)

-- ---- tests at an index

module _ {X : Type 0} where
  pub any_from_same : (f g : ℕ → X → Bool) → ((i : ℕ) (x : X) → f i x ≡ g i x) → (i : ℕ) (xs : List X) → any_from f i xs ≡ any_from g i xs
  any_from_same f g e i [] = refl
  any_from_same f g e i (x ∷ xs) = ap₂ (λ a b. a || b) (e i x) (any_from_same f g e (suc i) xs)

  pub any_from_none : (f : ℕ → X → Bool) → ((i : ℕ) (x : X) → f i x ≡ false) → (i : ℕ) (xs : List X) → any_from f i xs ≡ false
  any_from_none f e i [] = refl
  any_from_none f e i (x ∷ xs) = or_neither (f i x) (any_from f (suc i) xs) (e i x) (any_from_none f e (suc i) xs)

  -- a disjunction inside is a disjunction outside
  pub any_from_or : (f g : ℕ → X → Bool) (i : ℕ) (xs : List X) → any_from (λ k x. f k x || g k x) i xs ≡ (any_from f i xs || any_from g i xs)
  any_from_or f g i [] = refl
  any_from_or f g i (x ∷ xs) = go (f i x) (g i x) (any_from f (suc i) xs) (any_from g (suc i) xs) (any_from_or f g (suc i) xs)
    where
      go : (a b c d : Bool) {r : Bool} → r ≡ (c || d) → (a || b || r) ≡ (a || c || (b || d))
      go true b c d e = refl
      go false true true d e = refl
      go false true false d e = refl
      go false false c d e = e
