-- Tests and counts over a list.
use Rattle.std.specs.Prelude.{Bool, true, false, cond, ◌&&◌, ◌||◌, List, [], ◌∷◌, ℕ, zero, suc}
use Rattle.std.proofs.Math.Option.{Option, none, some}

abbrev pub all : {X : Type 0} → (X → Bool) → List X → Bool
all test [] = true
all test (x ∷ xs) = test x && all test xs

abbrev pub any : {X : Type 0} → (X → Bool) → List X → Bool
any test [] = false
any test (x ∷ xs) = test x || any test xs

-- how many pass the test
abbrev pub tally : {X : Type 0} → (X → Bool) → List X → ℕ
tally test [] = 0
tally test (x ∷ xs) = cond (test x) (suc (tally test xs)) (tally test xs)

-- those that pass the test, in their order
abbrev pub keep : {X : Type 0} → (X → Bool) → List X → List X
keep test [] = []
keep test (x ∷ xs) = cond (test x) (x ∷ keep test xs) (keep test xs)

-- the index of the first that passes the test, counted from `i`
abbrev pub first_from : {X : Type 0} → (X → Bool) → ℕ → List X → Option ℕ
first_from test i [] = none
first_from test i (x ∷ xs) = cond (test x) (some i) (first_from test (suc i) xs)

-- the first of `count` indices from k on that passes a test
abbrev pub first_index : (ℕ → Bool) → ℕ → ℕ → Option ℕ
first_index test k zero = none
first_index test k (suc count) = cond (test k) (some k) (first_index test (suc k) count)

-- every element passes the test at its index, counted from `i`
abbrev pub all_from : {X : Type 0} → (ℕ → X → Bool) → ℕ → List X → Bool
all_from test i [] = true
all_from test i (x ∷ xs) = test i x && all_from test (suc i) xs

-- some element passes the test at its index, counted from `i`
abbrev pub any_from : {X : Type 0} → (ℕ → X → Bool) → ℕ → List X → Bool
any_from test i [] = false
any_from test i (x ∷ xs) = test i x || any_from test (suc i) xs

-- each element mapped with its index, counted from `i`
abbrev pub map_from : {X Y : Type 0} → (ℕ → X → Y) → ℕ → List X → List Y
map_from f i [] = []
map_from f i (x ∷ xs) = f i x ∷ map_from f (suc i) xs
