-- What keeps the Rust's indices inside: of a list that its builder finishes, what the map of names finds, the places of *args and **kwargs and
-- the number of positional parameters are within the parameters, and there are as many names. The other indices are tested by the Rust itself,
-- against `num_positional` (699, 738, 748, 858) or `kinds.len()` (793). And what a read and a store inside give.
-- Assumes nothing.
use mathlib.Core.Path.{◌≡◌, refl, sym, ap, ◌∙◌}
use mathlib.Core.Bool.{Bool, true, false, cond}
use mathlib.Core.List.{List, [], ◌∷◌, map}
use mathlib.Core.Option.{Option, none, some}
use Prim.Native.Nat.{ℕ, zero, suc, ◌+◌, ◌≤◌, ◌<◌}
use native.Mathlib.Nat.{le_of_suc-le-suc, not-suc-le-zero}
use native.Mathlib.Omega.{arith}
use lib.ListN.{length, get_or, set, length-map}
use Rattle.rules.specs.Listing.{first_from}
use Rattle.rules.specs.Parameters.{Parameter, is_args, is_kwargs, args_index, kwargs_index}
use Rattle.original.specs.Spec.{ParametersSpec, get, symbols_from, spec_of}
use Rattle.original.specs.Builder.{next, name_in_rust, finished_of}
use Rattle.original.specs.Slices.{read_at, store_at}
use Rattle.original.proofs.LawsSpec.{get_within, positional_within}

-- ---- inside

pub read_inside : {X : Type 0} (xs : List X) (i : ℕ) (d : X) → i < length xs → read_at xs i ≡ some (get_or xs i d)
read_inside [] i d h = absurd (not-suc-le-zero h)
read_inside (x ∷ xs) zero d h = refl
read_inside (x ∷ xs) (suc i) d h = read_inside xs i d (le_of_suc-le-suc h)

pub store_inside : {X : Type 0} (xs : List X) (i : ℕ) (y : X) → i < length xs → store_at xs i y ≡ some (set xs i y)
store_inside [] i y h = absurd (not-suc-le-zero h)
store_inside (x ∷ xs) zero y h = refl
store_inside (x ∷ xs) (suc i) y h = ap (λ o. next o (λ after. some (x ∷ after))) (store_inside xs i y (le_of_suc-le-suc h))

-- ---- a list whose indices lie inside

-- an index, if there is one, below n
abbrev pub Below : ℕ → Option ℕ → Type 0
Below n none = Unit
Below n (some i) = i < n

pub record Inside (spec : ParametersSpec) : Type 0 where
  pub found_below : (b : List ℕ) → Below (length spec.param_kinds) (get spec.names b)
  pub args_below : Below (length spec.param_kinds) spec.args
  pub kwargs_below : Below (length spec.param_kinds) spec.kwargs
  pub positional_below : spec.num_positional ≤ length spec.param_kinds
  pub all_named : length spec.param_names ≡ length spec.param_kinds

first_below : (f : Parameter → Bool) (i : ℕ) (qs : List Parameter) (n : ℕ) → i + length qs ≤ n → Below n (first_from f i qs)
first_below f i [] n h = tt
first_below f i (q ∷ qs) n h = go (f q) (first_below f (suc i) qs n (omega arith))
  where
    go : (c : Bool) → Below n (first_from f (suc i) qs) → Below n (cond c (some i) (first_from f (suc i) qs))
    go true e = omega arith
    go false e = e

module _ (qs : List Parameter) where
  pub kinds_all : length (spec_of qs).param_kinds ≡ length qs
  unfolding spec_of
  kinds_all = length-map qs (λ q. q.kind)

  -- the list that the builder finishes is one
  pub finished_inside : Inside (finished_of qs)
  unfolding finished_of spec_of args_index kwargs_index
  finished_inside =
      record {
        found_below = λ b. go (get (symbols_from 0 qs) b) (get_within qs b);
        args_below = first_below (λ q. is_args q.kind) 0 qs (length (map (λ q. q.kind) qs)) (omega (arith, many));
        kwargs_below = first_below (λ q. is_kwargs q.kind) 0 qs (length (map (λ q. q.kind) qs)) (omega (arith, many));
        positional_below = omega (arith, many, positional_within qs);
        all_named = length-map qs name_in_rust ∙ sym many;
      }
    where
      many : length (map (λ q. q.kind) qs) ≡ length qs
      many = length-map qs (λ q. q.kind)

      go : (o : Option ℕ) → ((k : ℕ) → o ≡ some k → k < length qs) → Below (length (map (λ q. q.kind) qs)) o
      go none f = tt
      go (some k) f = omega (arith, many, f k refl)
