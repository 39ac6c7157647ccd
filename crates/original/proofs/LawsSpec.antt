-- Laws of the list that the Rust has for some parameters: what its map of names has is what 01's lookup finds, it has an index of *args and
-- of **kwargs exactly where there is one, and no index in it is past the parameters.
-- Assumes nothing.
use mathlib.Core.Path.{◌≡◌, refl, sym, ap, ◌∙◌}
use mathlib.Core.Bool.{Bool, true, false, cond, ◌&&◌, ◌||◌}
use mathlib.Core.List.{List, [], ◌∷◌}
use mathlib.Core.Option.{Option, none, some}
use Prim.Native.Nat.{ℕ, suc, ◌+◌, ◌≤◌, ◌<◌}
use native.Mathlib.Nat.{zero-add}
use native.Mathlib.Omega.{arith}
use lib.Dec.{eqb}
use lib.ListN.{length, get_or}
use Rattle.rules.specs.Listing.{any, first_from}
use Rattle.rules.specs.Text.{same_bytes}
use Rattle.rules.specs.Parameters.{Parameter, optional, pos_only, nameable, positional_count, is_args, is_kwargs, args_index, kwargs_index, has_args, has_kwargs}
use Rattle.rules.specs.Lookup.{names, known, Finding, at, unknown, find_from, find}
use Rattle.rules.specs.Passed.{names_apart}
use Rattle.rules.proofs.LawsFound.{is_at, is_found, known_found, names_at}
use Rattle.rules.proofs.LawsShort.{tally_most}
use Rattle.original.specs.Spec.{is_some, Symbol, get, symbols_from}
use Rattle.original.proofs.TotalCollect.{no_text}

-- a parameter past the end of a list, where nothing is read
abbrev pub no_parameter : Parameter
no_parameter = record { kind = optional; style = pos_only; name = no_text }

-- ---- names

-- a finding of 01 as the Rust has it
abbrev pub index_found : Finding → Option ℕ
index_found (at i) = some i
index_found unknown = none

pub get_from : (i : ℕ) (qs : List Parameter) (b : List ℕ) → get (symbols_from i qs) b ≡ index_found (find_from i qs b)
unfolding names
get_from i [] b = refl
get_from i (q ∷ qs) b = go (nameable q) (get_from (suc i) qs b)
  where
    rest : List Symbol
    rest = symbols_from (suc i) qs

    here : (s : Bool) → get rest b ≡ index_found (find_from (suc i) qs b) → cond s (some i) (get rest b) ≡ index_found (cond s (at i) (find_from (suc i) qs b))
    here true e = refl
    here false e = e

    go : (n : Bool) → get rest b ≡ index_found (find_from (suc i) qs b)
        → get (cond n (record { bytes = q.name.bytes; index = i } ∷ rest) rest) b ≡ index_found (cond (n && same_bytes b q.name.bytes) (at i) (find_from (suc i) qs b))
    go true e = here (same_bytes b q.name.bytes) e
    go false e = e

-- the map of a list has what 01's lookup finds
pub get_find : (qs : List Parameter) (b : List ℕ) → get (symbols_from 0 qs) b ≡ index_found (find qs b)
unfolding find
get_find qs b = get_from 0 qs b

-- it has some index exactly for the names of parameters
pub get_known : (qs : List Parameter) (b : List ℕ) → is_some (get (symbols_from 0 qs) b) ≡ known qs b
unfolding find
get_known qs b = ap is_some (get_find qs b) ∙ go (find qs b) ∙ known_found qs b 0
  where
    go : (f : Finding) → is_some (index_found f) ≡ is_found f
    go (at i) = refl
    go unknown = refl

-- is this the index?
abbrev pub is_index : ℕ → Option ℕ → Bool
is_index k (some i) = eqb i k
is_index k none = false

-- where names differ, the parameter at an index is the one that the map has for the bytes of its name
pub get_at : (qs : List Parameter) (b : List ℕ) → names_apart [] qs ≡ true → (k : ℕ) (d : Parameter) → k < length qs → names b (get_or qs k d) ≡ is_index k (get (symbols_from 0 qs) b)
unfolding find
get_at qs b apart k d h = names_at [] 0 qs b apart k d h ∙ ap (λ n. is_at n (find qs b)) (zero-add k) ∙ go (find qs b) ∙ ap (is_index k) (sym (get_find qs b))
  where
    go : (f : Finding) → is_at k f ≡ is_index k (index_found f)
    go (at i) = refl
    go unknown = refl

-- an index that is found is below the number of parameters
abbrev pub Short : ℕ → Finding → Type 0
Short n (at k) = k < n
Short n unknown = Unit

pub found_short : (i : ℕ) (qs : List Parameter) (b : List ℕ) (n : ℕ) → i + length qs ≤ n → Short n (find_from i qs b)
found_short i [] b n h = tt
found_short i (q ∷ qs) b n h = go (names b q) (found_short (suc i) qs b n (omega arith))
  where
    go : (c : Bool) → Short n (find_from (suc i) qs b) → Short n (cond c (at i) (find_from (suc i) qs b))
    go true e = omega arith
    go false e = e

-- an index that the map has is that of a parameter
pub get_within : (qs : List Parameter) (b : List ℕ) (k : ℕ) → get (symbols_from 0 qs) b ≡ some k → k < length qs
unfolding find
get_within qs b k e = go (find qs b) (found_short 0 qs b (length qs) (omega arith)) (sym (get_find qs b) ∙ e)
  where
    go : (f : Finding) → Short (length qs) f → index_found f ≡ some k → k < length qs
    go (at i) h s = let same : i ≡ k = cc in omega arith
    go unknown h s = let z : ◌≡◌ {A = ℕ} 0 1 = cc in absurd (omega arith)

-- ---- counts and indices

-- no more parameters are positional than there are
pub positional_within : (qs : List Parameter) → positional_count qs ≤ length qs
unfolding positional_count
positional_within qs = tally_most qs

pub first_any : {X : Type 0} (f : X → Bool) (i : ℕ) (xs : List X) → is_some (first_from f i xs) ≡ any f xs
first_any f i [] = refl
first_any f i (x ∷ xs) = go (f x) (first_any f (suc i) xs)
  where
    go : (b : Bool) → is_some (first_from f (suc i) xs) ≡ any f xs → is_some (cond b (some i) (first_from f (suc i) xs)) ≡ (b || any f xs)
    go true e = refl
    go false e = e

pub args_some : (qs : List Parameter) → is_some (args_index qs) ≡ has_args qs
unfolding args_index has_args
args_some qs = first_any (λ q. is_args q.kind) 0 qs

pub kwargs_some : (qs : List Parameter) → is_some (kwargs_index qs) ≡ has_kwargs qs
unfolding kwargs_index has_kwargs
kwargs_some qs = first_any (λ q. is_kwargs q.kind) 0 qs
