-- Placement (01, collector and can-fill; Starlark specification, functions and calls; Python's reference, function definitions, for /): which
-- value each parameter's slot holds, and what is left over.
-- 01's own terms defined here: star remainder, named remainder, taken, defaulted.
use Rattle.std.specs.Prelude.{Bool, true, false, cond, not, ◌&&◌, List, [], ◌∷◌, ℕ, ltb, length, drop, get_or}
use Rattle.std.proofs.Math.Option.{Option, none, some}
use Rattle.rules.specs.Listing.{tally, keep, map_from}
use Rattle.rules.specs.Value.{Value, no_value}
use Rattle.rules.specs.CallRecord.{Named}
use Rattle.rules.specs.Parameters.{Parameter, ParameterKind, required, optional, defaulted, args, kwargs, positional, positional_count}
use Rattle.rules.specs.Lookup.{names, known}

-- what a parameter's slot holds: nothing, a value of P or N, the parameter's default, or a remainder's count (01, board)
pub data Slot : Type 0 where
  empty : Slot
  taken : Value → Slot
  from_default : Value → Slot
  star_count : ℕ → Slot
  named_count : ℕ → Slot

-- the star remainder: what is left of P when each positional parameter has had one (Starlark specification, functions: *args)
unfoldable pub star_remainder : List Parameter → List Value → List Value
star_remainder qs P = drop (positional_count qs) P

-- the named remainder: what N gives to names of no parameter, in N's order (Starlark specification, functions: **kwargs)
unfoldable pub named_remainder : List Parameter → List Named → List Named
named_remainder qs N = keep (λ v. not (known qs v.name.bytes)) N

-- is slot i, of parameter q, filled from P? Positional parameters come first, so the i-th of them takes the i-th value (Starlark
-- specification, calls: positional arguments)
unfoldable pub from_p : List Value → ℕ → Parameter → Bool
from_p P i q = positional q && ltb i (length P)

-- what N gives to a parameter by its name (Starlark specification, calls: named arguments; Python's reference, function definitions: a
-- parameter before / has no name here)
abbrev pub partner : Parameter → List Named → Option Value
partner q [] = none
partner q (v ∷ vs) = cond (names v.name.bytes q) (some v.value) (partner q vs)

-- what a slot holds that is given nothing: its default, if it has one (Starlark specification, functions: defaults); the remainders' counts
-- rest on 01's board
abbrev pub otherwise : ParameterKind → ℕ → ℕ → Slot
otherwise required stars named = empty
otherwise optional stars named = empty
otherwise (defaulted v) stars named = from_default v
otherwise args stars named = star_count stars
otherwise kwargs stars named = named_count named

abbrev pub taken_or : Option Value → Slot → Slot
taken_or (some v) s = taken v
taken_or none s = s

-- slot i, of parameter q, where the remainders have `stars` and `named` elements
unfoldable pub slot_of : List Value → List Named → ℕ → ℕ → ℕ → Parameter → Slot
slot_of P N stars named i q =
    cond (from_p P i q) (taken (get_or P i no_value)) (taken_or (partner q N) (otherwise q.kind stars named))

-- the slots of a list, one a parameter, in their order
unfoldable pub place : List Parameter → List Value → List Named → List Slot
place qs P N = map_from (slot_of P N (length (star_remainder qs P)) (length (named_remainder qs N))) 0 qs

abbrev pub is_taken : Slot → Bool
is_taken empty = false
is_taken (taken v) = true
is_taken (from_default v) = false
is_taken (star_count n) = false
is_taken (named_count n) = false

abbrev pub is_defaulted : Slot → Bool
is_defaulted empty = false
is_defaulted (taken v) = false
is_defaulted (from_default v) = true
is_defaulted (star_count n) = false
is_defaulted (named_count n) = false

abbrev pub is_unfilled : Slot → Bool
is_unfilled empty = true
is_unfilled (taken v) = false
is_unfilled (from_default v) = false
is_unfilled (star_count n) = false
is_unfilled (named_count n) = false

-- the four counts that an accepted collection hands back; they rest on 01 alone
pub record Counts : Type 0 where
  pub taken : ℕ
  pub defaulted : ℕ
  pub star : ℕ
  pub named : ℕ

-- counted over the slots: how many hold a value of the call, how many a default; and the remainders' lengths
unfoldable pub counts_of : List Parameter → List Value → List Named → Counts
counts_of qs P N =
    record {
      taken = tally is_taken (place qs P N);
      defaulted = tally is_defaulted (place qs P N);
      star = length (star_remainder qs P);
      named = length (named_remainder qs N);
    }
