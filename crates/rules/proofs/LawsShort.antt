-- Laws of the short path: as many values as there are parameters, all of them positional, and nothing else given. Nothing is refused, and the
-- slots are the values.
-- Assumes nothing.
use mathlib.Core.Path.{◌≡◌, refl, sym, ap, ap₂, ◌∙◌}
use mathlib.Core.Bool.{Bool, true, false, cond, ◌&&◌, false≢true}
use mathlib.Core.List.{List, [], ◌∷◌, ◌++◌, map, append-nil}
use Prim.Native.Nat.{ℕ, suc, ◌+◌, ◌≤◌}
use native.Mathlib.Omega.{arith}
use borrow.Author.Tests.{lt-ltb}
use lib.ListN.{length, drop, get_or, drop_of_length-le}
use lib.Seq.{drop-cons}
use Rattle.rules.specs.Listing.{all, tally, map_from}
use Rattle.rules.specs.Cells.{write_each}
use Rattle.rules.specs.Value.{Value, value_cells, no_value}
use Rattle.rules.specs.Answer.{fine, refuse, ◌then◌, name, part_of, spec_area}
use Rattle.rules.specs.CallRecord.{Named, Call, no_star, no_double, positionals_of, named_of}
use Rattle.rules.specs.Parameters.{Parameter, is_required, positional, positional_count, has_args, has_kwargs}
use Rattle.rules.specs.Placement.{Slot, taken, is_taken, is_defaulted, from_p, slot_of, place, star_remainder, named_remainder, counts_of}
use Rattle.rules.specs.Board.{slot_cells, written}
use Rattle.rules.specs.Binding.{named_by, missing, ask_repeats, ask_required, ask_star_remainder, ask_named_remainder, ask_placed, ask_binding}

-- ---- every parameter is positional

pub tally_most : (qs : List Parameter) → tally positional qs ≤ length qs
tally_most [] = omega arith
tally_most (q ∷ qs) = go (positional q) (tally_most qs)
  where
    go : (b : Bool) → tally positional qs ≤ length qs → cond b (suc (tally positional qs)) (tally positional qs) ≤ suc (length qs)
    go true h = omega arith
    go false h = omega arith

pub all_positional : (qs : List Parameter) → tally positional qs ≡ length qs → all positional qs ≡ true
all_positional [] e = refl
all_positional (q ∷ qs) e = go (positional q) e (all_positional qs)
  where
    go : (b : Bool) → cond b (suc (tally positional qs)) (tally positional qs) ≡ suc (length qs) → (tally positional qs ≡ length qs → all positional qs ≡ true) → (b && all positional qs) ≡ true
    go true f ih = ih (omega arith)
    go false f ih = absurd (omega (arith, tally_most qs))

-- ---- the slots are the values

pub slots_short : (P : List Value) (N : List Named) (a b i : ℕ) (qs : List Parameter) → all positional qs ≡ true → length qs + i ≡ length P → map_from (slot_of P N a b) i qs ≡ map taken (drop i P)
unfolding slot_of from_p
slots_short P N a b i [] e l = sym (ap (map taken) (drop_of_length-le P {i = i} (omega arith)))
slots_short P N a b i (q ∷ qs) e l =
    ap₂ {C = List Slot} (λ s ss. s ∷ ss) here (slots_short P N a b (suc i) qs (rest (positional q) e) (omega arith))
    ∙ sym (ap (map taken) (drop-cons P i no_value (omega arith)))
  where
    rest : (x : Bool) → (x && all positional qs) ≡ true → all positional qs ≡ true
    rest true f = f
    rest false f = absurd (false≢true f)

    first : (x : Bool) → (x && all positional qs) ≡ true → x ≡ true
    first true f = refl
    first false f = f

    here : slot_of P N a b i q ≡ taken (get_or P i no_value)
    here = rw (first (positional q) e, lt-ltb i (length P) (omega arith))

pub taken_cells : (vs : List Value) → write_each slot_cells (map taken vs) ≡ write_each value_cells vs
unfolding slot_cells
taken_cells [] = refl
taken_cells (v ∷ vs) = ap (λ r. value_cells v ++ r) (taken_cells vs)

pub all_taken : (vs : List Value) → tally is_taken (map taken vs) ≡ length vs
all_taken [] = refl
all_taken (v ∷ vs) = ap suc (all_taken vs)

pub none_defaulted : (vs : List Value) → tally is_defaulted (map taken vs) ≡ 0
none_defaulted [] = refl
none_defaulted (v ∷ vs) = none_defaulted vs

-- no name is written, so none repeats
repeats_none : (P : List Value) (i : ℕ) (qs : List Parameter) → ask_repeats P [] i qs ≡ fine
unfolding named_by
repeats_none P i [] = refl
repeats_none P i (q ∷ qs) = go (from_p P i q) (repeats_none P (suc i) qs)
  where
    go : (b : Bool) → ask_repeats P [] (suc i) qs ≡ fine → cond (b && false) (refuse 16 (name (part_of spec_area q.name))) (ask_repeats P [] (suc i) qs) ≡ fine
    go true e = e
    go false e = e

-- a slot that is taken is not empty
pub required_taken : (qs : List Parameter) (vs : List Value) → ask_required qs (map taken vs) ≡ fine
required_taken [] vs = refl
required_taken (q ∷ qs) [] = refl
required_taken (q ∷ qs) (v ∷ vs) = go (is_required q.kind) (required_taken qs vs)
  where
    go : (b : Bool) → ask_required qs (map taken vs) ≡ fine → cond (b && false) (refuse (missing q.style) (name (part_of spec_area q.name))) (ask_required qs (map taken vs)) ≡ fine
    go true e = e
    go false e = e

module _ (qs : List Parameter) (P : List Value) (all_of : positional_count qs ≡ length qs) (just : length P ≡ length qs) where
  pub place_short : place qs P [] ≡ map taken P
  unfolding place positional_count
  place_short = slots_short P [] (length (star_remainder qs P)) (length (named_remainder qs [])) 0 qs (all_positional qs all_of) (omega arith)

  star_short : star_remainder qs P ≡ []
  unfolding star_remainder
  star_short = drop_of_length-le P {i = positional_count qs} (omega arith)

  -- ---- the counts and the board

  pub counts_short : counts_of qs P [] ≡ record { taken = length P; defaulted = 0; star = 0; named = 0 }
  unfolding counts_of named_remainder
  counts_short = rw (place_short, star_short, all_taken P, none_defaulted P)

  pub written_short : written qs P [] ≡ write_each value_cells P
  unfolding written named_remainder
  written_short = rw (place_short, star_short) (append-nil (write_each slot_cells (map taken P)) ∙ taken_cells P)

  -- ---- nothing is refused

  placed_short : ask_placed qs P [] ≡ fine
  unfolding ask_placed named_remainder
  placed_short = rw (place_short, star_short, required_taken qs P) (rests (has_args qs) (has_kwargs qs))
    where
      rests : (a b : Bool) → (ask_named_remainder b [] then ask_star_remainder a []) ≡ fine
      rests true true = refl
      rests true false = refl
      rests false true = refl
      rests false false = refl

  pub binding_short : (c : Call) → c.positionals ≡ P → c.named ≡ [] → c.star ≡ no_star → c.double ≡ no_double → ask_binding qs c ≡ fine
  unfolding ask_binding positionals_of named_of
  binding_short c positionals named star double = rw (star, double, positionals, named, append-nil P, repeats_none P 0 qs) placed_short
