-- Laws of the board that an accepted collection leaves: it has the cells that 01 gives to the Rust's slots and remainders, and the counts of
-- both remainders are the sizes of the Rust's tuple and dictionary. First one slot, then what 23 and 24 say of a remainder that has no parameter
-- to go to, then the board.
-- Assumes nothing.
use mathlib.Core.Path.{◌≡◌, refl, sym, ap, ap₂, ◌∙◌}
use mathlib.Core.Bool.{Bool, true, false, cond, not}
use mathlib.Core.List.{List, [], ◌∷◌, ◌++◌, map, flat_map}
use mathlib.Core.Option.{Option, none, some}
use Prim.Native.Nat.{ℕ, suc, ◌+◌}
use native.Mathlib.Omega.{arith}
use lib.ListN.{length, drop, get_or}
use Rattle.rules.specs.Listing.{all, tally, map_from}
use Rattle.rules.specs.Cells.{write_each, over}
use Rattle.rules.specs.Value.{Value, value_cells, no_value, call_text}
use Rattle.rules.specs.Answer.{Answer, fine, ◌then◌, Part}
use Rattle.rules.specs.CallRecord.{Call, Named, pair_cells, positionals_of, named_of}
use Rattle.rules.specs.Parameters.{Parameter, ParameterKind, required, optional, defaulted, args, kwargs, plain, is_args, is_kwargs, has_args, has_kwargs}
use Rattle.rules.specs.Lookup.{known}
use Rattle.rules.specs.Placement.{Slot, empty, taken, from_default, star_count, named_count, is_taken, is_defaulted, from_p, partner, otherwise, taken_or, slot_of, place, star_remainder, named_remainder, counts_of}
use Rattle.rules.specs.Board.{slot_cells, named_cells, written, board_after}
use Rattle.rules.specs.Binding.{ask_given, ask_required, ask_star_remainder, ask_named_remainder}
use Rattle.rules.specs.UnknownFirst.{placed_missing_first, binding_missing_first}
use Rattle.rules.proofs.LawsAnswer.{then_left, then_right, fine_refuse, given_then}
use Rattle.original.specs.Locals.{Held}
use Rattle.original.specs.Ending.{held_in}
use Rattle.original.specs.Whole.{rust_slot, tuple_in, dict_in, holds_value, rust_cells, rust_board, SameSlots}
use Rattle.original.proofs.LawsEnds.{reads_named, all_keep}
use Rattle.original.proofs.LawsSlots.{map_map_from, once, flat_map_once}
use Rattle.original.proofs.LawsRemainders.{unnamed, unplaced}

-- ---- a slot

module _ (P : List Value) (N : List Named) (stars : List Value) (named : List Named) where
  -- slot k by what P, N and the parameter's kind give it
  abbrev slot_by : ℕ → Bool → Option Value → ParameterKind → Slot
  slot_by k c o x = cond c (taken (get_or P k no_value)) (taken_or o (otherwise x (length stars) (length named)))

  -- slot k, of parameter q, in 01 and in the Rust
  abbrev slot_at : ℕ → Parameter → Slot
  slot_at k q = slot_of P N (length stars) (length named) k q

  abbrev held_at : ℕ → Parameter → Option Held
  held_at k q = held_in stars named (slot_at k q)

  slot_cells_lem : (k : ℕ) (q : Parameter) → rust_slot (held_at k q) ≡ slot_cells (slot_at k q)
  unfolding slot_of slot_cells value_cells no_value
  slot_cells_lem k q = go (from_p P k q) (partner q N) q.kind
    where
      go : (c : Bool) (o : Option Value) (x : ParameterKind) → rust_slot (held_in stars named (slot_by k c o x)) ≡ slot_cells (slot_by k c o x)
      go true o x = refl
      go false (some v) x = refl
      go false none required = refl
      go false none optional = refl
      go false none (defaulted v) = refl
      go false none args = refl
      go false none kwargs = refl

  all_cells : (i : ℕ) (qs : List Parameter) → write_each rust_slot (map_from held_at i qs) ≡ write_each slot_cells (map_from slot_at i qs)
  all_cells i [] = refl
  all_cells i (q ∷ qs) = ap₂ (λ (xs ys : List ℕ). xs ++ ys) (slot_cells_lem i q) (all_cells (suc i) qs)

  -- *args alone has the tuple, and **kwargs alone the dictionary
  slot_holds : (k : ℕ) (q : Parameter) → (tuple_in (held_at k q) ≡ cond (is_args q.kind) stars []) × (dict_in (held_at k q) ≡ cond (is_kwargs q.kind) named [])
  unfolding slot_of
  slot_holds k q = go q.kind refl
    where
      Neither : Slot → Type 0
      Neither s = (tuple_in (held_in stars named s) ≡ []) × (dict_in (held_in stars named s) ≡ [])

      given : (c : Bool) (o : Option Value) (s : Slot) → Neither s → Neither (cond c (taken (get_or P k no_value)) (taken_or o s))
      given true o s e = (refl, refl)
      given false (some v) s e = (refl, refl)
      given false none s e = e

      slot : ParameterKind → Option Held
      slot x = held_in stars named (slot_by k (from_p P k q) (partner q N) x)

      go : (x : ParameterKind) → q.kind ≡ x → (tuple_in (slot x) ≡ cond (is_args x) stars []) × (dict_in (slot x) ≡ cond (is_kwargs x) named [])
      go required p = given (from_p P k q) (partner q N) empty (refl, refl)
      go optional p = given (from_p P k q) (partner q N) empty (refl, refl)
      go (defaulted v) p = given (from_p P k q) (partner q N) (from_default v) (refl, refl)
      go args p = rw (unplaced q P k (ap plain p), unnamed q N (ap plain p)) (refl, refl)
      go kwargs p = rw (unplaced q P k (ap plain p), unnamed q N (ap plain p)) (refl, refl)

-- the Rust has a value where 01 has one of the call or a default
values_held : (stars : List Value) (named : List Named) (ss : List Slot) → tally is_taken ss + tally is_defaulted ss ≡ tally holds_value (map (held_in stars named) ss)
values_held stars named [] = refl
values_held stars named (s ∷ ss) = go s (values_held stars named ss)
  where
    go : (s₁ : Slot) → tally is_taken ss + tally is_defaulted ss ≡ tally holds_value (map (held_in stars named) ss)
        → tally is_taken (s₁ ∷ ss) + tally is_defaulted (s₁ ∷ ss) ≡ tally holds_value (map (held_in stars named) (s₁ ∷ ss))
    go empty e = e
    go (taken v) e = omega arith
    go (from_default v) e = omega arith
    go (star_count n) e = e
    go (named_count n) e = e

-- ---- what 23 and 24 let pass

star_fine : (b : Bool) (vs : List Value) → ask_star_remainder b vs ≡ fine → cond b vs [] ≡ vs
star_fine true vs e = refl
star_fine false [] e = refl
star_fine false (v ∷ vs) e = fine_refuse (sym e)

named_fine : (b : Bool) (vs : List Named) → ask_named_remainder b vs ≡ fine → cond b vs [] ≡ vs
named_fine true vs e = refl
named_fine false [] e = refl
named_fine false (v ∷ vs) e = fine_refuse (sym e)

pub placed_fine : (qs : List Parameter) (c : Call) → binding_missing_first qs c ≡ fine → placed_missing_first qs (positionals_of c) (named_of c) ≡ fine
unfolding binding_missing_first
placed_fine qs c e =
    let placed : Answer = placed_missing_first qs (positionals_of c) (named_of c) in
    then_right (ask_given qs c fine) placed (sym (given_then qs c placed) ∙ e)

-- ---- the board

module _ (qs : List Parameter) (P : List Value) (N : List Named) (board : List ℕ) where
  abbrev stars : List Value
  stars = star_remainder qs P

  abbrev named : List Named
  named = named_remainder qs N

  abbrev slots : List (Option Held)
  slots = map (held_in stars named) (place qs P N)

  slots_from : slots ≡ map_from (held_at P N stars named) 0 qs
  unfolding place
  slots_from = map_map_from (held_in stars named) (slot_at P N stars named) 0 qs

  module _ (one_args : once (λ q. is_args q.kind) qs ≡ true) (one_kwargs : once (λ q. is_kwargs q.kind) qs ≡ true) (placed : placed_missing_first qs P N ≡ fine) where
    remainders_fine : (ask_star_remainder (has_args qs) stars then ask_named_remainder (has_kwargs qs) named) ≡ fine
    unfolding placed_missing_first
    remainders_fine = then_right (ask_required qs (place qs P N)) (ask_star_remainder (has_args qs) stars then ask_named_remainder (has_kwargs qs) named) placed

    tuple_held : flat_map tuple_in slots ≡ stars
    unfolding has_args
    tuple_held =
        ap (flat_map tuple_in) slots_from
        ∙ flat_map_once (λ q. is_args q.kind) tuple_in (held_at P N stars named) stars (λ k q. (slot_holds P N stars named k q).0) 0 qs one_args
        ∙ star_fine (has_args qs) stars (then_left (ask_star_remainder (has_args qs) stars) (ask_named_remainder (has_kwargs qs) named) remainders_fine)

    dict_held : flat_map dict_in slots ≡ named
    unfolding has_kwargs
    dict_held =
        ap (flat_map dict_in) slots_from
        ∙ flat_map_once (λ q. is_kwargs q.kind) dict_in (held_at P N stars named) named (λ k q. (slot_holds P N stars named k q).1) 0 qs one_kwargs
        ∙ named_fine (has_kwargs qs) named (then_right (ask_star_remainder (has_args qs) stars) (ask_named_remainder (has_kwargs qs) named) remainders_fine)

    cells_held : rust_cells slots ≡ written qs P N
    unfolding rust_cells written place named_cells pair_cells value_cells call_text
    cells_held =
        ap₂ (λ (xs ys : List ℕ). xs ++ ys) (ap (write_each rust_slot) slots_from ∙ all_cells P N stars named 0 qs)
        (ap₂ (λ (vs : List Value) (ms : List Named). write_each value_cells vs ++ write_each named_cells ms) tuple_held dict_held)

    -- where the names stand in the call area
    pub board_same : (read : Part → List ℕ) → all (reads_named read) N ≡ true → SameSlots read slots board (counts_of qs P N) (board_after qs P N board)
    unfolding rust_board board_after over counts_of named_remainder
    board_same read r =
        record {
          cells = ap (λ (cs : List ℕ). cs ++ drop (length cs) board) (sym cells_held);
          star = ap length (sym tuple_held);
          named = ap length (sym dict_held);
          values = values_held stars named (place qs P N);
          names = ap (all (reads_named read)) dict_held ∙ all_keep (reads_named read) (λ v. not (known qs v.name.bytes)) N r;
        }
