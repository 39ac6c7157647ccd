-- The Rust's can-fill answers as 01's definition says, for every list that passes 1 to 7, any number of positionals and any names; and so
-- does can-fill of two records.
-- Assumes nothing.
use mathlib.Core.Path.{◌≡◌, refl, sym, ap, ap₂, subst, ◌∙◌}
use mathlib.Core.Bool.{Bool, true, false, cond, not, ◌&&◌, ◌||◌}
use mathlib.Core.List.{List, [], map}
use mathlib.Core.Option.{Option, none, some}
use Prim.Native.Nat.{ℕ, ◌+◌, min, ◌<◌}
use native.Mathlib.Nat.{zero-add}
use native.Mathlib.Omega.{arith}
use borrow.Author.Tests.{leb-true, le-ltb}
use lib.Dec.{leb, ltb}
use lib.ListN.{length, get_or, replicate, length-map, length-replicate, get_or-replicate}
use Rattle.rules.specs.Listing.{tally}
use Rattle.rules.specs.Value.{no_value}
use Rattle.rules.specs.Answer.{fine, ◌then◌}
use Rattle.rules.specs.CallRecord.{read_call, named_in}
use Rattle.rules.specs.Parameters.{Parameter, positional, positional_count, args_index, has_args}
use Rattle.rules.specs.Lookup.{names}
use Rattle.rules.specs.ParameterQuestions.{ask_parameters, list_of}
use Rattle.rules.specs.CallQuestions.{ask_form}
use Rattle.rules.specs.Passed.{positional_first, names_apart}
use Rattle.rules.specs.Placement.{from_p}
use Rattle.rules.specs.CanFill.{fillings, filled_twice, left_empty, can_fill, answered, filling_of, fillable}
use Rattle.rules.proofs.LawsParameters.{list_positional_first, list_names_apart}
use Rattle.rules.proofs.LawsFound.{from_p_at}
use Rattle.original.specs.Spec.{is_some, is_none, spec_of}
use Rattle.original.specs.Builder.{next}
use Rattle.original.specs.CanFill.{Loop, unless_returned, fill_positions, fill_names, can_fill_with_args}
use Rattle.original.proofs.LawsSpec.{no_parameter, positional_within, args_some}
use Rattle.original.proofs.LawsCanFill.{Positioned, positions_end, positions_return, fills_once, count_of, fitting, answer_after, same_counts, names_end}

module _ (qs : List Parameter) (first : positional_first qs ≡ true) (p : ℕ) where
  -- a slot that the positionals fill is a positional parameter's below p
  from_position : (k : ℕ) → k < length qs → (positional (get_or qs k no_parameter) && ltb k p) ≡ ltb k (min p (positional_count qs))
  unfolding from_p
  from_position k h =
      subst (λ n. (positional (get_or qs k no_parameter) && ltb k n) ≡ ltb k (min n (positional_count qs))) (length-replicate p no_value) (from_p_at qs (replicate p no_value) first k no_parameter h)

  -- where the loop over positions has ended, what it filled and the names count as 01 counts
  counts_are : (written : List (List ℕ)) (filled : List Bool) → ((k : ℕ) → k < length qs → get_or filled k false ≡ ltb k (min p (positional_count qs)))
      → (k : ℕ) → k < length qs → count_of filled written k (get_or qs k no_parameter) ≡ fillings p written k (get_or qs k no_parameter)
  unfolding fillings
  counts_are written filled is k h = ap (λ c. cond c 1 0 + tally (λ n. names n (get_or qs k no_parameter)) written) (is k h ∙ sym (from_position k h))

module _ (qs : List Parameter) (first : positional_first qs ≡ true) (apart : names_apart [] qs ≡ true) (p : ℕ) (written : List (List ℕ)) where
  -- what stands behind the loop over positions (spec.rs 866-897)
  abbrev behind : List Bool → Option Bool
  behind filled = cond (ltb (positional_count qs) p && is_none (args_index qs)) (some false) (answer_after qs (fill_names (spec_of qs) written filled))

  no_surplus : (leb p (positional_count qs) || is_some (args_index qs)) ≡ true → (ltb (positional_count qs) p && is_none (args_index qs)) ≡ false
  no_surplus room = go (args_index qs) (leb p (positional_count qs)) refl room
    where
      and-false : (c : Bool) → (c && false) ≡ false
      and-false true = refl
      and-false false = refl

      or-false : (c : Bool) → (c || false) ≡ true → c ≡ true
      or-false true e = refl
      or-false false e = e

      go : (o : Option ℕ) (c : Bool) → leb p (positional_count qs) ≡ c → (c || is_some o) ≡ true → (ltb (positional_count qs) p && is_none o) ≡ false
      go (some i) c e r = and-false (ltb (positional_count qs) p)
      go none c e r = ap (λ x. x && true) (le-ltb (positional_count qs) p (leb-true p (positional_count qs) (e ∙ or-false c r)))

  behind_is : (l : Option Loop) → (leb p (positional_count qs) || is_some (args_index qs)) ≡ true → Positioned (length qs) (positional_count qs) p l → unless_returned l behind ≡ some (fills_once qs (fillings p written) (fitting qs written))
  behind_is l room r =
      ap (λ o. unless_returned o behind) r.ends
      ∙ ap (λ c. cond c (some false) (answer_after qs (fill_names (spec_of qs) written r.filled))) (no_surplus room)
      ∙ names_end qs no_parameter apart written r.filled r.long
      ∙ ap some (same_counts qs no_parameter (count_of r.filled written) (fillings p written) (fitting qs written) (counts_are qs first p written r.filled r.first))

  -- `filled` before the loop over positions
  abbrev start : List Bool
  start = replicate (length (map (λ q. q.kind) qs)) false

  start_long : length start ≡ length qs
  start_long = length-replicate (length (map (λ q. q.kind) qs)) false ∙ length-map qs (λ q. q.kind)

  start_none : (k : ℕ) → k < length qs → get_or start k false ≡ ltb k (min 0 (positional_count qs))
  start_none k h = get_or-replicate (length (map (λ q. q.kind) qs)) k false false (omega (arith, length-map qs (λ q. q.kind))) ∙ sym (le-ltb k (min 0 (positional_count qs)) (omega arith))

  by_room : (c : Bool) → (leb p (positional_count qs) || is_some (args_index qs)) ≡ c → unless_returned (fill_positions (spec_of qs) 0 p start) behind ≡ some (c && fills_once qs (fillings p written) (fitting qs written))
  unfolding spec_of
  by_room true room = behind_is (fill_positions (spec_of qs) 0 p start) room (positions_end (spec_of qs) (length qs) (positional_within qs) p 0 p start (zero-add p) start_long start_none room)
  by_room false room = ap (λ o. unless_returned o behind) (positions_return (spec_of qs) (length qs) (positional_within qs) p 0 p start (zero-add p) start_long (omega arith) room)

  -- of a list whose positional parameters come first and whose nameable names differ
  pub can_fill_list : can_fill_with_args (spec_of qs) p written ≡ some (can_fill qs p written)
  unfolding can_fill_with_args spec_of can_fill filled_twice left_empty
  can_fill_list =
      by_room (leb p (positional_count qs) || has_args qs) (ap (λ c. leb p (positional_count qs) || c) (args_some qs))
      ∙ ap some (regroup (leb p (positional_count qs) || has_args qs) (not (filled_twice qs p written)) (fitting qs written) (not (left_empty qs p written)))
    where
      regroup : (r a f b : Bool) → (r && (a && f && b)) ≡ (r && a && f && b)
      regroup true a f b = refl
      regroup false a f b = refl

-- `can_fill_with_args_impl` is 01's can-fill, of a record that passes 1 to 7
pub can_fill_original : (A : ℕ) (spec_cells spec_bytes : List ℕ) → ask_parameters A spec_cells spec_bytes ≡ fine
    → (p : ℕ) (written : List (List ℕ)) → can_fill_with_args (spec_of (list_of spec_cells spec_bytes)) p written ≡ some (can_fill (list_of spec_cells spec_bytes) p written)
can_fill_original A spec_cells spec_bytes passes p written =
    can_fill_list (list_of spec_cells spec_bytes) (list_positional_first A spec_cells spec_bytes passes) (list_names_apart A spec_cells spec_bytes passes) p written

-- so can-fill of two records that pass 1 to 11 answers what the Rust answers of the list, the positionals and the names that they hold
pub fillable_original : (A B : ℕ) (spec_cells spec_bytes call_cells call_bytes : List ℕ) → ask_parameters A spec_cells spec_bytes ≡ fine → ask_form B call_cells call_bytes ≡ fine
    → some (fillable A B spec_cells spec_bytes call_cells call_bytes)
    ≡ next (can_fill_with_args (spec_of (list_of spec_cells spec_bytes)) (length (read_call call_cells).positionals) (map (λ p. (named_in call_bytes p).name.bytes) (read_call call_cells).named)) (λ fills. some (answered fills))
unfolding fillable
fillable_original A B spec_cells spec_bytes call_cells call_bytes passes formed =
    ap₂ (λ x y. some (filling_of (x then y) (can_fill (list_of spec_cells spec_bytes) p written))) passes formed
    ∙ ap (λ o. next o (λ fills. some (answered fills))) (sym (can_fill_original A spec_cells spec_bytes passes p written))
  where
    p : ℕ
    p = length (read_call call_cells).positionals

    written : List (List ℕ)
    written = map (λ n. (named_in call_bytes n).name.bytes) (read_call call_cells).named
