-- That 24 is asked directly after the entries changes the outcomes that hid an unknown name, and no other (specs/UnknownFirst). First of 20 to
-- 24 by themselves, then with all that comes before them.
-- Assumes nothing.
use mathlib.Core.Path.{◌≡◌, refl, sym, ap, ◌∙◌}
use mathlib.Core.Bool.{Bool, true, false, not, ◌&&◌, true≢false}
use mathlib.Core.List.{List, [], ◌∷◌}
use Prim.Native.Nat.{ℕ}
use native.Mathlib.Omega.{arith}
use borrow.Author.Tests.{leb-true, lt-leb}
use lib.Dec.{leb}
use Rattle.rules.specs.Value.{Value}
use Rattle.rules.specs.Answer.{Answer, fine, refuse, ◌then◌}
use Rattle.rules.specs.CallRecord.{Call, Named, positionals_of, named_of}
use Rattle.rules.specs.Parameters.{Parameter, has_args, has_kwargs}
use Rattle.rules.specs.ParameterQuestions.{ask_parameters, list_of}
use Rattle.rules.specs.Placement.{place, star_remainder, named_remainder}
use Rattle.rules.specs.CallQuestions.{ask_call, ask_board}
use Rattle.rules.specs.Binding.{ask_given, ask_required, ask_star_remainder, ask_named_remainder, ask_placed, ask_binding}
use Rattle.rules.specs.Collection.{Outcome, refused, outcome_of, call_of, ask_records, collection}
use Rattle.rules.specs.UnknownFirst.{placed_missing_first, binding_missing_first, collection_missing_first, some_name, missing_or_surplus, Tells, UnknownFirst}
use Rattle.rules.proofs.LawsListing.{and_right, and_no_left, and_no_right}
use Rattle.rules.proofs.LawsAnswer.{then_left, then_right, then_last, then_assoc, given_then}
use Rattle.rules.proofs.LawsNumbers.{refuses_in, number_in, then_by, wider_in, parameters_in_lem, call_in_lem, board_in, given_in, late_in}

-- ---- 20 to 24

-- what nothing is refused by in one order, nothing is refused by in the other
pub missing_first_fine : (qs : List Parameter) (c : Call) → ask_binding qs c ≡ fine → binding_missing_first qs c ≡ fine
unfolding ask_binding ask_placed binding_missing_first placed_missing_first
missing_first_fine qs c e =
    let unknown : Answer = ask_named_remainder (has_kwargs qs) (named_remainder qs (named_of c)) in
    let required : Answer = ask_required qs (place qs (positionals_of c) (named_of c)) in
    let surplus : Answer = ask_star_remainder (has_args qs) (star_remainder qs (positionals_of c)) in
    let asked : (ask_given qs c fine then unknown then required then surplus) ≡ fine = sym (given_then qs c (unknown then required then surplus)) ∙ e in
    let placed = then_right (ask_given qs c fine) (unknown then required then surplus) asked in
    let late = then_right unknown (required then surplus) placed in
    rw (
      given_then qs c (required then surplus then unknown),
      then_left (ask_given qs c fine) (unknown then required then surplus) asked,
      then_left required surplus late,
      then_right required surplus late,
      then_left unknown (required then surplus) placed,
    )

-- what 01's order hides, and how an outcome of the new order stands to one of it
abbrev hid : Bool → List Named → Outcome → Bool
hid kwargs unknown before = not kwargs && some_name unknown && missing_or_surplus before

record Reordered (hidden : Bool) (unknown : List Named) (now before : Outcome) : Type 0 where
  differs : hidden ≡ true → now ≡ before → ⊥
  told : hidden ≡ true → Tells unknown now
  stays : hidden ≡ false → now ≡ before

-- where nothing is hidden the two are one
one_end : (hidden : Bool) (unknown : List Named) (now before : Outcome) → hidden ≡ false → now ≡ before → Reordered hidden unknown now before
one_end hidden unknown now before off e =
    record { differs = λ h. absurd (true≢false (sym h ∙ off)); told = λ h. absurd (true≢false (sym h ∙ off)); stays = λ h. e }

module _ (qs : List Parameter) (P : List Value) (N : List Named) (board : List ℕ) where
  abbrev ends : Answer → Outcome
  ends a = outcome_of a qs P N board

  -- 24 before and behind `late`, which is 20 to 23
  reordered : (kwargs : Bool) (unknown : List Named) (late : Answer) → refuses_in 20 23 late ≡ true
      → Reordered (hid kwargs unknown (ends (late then ask_named_remainder kwargs unknown))) unknown (ends (ask_named_remainder kwargs unknown then late)) (ends (late then ask_named_remainder kwargs unknown))
  reordered true unknown late e = one_end false unknown (ends late) (ends (late then fine)) refl (ap ends (sym (then_last late)))
  reordered false [] late e = one_end false [] (ends late) (ends (late then fine)) refl (ap ends (sym (then_last late)))
  reordered false (v ∷ vs) fine e = one_end false (v ∷ vs) _ _ refl refl
  reordered false (v ∷ vs) (refuse n d) e =
      record {
        differs = λ h same. let number : 24 ≡ n = cc in omega (arith, leb-true n 23 (and_right (leb 20 n) (leb n 23) e));
        told = λ h. refl;
        stays = λ h. absurd (true≢false (sym e ∙ h));
      }

  -- the same behind 1 to 19, whose refusal is the end in both orders
  behind : (kwargs : Bool) (unknown : List Named) (first late : Answer) → refuses_in 1 19 first ≡ true → refuses_in 20 23 late ≡ true
      → Reordered (hid kwargs unknown (ends (first then late then ask_named_remainder kwargs unknown))) unknown (ends (first then ask_named_remainder kwargs unknown then late)) (ends (first then late then ask_named_remainder kwargs unknown))
  behind kwargs unknown fine late h e = reordered kwargs unknown late e
  behind kwargs unknown (refuse n d) late h e =
      one_end (hid kwargs unknown (refused n d)) unknown (refused n d) (refused n d)
      (and_no_right (not kwargs && some_name unknown) (leb 20 n && leb n 23) (and_no_left (leb 20 n) (leb n 23) (lt-leb 20 n (omega (arith, leb-true n 19 (and_right (leb 1 n) (leb n 19) h)))))) refl

-- ---- 1 to 24

module _ (A B : ℕ) (spec_cells spec_bytes call_cells call_bytes board : List ℕ) where
  abbrev qs : List Parameter
  qs = list_of spec_cells spec_bytes

  abbrev c : Call
  c = call_of call_cells call_bytes

  abbrev unknown : Answer
  unknown = ask_named_remainder (has_kwargs qs) (named_remainder qs (named_of c))

  abbrev late : Answer
  late = ask_required qs (place qs (positionals_of c) (named_of c)) then ask_star_remainder (has_args qs) (star_remainder qs (positionals_of c))

  -- 1 to 19
  abbrev first : Answer
  first = ask_records A B spec_cells spec_bytes call_cells call_bytes board then ask_given qs c fine

  first_in : refuses_in 1 19 first ≡ true
  unfolding ask_records
  first_in =
      let list : Answer = ask_parameters A spec_cells spec_bytes in
      let call : Answer = ask_call B call_cells call_bytes in
      let last : Answer = ask_board A B board in
      then_by (number_in 1 19) (list then call then last) (ask_given qs c fine)
      (then_by (number_in 1 19) list (call then last) (wider_in 1 7 1 19 list (omega arith) (omega arith) (parameters_in_lem A spec_cells spec_bytes))
      (then_by (number_in 1 19) call last (wider_in 9 13 1 19 call (omega arith) (omega arith) (call_in_lem B call_cells call_bytes))
      (wider_in 14 14 1 19 last (omega arith) (omega arith) (board_in A B board))))
      (wider_in 15 19 1 19 (ask_given qs c fine) (omega arith) (omega arith) (given_in qs c))

  -- all of 1 to 24 is 1 to 19, then the rest
  taken_apart : (later : Answer) → (ask_records A B spec_cells spec_bytes call_cells call_bytes board then ask_given qs c later) ≡ (first then later)
  taken_apart later =
      ap (λ a. ask_records A B spec_cells spec_bytes call_cells call_bytes board then a) (given_then qs c later)
      ∙ then_assoc (ask_records A B spec_cells spec_bytes call_cells call_bytes board) (ask_given qs c fine) later

  now_is : collection A B spec_cells spec_bytes call_cells call_bytes board ≡ outcome_of (first then unknown then late) qs (positionals_of c) (named_of c) board
  unfolding collection ask_binding ask_placed
  now_is = ap (λ a. outcome_of a qs (positionals_of c) (named_of c) board) (taken_apart (unknown then late))

  before_is : collection_missing_first A B spec_cells spec_bytes call_cells call_bytes board ≡ outcome_of (first then late then unknown) qs (positionals_of c) (named_of c) board
  unfolding collection_missing_first binding_missing_first placed_missing_first
  before_is =
      ap (λ a. outcome_of a qs (positionals_of c) (named_of c) board)
      (taken_apart (ask_required qs (place qs (positionals_of c) (named_of c)) then ask_star_remainder (has_args qs) (star_remainder qs (positionals_of c)) then unknown)
      ∙ ap (λ a. first then a) (then_assoc (ask_required qs (place qs (positionals_of c) (named_of c))) (ask_star_remainder (has_args qs) (star_remainder qs (positionals_of c))) unknown))

  both_orders
      : Reordered (hid (has_kwargs qs) (named_remainder qs (named_of c)) (collection_missing_first A B spec_cells spec_bytes call_cells call_bytes board)) (named_remainder qs (named_of c))
      (collection A B spec_cells spec_bytes call_cells call_bytes board) (collection_missing_first A B spec_cells spec_bytes call_cells call_bytes board)
  both_orders =
      rw (now_is, before_is) (behind qs (positionals_of c) (named_of c) board (has_kwargs qs) (named_remainder qs (named_of c)) first late first_in (late_in qs (positionals_of c) (named_of c)))

  pub unknown_first : UnknownFirst A B spec_cells spec_bytes call_cells call_bytes board
  unknown_first = record { differs = both_orders.differs; told = both_orders.told; stays = both_orders.stays }
