-- Demand 3, proved over the definitions: `demand_3`, for every A and B, and `demand_3_64`, its instance at 64 and 64; and of it `every_cut_told`,
-- of calls with a name that can't be placed.
-- Assumes nothing.
use mathlib.Core.Path.{◌≡◌, refl, sym, ap, ◌∙◌}
use mathlib.Core.Bool.{Bool, true, false, cond, not, ◌&&◌, true≢false}
use mathlib.Core.List.{List, [], ◌∷◌, map}
use Prim.Native.Nat.{ℕ, suc, ◌≤◌}
use native.Mathlib.Nat.{suc_inj}
use native.Mathlib.Omega.{arith}
use borrow.Author.Tests.{le-leb, leb-true, ne_eqb}
use lib.Dec.{leb}
use lib.ListN.{length, length-map}
use Rattle.rules.specs.Listing.{any, map_from}
use Rattle.rules.specs.Value.{Value}
use Rattle.rules.specs.Answer.{Answer, fine, refuse, ◌then◌, Detail, none, name, count_and_name, part_of, spec_area, call_area}
use Rattle.rules.specs.ParameterRecord.{encode_parameters}
use Rattle.rules.specs.CallRecord.{Pair, Named, encode_call, named_in, call_in, positionals_of, named_of}
use Rattle.rules.specs.Parameters.{Parameter, is_required, has_args, has_kwargs}
use Rattle.rules.specs.Lookup.{known}
use Rattle.rules.specs.ParameterQuestions.{ask_parameters, list_of}
use Rattle.rules.specs.Placement.{Slot, is_unfilled, Counts, place, counts_of, star_remainder, named_remainder}
use Rattle.rules.specs.Board.{board_least, board_after}
use Rattle.rules.specs.CallQuestions.{ask_form, ask_board}
use Rattle.rules.specs.Binding.{names_filled, missing, ask_required, ask_star_remainder, ask_named_remainder, ask_placed, ask_binding}
use Rattle.rules.specs.Collection.{Outcome, refused, accepted, outcome_of, call_of, ask_records, collection}
use Rattle.rules.specs.UnknownFirst.{Tells}
use Rattle.rules.specs.CanFill.{answered, can_fill, fillable}
use Rattle.rules.specs.Demand3.{Cut, cut_record, whole_record, merge, is_accepted, required_filled, Domain, Placed, Demand3, Unplaceable, EveryCutTold}
use Rattle.rules.specs.Examples.{spec_bytes, board_before}
use Rattle.rules.specs.CutExamples.{call_bytes, list_l, crop, vine, two_values}
use Rattle.rules.proofs.Computed.{cut_examples}
use Rattle.rules.proofs.LawsListing.{and_left, keep_some, map_map}
use Rattle.rules.proofs.LawsRecord.{read_call_encode_call}
use Rattle.rules.proofs.LawsAnswer.{is_fine, then_left, then_right, fine_refuse}
use Rattle.rules.proofs.LawsNumbers.{refuses_in, placed_in}
use Rattle.rules.proofs.LawsParameters.{list_positional_first, list_names_apart}
use Rattle.rules.proofs.LawsPlacement.{none_lost}
use Rattle.rules.proofs.LawsBinding.{repeats, repeats_slots, Ended, onwards, by16, by19}
use Rattle.rules.proofs.LawsCanFill.{can_fill_is}
use Rattle.rules.proofs.LawsCut.{cut_fine, whole_fine, cut_positionals, cut_named, cut_ended}

-- ---- outcomes

module _ (qs : List Parameter) (P : List Value) (N : List Named) (board : List ℕ) where
  -- an outcome that is neither 16 nor 19 merges with itself
  merge_late : (a : Answer) → refuses_in 20 24 a ≡ true → merge (outcome_of a qs P N board) ≡ outcome_of a qs P N board
  merge_late fine e = refl
  merge_late (refuse n d) e =
      let low = leb-true 20 n (and_left (leb 20 n) (leb n 24) e) in
      rw (ne_eqb n 16 (λ (p : n ≡ 16). absurd (omega arith)), ne_eqb n 19 (λ (p : n ≡ 19). absurd (omega arith)))

  refused_by : (a : Answer) (n : ℕ) (d : Detail) → outcome_of a qs P N board ≡ refused n d → a ≡ refuse n d
  refused_by fine n d e = let z : ◌≡◌ {A = ℕ} 0 1 = cc in absurd (omega arith)
  refused_by (refuse m c) n d e = cc

  accepted_by : (a : Answer) (counts : Counts) (after : List ℕ) → outcome_of a qs P N board ≡ accepted counts after
      → (a ≡ fine) × (counts ≡ counts_of qs P N) × (after ≡ board_after qs P N board)
  accepted_by fine counts after e = (refl, cc, cc)
  accepted_by (refuse m c) counts after e = let z : ◌≡◌ {A = ℕ} 0 1 = cc in absurd (omega arith)

  is_accepted_is : (a : Answer) → is_accepted (outcome_of a qs P N board) ≡ is_fine a
  is_accepted_is fine = refl
  is_accepted_is (refuse n d) = refl

-- a fine question after the lowest empty required parameter: none is empty
required_filled_lem : (qs : List Parameter) (ss : List Slot) → length ss ≡ length qs → ask_required qs ss ≡ fine → required_filled qs ss ≡ true
required_filled_lem [] ss l e = refl
required_filled_lem (q ∷ qs) [] l e = absurd (omega arith)
required_filled_lem (q ∷ qs) (s ∷ ss) l e = go (is_required q.kind && is_unfilled s) e (required_filled_lem qs ss (suc_inj l))
  where
    go : (b : Bool) → cond b (refuse (missing q.style) (name (part_of spec_area q.name))) (ask_required qs ss) ≡ fine → (ask_required qs ss ≡ fine → required_filled qs ss ≡ true) → (not b && required_filled qs ss) ≡ true
    go true p ih = fine_refuse (sym p)
    go false p ih = ih p

length_map_from : {X Y : Type 0} (f : ℕ → X → Y) (i : ℕ) (xs : List X) → length (map_from f i xs) ≡ length xs
length_map_from f i [] = refl
length_map_from f i (x ∷ xs) = ap suc (length_map_from f (suc i) xs)

length_place : (qs : List Parameter) (P : List Value) (N : List Named) → length (place qs P N) ≡ length qs
unfolding place
length_place qs P N = length_map_from _ 0 qs

required_asked : (qs : List Parameter) (P : List Value) (N : List Named) → ask_placed qs P N ≡ fine → ask_required qs (place qs P N) ≡ fine
unfolding ask_placed
required_asked qs P N e =
    then_left (ask_required qs (place qs P N)) (ask_star_remainder (has_args qs) (star_remainder qs P))
    (then_right (ask_named_remainder (has_kwargs qs) (named_remainder qs N)) (ask_required qs (place qs P N) then ask_star_remainder (has_args qs) (star_remainder qs P)) e)

-- ---- demand 3

-- what a fine chain of 1 to 14 leaves of collection
collection_bound : (A B : ℕ) (spec_cells spec_bytes call_cells call_bytes board : List ℕ) (P : List Value) (N : List Named) → ask_records A B spec_cells spec_bytes call_cells call_bytes board ≡ fine
    → positionals_of (call_of call_cells call_bytes) ≡ P → named_of (call_of call_cells call_bytes) ≡ N
    → collection A B spec_cells spec_bytes call_cells call_bytes board ≡ outcome_of (ask_binding (list_of spec_cells spec_bytes) (call_of call_cells call_bytes)) (list_of spec_cells spec_bytes) P N board
unfolding collection
collection_bound A B spec_cells spec_bytes call_cells call_bytes board P N passes positionals named = rw (passes, positionals, named)

-- can-fill on P and N written out whole, once 1 to 11 pass
fillable_answered : (A B : ℕ) (spec_cells spec_bytes call_bytes : List ℕ) (P : List Value) (N : List Pair) → ask_parameters A spec_cells spec_bytes ≡ fine → ask_form B (encode_call (whole_record P N)) call_bytes ≡ fine
    → fillable A B spec_cells spec_bytes (encode_call (whole_record P N)) call_bytes ≡ answered (can_fill (list_of spec_cells spec_bytes) (length P) (map (λ v. v.name.bytes) (map (named_in call_bytes) N)))
unfolding fillable whole_record
fillable_answered A B spec_cells spec_bytes call_bytes P N list form =
    rw (list, form, read_call_encode_call (whole_record P N), map_map (named_in call_bytes) (λ v. v.name.bytes) N)

module _ (A B : ℕ) (spec_cells spec_bytes call_bytes : List ℕ) (P : List Value) (N : List Pair) (board : List ℕ)
    (domain : Domain A B spec_cells spec_bytes call_bytes P N board) where
  abbrev qs : List Parameter
  qs = list_of spec_cells spec_bytes

  abbrev named : List Named
  named = map (named_in call_bytes) N

  abbrev cells : Cut → List ℕ
  cells c = encode_call (cut_record P N c)

  abbrev ending : Cut → Outcome
  ending c = collection A B spec_cells spec_bytes (cells c) call_bytes board

  records_pass : (c : Cut) → ask_records A B spec_cells spec_bytes (cells c) call_bytes board ≡ fine
  unfolding ask_records ask_board
  records_pass c =
      rw (domain.list_passes, cut_fine B call_bytes P N domain.values_formed domain.pairs_formed domain.no_name_twice domain.few_values domain.few_names c, le-leb (board_least A B) (length board) domain.room)

  call_back : (c : Cut) → call_of (cells c) call_bytes ≡ call_in call_bytes (cut_record P N c)
  unfolding call_of
  call_back c = ap (call_in call_bytes) (read_call_encode_call (cut_record P N c))

  ending_is : (c : Cut) → ending c ≡ outcome_of (ask_binding qs (call_of (cells c) call_bytes)) qs P named board
  ending_is c =
      collection_bound A B spec_cells spec_bytes (cells c) call_bytes board P named (records_pass c)
      (ap positionals_of (call_back c) ∙ cut_positionals B call_bytes P N domain.values_formed domain.pairs_formed domain.no_name_twice domain.few_values domain.few_names c)
      (ap named_of (call_back c) ∙ cut_named B call_bytes P N domain.values_formed domain.pairs_formed domain.no_name_twice domain.few_values domain.few_names c)

  ended : (c : Cut) → Ended (repeats qs P named) (ask_binding qs (call_of (cells c) call_bytes)) (ask_placed qs P named)
  ended c =
      rw (call_back c)
      (cut_ended B call_bytes P N domain.values_formed domain.pairs_formed domain.no_name_twice domain.few_values domain.few_names qs c)

  -- how every cut ends, repeats counting as one
  abbrev common : Outcome
  common = cond (repeats qs P named) (refused 16 none) (outcome_of (ask_placed qs P named) qs P named board)

  ends_common : (c : Cut) → merge (ending c) ≡ common
  ends_common c = ap merge (ending_is c) ∙ go (ask_binding qs (call_of (cells c) call_bytes)) (ended c)
    where
      go : (a : Answer) → Ended (repeats qs P named) a (ask_placed qs P named) → merge (outcome_of a qs P named board) ≡ common
      go a (onwards r e) =
          ap (λ x. merge (outcome_of x qs P named board)) e ∙ merge_late qs P named board (ask_placed qs P named) (placed_in qs P named)
          ∙ ap (λ b. cond b (refused 16 none) (outcome_of (ask_placed qs P named) qs P named board)) (sym r)
      go a (by16 r d e) = ap (λ x. merge (outcome_of x qs P named board)) e ∙ ap (λ b. cond b (refused 16 none) (outcome_of (ask_placed qs P named) qs P named board)) (sym r)
      go a (by19 r d e) = ap (λ x. merge (outcome_of x qs P named board)) e ∙ ap (λ b. cond b (refused 16 none) (outcome_of (ask_placed qs P named) qs P named board)) (sym r)

  first_no : (c : Cut) (n : ℕ) (d : Detail) → ending c ≡ refused n d → ask_binding qs (call_of (cells c) call_bytes) ≡ refuse n d
  first_no c n d e = refused_by qs P named board (ask_binding qs (call_of (cells c) call_bytes)) n d (sym (ending_is c) ∙ e)

  from_placed : (c : Cut) (n : ℕ) (d : Detail) → 20 ≤ n → ending c ≡ refused n d → ask_placed qs P named ≡ refuse n d
  from_placed c n d h e = go (ask_binding qs (call_of (cells c) call_bytes)) (ended c) (first_no c n d e)
    where
      number : Answer → ℕ
      number fine = 0
      number (refuse m x) = m

      go : (a : Answer) → Ended (repeats qs P named) a (ask_placed qs P named) → a ≡ refuse n d → ask_placed qs P named ≡ refuse n d
      go a (onwards r f) g = sym f ∙ g
      go a (by16 r x f) g = let m : 16 ≡ n = ap number (sym f ∙ g) in absurd (omega arith)
      go a (by19 r x f) g = let m : 19 ≡ n = ap number (sym f ∙ g) in absurd (omega arith)

  -- accepted exactly where nothing is repeated and 20 to 24 are fine
  accepted_is : (c : Cut) → is_accepted (ending c) ≡ (not (repeats qs P named) && is_fine (ask_placed qs P named))
  accepted_is c = ap is_accepted (ending_is c) ∙ is_accepted_is qs P named board (ask_binding qs (call_of (cells c) call_bytes)) ∙ go (ask_binding qs (call_of (cells c) call_bytes)) (ended c)
    where
      go : (a : Answer) → Ended (repeats qs P named) a (ask_placed qs P named) → is_fine a ≡ (not (repeats qs P named) && is_fine (ask_placed qs P named))
      go a (onwards r e) = ap is_fine e ∙ ap (λ b. not b && is_fine (ask_placed qs P named)) (sym r)
      go a (by16 r d e) = ap is_fine e ∙ ap (λ b. not b && is_fine (ask_placed qs P named)) (sym r)
      go a (by19 r d e) = ap is_fine e ∙ ap (λ b. not b && is_fine (ask_placed qs P named)) (sym r)

  foretold : (c : Cut) → fillable A B spec_cells spec_bytes (encode_call (whole_record P N)) call_bytes ≡ answered (is_accepted (ending c))
  foretold c =
      fillable_answered A B spec_cells spec_bytes call_bytes P N domain.list_passes
      (whole_fine B call_bytes P N domain.values_formed domain.pairs_formed domain.no_name_twice domain.few_values domain.few_names)
      ∙ ap answered (can_fill_is qs P named domain.no_name_twice ∙ sym (accepted_is c))

  placed : (c : Cut) (counts : Counts) (after : List ℕ) → ending c ≡ accepted counts after → Placed A B spec_cells spec_bytes call_bytes P N board counts after
  unfolding repeats
  placed c counts after e =
      let (asked, counts_are, after_is) = accepted_by qs P named board (ask_binding qs (call_of (cells c) call_bytes)) counts after (sym (ending_is c) ∙ e) in
      let (once, rest) = all_fine (ask_binding qs (call_of (cells c) call_bytes)) (ended c) asked in
      record {
        counts_placed = counts_are;
        board_placed = after_is;
        required_filled = required_filled_lem qs (place qs P named) (length_place qs P named) (required_asked qs P named rest);
        none_lost = rw counts_are (rw (length-map N (named_in call_bytes)) at
            (none_lost qs P named (list_positional_first A spec_cells spec_bytes domain.list_passes) (list_names_apart A spec_cells spec_bytes domain.list_passes) domain.no_name_twice (repeats_slots P 0 qs named ∙ once)));
      }
    where
      all_fine : (a : Answer) → Ended (repeats qs P named) a (ask_placed qs P named) → a ≡ fine → (any (λ v. names_filled P 0 qs v.name.bytes) named ≡ false) × (ask_placed qs P named ≡ fine)
      all_fine a (onwards r f) g = (r, sym f ∙ g)
      all_fine a (by16 r d f) g = fine_refuse (sym g ∙ f)
      all_fine a (by19 r d f) g = fine_refuse (sym g ∙ f)

  pub demand_3 : Demand3 A B spec_cells spec_bytes call_bytes P N board
  demand_3 =
      record {
        alike = λ c e. ends_common c ∙ sym (ends_common e);
        records_pass = records_pass;
        first_no = first_no;
        from_placed = from_placed;
        foretold = foretold;
        placed = placed;
      }

  -- 24 is the first of 20 to 24, so an unknown name is told whatever else is wrong with P and N
  placed_unknown : (v : Named) (vs : List Named) → has_kwargs qs ≡ false → named_remainder qs named ≡ v ∷ vs
      → ask_placed qs P named ≡ refuse 24 (count_and_name (length (v ∷ vs)) (part_of call_area v.name))
  unfolding ask_placed
  placed_unknown v vs without is = rw (without, is)

  pub every_cut_told : Unplaceable A B spec_cells spec_bytes call_bytes P N board → EveryCutTold A B spec_cells spec_bytes call_bytes P N board
  unfolding named_remainder repeats
  every_cut_told u c = go (named_remainder qs named) refl
    where
      go : (vs : List Named) → named_remainder qs named ≡ vs → Tells vs (ending c)
      go [] is = keep_some (λ v. not (known qs v.name.bytes)) named u.unplaceable is
      go (v ∷ vs) is = ending_is c ∙ ap (λ a. outcome_of a qs P named board) (by (ask_binding qs (call_of (cells c) call_bytes)) (ended c))
        where
          by : (a : Answer) → Ended (repeats qs P named) a (ask_placed qs P named) → a ≡ refuse 24 (count_and_name (length (v ∷ vs)) (part_of call_area v.name))
          by a (onwards r e) = e ∙ placed_unknown v vs u.no_kwargs is
          by a (by16 r d e) = absurd (true≢false (sym r ∙ u.no_repeat))
          by a (by19 r d e) = absurd (true≢false (sym r ∙ u.no_repeat))

-- at 01's own limits
pub demand_3_64 : (spec_cells spec_bytes call_bytes : List ℕ) (P : List Value) (N : List Pair) (board : List ℕ) → Domain 64 64 spec_cells spec_bytes call_bytes P N board → Demand3 64 64 spec_cells spec_bytes call_bytes P N board
demand_3_64 = demand_3 64 64

-- every cut of the examples' two values, crop= and vine=, those strictly inside both among them
pub crop_vine_told : EveryCutTold 64 64 (encode_parameters list_l) spec_bytes call_bytes two_values (crop ∷ vine ∷ []) board_before
crop_vine_told =
    every_cut_told 64 64 (encode_parameters list_l) spec_bytes call_bytes two_values (crop ∷ vine ∷ []) board_before cut_examples.unknown_domain cut_examples.unknown_unplaceable
