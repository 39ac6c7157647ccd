-- Laws of a call whose names are resolved, against a prepared list: the slots are those of placement, and 16 and 20 to 22 are what the
-- searches over indices find.
-- Assumes nothing.
use mathlib.Core.Path.{◌≡◌, refl, sym, ap, ap₂, subst, ◌∙◌}
use mathlib.Core.Bool.{Bool, true, false, cond, not, ◌&&◌}
use mathlib.Core.List.{List, ◌∷◌}
use Prim.Native.Nat.{ℕ, zero, suc, ◌+◌, ◌-◌, min, ◌≤◌, ◌<◌}
use native.Mathlib.Nat.{zero-add, sub-zero}
use native.Mathlib.Omega.{arith}
use borrow.Author.Tests.{ltb-true}
use lib.Dec.{eqb, ltb, eqb-suc-zero}
use lib.ListN.{length, drop, get_or}
use Rattle.rules.specs.Listing.{first_index, map_from}
use Rattle.rules.specs.Value.{Value, no_value, read_value}
use Rattle.rules.specs.CallRecord.{Head, Named}
use Rattle.rules.specs.Parameters.{Parameter, ParameterKind, required, optional, defaulted, args, kwargs, is_required, positional_count, act_of}
use Rattle.rules.specs.Placement as rules
use Rattle.rules.specs.Binding.{named_by, ask_repeats, ask_required}
use Rattle.rules.proofs.LawsIndex.{first_index_below, first_index_from}
use Rattle.rules.proofs.LawsPlacement.{is_some, partner_some}
use Rattle.rules.proofs.LawsFound.{from_p_at}
use Rattle.rules.proofs.LawsShort.{tally_most}
use Rattle.cells.specs.Value.{value}
use Rattle.cells.specs.Record.{pair_at}
use Rattle.cells.specs.Listed.{listed}
use Rattle.builder.specs.Params.{kind_for, parameter_of, parameter_at, parameters_in}
use Rattle.builder.specs.declared.params.Parameters.{Parameters}
use Rattle.builder.specs.declared.spec.ParametersSpec.{ParametersSpec}
use Rattle.cells.proofs.LawsListed.{length_listed, Listed-same, get_d_listed}
use Rattle.calls.specs.Places.{position_at}
use Rattle.findings.specs.Resolved.{source_value, Resolved}
use Rattle.findings.specs.Resolve.{Prepared}
use Rattle.findings.specs.Found.{first_named, first_missing}
use Rattle.slots.specs.Slots.{unfilled_as, slot_at, slots_of}
use Rattle.calls.specs.Values.{positional_at}
use Rattle.findings.proofs.LawsAsked.{repeated_at, missing_at, repeats_first, required_first}
use Rattle.findings.proofs.LawsKinds.{required_code}
use Rattle.findings.proofs.LawsNames.{any_parameter, length_list}

-- ---- a list given by its elements

map_from_listed : {X Y : Type 0} (f : ℕ → X → Y) (g : ℕ → X) (i n : ℕ) → map_from f i (listed g i n) ≡ listed (λ k. f k (g k)) i n
map_from_listed f g i zero = refl
map_from_listed {Y = Y} f g i (suc n) = ap {B = List Y} (λ r. f i (g i) ∷ r) (map_from_listed f g (suc i) n)

positional_read : (cells : List ℕ) (h : Head) (k : ℕ) → positional_at cells h k ≡ read_value (drop (position_at 64 h k) cells)
unfolding positional_at pair_at
positional_read cells h k = refl

-- ---- a required slot that is empty

empty_required : (k : ParameterKind) (b : Bool) (n : ℕ) (cells : List ℕ) (v : Value) (stars named : ℕ)
    → (is_required k && rules.is_unfilled (cond b (rules.taken v) (rules.taken_or (source_value cells n) (rules.otherwise k stars named)))) ≡ (not b && (is_required k && eqb n 0))
empty_required required true n cells v stars named = refl
empty_required required false zero cells v stars named = refl
empty_required required false (suc n) cells v stars named = sym (eqb-suc-zero n)
empty_required optional true n cells v stars named = refl
empty_required optional false n cells v stars named = refl
empty_required (defaulted w) true n cells v stars named = refl
empty_required (defaulted w) false n cells v stars named = refl
empty_required args true n cells v stars named = refl
empty_required args false n cells v stars named = refl
empty_required kwargs true n cells v stars named = refl
empty_required kwargs false n cells v stars named = refl

slot_missing : (p : Parameters) (sources cells : List ℕ) (h : Head) (next k stars named : ℕ) (spec : List ℕ)
    → (is_required (parameter_at spec p k).kind && rules.is_unfilled (slot_at p sources cells h next k stars named)) ≡ (not (ltb k next) && (eqb (get_or p.codes k 0) 1 && eqb (get_or sources k 0) 0))
unfolding parameter_at parameter_of slot_at
slot_missing p sources cells h next k stars named spec =
    empty_required (kind_for (act_of (get_or p.codes k 0) (value (get_or p.default_kinds k 0) (get_or p.default_payloads k 0)))) (ltb k next) (get_or sources k 0) cells (read_value (drop (position_at 64 h k) cells)) stars named
    ∙ ap (λ b. not (ltb k next) && (b && eqb (get_or sources k 0) 0)) (required_code (get_or p.codes k 0) (value (get_or p.default_kinds k 0) (get_or p.default_payloads k 0)))

module _ (spec : List ℕ) (l : ParametersSpec) (list : Prepared spec l) where
  abbrev qs : List Parameter
  qs = parameters_in spec l.params

  -- the parameter at an index
  abbrev pub parameter : ℕ → Parameter
  parameter k = parameter_at spec l.params k

  parameter_is : (k : ℕ) → k < length qs → get_or qs k any_parameter ≡ parameter k
  unfolding parameters_in
  parameter_is k h = get_d_listed (parameter_at spec l.params) 0 l.params.len k any_parameter (rw (length_listed (parameter_at spec l.params) 0 l.params.len) at h) ∙ ap (parameter_at spec l.params) (zero-add k)

  positional_few : positional_count qs ≤ length qs
  unfolding positional_count
  positional_few = tally_most qs

  module _ (cells area : List ℕ) (P : List Value) (N : List Named) (sources rest : List ℕ) (count next : ℕ) (upto : next ≡ min (length P) (positional_count qs)) (r : Resolved qs cells area N sources rest count) where
    from_P : (k : ℕ) → k < length qs → rules.from_p P k (get_or qs k any_parameter) ≡ ltb k next
    from_P k h = from_p_at qs P list.first k any_parameter h ∙ ap (ltb k) (sym upto)

    named_is : (k : ℕ) → k < length qs → named_by N (get_or qs k any_parameter) ≡ not (eqb (get_or sources k 0) 0)
    named_is k h = sym (partner_some (get_or qs k any_parameter) N) ∙ ap is_some (r.sources_are k any_parameter h) ∙ source_is (get_or sources k 0)
      where
        source_is : (n : ℕ) → is_some (source_value cells n) ≡ not (eqb n 0)
        source_is zero = refl
        source_is (suc n) = sym (ap not (eqb-suc-zero n))

    next_few : next ≤ length qs
    next_few = omega (arith, positional_few)

    -- 16
    pub repeats_found : ask_repeats P N 0 qs ≡ repeated_at parameter (first_named sources 0 next)
    unfolding first_named
    repeats_found =
        repeats_first parameter (λ k. ltb k next && not (eqb (get_or sources k 0) 0)) P N 0 qs any_parameter
        (λ k h. parameter_is k h ∙ ap parameter (sym (zero-add k)))
        (λ k h. subst (λ (n : ℕ). (rules.from_p P n (get_or qs k any_parameter) && named_by N (get_or qs k any_parameter)) ≡ (ltb n next && not (eqb (get_or sources n 0) 0))) (sym (zero-add k)) (ap₂ (λ a b. a && b) (from_P k h) (named_is k h)))
        ∙ ap (repeated_at parameter) (first_index_below (λ k. not (eqb (get_or sources k 0) 0)) next 0 (length qs) (omega (arith, next_few)) ∙ ap (first_index (λ k. not (eqb (get_or sources k 0) 0)) 0) (sub-zero next))

    module _ (h : Head) (values : (k : ℕ) → k < length P → get_or P k no_value ≡ positional_at cells h k) (stars named : ℕ) where
      -- each slot
      slot_is : (k : ℕ) → k < length qs → rules.slot_of P N stars named k (get_or qs k any_parameter) ≡ slot_at l.params sources cells h next k stars named
      unfolding rules.slot_of slot_at parameter_at parameter_of
      slot_is k u =
          ap₂ (λ b o. cond b (rules.taken (get_or P k no_value)) (rules.taken_or o (rules.otherwise (get_or qs k any_parameter).kind stars named))) (from_P k u) (r.sources_are k any_parameter u)
          ∙ ap (λ q. cond (ltb k next) (rules.taken (get_or P k no_value)) (rules.taken_or (source_value cells (get_or sources k 0)) (rules.otherwise q.kind stars named))) (parameter_is k u)
          ∙ go (ltb k next) refl
        where
          unfilled : rules.Slot
          unfilled = rules.taken_or (source_value cells (get_or sources k 0)) (unfilled_as (get_or l.params.codes k 0) (value (get_or l.params.default_kinds k 0) (get_or l.params.default_payloads k 0)) stars named)

          go : (b : Bool) → ltb k next ≡ b → cond b (rules.taken (get_or P k no_value)) unfilled ≡ cond b (rules.taken (read_value (drop (position_at 64 h k) cells))) unfilled
          go true e = ap rules.taken (values k (omega (arith, ltb-true k next e)) ∙ positional_read cells h k)
          go false e = refl

      pub place_is : rules.place qs P N ≡ map_from (rules.slot_of P N (length (rules.star_remainder qs P)) (length (rules.named_remainder qs N))) 0 qs
      unfolding rules.place
      place_is = refl

      -- all of them
      pub slots_are : map_from (rules.slot_of P N stars named) 0 qs ≡ slots_of l.params sources cells h next stars named l.params.len
      unfolding parameters_in
      slots_are =
          map_from_listed (rules.slot_of P N stars named) (parameter_at spec l.params) 0 l.params.len
          ∙ Listed-same (λ k. rules.slot_of P N stars named k (parameter_at spec l.params k)) (λ k. slot_at l.params sources cells h next k stars named) 0 l.params.len
          (λ k low high. ap (rules.slot_of P N stars named k) (sym (parameter_is k (few k high))) ∙ slot_is k (few k high))
        where
          few : (k : ℕ) → k < 0 + l.params.len → k < length qs
          few k high = omega (arith, length_list spec l cells area list)

      -- 20 to 22
      pub required_found : ask_required qs (map_from (rules.slot_of P N stars named) 0 qs) ≡ missing_at parameter (first_missing l.params.codes sources next (l.params.len - next))
      unfolding first_missing
      required_found =
          required_first parameter (λ k. not (ltb k next) && (eqb (get_or l.params.codes k 0) 1 && eqb (get_or sources k 0) 0)) (rules.slot_of P N stars named) 0 qs any_parameter
          (λ k u. parameter_is k u ∙ ap parameter (sym (zero-add k)))
          (λ k u. subst (λ (n : ℕ). (is_required (get_or qs k any_parameter).kind && rules.is_unfilled (rules.slot_of P N stars named n (get_or qs k any_parameter))) ≡ (not (ltb n next) && (eqb (get_or l.params.codes n 0) 1 && eqb (get_or sources n 0) 0))) (sym (zero-add k)) (tested k u))
          ∙ ap (missing_at parameter) (first_index_from (λ k. eqb (get_or l.params.codes k 0) 1 && eqb (get_or sources k 0) 0) next 0 (length qs) (omega arith) ∙ ap (first_index (λ k. eqb (get_or l.params.codes k 0) 1 && eqb (get_or sources k 0) 0) next) whole)
        where
          whole : 0 + length qs - next ≡ l.params.len - next
          whole = omega (arith, length_list spec l cells area list)

          tested : (k : ℕ) → k < length qs → (is_required (get_or qs k any_parameter).kind && rules.is_unfilled (rules.slot_of P N stars named k (get_or qs k any_parameter))) ≡ (not (ltb k next) && (eqb (get_or l.params.codes k 0) 1 && eqb (get_or sources k 0) 0))
          tested k u =
              ap₂ (λ q s. is_required q.kind && rules.is_unfilled s) (parameter_is k u) (slot_is k u)
              ∙ slot_missing l.params sources cells h next k stars named spec
