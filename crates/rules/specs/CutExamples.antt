-- Demand 3 at work: a call with two values and more names, cut strictly inside both, accepted, refused by 21, by 24, and by 16 at one
-- cut and by 19 at another; what can-fill foretells of each; the cells of one cut, written out by hand; and that these calls lie in
-- demand 3's domain. The proof is `cut_examples` of proofs/.
use Rattle.std.specs.Prelude.{◌≡◌, true, false, List, [], ◌∷◌, ◌++◌, ℕ}
use Rattle.rules.specs.Cells.{over}
use Rattle.rules.specs.Text.{payload_of}
use Rattle.rules.specs.Value.{Value}
use Rattle.rules.specs.Answer.{name, count_and_name}
use Rattle.rules.specs.ParameterRecord.{Step, ParameterRecord, encode_parameters}
use Rattle.rules.specs.CallRecord.{Pair, encode_call}
use Rattle.rules.specs.Collection.{Outcome, refused, accepted}
use Rattle.rules.specs.CanFill.{Filling, answered, fillings, filled_twice, left_empty, can_fill, fillable}
use Rattle.rules.specs.Demand3.{Cut, cut_record, whole_record, Domain, Unplaceable}
use Rattle.rules.specs.Examples.{spec_bytes, list_k, step, whole, board_before, collected, spec, call}

-- the bytes of `startminutescropvine`
unfoldable pub call_bytes : List ℕ
call_bytes =
    115 ∷ 116 ∷ 97 ∷ 114 ∷ 116 ∷ 109 ∷ 105 ∷ 110 ∷ 117 ∷ 116 ∷ 101 ∷ 115 ∷ 99 ∷ 114 ∷ 111 ∷ 112 ∷ 118 ∷ 105 ∷ 110 ∷ 101 ∷ []

-- `water(block, /, start, minutes)`, all three required, and L with **kwargs
unfoldable pub steps_l : List Step
unfolding payload_of
steps_l = step 1 (payload_of 5 5) 0 0 ∷ step 4 0 0 0 ∷ step 1 (payload_of 10 5) 0 0 ∷ step 1 (payload_of 15 7) 0 0 ∷ []

unfoldable pub list_l : ParameterRecord
unfolding payload_of steps_l
list_l = record { function = payload_of 0 5; steps = steps_l }

unfoldable pub list_m : ParameterRecord
unfolding payload_of steps_l
list_m = record { function = payload_of 0 5; steps = steps_l ++ (step 7 0 0 0 ∷ []) }

-- a named value under the text of `size` bytes from `at` on
abbrev pub given : ℕ → ℕ → ℕ → Pair
unfolding payload_of
given at size n = record { key = record { kind = 6; payload = payload_of at size }; value = whole n }

abbrev pub start : Pair
start = given 0 5 400

abbrev pub minutes : Pair
minutes = given 5 7 25

abbrev pub crop : Pair
crop = given 12 4 7

abbrev pub vine : Pair
vine = given 16 4 8

abbrev pub two_values : List Value
two_values = whole 1 ∷ whole 2 ∷ []

-- so many of P and of N written out
abbrev pub cut : ℕ → ℕ → Cut
cut i j = record { at_p = i; at_n = j; list_given = false; dictionary_given = false }

-- how a cut of P and N against a list ends, and what can-fill says of them written out whole; to unfold them is to unfold all they cite
unfoldable pub ends : ParameterRecord → List Value → List Pair → Cut → Outcome
unfolding collected cut_record
ends list P N c = collected spec_bytes call_bytes list (cut_record P N c)

unfoldable pub fills : ParameterRecord → List Value → List Pair → Filling
unfolding collected whole_record fillable can_fill filled_twice left_empty fillings
fills list P N = fillable 64 64 (encode_parameters list) spec_bytes (encode_call (whole_record P N)) call_bytes

pub record CutExamples : Type 0 where
  -- K, two values, minutes= and crop=, one of each written out: accepted
  pub accepted_inside :
      ends list_k two_values (minutes ∷ crop ∷ []) (cut 1 1)
      ≡ accepted (record { taken = 3; defaulted = 0; star = 0; named = 1 })
      (over (3 ∷ 1 ∷ 3 ∷ 2 ∷ 3 ∷ 25 ∷ 9 ∷ 1 ∷ 6 ∷ 3076 ∷ 3 ∷ 7 ∷ []) board_before)
  pub accepted_foretold : fills list_k two_values (minutes ∷ crop ∷ []) ≡ answered true
  -- M, two values, crop= and vine=: minutes is missing
  pub missing_inside : ends list_m two_values (crop ∷ vine ∷ []) (cut 1 1) ≡ refused 21 (name (spec 15 7))
  pub missing_foretold : fills list_m two_values (crop ∷ vine ∷ []) ≡ answered false
  -- L, the same: crop and vine are told, not that minutes is missing (02, §4)
  pub unknown_inside : ends list_l two_values (crop ∷ vine ∷ []) (cut 1 1) ≡ refused 24 (count_and_name 2 (call 12 4))
  pub unknown_foretold : fills list_l two_values (crop ∷ vine ∷ []) ≡ answered false
  -- K, two values, crop=, start= and vine=: start is filled twice, written out at one cut and an entry at another
  pub repeated_written : ends list_k two_values (crop ∷ start ∷ vine ∷ []) (cut 1 2) ≡ refused 16 (name (spec 10 5))
  pub repeated_entry : ends list_k two_values (crop ∷ start ∷ vine ∷ []) (cut 1 1) ≡ refused 19 (name (call 0 5))
  pub repeated_foretold : fills list_k two_values (crop ∷ start ∷ vine ∷ []) ≡ answered false
  -- the cells of the first cut: p, n, star kind, s, double kind, d; the value 1; minutes=25; the item 2; the entry crop: 7
  pub cells_by_hand :
      encode_call (cut_record two_values (minutes ∷ crop ∷ []) (cut 1 1))
      ≡ 1 ∷ 1 ∷ 1 ∷ 1 ∷ 1 ∷ 1 ∷ 3 ∷ 1 ∷ 6 ∷ 1287 ∷ 3 ∷ 25 ∷ 3 ∷ 2 ∷ 6 ∷ 3076 ∷ 3 ∷ 7 ∷ []
  -- and these calls are ones of which demand 3 speaks
  pub accepted_domain : Domain 64 64 (encode_parameters list_k) spec_bytes call_bytes two_values (minutes ∷ crop ∷ []) board_before
  pub missing_domain : Domain 64 64 (encode_parameters list_m) spec_bytes call_bytes two_values (crop ∷ vine ∷ []) board_before
  pub unknown_domain : Domain 64 64 (encode_parameters list_l) spec_bytes call_bytes two_values (crop ∷ vine ∷ []) board_before
  pub unknown_unplaceable : Unplaceable 64 64 (encode_parameters list_l) spec_bytes call_bytes two_values (crop ∷ vine ∷ []) board_before
  pub repeated_domain : Domain 64 64 (encode_parameters list_k) spec_bytes call_bytes two_values (crop ∷ start ∷ vine ∷ []) board_before
