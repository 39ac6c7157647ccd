-- When 24 is asked (02, §4), at work: the ends that it comes before, those that it leaves to the questions before it, and a list that has
-- **kwargs. The proof is `order_examples` of proofs/. Example 9 of the twelve is one of them.
use Rattle.std.specs.Prelude.{◌≡◌, List, [], ◌∷◌}
use Rattle.rules.specs.Answer.{none, name, count_and_name}
use Rattle.rules.specs.Text.{payload_of}
use Rattle.rules.specs.ParameterRecord.{ParameterRecord}
use Rattle.rules.specs.CallRecord.{Pair, CallRecord}
use Rattle.rules.specs.Collection.{refused}
use Rattle.rules.specs.Examples.{step, list_w, list_k, whole, start, block, written_out, outcome, spec, call}

-- `water(block, /)`, `water(block)` and `water(*, block)`, block required
unfoldable pub list_one : ParameterRecord
unfolding payload_of
list_one = record { function = payload_of 0 5; steps = step 1 (payload_of 5 5) 0 0 ∷ [] }

unfoldable pub list_nameable : ParameterRecord
unfolding payload_of
list_nameable = record { function = payload_of 0 5; steps = step 4 0 0 0 ∷ step 1 (payload_of 5 5) 0 0 ∷ [] }

unfoldable pub list_named : ParameterRecord
unfolding payload_of
list_named = record { function = payload_of 0 5; steps = step 5 0 0 0 ∷ step 1 (payload_of 5 5) 0 0 ∷ [] }

-- B, start=, block=, and these entries
abbrev pub with_entries : List Pair → CallRecord
with_entries es =
    record { positionals = whole 1 ∷ []; named = start ∷ block ∷ []; star_kind = 0; items = []; double_kind = 1; entries = es }

pub record OrderExamples : Type 0 where
  -- start= where block alone may be given, and is missing: 20, 21 and 22 in 01's own order
  pub before_20 : outcome list_one (written_out [] (start ∷ [])) ≡ refused 24 (count_and_name 1 (call 0 5))
  pub before_21 : outcome list_nameable (written_out [] (start ∷ [])) ≡ refused 24 (count_and_name 1 (call 0 5))
  pub before_22 : outcome list_named (written_out [] (start ∷ [])) ≡ refused 24 (count_and_name 1 (call 0 5))
  -- W, four values, block=: 23 in 01's own order
  pub before_23 : outcome list_w (written_out (whole 1 ∷ whole 2 ∷ whole 3 ∷ whole 4 ∷ []) (block ∷ [])) ≡ refused 24 (count_and_name 1 (call 5 5))
  -- W, B, start=, block= and an entry that repeats start: the repeat is told
  pub after_19 : outcome list_w (with_entries (start ∷ [])) ≡ refused 19 (name (call 0 5))
  -- the same with a whole key
  pub after_18 : outcome list_w (with_entries (record { key = whole 5; value = whole 6 } ∷ [])) ≡ refused 18 none
  -- W, two values, start=, block=: the repeat in the written names
  pub after_16 : outcome list_w (written_out (whole 1 ∷ whole 2 ∷ []) (start ∷ block ∷ [])) ≡ refused 16 (name (spec 10 5))
  -- K, start=, block=: under **kwargs block is no unknown name, and block is missing
  pub under_kwargs : outcome list_k (written_out [] (start ∷ block ∷ [])) ≡ refused 20 (name (spec 5 5))
