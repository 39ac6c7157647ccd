-- 01's printed lists, on records that the encoder makes, as one joint fact. Its proof is `printed_examples` of proofs/.
-- W and K are those of Examples; the other lists print names that have stars in front.
use Rattle.std.specs.Prelude.{◌≡◌, List, [], ◌∷◌, ℕ}
use Rattle.rules.specs.Text.{payload_of, start_of, size_of, bytes_at, inside, is_text, text_in}
use Rattle.rules.specs.Value.{value_width, value_cells, read_value, well_formed, well_formed_default}
use Rattle.rules.specs.Answer.{Answer, fine}
use Rattle.rules.specs.ParameterRecord.{Step, ParameterRecord, step_width, step_cells, read_step, parameter_length, step_count, read_parameters, encode_parameters}
use Rattle.rules.specs.Parameters.{comes_before, act, positional, nameable, positional_only, parameters_of, has_args, has_kwargs}
use Rattle.rules.specs.Lookup.{names, known}
use Rattle.rules.specs.ParameterQuestions.{whole_steps, codes_known, step_name, names_inside, is_zero, defaults_right, ask_step, list_of, ask_parameters}
use Rattle.rules.specs.Printed.{asterisk, printed_name, item, either_way, name_only, items_of, slash_item, star_item, kwargs_item, comma, printed}
use Rattle.rules.specs.Examples.{spec_bytes, step, list_w, list_k}

-- the bytes of `f****w***xk`
unfoldable pub star_bytes : List ℕ
star_bytes = 102 ∷ 42 ∷ 42 ∷ 42 ∷ 42 ∷ 119 ∷ 42 ∷ 42 ∷ 42 ∷ 120 ∷ 107 ∷ []

-- a list of these steps, for the function `f`; its two marks
unfoldable pub steps : List Step → ParameterRecord
unfolding payload_of
steps ts = record { function = payload_of 0 1; steps = ts }

abbrev pub slash : Step
slash = step 4 0 0 0

abbrev pub bare : Step
bare = step 5 0 0 0

unfoldable pub all_steps : ParameterRecord
unfolding payload_of
all_steps =
    steps
    (step 1 (payload_of 10 1) 0 0 ∷ slash ∷ step 2 (payload_of 6 4) 0 0 ∷ step 6 0 0 0 ∷ step 1 (payload_of 1 5) 0 0 ∷ step 7 0 0 0 ∷ [])

-- what 1 to 7 answer of a record, and what is printed of it; to unfold them is to unfold all that they cite
unfoldable pub asked : List ℕ → ParameterRecord → Answer
unfolding start_of size_of bytes_at inside is_text text_in value_width value_cells read_value well_formed well_formed_default step_width step_cells read_step parameter_length step_count read_parameters encode_parameters comes_before act positional nameable positional_only parameters_of names known whole_steps codes_known step_name names_inside is_zero defaults_right ask_step list_of ask_parameters
asked area list = ask_parameters 64 (encode_parameters list) area

unfoldable pub shown : List ℕ → ParameterRecord → List ℕ
unfolding start_of size_of bytes_at text_in value_width value_cells read_value step_width step_cells read_step parameter_length step_count read_parameters encode_parameters comes_before act positional nameable positional_only parameters_of has_args has_kwargs list_of asterisk printed_name item either_way name_only items_of slash_item star_item kwargs_item comma printed
shown area list = printed (list_of (encode_parameters list) area)

-- a record that passes 1 to 7 and is printed as these bytes
pub record Shown (area : List ℕ) (list : ParameterRecord) (bytes : List ℕ) : Type 0 where
  pub passes : asked area list ≡ fine
  pub prints : shown area list ≡ bytes

pub record PrintedExamples : Type 0 where
  -- W: `block, /, start, minutes = ...`
  pub printed_w : Shown spec_bytes list_w (98 ∷ 108 ∷ 111 ∷ 99 ∷ 107 ∷ 44 ∷ 32 ∷ 47 ∷ 44 ∷ 32 ∷ 115 ∷ 116 ∷ 97 ∷ 114 ∷ 116 ∷ 44 ∷ 32 ∷ 109 ∷ 105 ∷ 110 ∷ 117 ∷ 116 ∷ 101 ∷ 115 ∷ 32 ∷ 61 ∷ 32 ∷ 46 ∷ 46 ∷ 46 ∷ [])
  -- K: `block, /, start, minutes = ..., **kwargs`
  pub printed_k : Shown spec_bytes list_k (98 ∷ 108 ∷ 111 ∷ 99 ∷ 107 ∷ 44 ∷ 32 ∷ 47 ∷ 44 ∷ 32 ∷ 115 ∷ 116 ∷ 97 ∷ 114 ∷ 116 ∷ 44 ∷ 32 ∷ 109 ∷ 105 ∷ 110 ∷ 117 ∷ 116 ∷ 101 ∷ 115 ∷ 32 ∷ 61 ∷ 32 ∷ 46 ∷ 46 ∷ 46 ∷ 44 ∷ 32 ∷ 42 ∷ 42 ∷ 107 ∷ 119 ∷ 97 ∷ 114 ∷ 103 ∷ 115 ∷ [])
  -- `/`, `***x`: `x`
  pub three_stars : Shown star_bytes (steps (slash ∷ step 1 (payload_of 6 4) 0 0 ∷ [])) (120 ∷ [])
  -- `/`, `****w`: `*w`
  pub four_stars : Shown star_bytes (steps (slash ∷ step 1 (payload_of 1 5) 0 0 ∷ [])) (42 ∷ 119 ∷ [])
  -- `*`, `k`: `*, k`
  pub star_alone : Shown star_bytes (steps (bare ∷ step 1 (payload_of 10 1) 0 0 ∷ [])) (42 ∷ 44 ∷ 32 ∷ 107 ∷ [])
  -- `/`, `**`, `k`: the first item is empty, and the comma stands: `, k`
  pub empty_item : Shown star_bytes (steps (slash ∷ step 1 (payload_of 1 2) 0 0 ∷ step 1 (payload_of 10 1) 0 0 ∷ [])) (44 ∷ 32 ∷ 107 ∷ [])
  -- `k`, `/`, `***x` that may be left out, `*args`, `****w`, `**kwargs`: `k, /, x = ..., *args, *w, **kwargs`
  pub all_items : Shown star_bytes all_steps (107 ∷ 44 ∷ 32 ∷ 47 ∷ 44 ∷ 32 ∷ 120 ∷ 32 ∷ 61 ∷ 32 ∷ 46 ∷ 46 ∷ 46 ∷ 44 ∷ 32 ∷ 42 ∷ 97 ∷ 114 ∷ 103 ∷ 115 ∷ 44 ∷ 32 ∷ 42 ∷ 119 ∷ 44 ∷ 32 ∷ 42 ∷ 42 ∷ 107 ∷ 119 ∷ 97 ∷ 114 ∷ 103 ∷ 115 ∷ [])
