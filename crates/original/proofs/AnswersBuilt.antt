-- The builder by computation: each side of the examples is computed.
-- Assumes nothing.
use mathlib.Core.Path.{refl}
use Rattle.rules.specs.Text.{start_of, size_of, bytes_at, text_in, inside, is_text}
use Rattle.rules.specs.Value.{read_value, value_cells}
use Rattle.rules.specs.ParameterRecord.{step_width, step_cells, read_step, parameter_length, step_count, read_parameters, encode_parameters}
use Rattle.rules.specs.Parameters.{comes_before, act}
use Rattle.rules.specs.ParameterQuestions.{whole_steps, codes_known, step_name, names_inside, is_zero, defaults_right, ask_step, ask_parameters}
use Rattle.original.specs.Builder.{to_u32, with_capacity, take_step, built}
use Rattle.original.specs.BuilderExamples.{BuilderExamples}

pub builder_examples : BuilderExamples
unfolding start_of size_of bytes_at text_in inside is_text read_value value_cells step_width step_cells read_step parameter_length step_count read_parameters encode_parameters comes_before act whole_steps codes_known step_name names_inside is_zero defaults_right ask_step ask_parameters to_u32 with_capacity take_step built
builder_examples =
    record {
      all_styles = refl;
      named_after_star = refl;
      optional_defaulted = refl;
      below_codes = refl;
      above_codes = refl;
      name_repeated = refl;
      slash_twice = refl;
      star_after_args = refl;
      args_after_star = refl;
      after_kwargs = refl;
      kwargs_twice = refl;
      too_many = refl;
      too_many_built = refl;
      too_many_and_wrong = refl;
      too_many_panics = refl;
    }
