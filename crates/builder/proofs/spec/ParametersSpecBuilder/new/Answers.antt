-- `builder::spec::ParametersSpecBuilder::new` meets its contract: without a parameter every count is 0 and every index absent.
-- Assumes nothing.
use mathlib.Core.Path.{refl}
use native.Mathlib.Omega.{arith}
use Rattle.rules.specs.Parameters.{positional_only_count, positional_count, args_index, kwargs_index}
use Rattle.builder.specs.Params.{parameters_in}
use Rattle.builder.proofs.spec.ParametersSpecBuilder.new.Goals as goal

pub returns : goal.returns
unfolding parameters_in positional_only_count positional_count args_index kwargs_index
returns c =
    let none = c.new.ensures in
    record {
      style = refl;
      list = λ area. rw none;
      built = λ area.
          record {
            room = rw none (omega arith);
            positional_only = rw none;
            positional = rw none;
            within = omega arith;
            args = rw none;
            kwargs = rw none;
            sofar = (rw none, rw none, refl, refl);
          };
    }
