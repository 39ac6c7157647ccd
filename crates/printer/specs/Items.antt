-- Parameters of one style (01, printed list): the plain ones that were added under it.
use Rattle.std.specs.Prelude.{Bool, ◌&&◌, ℕ, eqb}
use Rattle.rules.specs.Value.{no_value}
use Rattle.rules.specs.Parameters.{Style, rank, Parameter, plain, act_of}
use Rattle.builder.specs.Params.{kind_for}

unfoldable pub under : Style → Parameter → Bool
under s q = plain q.kind && eqb (rank q.style) (rank s)

-- the same of a parameter's code and the number of its style
unfoldable pub is_under : Style → ℕ → ℕ → Bool
is_under s code number = plain (kind_for (act_of code no_value)) && eqb number (rank s)
