-- The cells that preparing writes of what the builder's columns keep: a code and a default, as a parameter's kind has them.
use Rattle.std.specs.Prelude.{ℕ}
use Rattle.rules.specs.Value.{Value, no_value}
use Rattle.rules.specs.Parameters.{act_of}
use Rattle.builder.specs.Params.{kind_for}
use Rattle.prepared.specs.Prepared.{code_of, default_of}

unfoldable pub code_as : ℕ → ℕ
code_as code = code_of (kind_for (act_of code no_value))

unfoldable pub default_as : ℕ → Value → Value
default_as code v = default_of (kind_for (act_of code v))
