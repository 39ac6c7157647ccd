-- `bind::main` is safe, and both its arrays are as long as `bind_read` asks: its answer is the text of what stands on standard input.
-- Assumes nothing.
use native.Mathlib.Omega.{arith}
use Rattle.rules.specs.SheetInput.{input_most}
use Rattle.rules.specs.SheetOutput.{output_least}
use Rattle.bind.proofs.main.Goals as goal

pub bind_read-requires : goal.bind_read-requires
unfolding input_most output_least
bind_read-requires c = record { input = omega arith; read = omega arith; output = omega arith }
