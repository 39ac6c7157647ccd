-- `sheet_values::read::read_digits` meets its contract. The loop's invariant: what is read in all is what is read from the next byte on, behind
-- the number so far. Assumes nothing.
use mathlib.Core.Path.{◌≡◌}
use lib.ListN.{drop}
use Rattle.rules.specs.SheetValue.{is_digit}
use Rattle.sheet_values.specs.Read.{taken, below}
use Rattle.sheet_values.proofs.read.read_digits.Given as goal

abbrev pub invariant-loop-b : goal.invariant-loop-b
invariant-loop-b l = below l.limit (taken is_digit 10 0 l.digits) ≡ below l.limit (taken is_digit 10 l.n (drop l.b-index l.digits))
