-- `calls::head::few` meets its contract: by the tests of the counts, one after the other.
-- Assumes nothing.
use Rattle.std.proofs.Common.{arith}
use Rattle.std.proofs.lemmas.Bool.Decides.{nat_tests}
use Rattle.calls.specs.Head.{at_most}
use Rattle.calls.proofs.head.few.Goals as goal

pub returns-then-h-le64-3 : goal.returns-then-h-le64-3
unfolding at_most
returns-then-h-le64-3 c = grind (arith, nat_tests)

pub returns-else-h-le64-3 : goal.returns-else-h-le64-3
unfolding at_most
returns-else-h-le64-3 c = grind (arith, nat_tests)
