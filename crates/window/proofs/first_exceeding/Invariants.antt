-- `window::first_exceeding` meets its contract. The loop's invariant is `Kept`: the sum is the one taken afresh of the last w runs so far, and no
-- position so far exceeds the limit. That no sum leaves 64 bits is `overflow_add-sum`.
-- Assumes nothing.
use Rattle.window.specs.Exceeded.{Kept}
use Rattle.window.proofs.first_exceeding.Given as goal

abbrev pub invariant-loop-last : goal.invariant-loop-last
invariant-loop-last l = Kept l.w l.limit l.minutes l.sum l.first l.last
