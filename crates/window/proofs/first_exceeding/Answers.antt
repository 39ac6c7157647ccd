use mathlib.Core.Path.{◌≡◌, sym, ap}
use Prim.Native.Nat.{◌+◌, ◌-◌}
use native.Mathlib.Omega.{arith}
use Rattle.rules.specs.Answer.{fine}
use Rattle.rules.specs.Window.{sum_at, window_of}
use Rattle.window.proofs.LawsKept.{kept_first, kept_most, sum_added, sum_dropped, found_here, kept_next}
use Rattle.window.proofs.first_exceeding.Goals as goal
use Rattle.window.proofs.first_exceeding.Goals.{Joined-w-last, then-w-last, else-w-last}

pub loop-last-init : goal.loop-last-init
loop-last-init c = kept_first c.args.w c.args.limit c.args.minutes.now

pub overflow_add-sum : goal.overflow_add-sum
overflow_add-sum c =
    omega (arith, kept_most c.loop-last.invariant c.requires.1 (λ i. (c.type_inv.minutes i).fits))

-- at each position the sum is the one taken afresh, and the window begins w runs before the next position
afresh : (c : Joined-w-last) →
    let s = c.args in
    (c.if-w-last.sum ≡ sum_at s.w s.minutes.now c.loop-last.last) × (c.if-w-last.first ≡ c.loop-last.last + 1 - s.w)
afresh c =
    elim c.if-w-last.branch [
      | then-w-last w ↦
          let sums = sum_dropped c.loop-last.invariant c.loop-last-test.true c.requires.0 w.if-w-last.true in
          (omega (arith, w.sum-is), omega (arith, w.first-is, c.loop-last.invariant.oldest))
      | else-w-last w ↦
          let sums = sum_added c.loop-last.invariant c.loop-last-test.true w.if-w-last.false in
          (omega (arith, w.sum-is), omega (arith, w.first-is, c.loop-last.invariant.oldest))
    ]

pub overflow_sub-sum : goal.overflow_sub-sum
overflow_sub-sum c =
    omega (arith, sum_dropped c.loop-last.invariant c.loop-last-test.true c.requires.0 c.if-w-last.true)

pub returns-then-limit-sum : goal.returns-then-limit-sum
returns-then-limit-sum c =
    sym (ap (window_of fine) (found_here c.loop-last.invariant c.loop-last-test.true (rw (afresh (goal.at.returns-then-limit-sum c).Joined-w-last).0 at c.if-limit-sum.true)))

pub loop-last-preserved : goal.loop-last-preserved
loop-last-preserved c =
    let (sum, first) = afresh (goal.at.loop-last-preserved c).Joined-w-last in
    kept_next c.loop-last.invariant c.loop-last-test.true sum first (rw sum at c.if-limit-sum.false)
