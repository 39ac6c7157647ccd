use mathlib.Core.Path.{◌≡◌}
use native.Mathlib.Omega.{arith}
use lib.ListN.{length}
use Rattle.sheet_lines.proofs.LawsPiece.{clear_first, clear_next, end_at_mark, end_at_end}
use Rattle.sheet_lines.proofs.piece.end_of.Goals as goal

pub loop-at-init : goal.loop-at-init
loop-at-init c = clear_first c.args.mark c.args.input.now c.args.from

pub returns-then-input-at : goal.returns-then-input-at
returns-then-input-at c =
    (end_at_mark _ _ _ _ c.loop-at.at c.loop-at.auto.at c.loop-at-test.true (omega arith) c.loop-at.invariant c.if-input-at.true, c.loop-at-test.true)

pub loop-at-preserved : goal.loop-at-preserved
loop-at-preserved c =
    clear_next _ _ _ c.loop-at.at c.loop-at.auto.at c.loop-at-test.true c.loop-at.invariant c.if-input-at.false

pub returns : goal.returns
returns c =
    let s = c.args in
    let e : c.loop-at.at ≡ length s.input.now = omega arith in
    end_at_end s.mark s.input.now s.from _ c.requires (rw e at c.loop-at.invariant)
