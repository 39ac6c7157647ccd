use mathlib.Core.Path.{refl, sym, ap, ◌∙◌}
use Prim.Native.Nat.{◌*◌}
use native.Mathlib.Omega.{arith}
use lib.ListN.{take, drop, length-take, length-set}
use lib.Seq.{take_all}
use Rattle.cells.specs.Out.{stored}
use Rattle.cells.proofs.LawsOut.{stored_none}
use Rattle.calls.proofs.LawsWritten.{copied_next}
use Rattle.calls.proofs.values.copy_values.Goals as goal

pub loop-k-init : goal.loop-k-init
loop-k-init c = (refl, sym (stored_none c.args.board.now c.args.at (omega (arith, c.requires.2))))

pub loop-k-preserved : goal.loop-k-preserved
loop-k-preserved c =
    let a = c.args in
    let at = c.loop-k in (
      simp length-set at.invariant.0,
      copied_next a.cells.now a.board.now at.board a.from (2 * a.count) a.at at.k c.requires.1 c.requires.2 at.invariant.0 at.invariant.1 c.loop-k-test.true,
    )

pub returns : goal.returns
returns c =
    let a = c.args in
    let at = c.loop-k in
    let run = drop a.from a.cells.now in
    at.invariant.1 ∙ ap (stored a.board.now a.at) (take_all at.k (take (2 * a.count) run) (rw (length-take (2 * a.count) run) (omega arith)))
