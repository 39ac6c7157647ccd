use mathlib.Core.Path.{refl, sym, ap, ◌∙◌}
use native.Mathlib.Omega.{arith}
use lib.ListN.{length-set}
use lib.Seq.{take_all}
use Rattle.cells.specs.Out.{stored}
use Rattle.cells.proofs.LawsOut.{stored_none, stored_more}
use Rattle.cells.proofs.out.write_bytes.Goals as goal

pub loop-k-init : goal.loop-k-init
loop-k-init c = (refl, sym (stored_none c.args.out.now c.args.at (omega arith)))

pub loop-k-preserved : goal.loop-k-preserved
loop-k-preserved c =
    let a = c.args in
    let l = c.loop-k in (
      simp length-set l.invariant.0,
      stored_more a.out.now a.text.now l.out a.at l.k l.invariant.1 l.invariant.0 c.loop-k-test.true c.requires,
    )

pub returns : goal.returns
returns c =
    let a = c.args in
    let l = c.loop-k in
    record { held = l.invariant.1 ∙ ap (stored a.out.now a.at) (take_all l.k a.text.now c.loop-k-test.false); ends = refl }
