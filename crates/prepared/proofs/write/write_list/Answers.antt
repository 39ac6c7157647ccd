use mathlib.Core.Path.{ap, ◌∙◌}
use native.Mathlib.Omega.{arith}
use Rattle.rules.specs.Value.{value_cells}
use Rattle.cells.specs.Out.{stored}
use Rattle.cells.specs.Value.{pair_of}
use Rattle.prepared.specs.Rows.{row_in}
use Rattle.prepared.proofs.LawsWritten.{writing_none, writing_next, writing_end}
use Rattle.prepared.proofs.write.write_list.Goals as goal

pub loop-i-init : goal.loop-i-init
loop-i-init c = writing_none _ _ _ (omega (arith, c.requires.1, c.put.auto.out))

pub put_row-requires : goal.put_row-requires
put_row-requires c =
    let at = c.loop-i in
    omega (arith, at.invariant.room, at.invariant.same, c.loop-i-test.true)

pub loop-i-smaller : goal.loop-i-smaller
loop-i-smaller c = omega (arith, c.loop-i-test.true)

pub loop-i-preserved : goal.loop-i-preserved
loop-i-preserved c =
    let l = c.args.list.now in
    let at = c.loop-i in
    writing_next l.area.now l.params _ at.out _ at.i (row_in c.row_for.result) at.invariant c.loop-i-test.true c.row_for.ensures c.put_row.auto.out c.put_row.ensures

pub shape_of-out : goal.shape_of-out
shape_of-out c = c.loop-i.invariant.same ∙ c.put.auto.out

pub returns : goal.returns
unfolding value_cells
returns c =
    let a = c.args in
    let at = c.loop-i in
    writing_end a.list.now.area.now a.list.now.params a.function a.out.now _ at.out at.i at.invariant c.loop-i-test.false c.requires.1
    (c.put.ensures ∙ ap (λ p. stored a.out.now 0 (value_cells (pair_of p))) c.new.ensures)
