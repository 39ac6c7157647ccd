use mathlib.Core.Path.{sym, ap, ap₂, ◌∙◌}
use Prim.Native.Nat.{◌+◌, ◌*◌}
use native.Mathlib.Omega.{arith}
use Rattle.rules.specs.Value.{value_cells}
use Rattle.cells.specs.Out.{stored}
use Rattle.cells.specs.Record.{pair_at}
use Rattle.calls.specs.Head.{head_of}
use Rattle.calls.specs.Values.{positional_at}
use Rattle.cells.proofs.LawsOut.{stored_none}
use Rattle.cells.proofs.LawsWrite.{value_cells_two, written_more}
use Rattle.calls.proofs.values.write_values.Goals as goal

pub loop-k-init : goal.loop-k-init
loop-k-init c = sym (stored_none c.args.board.now c.args.at (omega (arith, c.requires.1)))

pub loop-k-preserved : goal.loop-k-preserved
unfolding positional_at
loop-k-preserved c =
    let a = c.args in
    let at = c.loop-k in
    c.put_inside.ensures
    ∙ ap₂ (λ b v. stored b (a.at + 2 * at.k) (value_cells v)) at.invariant (c.pair_at.ensures ∙ ap (pair_at a.call.now.cells.now) c.position_at-position.ensures)
    ∙ written_more 2 value_cells value_cells_two (positional_at a.call.now.cells.now (head_of a.call.now.head)) a.from at.k a.at a.board.now (omega (arith, c.requires.1))
