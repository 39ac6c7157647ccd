use mathlib.Core.Path.{sym, ap, ap₂, ◌∙◌}
use Prim.Native.Nat.{ℕ, ◌+◌, ◌*◌}
use native.Mathlib.Nat.{zero-add}
use native.Mathlib.Omega.{arith}
use Rattle.rules.specs.Value.{value_cells}
use Rattle.cells.specs.Out.{stored}
use Rattle.cells.specs.Value.{pair_of}
use Rattle.cells.specs.Record.{pair_at}
use Rattle.cells.proofs.LawsOut.{stored_none}
use Rattle.cells.proofs.LawsRecord.{pair_at_is}
use Rattle.cells.proofs.LawsWrite.{value_cells_two, written_more}
use Rattle.calls.proofs.values.copy_named.Goals as goal

pub loop-k-init : goal.loop-k-init
loop-k-init c = sym (stored_none c.args.board.now c.args.at (omega (arith, c.requires.2)))

pub loop-k-preserved : goal.loop-k-preserved
loop-k-preserved c =
    let a = c.args in
    let at = c.loop-k in
    let value : ℕ → ℕ = λ k. a.from + 4 * k + 2 in
    c.put_inside.ensures
    ∙ ap₂ (λ b v. stored b (a.at + 2 * at.k) (value_cells v)) at.invariant (ap pair_of c.new-pair.ensures ∙ sym (pair_at_is a.cells.now (value at.k)) ∙ ap (λ j. pair_at a.cells.now (value j)) (sym (zero-add at.k)))
    ∙ written_more 2 value_cells value_cells_two (λ j. pair_at a.cells.now (value j)) 0 at.k a.at a.board.now (omega (arith, c.requires.2))
