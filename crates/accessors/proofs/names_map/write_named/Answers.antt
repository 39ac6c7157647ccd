use mathlib.Core.Path.{◌≡◌, sym, ap, ap₂, ◌∙◌}
use Prim.Native.Nat.{◌+◌, ◌*◌}
use native.Mathlib.Omega.{arith}
use Rattle.rules.specs.Cells.{write_each}
use Rattle.rules.specs.Value.{value_cells}
use Rattle.rules.specs.Board.{named_cells}
use Rattle.cells.specs.Record.{pair_at}
use Rattle.cells.specs.Out.{stored}
use Rattle.cells.proofs.LawsOut.{stored_none}
use Rattle.calls.specs.Head.{head_of}
use Rattle.calls.specs.Named.{names_in}
use Rattle.accessors.proofs.LawsNames.{named_more}
use Rattle.accessors.proofs.names_map.write_named.Goals as goal

pub loop-k-init : goal.loop-k-init
loop-k-init c = λ area. sym (stored_none c.args.out.now 0 (omega arith))

pub overflow_add-pair : goal.overflow_add-pair
overflow_add-pair c =
    omega (arith, c.named_at-pair.ensures, c.requires.0.near c.loop-k.k c.loop-k-test.true)

pub loop-k-preserved : goal.loop-k-preserved
loop-k-preserved c =
    let a = c.args in
    let k = c.loop-k.k in
    λ area.
    c.put-in-loop-k.ensures
    ∙ ap₂ (λ b v. stored b (4 * k + 2) (value_cells v))
    (c.put.ensures ∙ ap (λ v. stored c.loop-k.out (4 * k) (value_cells v)) (c.pair_at.ensures ∙ ap (pair_at a.call.now.cells.now) c.named_at-pair.ensures))
    (c.pair_at-in-loop-k.ensures ∙ ap (λ p. pair_at a.call.now.cells.now (p + 2)) c.named_at-pair.ensures)
    ∙ named_more area a.call.now.cells.now (head_of a.call.now.head) k a.out.now c.loop-k.out (c.requires.0.text k c.loop-k-test.true) (omega (arith, c.requires.1, c.loop-k-test.true)) (c.loop-k.invariant area) c.loop-k.auto.out

pub returns : goal.returns
returns c =
    let a = c.args in
    let whole : c.loop-k.k ≡ a.count = omega (arith, c.loop-k-test.false) in
    λ area. c.loop-k.invariant area ∙ ap (λ n. stored a.out.now 0 (write_each named_cells (names_in area a.call.now.cells.now (head_of a.call.now.head) n))) whole
