-- `slots::board::write_named` meets its contract: one pair more is stored in each turn. Assumes nothing.
use mathlib.Core.Path.{◌≡◌, sym, ap, ap₂, ◌∙◌}
use Prim.Native.Nat.{◌+◌, ◌*◌, ◌<◌}
use native.Mathlib.Omega.{arith}
use lib.ListN.{take, get_or, length-take}
use lib.Seq.{get_or-take}
use Rattle.rules.specs.Cells.{write_each}
use Rattle.rules.specs.Value.{value_cells}
use Rattle.rules.specs.Board.{named_cells}
use Rattle.cells.specs.Record.{pair_at}
use Rattle.cells.specs.Out.{stored}
use Rattle.cells.specs.Listed.{listed}
use Rattle.findings.specs.Resolved.{named_at}
use Rattle.cells.proofs.LawsOut.{stored_none}
use Rattle.slots.proofs.LawsPairs.{held_listed, named_more}
use Rattle.slots.proofs.board.write_named.Goals as goal

pub loop-k-init : goal.loop-k-init
loop-k-init c area = sym (stored_none c.args.board.now c.args.at (omega arith))

pub loop-k-preserved : goal.loop-k-preserved
loop-k-preserved c area =
    let a = c.args in
    let at = c.loop-k in
    let k = at.k in
    let below : k < a.resolved.now.count = omega (arith, length-take a.resolved.now.count a.resolved.now.rest) in
    let same : get_or (take a.resolved.now.count a.resolved.now.rest) k 0 ≡ get_or a.resolved.now.rest k 0 = get_or-take a.resolved.now.count a.resolved.now.rest k 0 below in
    c.put_inside-in-loop-k.ensures
    ∙ ap₂ (λ b v. stored b (a.at + 4 * k + 2) (value_cells v))
    (c.put_inside.ensures ∙ ap (λ v. stored at.board (a.at + 4 * k) (value_cells v)) (c.pair_at.ensures ∙ ap (pair_at a.cells.now) same))
    (c.pair_at-in-loop-k.ensures ∙ ap (λ n. pair_at a.cells.now (n + 2)) same)
    ∙ named_more area a.cells.now a.resolved.now.rest k a.at a.board.now at.board (c.requires.0.text k below) (omega arith) (at.invariant area) at.auto.board

pub returns : goal.returns
returns c area =
    let a = c.args in
    let at = c.loop-k in
    let whole : at.k ≡ a.resolved.now.count = omega arith in
    at.invariant area
    ∙ ap (λ vs. stored a.board.now a.at (write_each named_cells vs))
    (ap (listed (λ j. named_at area a.cells.now (get_or a.resolved.now.rest j 0)) 0) whole
    ∙ sym (held_listed area a.cells.now a.resolved.now.rest a.resolved.now.count (omega arith)))
