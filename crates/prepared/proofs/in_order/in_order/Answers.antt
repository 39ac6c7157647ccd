-- `prepared::in_order::in_order` meets its contract: as many arguments as rows, stars that pass, a last value whose row is positional, and
-- pairs that are named in turn are a call in the list's order. Assumes nothing.
use mathlib.Core.Path.{◌≡◌, sym, ◌∙◌}
use mathlib.Core.Bool.{false≢true}
use Prim.Native.Nat.{◌+◌}
use native.Mathlib.Omega.{arith}
use Rattle.calls.specs.Head.{head_of, Few}
use Rattle.prepared.proofs.LawsSeenInOrder.{order_few, rows_there, named_ready, entries_ready, seen_in_order}
use Rattle.prepared.proofs.in_order.in_order.Goals as goal
use Rattle.prepared.proofs.in_order.in_order.Goals.{Else-values-h, Start, then-takes_positions, else-takes_positions}

few : (c : Start) → Few 64 (head_of c.args.call.now.head)
few c = let a = c.args in order_few a.list.now.area.now a.list.now.cells.now a.call.now.cells.now a.call.now.area.now (head_of a.call.now.head) a.len c.requires

-- there are as many arguments as rows
full : (c : Else-values-h) → let a = c.args in a.call.now.head.p + a.call.now.head.s + a.call.now.head.n + a.call.now.head.d ≡ a.len
full c = c.if-values-h.false

pub overflow_add-values : goal.overflow_add-values
overflow_add-values c = let f = few (goal.at.overflow_add-values c).Start in omega (arith, f.few_p, f.few_s)

pub overflow_add-values-2 : goal.overflow_add-values-2
overflow_add-values-2 c = let f = few (goal.at.overflow_add-values-2 c).Start in omega (arith, f.few_p, f.few_s, f.few_n)

pub overflow_add-values-3 : goal.overflow_add-values-3
overflow_add-values-3 c = let f = few (goal.at.overflow_add-values-3 c).Start in omega (arith, f.few_p, f.few_s, f.few_n, f.few_d)

pub takes_positions-requires : goal.takes_positions-requires
takes_positions-requires c =
    let a = c.args in
    rows_there a.list.now.area.now a.list.now.cells.now a.call.now.cells.now a.call.now.area.now (head_of a.call.now.head) a.len c.requires (a.call.now.head.p + a.call.now.head.s) (omega (arith, full (goal.at.takes_positions-requires c).Else-values-h))

pub entries_from-requires : goal.entries_from-requires
entries_from-requires c =
    few (goal.at.entries_from-requires c).Start

pub named_in_turn-requires : goal.named_in_turn-requires
named_in_turn-requires c =
    let a = c.args in
    entries_ready a.list.now.area.now a.list.now.cells.now a.call.now.cells.now a.call.now.area.now (head_of a.call.now.head) a.len c.requires (omega (arith, full (goal.at.named_in_turn-requires c).Else-values-h)) c.entries_from.ensures

pub named_from-requires : goal.named_from-requires
named_from-requires c =
    few (goal.at.named_from-requires c).Start

pub named_in_turn-requires-then-named_in_turn : goal.named_in_turn-requires-then-named_in_turn
named_in_turn-requires-then-named_in_turn c =
    let a = c.args in
    named_ready a.list.now.area.now a.list.now.cells.now a.call.now.cells.now a.call.now.area.now (head_of a.call.now.head) a.len c.requires (omega (arith, full (goal.at.named_in_turn-requires-then-named_in_turn c).Else-values-h)) c.named_from.ensures

pub returns-then-named_in_turn : goal.returns-then-named_in_turn
returns-then-named_in_turn c =
    let a = c.args in
    λ e. elim c.if-takes_positions.branch [
      | then-takes_positions w ↦ seen_in_order a.list.now.area.now a.list.now.cells.now a.call.now.cells.now a.call.now.area.now (head_of a.call.now.head) a.len c.requires (full (goal.at.returns-then-named_in_turn c).Else-values-h)
          c.if-h-eq2.false c.if-h-eq2-2.false
          (sym c.takes_positions.ensures ∙ w.if-takes_positions.true)
          w.entries_from.ensures (w.named_in_turn.ensures (sym w.value-is ∙ c.if-named_in_turn.true))
          c.named_from.ensures (c.named_in_turn-then-named_in_turn.ensures e)
      | else-takes_positions w ↦ absurd (false≢true (sym w.if-takes_positions.false ∙ sym w.value-is ∙ c.if-named_in_turn.true))
    ]
