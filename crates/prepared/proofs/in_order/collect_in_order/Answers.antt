-- `prepared::in_order::collect_in_order` meets its contract: 14 is asked, and then four runs are stored one behind the other.
-- Assumes nothing.
use mathlib.Core.Path.{refl}
use native.Mathlib.Omega.{arith}
use Rattle.calls.specs.Head.{head_of}
use Rattle.prepared.proofs.LawsWrittenInOrder.{values_inside, items_inside, named_inside, entries_inside, in_order_stored}
use Rattle.prepared.proofs.in_order.collect_in_order.Goals as goal

pub returns-then-board-lt-BOARD : goal.returns-then-board-lt-BOARD
returns-then-board-lt-BOARD c = record { short = λ l. (refl, refl); long = λ l. absurd (omega (arith, c.if-board-lt-BOARD.true)) }

pub copy_values-requires : goal.copy_values-requires
copy_values-requires c =
    let a = c.args in
    (omega (arith, c.requires.0.few_p), values_inside a.call.now.cells.now (head_of a.call.now.head) c.requires.1, omega (arith, c.requires.2, c.if-board-lt-BOARD.false))

pub copy_values-requires-2 : goal.copy_values-requires-2
copy_values-requires-2 c =
    let a = c.args in (
      omega (arith, c.requires.0.few_s),
      items_inside a.call.now.cells.now (head_of a.call.now.head) c.requires.1 c.items_from.result c.items_from.ensures,
      omega (arith, c.requires.2, c.if-board-lt-BOARD.false, c.copy_values.auto.board),
    )

pub copy_named-requires : goal.copy_named-requires
copy_named-requires c =
    let a = c.args in (
      c.requires.0.few_n,
      named_inside a.call.now.cells.now (head_of a.call.now.head) c.requires.1 c.named_from.result c.named_from.ensures,
      omega (arith, c.requires.2, c.if-board-lt-BOARD.false, c.copy_values.auto.board, c.copy_values-2.auto.board),
    )

pub copy_named-requires-2 : goal.copy_named-requires-2
copy_named-requires-2 c =
    let a = c.args in (
      c.requires.0.few_d,
      entries_inside a.call.now.cells.now (head_of a.call.now.head) c.requires.1 c.entries_from.result c.entries_from.ensures,
      omega (arith, c.requires.2, c.if-board-lt-BOARD.false, c.copy_values.auto.board, c.copy_values-2.auto.board, c.copy_named.auto.board),
    )

pub returns : goal.returns
returns c =
    let a = c.args in
    record {
      short = λ l. absurd (omega (arith, c.if-board-lt-BOARD.false));
      long = λ l. (
        refl,
        in_order_stored a.call.now.cells.now (head_of a.call.now.head) c.requires.1
            a.board.now c.copy_values.new.board c.copy_values-2.new.board c.copy_named.new.board c.copy_named-2.new.board
            c.items_from.result c.named_from.result c.entries_from.result
            c.items_from.ensures c.named_from.ensures c.entries_from.ensures
            (omega (arith, c.requires.2))
            c.copy_values.ensures c.copy_values-2.ensures c.copy_named.ensures c.copy_named-2.ensures,
      );
    }
