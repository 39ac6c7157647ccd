-- `prepared::in_order::named_after` meets its contract: a pair whose key is the name of a row that can be named is named after it. Assumes nothing.
use mathlib.Core.Path.{sym, ◌∙◌}
use Rattle.prepared.proofs.LawsNamedAfter.{key_inside, row_inside, keys_same, after_row}
use Rattle.prepared.proofs.in_order.named_after.Goals as goal

pub same_name-requires : goal.same_name-requires
same_name-requires c =
    let a = c.args in
    let list = a.list.now in
    let call = a.call.now in
    let may = sym c.may_be_named.ensures ∙ c.if-not-may_be_named.false in (
      key_inside list.area.now list.cells.now call.cells.now call.area.now a.pair a.row c.requires.0 c.requires.3 c.if-call-pair-ne6.false may,
      row_inside list.area.now list.cells.now call.cells.now call.area.now a.pair a.row c.requires.0 c.requires.3 c.if-call-pair-ne6.false may,
      c.if-name-other.false,
      keys_same list.area.now list.cells.now call.cells.now call.area.now a.pair a.row c.requires.0 c.requires.3 c.if-call-pair-ne6.false may c.key_of.ensures c.if-rows-at.false,
    )

pub returns : goal.returns
returns c =
    let a = c.args in
    let list = a.list.now in
    let call = a.call.now in
    λ e. after_row list.area.now list.cells.now call.cells.now call.area.now a.pair a.row c.requires.0 c.requires.3 c.if-call-pair-ne6.false (sym c.may_be_named.ensures ∙ c.if-not-may_be_named.false) c.same_name.ensures e
