-- `prepared::in_order::takes_positions` meets its contract, by the ranges in which the code of the last row lies. Assumes nothing.
use Rattle.prepared.proofs.LawsNamedAfter.{last_3, last_0, last_4}
use Rattle.prepared.proofs.in_order.takes_positions.Goals as goal

pub returns-in-1-to-3 : goal.returns-in-1-to-3
returns-in-1-to-3 c = last_3 c.args.list.now c.args.count c.if-count-eq0.false c.in-1-to-3.if-list-at-lt1-own.false c.in-1-to-3.if-this-lt4-own.true

pub returns-in_default : goal.returns-in_default
returns-in_default c = last_0 c.args.list.now c.args.count c.if-count-eq0.false c.in_default.if-list-at-lt1-own.true

pub returns-in_default-2 : goal.returns-in_default-2
returns-in_default-2 c = last_4 c.args.list.now c.args.count c.if-count-eq0.false c.in_default.if-this-lt4-own.false
