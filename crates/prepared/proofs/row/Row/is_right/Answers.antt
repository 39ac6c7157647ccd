-- `prepared::row::Row::is_right` meets its contract, from the answers of its callees, one after the other.
-- Assumes nothing.
use Rattle.builder.specs.Params.{step_of}
use Rattle.prepared.specs.Rows.{row_in}
use Rattle.prepared.proofs.LawsRows.{right_stands, right_uses, right_name, right_key}
use Rattle.prepared.proofs.row.Row.is_right.Goals as goal
use Rattle.prepared.proofs.row.Row.is_right.Goals.{then-not-may_stand-via-then-not-may_stand, then-not-may_stand-via-else-not-may_stand+then-not-uses_right}

pub returns-then-not-may_stand : goal.returns-then-not-may_stand
unfolding row_in step_of
returns-then-not-may_stand c =
    let a = c.args in
    let r = row_in a.self in
    let stood = c.may_stand.ensures r.step.default in
    elim c.then-not-may_stand.branch [
      | then-not-may_stand-via-then-not-may_stand w ↦ right_stands a.area.now r stood w.if-not-may_stand.true
      | then-not-may_stand-via-else-not-may_stand+then-not-uses_right w ↦ right_uses a.area.now r stood w.if-not-may_stand.false w.uses_right.ensures w.if-not-uses_right.true
    ]

pub returns-then-step-lt4 : goal.returns-then-step-lt4
unfolding row_in step_of
returns-then-step-lt4 c =
    let a = c.args in
    let r = row_in a.self in
    right_name a.area.now r (c.may_stand.ensures r.step.default) c.if-not-may_stand.false c.uses_right.ensures c.if-not-uses_right.false
    c.if-step-lt4.true c.name_right.ensures

pub returns : goal.returns
unfolding row_in step_of
returns c =
    let a = c.args in
    let r = row_in a.self in
    right_key a.area.now r (c.may_stand.ensures r.step.default) c.if-not-may_stand.false c.uses_right.ensures c.if-not-uses_right.false
    c.if-step-lt4.false c.key_of.ensures
