use Rattle.builder.specs.Params.{step_of}
use Rattle.prepared.specs.Rows.{row_in}
use Rattle.prepared.proofs.LawsRowsLoop.{asked, Right, too_early, row_wrong, row_right_lem, keyed_here, style_here, slot_asked, twice, on_unnamed, on_unknown, on_new}
use Rattle.prepared.proofs.check.rows_right.Goals as goal
use Rattle.prepared.proofs.check.rows_right.Goals.{Else-not-is_right, then-row-least-via-then-row-least, then-row-least-via-else-row-least+then-not-is_right, then-may_be_named+else-used-slot, else-may_be_named, else-used-slot-via-then-used-slot+else-known_before, else-used-slot-via-else-used-slot}

pub returns-then-row-least : goal.returns-then-row-least
unfolding asked row_in step_of
returns-then-row-least c =
    let at = c.loop-i in
    let a = c.args in
    elim c.then-row-least.branch [
      | then-row-least-via-then-row-least w ↦ too_early a.list.now.area.now a.list.now.cells.now a.n at.used at.least at.i at.invariant c.loop-i-test.true c.row_at-row.ensures w.if-row-least.true
      | then-row-least-via-else-row-least+then-not-is_right w ↦ row_wrong a.list.now.area.now a.list.now.cells.now a.n at.used at.least at.i at.invariant c.loop-i-test.true c.row_at-row.ensures w.if-row-least.false
          w.is_right.ensures w.if-not-is_right.true
    ]

-- row i is right, and not too early
right : (c : Else-not-is_right)
    → let at = c.loop-i in
    let a = c.args in
    Right a.list.now.area.now a.list.now.cells.now a.n at.used at.least at.i (row_in c.row_at-row.result)
unfolding row_in step_of
right c =
    let at = c.loop-i in
    let a = c.args in
    row_right_lem a.list.now.area.now a.list.now.cells.now a.n at.used at.least at.i at.invariant c.loop-i-test.true c.row_at-row.ensures c.if-row-least.false
    c.is_right.ensures c.if-not-is_right.false

pub slot-slot-requires : goal.slot-slot-requires
unfolding row_in step_of
slot-slot-requires c = slot_asked (right (goal.at.slot-slot-requires c).Else-not-is_right) c.may_be_named.ensures c.if-may_be_named.true

pub known_before-requires : goal.known_before-requires
known_before-requires c =
    keyed_here (right (goal.at.known_before-requires c).Else-not-is_right) c.requires

pub returns-then-known_before : goal.returns-then-known_before
unfolding asked row_in step_of
returns-then-known_before c =
    twice (right (goal.at.returns-then-known_before c).Else-not-is_right) c.may_be_named.ensures c.if-may_be_named.true c.known_before.ensures c.if-known_before.true

pub style_after-least-requires : goal.style_after-least-requires
unfolding row_in step_of
style_after-least-requires c = style_here (right (goal.at.style_after-least-requires c).Else-not-is_right)

pub loop-i-preserved : goal.loop-i-preserved
unfolding row_in step_of
loop-i-preserved c =
    let here = right (goal.at.loop-i-preserved c).Else-not-is_right in
    elim c.if-may_be_named.branch [
      | then-may_be_named+else-used-slot w ↦ elim w.else-used-slot.branch [
        | else-used-slot-via-then-used-slot+else-known_before v ↦ on_unknown here c.style_after-least.ensures w.slot-slot.ensures w.used-is v.known_before.ensures v.if-known_before.false
        | else-used-slot-via-else-used-slot v ↦ on_new here c.style_after-least.ensures w.slot-slot.ensures w.used-is v.if-used-slot.false
      ]
      | else-may_be_named w ↦ on_unnamed here c.may_be_named.ensures c.style_after-least.ensures w.if-may_be_named.false w.used-is
    ]
