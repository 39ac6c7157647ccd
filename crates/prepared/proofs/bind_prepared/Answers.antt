-- `prepared::bind_prepared` meets its contract: cells that are no prepared list are refused, and so is what 9 to 11 refuse; a call in the list's
-- order ends as it says, and any other one is refused by 12 or ends against the rows when they are loaded. Assumes nothing.
use mathlib.Core.Path.{sym, ◌∙◌}
use mathlib.Core.List.{List}
use Prim.Native.Nat.{ℕ}
use Rattle.std.specs.Prelude.{Result}
use Rattle.std.proofs.lemmas.Result.{err_from_is_err_and}
use Rattle.rules.specs.Collection.{call_of}
use Rattle.answers.specs.declared.answer.Counts.{Counts}
use Rattle.answers.specs.declared.answer.Refusal.{Refusal}
use Rattle.calls.specs.Head.{head_of}
use Rattle.calls.proofs.LawsCall.{form_lengths, lengths_few, lengths_length}
use Rattle.collector.specs.Collect.{Ends, bound_to}
use Rattle.collector.proofs.LawsEnds.{bound_keys}
use Rattle.prepared.specs.Prepared.{list_in}
use Rattle.prepared.specs.InOrder.{OrderReady, InOrder, InOrderEnds}
use Rattle.prepared.proofs.LawsBind.{prepared_counts, prepared_refused, unprepared_ends}
use Rattle.prepared.proofs.LawsOrderEnds.{form_ends, in_order_few, in_order_ends}
use Rattle.prepared.proofs.bind_prepared.Goals as goal
use Rattle.prepared.proofs.bind_prepared.Goals.{After-new-call, Then-in_order}

pub returns-then-not-is_prepared : goal.returns-then-not-is_prepared
returns-then-not-is_prepared c = unprepared_ends _ _ _ _ _ (sym c.is_prepared.ensures ∙ c.if-not-is_prepared.true)

pub returns-in_err-ask_form : goal.returns-in_err-ask_form
returns-in_err-ask_form c =
    let a = c.args in
    let p = err_from_is_err_and c.from_residual.result c.from_residual.ensures.1 in
    rw (p.1, p.2)
    (prepared_refused a.prepared.now.area.now a.prepared.now.cells.now (sym c.is_prepared.ensures ∙ c.if-not-is_prepared.false) a.record.now.cells.now a.record.now.area.now a.board.now a.board.now _
    (form_ends (list_in a.prepared.now.area.now a.prepared.now.cells.now) a.record.now.cells.now a.record.now.area.now a.board.now _ (sym c.in_err-ask_form.ensures)))

-- the cells are a prepared list, and the call has passed 9 to 11
ready : (c : After-new-call) → let l = c.args.prepared.now in
    let call = c.new-call.result in
    OrderReady l.area.now l.cells.now call.cells.now call.area.now (head_of call.head) c.cell-n.result
ready c =
    record {
      prepared = sym c.is_prepared.ensures ∙ c.if-not-is_prepared.false;
      count = c.cell-n.ensures;
      read = rw c.new-call.ensures.cells c.new-call.ensures.head;
      formed = rw (c.new-call.ensures.cells, c.new-call.ensures.area) (sym c.in_ok-ask_form.ensures);
    }

pub in_order-requires : goal.in_order-requires
in_order-requires c = ready (goal.at.in_order-requires c).After-new-call

-- its arguments stand in the list's order
ordered : (c : Then-in_order) → let a = c.args in
    let call = c.new-call.result in
    InOrder (list_in a.prepared.now.area.now a.prepared.now.cells.now) (call_of call.cells.now call.area.now)
ordered c = c.in_order.ensures c.if-in_order.true

pub collect_in_order-requires : goal.collect_in_order-requires
collect_in_order-requires c =
    let l = c.args.prepared.now in
    let call = c.new-call.result in
    let h = head_of call.head in
    let told = ready (goal.at.collect_in_order-requires c).After-new-call in
    let nine = form_lengths 64 call.cells.now call.area.now told.formed in (
      lengths_few call.cells.now h told.read 64 nine,
      lengths_length call.cells.now h told.read 64 nine,
      in_order_few l.area.now l.cells.now call.cells.now call.area.now h c.cell-n.result told (ordered (goal.at.collect_in_order-requires c).Then-in_order),
    )

-- how it ends then
ends : (c : Then-in_order) → let a = c.args in
    let call = c.new-call.result in
    (after : List ℕ) (r : Result Counts Refusal) → InOrderEnds call.cells.now (head_of call.head) c.cell-n.result a.board.now after r
    → Ends (bound_to (list_in a.prepared.now.area.now a.prepared.now.cells.now) a.record.now.cells.now a.record.now.area.now a.board.now) a.board.now after r
ends c after r e =
    let a = c.args in
    let call = c.new-call.result in
    rw (c.new-call.ensures.cells, c.new-call.ensures.area) at
    (in_order_ends a.prepared.now.area.now a.prepared.now.cells.now call.cells.now call.area.now (head_of call.head) c.cell-n.result (ready (goal.at.Then-in_order c).After-new-call) (ordered c) a.board.now after r e)

pub returns-in_err-collect_in_order : goal.returns-in_err-collect_in_order
returns-in_err-collect_in_order c =
    let a = c.args in
    let r = c.from_residual-in_err-collect_in_order in
    let p = err_from_is_err_and r.result r.ensures.1 in
    rw (p.1, p.2)
    (prepared_refused a.prepared.now.area.now a.prepared.now.cells.now (sym c.is_prepared.ensures ∙ c.if-not-is_prepared.false) a.record.now.cells.now a.record.now.area.now a.board.now _ _
    (ends (goal.at.returns-in_err-collect_in_order c).Then-in_order _ _ c.in_err-collect_in_order.ensures))

pub returns-then-in_order : goal.returns-then-in_order
returns-then-in_order c =
    let a = c.args in
    prepared_counts a.prepared.now.area.now a.prepared.now.cells.now (sym c.is_prepared.ensures ∙ c.if-not-is_prepared.false) a.record.now.cells.now a.record.now.area.now a.board.now _ _
    (ends (goal.at.returns-then-in_order c).Then-in_order _ _ c.in_ok-collect_in_order.ensures)

pub ask_entries-requires : goal.ask_entries-requires
ask_entries-requires c = sym c.in_ok-ask_form.ensures

pub returns-in_err-ask_entries : goal.returns-in_err-ask_entries
returns-in_err-ask_entries c =
    let a = c.args in
    let r = c.from_residual-in_err-ask_entries in
    let p = err_from_is_err_and r.result r.ensures.1 in
    rw (p.1, p.2)
    (prepared_refused a.prepared.now.area.now a.prepared.now.cells.now (sym c.is_prepared.ensures ∙ c.if-not-is_prepared.false) a.record.now.cells.now a.record.now.area.now a.board.now a.board.now _
    (bound_keys (list_in a.prepared.now.area.now a.prepared.now.cells.now) a.record.now.cells.now a.record.now.area.now a.board.now _ (sym c.in_err-ask_entries.ensures)))

pub collect_loaded-requires : goal.collect_loaded-requires
collect_loaded-requires c = (ready (goal.at.collect_loaded-requires c).After-new-call, rw (c.new-call.ensures.cells, c.new-call.ensures.area) (sym c.in_ok-ask_entries.ensures))

pub returns-in_err-collect_loaded : goal.returns-in_err-collect_loaded
returns-in_err-collect_loaded c =
    let a = c.args in
    let r = c.from_residual-in_err-collect_loaded in
    let p = err_from_is_err_and r.result r.ensures.1 in
    rw (p.1, p.2)
    (prepared_refused a.prepared.now.area.now a.prepared.now.cells.now (sym c.is_prepared.ensures ∙ c.if-not-is_prepared.false) a.record.now.cells.now a.record.now.area.now a.board.now _ _
    (rw (c.new-call.ensures.cells, c.new-call.ensures.area) at c.in_err-collect_loaded.ensures))

pub returns : goal.returns
returns c =
    let a = c.args in
    prepared_counts a.prepared.now.area.now a.prepared.now.cells.now (sym c.is_prepared.ensures ∙ c.if-not-is_prepared.false) a.record.now.cells.now a.record.now.area.now a.board.now _ _
    (rw (c.new-call.ensures.cells, c.new-call.ensures.area) at c.in_ok-collect_loaded.ensures)
