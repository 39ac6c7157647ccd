-- `collector::collect::collect_open` meets its contract: 13 by what resolving the written names answers, 14 by the board's length, and then the
-- general path. Assumes nothing.
use mathlib.Core.Path.{◌≡◌, sym, ap, subst, ◌∙◌}
use mathlib.Core.Bool.{true}
use mathlib.Core.List.{List, []}
use Prim.Native.Nat.{ℕ, ◌+◌, min}
use native.Mathlib.Omega.{arith}
use lib.ListN.{replicate}
use Rattle.std.proofs.lemmas.Result.{err_from_is_err_and}
use Rattle.std.specs.Prelude.{Ok}
use Rattle.rules.specs.Text.{differ}
use Rattle.rules.specs.Answer.{fine}
use Rattle.rules.specs.Binding.{texts_of}
use Rattle.rules.specs.CallQuestions.{ask_form, ask_call}
use Rattle.rules.specs.CallRecord.{Head}
use Rattle.rules.specs.Collection.{call_of}
use Rattle.builder.specs.Params.{parameters_in}
use Rattle.builder.specs.declared.spec.ParametersSpec.{ParametersSpec}
use Rattle.calls.specs.Head.{head_of, Few, named_from}
use Rattle.calls.proofs.LawsCall.{keys_form}
use Rattle.findings.specs.Resolve.{pairs_from, with_count, Naming, NamesEnd}
use Rattle.findings.specs.Resolved.{Resolved}
use Rattle.findings.specs.EntriesDone.{written_names}
use Rattle.questions.specs.Questions.{CallReady}
use Rattle.collector.specs.Collect.{Ends, OpenReady}
use Rattle.collector.proofs.LawsReady.{none_resolved, call_few, call_ready, pairs, names_asked}
use Rattle.collector.proofs.LawsEnds.{bound_names, call_passed, bound_short_board, bound_binding}
use Rattle.collector.proofs.collect.collect_open.Goals as goal
use Rattle.collector.proofs.collect.collect_open.Goals.{After-resolve_names}

-- a prepared list, and a record that passes 9 to 12
module _ {spec cells area : List ℕ} {l : ParametersSpec} {h : Head} (start : OpenReady spec l cells area h) where
  -- 9 to 11 passed
  form : ask_form 64 cells area ≡ fine
  form = keys_form 64 _ _ start.passed

  few : Few 64 h
  few = call_few cells area h start.read form

  -- the call is ready with as many slots filled from P as were counted
  ready : (next : ℕ) → next ≡ min (h.p + h.s) l.indices.num_positional → CallReady spec l cells area h next (call_of cells area)
  ready next is = call_ready cells area h start.read form spec l start.list next is

  -- nothing is resolved yet: what `resolve_names` is given
  naming : (from : ℕ) → from ≡ named_from h → Naming spec l cells area from h.n (replicate 64 0) (replicate 128 0)
  naming from is =
      record {
        list = start.list;
        pairs = rw is (pairs cells area h start.read form);
        empty = none_resolved spec l cells area start.list;
      }

pub overflow_add-h : goal.overflow_add-h
overflow_add-h c = omega (arith, (few c.requires).few_p, (few c.requires).few_s)

pub named_from-requires : goal.named_from-requires
named_from-requires c = few c.requires

pub resolve_names-requires : goal.resolve_names-requires
resolve_names-requires c =
    record {
      indices = c.args.list.now.indices;
      naming = naming c.requires c.named_from.result c.named_from.ensures;
    }

-- what resolving the written names answers
names_end : (c : After-resolve_names) → let a = c.args in let r = c.resolve_names in
    NamesEnd (parameters_in a.list.now.area.now a.list.now.params) a.call.now.cells.now a.call.now.area.now (written_names a.call.now.area.now a.call.now.cells.now (head_of a.call.now.head)) r.new.resolved.sources r.new.resolved.rest (with_count r.result r.new.resolved.count)
names_end c =
    let a = c.args in
    let r = c.resolve_names in
    subst (λ m. NamesEnd (parameters_in a.list.now.area.now a.list.now.params) a.call.now.cells.now a.call.now.area.now (pairs_from a.call.now.area.now a.call.now.cells.now m a.call.now.head.n) r.new.resolved.sources r.new.resolved.rest (with_count r.result r.new.resolved.count))
    c.named_from.ensures
    (r.ensures.names a.list.now.indices (naming c.requires c.named_from.result c.named_from.ensures))

pub returns-in_err-resolve_names : goal.returns-in_err-resolve_names
returns-in_err-resolve_names c =
    let a = c.args in
    let p = err_from_is_err_and c.from_residual.result c.from_residual.ensures.1 in
    let q = c.in_err-resolve_names.field-0.0 in
    let repeated = (names_end (goal.at.returns-in_err-resolve_names c).After-resolve_names).repeated q (ap (λ r. with_count r c.resolve_names.new.resolved.count) c.in_err-resolve_names.was) in
    rw (p.1, p.2, repeated.0)
    (bound_names (parameters_in a.list.now.area.now a.list.now.params) a.call.now.cells.now a.call.now.area.now a.board.now c.requires.passed
    (sym (names_asked a.call.now.cells.now a.call.now.area.now (head_of a.call.now.head) c.requires.read (form c.requires)) ∙ repeated.1))

-- all names are resolved
module _ (c : After-resolve_names) (is : c.resolve_names.result ≡ Ok tt) where
  resolved : let a = c.args in let r = c.resolve_names.new.resolved in
      (differ (texts_of (written_names a.call.now.area.now a.call.now.cells.now (head_of a.call.now.head))) ≡ true) × Resolved (parameters_in a.list.now.area.now a.list.now.params) a.call.now.cells.now a.call.now.area.now (written_names a.call.now.area.now a.call.now.cells.now (head_of a.call.now.head)) r.sources r.rest r.count
  resolved =
      let count = c.resolve_names.new.resolved.count in
      (names_end c).all count (ap (λ r. with_count r count) is)

  -- so 9 to 13 passed
  passed : ask_call 64 c.args.call.now.cells.now c.args.call.now.area.now ≡ fine
  passed =
      let a = c.args in
      call_passed [] a.call.now.cells.now a.call.now.area.now a.board.now c.requires.passed
      (sym (names_asked a.call.now.cells.now a.call.now.area.now (head_of a.call.now.head) c.requires.read (form c.requires)) ∙ resolved.0)

pub returns-then-board-lt-BOARD : goal.returns-then-board-lt-BOARD
returns-then-board-lt-BOARD c =
    let a = c.args in
    bound_short_board (parameters_in a.list.now.area.now a.list.now.params) a.call.now.cells.now a.call.now.area.now a.board.now (passed (goal.at.returns-then-board-lt-BOARD c).After-resolve_names c.in_ok-resolve_names.was) c.if-board-lt-BOARD.true

pub collect_slow-requires : goal.collect_slow-requires
collect_slow-requires c =
    record {
      call = ready c.requires c.resolve_names.new.resolved.next (c.resolve_names.ensures.next ∙ c.min-next.ensures);
      names = (resolved (goal.at.collect_slow-requires c).After-resolve_names c.in_ok-resolve_names.was).1;
      long = c.if-board-lt-BOARD.false;
    }

pub returns : goal.returns
returns c =
    let a = c.args in
    subst (λ o. Ends o a.board.now c.collect_slow.new.board c.collect_slow.result)
    (sym (bound_binding (parameters_in a.list.now.area.now a.list.now.params) a.call.now.cells.now a.call.now.area.now a.board.now (passed (goal.at.returns c).After-resolve_names c.in_ok-resolve_names.was) c.if-board-lt-BOARD.false)) c.collect_slow.ensures
