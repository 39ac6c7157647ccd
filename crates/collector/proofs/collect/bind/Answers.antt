-- `collector::collect::bind` meets its contract: 9 to 12 are handed on where they refuse, the short path asks 14 and ends as the call's outcome
-- says, and any other call is left to `collect_open`. Assumes nothing.
use mathlib.Core.Path.{◌≡◌, refl, sym, subst, ◌∙◌}
use mathlib.Core.Bool.{true}
use Prim.Native.Nat.{◌+◌, min}
use Rattle.std.proofs.lemmas.Result.{err_from_is_err_and}
use Rattle.std.specs.Prelude.{Ok}
use Rattle.rules.specs.Answer.{fine}
use Rattle.rules.specs.CallQuestions.{ask_form, ask_call}
use Rattle.rules.specs.Collection.{call_of}
use Rattle.builder.specs.Params.{parameters_in}
use Rattle.calls.specs.Head.{head_of}
use Rattle.calls.specs.Keys.{ask_keys}
use Rattle.calls.proofs.LawsCall.{keys_form}
use Rattle.collector.specs.Collect.{Ends, is_short}
use Rattle.collector.proofs.LawsReady.{call_ready, inline_ready}
use Rattle.collector.proofs.LawsEnds.{short_call, short_passed, bound_keys, bound_short_board, bound_binding}
use Rattle.collector.proofs.collect.bind.Goals as goal
use Rattle.collector.proofs.collect.bind.Goals.{Else-not-is_short}

pub returns-in_err-ask_keys : goal.returns-in_err-ask_keys
returns-in_err-ask_keys c =
    let a = c.args in
    let p = err_from_is_err_and c.from_residual.result c.from_residual.ensures.1 in
    rw (p.1, p.2) (bound_keys (parameters_in a.list.now.area.now a.list.now.params) a.record.now.cells.now a.record.now.area.now a.board.now c.in_err-ask_keys.field-0.0 (sym c.in_err-ask_keys.ensures))

-- a call that passed 9 to 12
module _ (c : Else-not-is_short) where
  passed : let a = c.args in ask_keys 64 a.record.now.cells.now a.record.now.area.now ≡ fine
  passed = sym c.in_ok-ask_keys.ensures

  form : let a = c.args in ask_form 64 a.record.now.cells.now a.record.now.area.now ≡ fine
  form = keys_form 64 _ _ passed

  -- one that the short path is for has no names, so 13 is passed
  all_passed : let a = c.args in is_short a.list.now.indices.num_positional a.list.now.params.len (head_of c.new-call.result.head) ≡ true → ask_call 64 a.record.now.cells.now a.record.now.area.now ≡ fine
  all_passed applies =
      let a = c.args in
      short_passed a.record.now.cells.now a.record.now.area.now (head_of c.new-call.result.head) c.new-call.ensures.head passed a.list.now.indices.num_positional a.list.now.params.len applies

pub returns-then-board-lt-BOARD : goal.returns-then-board-lt-BOARD
returns-then-board-lt-BOARD c =
    let a = c.args in
    bound_short_board (parameters_in a.list.now.area.now a.list.now.params) a.record.now.cells.now a.record.now.area.now a.board.now
    (all_passed (goal.at.returns-then-board-lt-BOARD c).Else-not-is_short (sym c.is_short.ensures ∙ c.if-not-is_short.false)) c.if-board-lt-BOARD.true

pub collect_inline-requires : goal.collect_inline-requires
collect_inline-requires c =
    let a = c.args in
    rw c.new-call.ensures.cells
    (inline_ready a.record.now.cells.now a.record.now.area.now (head_of c.new-call.result.head) c.new-call.ensures.head (form (goal.at.collect_inline-requires c).Else-not-is_short) a.board.now c.if-board-lt-BOARD.false)

pub returns : goal.returns
returns c =
    let a = c.args in
    let l = a.list.now in
    let h = head_of c.new-call.result.head in
    let short = (goal.at.returns c).Else-not-is_short in
    let applies : is_short l.indices.num_positional l.params.len h ≡ true = sym c.is_short.ensures ∙ c.if-not-is_short.false in
    subst (λ o. Ends o a.board.now c.collect_inline.new.board (Ok c.collect_inline.result))
    (sym (bound_binding (parameters_in a.list.now.area.now l.params) a.record.now.cells.now a.record.now.area.now a.board.now (all_passed short applies) c.if-board-lt-BOARD.false))
    (c.collect_inline.ensures (parameters_in a.list.now.area.now l.params) (call_of a.record.now.cells.now a.record.now.area.now)
    (rw c.new-call.ensures.cells
    (short_call a.list.now.area.now l a.record.now.cells.now a.record.now.area.now h c.new-call.ensures.head (min (h.p + h.s) l.indices.num_positional)
    (call_ready a.record.now.cells.now a.record.now.area.now h c.new-call.ensures.head (form short) a.list.now.area.now l c.requires _ refl) applies)))
