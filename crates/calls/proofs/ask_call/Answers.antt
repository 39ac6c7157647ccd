-- `calls::ask_call` meets its contract: a refusal of 9 to 12 is handed on, and what passed them gives 13 what it requires.
-- Assumes nothing.
use mathlib.Core.Path.{◌≡◌, sym, ap, ◌∙◌}
use Rattle.std.proofs.lemmas.Result.{err_from_is_err_and}
use Rattle.rules.specs.Answer.{fine}
use Rattle.rules.specs.CallRecord.{read_call}
use Rattle.rules.specs.CallQuestions.{names_differ, ask_form}
use Rattle.cells.specs.Question.{answer_of}
use Rattle.calls.specs.Keys.{ask_keys}
use Rattle.calls.proofs.LawsCall.{lengths_few, formed_names, names_as_keys, form_lengths, form_parts, call_in_turn, keys_form}
use Rattle.calls.proofs.ask_call.Goals as goal
use Rattle.calls.proofs.ask_call.Goals.{After-keys_differ, In_ok-ask_keys}

-- 9 to 12 passed
keys_passed : (c : In_ok-ask_keys) → ask_keys 64 c.args.record.now.cells.now c.args.record.now.area.now ≡ fine
keys_passed c = sym c.ask_keys.ensures ∙ ap answer_of c.in_ok-ask_keys.was

form_passed : (c : In_ok-ask_keys) → ask_form 64 c.args.record.now.cells.now c.args.record.now.area.now ≡ fine
form_passed c = keys_form 64 _ _ (keys_passed c)

-- 13 of a record that passed them, by what its function answered
thirteen : (c : After-keys_differ) → let s = c.args in
    ask_form 64 s.record.now.cells.now s.record.now.area.now ≡ fine → names_differ s.record.now.area.now (read_call s.record.now.cells.now) ≡ c.keys_differ.result
thirteen c p =
    names_as_keys _ _ c.read_head-h.ensures 64 (form_lengths 64 _ _ p) _ (form_parts 64 _ _ p)
    ∙ rw (sym c.named_from.ensures) (sym c.keys_differ.ensures)

pub returns-in_err-ask_keys : goal.returns-in_err-ask_keys
returns-in_err-ask_keys c =
    let p = err_from_is_err_and c.from_residual.result c.from_residual.ensures.1 in
    rw (p.1, p.2, call_in_turn, sym c.in_err-ask_keys.ensures)

pub named_from-requires : goal.named_from-requires
named_from-requires c = lengths_few _ _ c.read_head-h.ensures 64 (form_lengths 64 _ _ (form_passed (goal.at.named_from-requires c).In_ok-ask_keys))

pub keys_differ-requires : goal.keys_differ-requires
keys_differ-requires c =
    let p = form_passed (goal.at.keys_differ-requires c).In_ok-ask_keys in
    rw c.named_from.ensures (formed_names _ _ c.read_head-h.ensures 64 (form_lengths 64 _ _ p) _ (form_parts 64 _ _ p))

pub returns-then-not-keys_differ : goal.returns-then-not-keys_differ
returns-then-not-keys_differ c =
    rw (call_in_turn, keys_passed (goal.at.returns-then-not-keys_differ c).In_ok-ask_keys, thirteen (goal.at.returns-then-not-keys_differ c).After-keys_differ (form_passed (goal.at.returns-then-not-keys_differ c).In_ok-ask_keys) ∙ c.if-not-keys_differ.true)

pub returns : goal.returns
returns c =
    rw (call_in_turn, keys_passed (goal.at.returns c).In_ok-ask_keys, thirteen (goal.at.returns c).After-keys_differ (form_passed (goal.at.returns c).In_ok-ask_keys) ∙ c.if-not-keys_differ.false)
