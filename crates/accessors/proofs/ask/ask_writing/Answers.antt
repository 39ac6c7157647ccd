-- `accessors::ask::ask_writing` meets its contract: 9 to 13 are handed on where they refuse, and then 14 is asked.
-- Assumes nothing.
use mathlib.Core.Path.{sym}
use Rattle.std.proofs.lemmas.Result.{err_from_is_err_and}
use Rattle.accessors.proofs.LawsAccess.{writing_refused, writing_short, writing_fine}
use Rattle.accessors.proofs.ask.ask_writing.Goals as goal

pub returns-in_err-ask_call : goal.returns-in_err-ask_call
returns-in_err-ask_call c =
    let p = err_from_is_err_and c.from_residual.result c.from_residual.ensures.1 in
    rw (p.1, p.2) (sym (writing_refused _ _ _ _ (sym c.in_err-ask_call.ensures)))

pub returns-then-out-lt-OUTPUT : goal.returns-then-out-lt-OUTPUT
returns-then-out-lt-OUTPUT c = sym (writing_short _ _ _ (sym c.in_ok-ask_call.ensures) c.if-out-lt-OUTPUT.true)

pub returns : goal.returns
returns c = sym (writing_fine _ _ _ (sym c.in_ok-ask_call.ensures) c.if-out-lt-OUTPUT.false)
