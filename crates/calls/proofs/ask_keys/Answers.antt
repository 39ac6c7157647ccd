-- `calls::ask_keys` meets its contract: a refusal of 9 to 11 is handed on, and what passed them is asked 12. Assumes nothing.
use mathlib.Core.Path.{sym}
use Rattle.std.proofs.lemmas.Result.{err_from_is_err_and}
use Rattle.calls.specs.Keys.{ask_keys}
use Rattle.calls.proofs.ask_keys.Goals as goal

pub returns-in_err-ask_form : goal.returns-in_err-ask_form
unfolding ask_keys
returns-in_err-ask_form c =
    let p = err_from_is_err_and c.from_residual.result c.from_residual.ensures.1 in
    rw (p.1, p.2, sym c.in_err-ask_form.ensures)
