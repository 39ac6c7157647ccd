-- `questions::questions::judge` meets its contract: 15, then 16 by what the written names fill, and the rest by `after_names`.
-- Assumes nothing.
use mathlib.Core.Path.{sym}
use native.Mathlib.Omega.{arith}
use Rattle.std.proofs.lemmas.Result.{err_from_is_err_and}
use Rattle.questions.proofs.LawsQuestions.{judged_refused, next_few, star_refused, repeats_refused, asked_names}
use Rattle.questions.proofs.questions.judge.Goals as goal

pub returns-in_err-ask_star-clause-judged : goal.returns-in_err-ask_star-clause-judged
returns-in_err-ask_star-clause-judged c =
    let p = err_from_is_err_and c.from_residual.result c.from_residual.ensures.1 in
    let e = c.in_err-ask_star.field-0.0 in
    let told = star_refused c.requires.call e (sym c.in_err-ask_star.ensures) in
    rw (p.1, p.2) (judged_refused e told.0 told.1)

-- as many slots as are filled by position are few
pub ask_repeats-requires : goal.ask_repeats-requires
ask_repeats-requires c = omega (arith, next_few c.requires.call)

pub returns-in_err-ask_repeats-clause-judged : goal.returns-in_err-ask_repeats-clause-judged
returns-in_err-ask_repeats-clause-judged c =
    let p = err_from_is_err_and c.from_residual-in_err-ask_repeats.result c.from_residual-in_err-ask_repeats.ensures.1 in
    let e = c.in_err-ask_repeats.field-0.0 in
    let told = repeats_refused c.requires.call (sym c.in_ok-ask_star.ensures) c.requires.resolved e (sym c.in_err-ask_repeats.ensures) in
    rw (p.1, p.2) (judged_refused e told.0 told.1)

pub returns-clause-judged : goal.returns-clause-judged
returns-clause-judged c =
    rw (← asked_names c.requires.call (sym c.in_ok-ask_star.ensures) c.requires.resolved (sym c.in_ok-ask_repeats.ensures)) c.after_names.ensures.judged
