-- `questions::questions::after_names` meets its contract: 17 by the head, 18 and 19 as the entries answer, then 20 to 24. Assumes nothing.
use mathlib.Core.Path.{refl, ap}
use Rattle.std.proofs.lemmas.Result.{err_from_is_err_and}
use Rattle.findings.specs.Resolve.{with_count}
use Rattle.answers.specs.Answer.{entry_refused}
use Rattle.answers.specs.declared.answer.Refusal.TheVariants.{KwArgsIsNotDict}
use Rattle.questions.proofs.LawsQuestions.{judged_refused, entry_refusing, entries_ready, asked_double, asked_entries, judged_placed}
use Rattle.questions.proofs.questions.after_names.Goals as goal

pub returns-then-call-eq2-clause-judged : goal.returns-then-call-eq2-clause-judged
returns-then-call-eq2-clause-judged c = judged_refused KwArgsIsNotDict refl (asked_double c.requires.call c.if-call-eq2.true)

pub returns-in_err-resolve_entries-clause-judged : goal.returns-in_err-resolve_entries-clause-judged
returns-in_err-resolve_entries-clause-judged c =
    let r = c.resolve_entries in
    let e = c.in_err-resolve_entries.field-0.0 in
    let p = err_from_is_err_and c.from_residual.result c.from_residual.ensures.1 in
    let done = r.ensures.entries c.args.list.now.indices (entries_ready c.requires.call c.requires.resolved) in
    rw (p.1, p.2)
    (judged_refused (entry_refused e) (entry_refusing e)
    (asked_entries c.requires.call c.if-call-eq2.false done e (ap (λ answer. with_count answer r.new.resolved.count) c.in_err-resolve_entries.was)))

pub returns-clause-judged : goal.returns-clause-judged
returns-clause-judged c =
    let r = c.resolve_entries in
    let done = r.ensures.entries c.args.list.now.indices (entries_ready c.requires.call c.requires.resolved) in
    judged_placed c.requires.call c.if-call-eq2.false done (ap (λ answer. with_count answer r.new.resolved.count) c.in_ok-resolve_entries.was)
    (rw r.ensures.next at c.ask_placed.ensures)
