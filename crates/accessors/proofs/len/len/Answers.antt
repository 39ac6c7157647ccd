-- `accessors::len::len` meets its contract: the questions in their order, and a sum of four counts, each of which is at most 64.
-- Assumes nothing.
use mathlib.Core.Path.{refl, sym}
use native.Mathlib.Omega.{arith}
use Rattle.std.proofs.lemmas.Result.{err_from_is_err_and}
use Rattle.calls.specs.Head.{head_of, Few}
use Rattle.calls.proofs.LawsNamed.{passed_few}
use Rattle.accessors.proofs.LawsAccess.{call_numbered, len_refused, len_star, len_double, len_gives}
use Rattle.accessors.proofs.len.len.Goals as goal
use Rattle.accessors.proofs.len.len.Goals.{After-read_head-h}

pub returns-in_err-ask_call : goal.returns-in_err-ask_call
returns-in_err-ask_call c =
    let p = err_from_is_err_and c.from_residual.result c.from_residual.ensures.1 in
    let e = sym c.in_err-ask_call.ensures in
    rw (p.1, p.2) (record { answer = len_refused _ _ _ e; numbered = call_numbered _ _ _ e })

few : (c : After-read_head-h) → Few 64 (head_of c.read_head-h.result)
few c = passed_few _ _ _ c.read_head-h.ensures (sym c.in_ok-ask_call.ensures)

pub returns-then-h-eq2 : goal.returns-then-h-eq2
returns-then-h-eq2 c =
    record { answer = len_star _ _ _ c.read_head-h.ensures (sym c.in_ok-ask_call.ensures) c.if-h-eq2.true; numbered = refl }

pub returns-then-h-eq2-2 : goal.returns-then-h-eq2-2
returns-then-h-eq2-2 c =
    record { answer = len_double _ _ _ c.read_head-h.ensures (sym c.in_ok-ask_call.ensures) c.if-h-eq2.false c.if-h-eq2-2.true; numbered = refl }

pub overflow_add-positional : goal.overflow_add-positional
overflow_add-positional c =
    omega (arith, (few (goal.at.overflow_add-positional c).After-read_head-h).few_p, (few (goal.at.overflow_add-positional c).After-read_head-h).few_s)

pub overflow_add-named : goal.overflow_add-named
overflow_add-named c =
    omega (arith, (few (goal.at.overflow_add-named c).After-read_head-h).few_n, (few (goal.at.overflow_add-named c).After-read_head-h).few_d)

pub overflow_add-result : goal.overflow_add-result
overflow_add-result c =
    omega (arith, (few (goal.at.overflow_add-result c).After-read_head-h).few_p, (few (goal.at.overflow_add-result c).After-read_head-h).few_n, (few (goal.at.overflow_add-result c).After-read_head-h).few_s, (few (goal.at.overflow_add-result c).After-read_head-h).few_d)

pub returns : goal.returns
returns c =
    record { answer = len_gives _ _ _ c.read_head-h.ensures (sym c.in_ok-ask_call.ensures) c.if-h-eq2.false c.if-h-eq2-2.false; numbered = refl }
