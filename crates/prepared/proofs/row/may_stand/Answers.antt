-- `prepared::row::may_stand` meets its contract, by the ranges in which the code lies.
-- Assumes nothing.
use native.Mathlib.Omega.{arith}
use Prim.Native.Nat.{◌<◌, ◌≤◌}
use Rattle.prepared.proofs.LawsRows.{stands_0, stands_3, stands_4, stands_6, stands_7}
use Rattle.prepared.proofs.row.may_stand.Goals as goal

pub returns-then-code-eq0 : goal.returns-then-code-eq0
returns-then-code-eq0 c = let h : c.args.code < 1 = omega (arith, c.if-code-eq0.true) in λ v. stands_0 c.args.style v _ h

pub returns-then-code-lt4 : goal.returns-then-code-lt4
returns-then-code-lt4 c =
    let a = c.args in
    let l : 1 ≤ a.code = omega (arith, c.if-code-eq0.false) in
    λ v. stands_3 a.style v _ l c.if-code-lt4.true

pub returns-in-6 : goal.returns-in-6
returns-in-6 c = λ v. stands_6 c.args.style v _ c.in-6.is

pub returns-in-7 : goal.returns-in-7
returns-in-7 c = λ v. stands_7 c.args.style v _ c.in-7.is

pub returns-in_default : goal.returns-in_default
returns-in_default c = λ v. stands_4 c.args.style v _ c.if-code-lt4.false c.in_default.in_default-own.rest.0.1 c.in_default.in_default-own.rest.1
