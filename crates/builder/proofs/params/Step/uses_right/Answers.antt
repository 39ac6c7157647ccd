-- `builder::params::Step::uses_right` meets its contract, range by range.
-- Assumes nothing.
use mathlib.Core.Path.{sym, ◌∙◌}
use native.Mathlib.Omega.{arith}
use borrow.Author.Tests.{eq-eqb, ne_eqb}
use Rattle.builder.specs.Params.{step_of}
use Rattle.builder.proofs.LawsRecord.{uses_2, uses_3, uses_7, uses_below, uses_above}
use Rattle.builder.proofs.params.Step.uses_right.Goals as goal

pub returns-else-self-eq0 : goal.returns-else-self-eq0
returns-else-self-eq0 c =
    let a = c.args in
    sym
    (uses_7 a.self a.area.now (omega arith) (omega arith)
    ∙ rw (ne_eqb a.self.name 0 c.if-self-eq0.false))

pub returns-in-3 : goal.returns-in-3
unfolding step_of
returns-in-3 c =
    let a = c.args in
    c.is_default.ensures ∙ sym (uses_3 a.self a.area.now c.in-3.is)

pub returns-in-1-to-2 : goal.returns-in-1-to-2
returns-in-1-to-2 c =
    let a = c.args in
    c.no_default.ensures ∙ sym (uses_2 a.self a.area.now (omega arith) (omega arith))

pub returns-then-self-eq0 : goal.returns-then-self-eq0
returns-then-self-eq0 c =
    let a = c.args in
    c.no_default-then-self-eq0.ensures
    ∙ sym
    (uses_7 a.self a.area.now (omega arith) (omega arith)
    ∙ rw (eq-eqb a.self.name 0 c.if-self-eq0.true))

pub returns-in_default : goal.returns-in_default
returns-in_default c =
    let a = c.args in
    sym (uses_below a.self a.area.now (omega arith))

pub returns-in_default-2 : goal.returns-in_default-2
returns-in_default-2 c =
    let a = c.args in
    sym (uses_above a.self a.area.now (omega arith))
