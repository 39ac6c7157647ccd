-- `builder::params::Step::no_default` meets its contract: both cells are compared with 0.
-- Assumes nothing.
use borrow.Author.Tests.{eq-eqb, ne_eqb}
use Rattle.rules.specs.ParameterQuestions.{is_zero}
use Rattle.builder.specs.Params.{step_of}
use Rattle.builder.proofs.params.Step.no_default.Goals as goal

pub returns-then-self-eq0 : goal.returns-then-self-eq0
unfolding is_zero step_of
returns-then-self-eq0 c = rw (eq-eqb c.args.self.default_kind 0 c.if-self-eq0.true)

pub returns-else-self-eq0 : goal.returns-else-self-eq0
unfolding is_zero step_of
returns-else-self-eq0 c = rw (ne_eqb c.args.self.default_kind 0 c.if-self-eq0.false)
