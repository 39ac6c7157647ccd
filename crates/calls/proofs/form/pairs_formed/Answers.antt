-- `calls::form::pairs_formed` meets its contract: the run of what stands first in each pair, and the run of the values.
-- Assumes nothing.
use mathlib.Core.Path.{sym, ◌∙◌}
use native.Mathlib.Omega.{arith}
use Rattle.rules.specs.Value.{value_width}
use Rattle.rules.specs.CallRecord.{pair_width}
use Rattle.calls.proofs.LawsForm.{pairs_pass, pairs_fail}
use Rattle.calls.proofs.form.pairs_formed.Goals as goal

pub run_formed-requires-clause-within : goal.run_formed-requires-clause-within
unfolding pair_width
run_formed-requires-clause-within g c = λ k below. omega (arith, c.requires.within)

pub values_formed-requires : goal.values_formed-requires
unfolding pair_width
values_formed-requires g c = λ k below. omega (arith, c.requires.within)

pub returns-then-run_formed : goal.returns-then-run_formed
unfolding value_width pair_width
returns-then-run_formed g c = λ test told.
    let a = c.args in
    c.values_formed.ensures
    ∙ sym (pairs_pass test a.record.now.area.now a.record.now.cells.now a.from a.count (sym (c.run_formed.ensures test told) ∙ c.if-run_formed.true))

pub returns-else-run_formed : goal.returns-else-run_formed
unfolding pair_width
returns-else-run_formed g c = λ test told.
    let a = c.args in
    c.if-run_formed.false
    ∙ sym (pairs_fail test a.record.now.area.now a.record.now.cells.now a.from a.count (sym (c.run_formed.ensures test told) ∙ c.if-run_formed.false))
