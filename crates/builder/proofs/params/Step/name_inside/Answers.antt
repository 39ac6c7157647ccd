-- `builder::params::Step::name_inside` meets its contract, range by range.
-- Assumes nothing.
use mathlib.Core.Path.{sym, ◌∙◌}
use native.Mathlib.Omega.{arith}
use Rattle.builder.proofs.LawsRecord.{step_name_in, step_name_below, step_name_above}
use Rattle.builder.proofs.params.Step.name_inside.Goals as goal

pub returns-in-1-to-3 : goal.returns-in-1-to-3
returns-in-1-to-3 c =
    let a = c.args in
    c.is_name.ensures ∙ sym (step_name_in a.self a.area.now (omega arith) (omega arith))

pub returns-in_default : goal.returns-in_default
returns-in_default c = sym (step_name_below c.args.self c.args.area.now (omega arith))

pub returns-in_default-2 : goal.returns-in_default-2
returns-in_default-2 c =
    let a = c.args in
    sym (step_name_above a.self a.area.now (omega arith))
