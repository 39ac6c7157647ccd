-- `builder::params::CurrentParameterStyle::positional_only` meets its contract, style by style.
-- Assumes nothing.
use mathlib.Core.Path.{refl}
use Rattle.rules.specs.Parameters.{comes_before}
use Rattle.builder.proofs.params.CurrentParameterStyle.positional_only.Goals as goal

pub returns-in-PosOnly : goal.returns-in-PosOnly
unfolding comes_before
returns-in-PosOnly c = rw c.in-PosOnly.is refl

pub returns-in-PosOrNamed : goal.returns-in-PosOrNamed
unfolding comes_before
returns-in-PosOrNamed c = rw c.in-PosOrNamed.is refl

pub returns-in-NamedOnly : goal.returns-in-NamedOnly
unfolding comes_before
returns-in-NamedOnly c = rw c.in-NamedOnly.is refl

pub returns-in-NoMore : goal.returns-in-NoMore
unfolding comes_before
returns-in-NoMore c = rw c.in-NoMore.is refl
