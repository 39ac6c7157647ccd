-- `builder::params::may_be_named` meets its contract: each answer by the ranges in which the code and the style's number lie.
-- Assumes nothing.
use mathlib.Core.Path.{sym, ◌∙◌}
use mathlib.Core.Logic.{inl, inr}
use native.Mathlib.Omega.{arith}
use Rattle.builder.proofs.LawsParams.{may_be_named_below, may_be_named_above, may_be_named_plain, takes_name_number, takes_name_other}
use Rattle.builder.proofs.params.may_be_named.Goals as goal

pub returns-in-1-to-3-1-to-2 : goal.returns-in-1-to-3-1-to-2
returns-in-1-to-3-1-to-2 c = sym (may_be_named_plain _ _ (omega arith) (omega arith) ∙ takes_name_number _ (omega arith) (omega arith))

pub returns-in_default : goal.returns-in_default
returns-in_default c = sym (may_be_named_below _ _ (omega arith))

pub returns-in_default-2 : goal.returns-in_default-2
returns-in_default-2 c = sym (may_be_named_plain _ _ (omega arith) (omega arith) ∙ takes_name_other _ (inl (omega arith)))

pub returns-in_default-3 : goal.returns-in_default-3
returns-in_default-3 c = sym (may_be_named_plain _ _ (omega arith) (omega arith) ∙ takes_name_other _ (inr (omega arith)))

pub returns-in_default-4 : goal.returns-in_default-4
returns-in_default-4 c = sym (may_be_named_above _ _ (omega arith))
