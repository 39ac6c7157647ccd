-- `builder::params::Step::is_code` meets its contract, range by range.
-- Assumes nothing.
use mathlib.Core.Path.{sym}
use native.Mathlib.Omega.{arith}
use Rattle.builder.proofs.LawsRecord.{is_code_in, is_code_below, is_code_above}
use Rattle.builder.proofs.params.Step.is_code.Goals as goal

pub returns-in-1-to-7 : goal.returns-in-1-to-7
returns-in-1-to-7 c = sym (is_code_in c.args.self (omega arith) (omega arith))

pub returns-in_default : goal.returns-in_default
returns-in_default c = sym (is_code_below c.args.self (omega arith))

pub returns-in_default-2 : goal.returns-in_default-2
returns-in_default-2 c = sym (is_code_above c.args.self (omega arith))
