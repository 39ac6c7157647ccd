-- `prepared::write::code_for` meets its contract, by the ranges in which the code lies.
-- Assumes nothing.
use Rattle.prepared.proofs.LawsWritten.{code_as_0, code_as_3, code_as_4, code_as_6}
use Rattle.prepared.proofs.write.code_for.Goals as goal

pub returns-in-6 : goal.returns-in-6
returns-in-6 c = code_as_6 _ c.in-6.is

pub returns-in-1-to-3 : goal.returns-in-1-to-3
returns-in-1-to-3 c = code_as_3 _ c.in-1-to-3.if-code-lt1-own.false c.in-1-to-3.if-code-lt4-own.true

pub returns-in_default : goal.returns-in_default
returns-in_default c = code_as_0 _ c.in_default.if-code-lt1-own.true

pub returns-in_default-2 : goal.returns-in_default-2
returns-in_default-2 c = code_as_4 _ c.in_default.if-code-lt4-own.false c.in_default.in_default-own.rest.1
