-- `prepared::row::style_after` meets its contract, code by code.
-- Assumes nothing.
use Rattle.prepared.proofs.LawsRows.{after_3, after_6, after_other}
use Rattle.prepared.proofs.row.style_after.Goals as goal

pub returns-then-code-lt4 : goal.returns-then-code-lt4
returns-then-code-lt4 c = λ v t. after_3 _ c.args.style v c.requires c.if-code-lt4.true t

pub returns-in-6 : goal.returns-in-6
returns-in-6 c = λ v t. after_6 _ c.args.style v c.in-6.is

pub returns-in_default : goal.returns-in_default
returns-in_default c = λ v t. after_other _ c.args.style v c.if-code-lt4.false c.in_default.in_default-own.rest.1 t
