-- `sheet_lines::word::code_of` meets its contract: the words of the table, in their order, are those of the definition.
-- Assumes nothing.
use mathlib.Core.Path.{ap, ◌∙◌}
use native.Mathlib.Omega.{arith}
use Rattle.sheet_lines.proofs.LawsWord.{step_within, code_by, code_by_lem}
use Rattle.sheet_lines.proofs.word.code_of.Goals as goal

pub overflow_add-result : goal.overflow_add-result
overflow_add-result c = omega (arith, step_within c.args.part.now c.in-Some.ensures)

pub returns-in-Some : goal.returns-in-Some
returns-in-Some c = ap code_by c.in-Some.ensures ∙ code_by_lem c.args.part.now

pub returns-in-None : goal.returns-in-None
returns-in-None c = ap code_by c.in-None.ensures ∙ code_by_lem c.args.part.now
