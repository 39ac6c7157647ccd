-- `sheet_output::line::name_in` meets its contract: a text that was read, or none. Assumes nothing.
use mathlib.Core.Path.{sym, ◌∙◌}
use Rattle.sheet_output.proofs.LawsLine.{name_shown, name_hidden}
use Rattle.sheet_output.proofs.line.name_in.Goals as goal

pub returns-in-Some : goal.returns-in-Some
returns-in-Some c = let a = c.args in c.part.ensures.bytes ∙ name_shown a.area.now a.payload _ (sym c.read_text.ensures ∙ c.in-Some.is)

pub returns-in-None : goal.returns-in-None
returns-in-None c = let a = c.args in name_hidden a.area.now a.payload (sym c.read_text.ensures ∙ c.in-None.is)
