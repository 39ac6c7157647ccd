-- `sheet_output::line::held_cell` meets its contract: a value or a count, as the code says. Assumes nothing.
use mathlib.Core.Path.{sym, ap, ◌∙◌}
use mathlib.Core.List.{[], ◌∷◌, ◌++◌}
use Rattle.cells.proofs.LawsOut.{wrote_same}
use Rattle.cells.specs.Value.{pair_of}
use Rattle.sheet_output.proofs.LawsLine.{shown_for_plain, shown_for_count}
use Rattle.sheet_output.proofs.line.held_cell.Goals as goal

pub returns-then-is_plain : goal.returns-then-is_plain
returns-then-is_plain c =
    let a = c.args in
    wrote_same _ _ (ap (λ l. l ++ (10 ∷ [])) (sym (shown_for_plain a.bound.now.spec.now a.bound.now.call.now (pair_of a.pair) a.code (sym c.is_plain.ensures ∙ c.if-is_plain.true)))) c.value_cell.ensures

pub returns-else-is_plain : goal.returns-else-is_plain
returns-else-is_plain c =
    let a = c.args in
    wrote_same _ _ (ap (λ l. l ++ (10 ∷ [])) (sym (shown_for_count a.bound.now.spec.now a.bound.now.call.now (pair_of a.pair) a.code (sym c.is_plain.ensures ∙ c.if-is_plain.false)))) c.number_cell.ensures
