-- `sheet_output::line::name_cell` meets its contract: each cell by what the code says. Assumes nothing.
use mathlib.Core.Path.{sym, ap, ◌∙◌}
use native.Mathlib.Omega.{arith}
use mathlib.Core.List.{[], ◌∷◌, ◌++◌}
use lib.ListN.{length}
use Rattle.cells.proofs.LawsOut.{wrote_same}
use Rattle.sheet_output.specs.Line.{shown_name}
use Rattle.sheet_output.proofs.LawsLine.{shown_name_length, name_for_plain, name_for_args, name_for_kwargs}
use Rattle.sheet_output.proofs.line.name_cell.Goals as goal

pub text_cell-requires : goal.text_cell-requires
text_cell-requires c = let a = c.args in omega (arith, ap length c.name_in.ensures, shown_name_length a.spec.now a.name)

pub returns-then-is_plain : goal.returns-then-is_plain
returns-then-is_plain c =
    let a = c.args in
    wrote_same _ _ (ap (λ l. l ++ (44 ∷ [])) (c.name_in.ensures ∙ sym (name_for_plain a.code (shown_name a.spec.now a.name) (sym c.is_plain.ensures ∙ c.if-is_plain.true)))) c.text_cell.ensures

pub returns-then-code-eq6 : goal.returns-then-code-eq6
returns-then-code-eq6 c =
    let a = c.args in
    wrote_same _ _ (ap (λ l. l ++ (44 ∷ [])) (sym (name_for_args a.code (shown_name a.spec.now a.name) c.if-code-eq6.true))) c.write.ensures

pub returns-else-code-eq6 : goal.returns-else-code-eq6
returns-else-code-eq6 c =
    let a = c.args in
    wrote_same _ _ (ap (λ l. l ++ (44 ∷ [])) (sym (name_for_kwargs a.code (shown_name a.spec.now a.name) (sym c.is_plain.ensures ∙ c.if-is_plain.false) c.if-code-eq6.false))) c.write-else-code-eq6.ensures
