-- `sheet_judge::row::parameter_row_right` meets its contract: `def` and a step by the number of rows before it.
-- Assumes nothing.
use mathlib.Core.Path.{refl, sym, ◌∙◌}
use borrow.Author.Tests.{lt-ltb, le-ltb}
use Rattle.rules.proofs.LawsListing.{and_no_right}
use Rattle.rules.specs.SheetRows.{step_right}
use Rattle.sheet_lines.specs.Row.{row_of}
use Rattle.sheet_judge.proofs.LawsCell.{empty_test, and_yes, fits_def, fits_step}
use Rattle.sheet_judge.proofs.row.parameter_row_right.Goals as goal

pub returns-then-is_def : goal.returns-then-is_def
returns-then-is_def c =
    let r = row_of c.args.row in
    c.is_empty.ensures ∙ sym (empty_test r.value) ∙ sym (fits_def r c.args.before c.if-before-eq0.true ∙ rw (sym (c.is_def.ensures r refl) ∙ c.if-is_def.true))

pub returns-else-is_def : goal.returns-else-is_def
returns-else-is_def c =
    let r = row_of c.args.row in
    c.if-is_def.false ∙ sym (fits_def r c.args.before c.if-before-eq0.true ∙ rw (sym (c.is_def.ensures r refl) ∙ c.if-is_def.false))

pub returns-then-before-lt-MOST_ROWS : goal.returns-then-before-lt-MOST_ROWS
returns-then-before-lt-MOST_ROWS c =
    let r = row_of c.args.row in
    c.step_right.ensures
    ∙ sym (fits_step r c.args.before c.if-before-eq0.false ∙ and_yes (step_right r) _ (lt-ltb c.args.before 67 c.if-before-lt-MOST_ROWS.true))

pub returns-else-before-lt-MOST_ROWS : goal.returns-else-before-lt-MOST_ROWS
returns-else-before-lt-MOST_ROWS c =
    let r = row_of c.args.row in
    let no = le-ltb c.args.before 67 c.if-before-lt-MOST_ROWS.false in
    no ∙ sym (fits_step r c.args.before c.if-before-eq0.false ∙ and_no_right (step_right r) _ no)
