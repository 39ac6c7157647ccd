-- `sheet_records::run::Run::write_value` meets its contract: the value's text lies behind the text of the row's name.
-- Assumes nothing.
use mathlib.Core.Path.{ap, ◌∙◌}
use native.Mathlib.Omega.{arith}
use lib.ListN.{length}
use Rattle.rules.specs.Value.{value_cells}
use Rattle.cells.specs.Value.{pair_of}
use Rattle.sheet_lines.specs.Row.{row_of}
use Rattle.sheet_records.specs.Sheet.{is_call}
use Rattle.sheet_records.specs.Run.{last_value}
use Rattle.sheet_records.proofs.LawsRun.{added_same}
use Rattle.sheet_records.proofs.LawsFit.{name_fits}
use Rattle.sheet_records.proofs.run.Run.write_value.Goals as goal

pub value_at-requires : goal.value_at-requires
value_at-requires c =
    let row = c.args.row in
    (row.value_short, omega (arith, ap length c.name_text.ensures, name_fits (is_call c.args.sheet) (row_of row), row.name_short, c.requires.0))

pub returns : goal.returns
unfolding last_value
returns c =
    let a = c.args in
    added_same (value_cells (pair_of c.value_at.result)) (value_cells (last_value (is_call a.sheet) a.text (row_of a.row)))
    (ap value_cells (c.value_at.ensures ∙ rw (c.text_kind.ensures, c.name_text.ensures)))
    c.put.ensures
