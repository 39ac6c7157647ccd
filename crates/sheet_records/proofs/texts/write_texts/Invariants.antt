-- `sheet_records::texts::write_texts` meets its contract. The loop's invariant: what is left to write are the texts of the rows ahead.
-- Assumes nothing.
use mathlib.Core.Path.{◌≡◌}
use Rattle.rules.specs.SheetRecords.{area_of}
use Rattle.sheet_records.specs.RowsLeft.{rows_left}
use Rattle.sheet_records.specs.Sheet.{is_call}
use Rattle.sheet_records.specs.Text.{row_texts}
use Rattle.sheet_records.proofs.LawsLeft.{Left}
use Rattle.sheet_records.proofs.texts.write_texts.Given as goal

abbrev pub invariant-loop-row : goal.invariant-loop-row
invariant-loop-row l =
    (goal.iterator-loop-row).can_next l.row-iterator
    × (goal.iterator-loop-row).is_finite l.row-iterator
    × Left (area_of (row_texts (is_call l.sheet)) (rows_left l.rows)) l.initial.texts.at l.initial.texts.out.now (area_of (row_texts (is_call l.sheet)) (rows_left l.row-iterator)) l.texts.at l.texts.out.now
    × (l.texts.out.ghost_name ≡ l.initial.texts.out.ghost_name)
