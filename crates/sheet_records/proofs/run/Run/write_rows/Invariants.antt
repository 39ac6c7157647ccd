-- `sheet_records::run::Run::write_rows` meets its contract. The loop's invariant: the texts so far end where there is room for those of the rows ahead,
-- and what is left to write are their cells.
-- Assumes nothing.
use mathlib.Core.Path.{◌≡◌}
use Prim.Native.Nat.{◌+◌, ◌≤◌}
use lib.ListN.{length}
use Rattle.std.specs.Option.{is_some}
use Rattle.rules.specs.SheetRecords.{area_of}
use Rattle.sheet_lines.specs.Word.{part_read}
use Rattle.sheet_records.specs.RowsLeft.{rows_left}
use Rattle.sheet_records.specs.Text.{row_texts}
use Rattle.sheet_records.specs.Run.{run_from}
use Rattle.sheet_records.proofs.LawsLeft.{Left}
use Rattle.sheet_records.proofs.run.Run.write_rows.Given as goal

abbrev pub invariant-loop-row : goal.invariant-loop-row
invariant-loop-row l =
    (goal.iterator-loop-row).can_next l.row-iterator
    × (goal.iterator-loop-row).is_finite l.row-iterator
    × (l.start + length (area_of (row_texts (is_some l.wanted)) (rows_left l.row-iterator)) ≤ 16384)
    × Left (run_from (is_some l.wanted) (part_read l.wanted) l.text (rows_left l.rows)) l.initial.self.next l.initial.self.cells.now (run_from (is_some l.wanted) (part_read l.wanted) l.start (rows_left l.row-iterator)) l.self.next l.self.cells.now
    × (l.self.cells.ghost_name ≡ l.initial.self.cells.ghost_name)
