-- `sheet_records::write_parts` meets its contract. The loop's invariant: what is left to write are the parts from `part-index` on.
-- Assumes nothing.
use mathlib.Core.Path.{◌≡◌}
use Prim.Native.Nat.{◌-◌}
use Rattle.sheet_records.specs.RowsLeft.{rows_left}
use Rattle.sheet_records.specs.Call.{parts_from}
use Rattle.sheet_records.proofs.LawsLeft.{Left}
use Rattle.sheet_records.proofs.write_parts.Given as goal

abbrev pub invariant-loop-part : goal.invariant-loop-part
invariant-loop-part l =
    Left (parts_from (rows_left l.rows) 0 4) l.initial.run.next l.initial.run.cells.now (parts_from (rows_left l.rows) l.part-index (4 - l.part-index)) l.run.next l.run.cells.now
    × (l.run.cells.ghost_name ≡ l.initial.run.cells.ghost_name)
