-- The rows that a walk over a sheet has before it (01, sheets).
use Rattle.std.specs.Prelude.{List}
use Rattle.rules.specs.SheetLines.{Row}
use Rattle.sheet_lines.specs.Header.{columns_of}
use Rattle.sheet_records.specs.Rows.{rows_from}
use Rattle.sheet_records.specs.declared.rows.Rows.{Rows}

abbrev pub rows_left : Rows → List Row
rows_left s = rows_from s.lines.input.now (columns_of s.columns) s.lines.at s.rows
