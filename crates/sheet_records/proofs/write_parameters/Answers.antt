-- `sheet_records::write_parameters` meets its contract: `def` gives the first cell, the other rows the steps behind it.
-- Assumes nothing.
use mathlib.Core.Path.{◌≡◌}
use mathlib.Core.List.{◌∷◌}
use native.Mathlib.Omega.{arith}
use borrow.Author.Rules.{rules}
use Rattle.sheet_lines.specs.Header.{columns_of}
use Rattle.sheet_lines.specs.Row.{row_of}
use Rattle.sheet_records.specs.Rows.{rows_from}
use Rattle.sheet_records.specs.RowsLeft.{rows_left}
use Rattle.sheet_records.proofs.LawsLeft.{put_lent}
use Rattle.sheet_records.proofs.LawsWritten.{texts_room, steps_room, parameters_written}
use Rattle.sheet_records.proofs.LawsRows.{rows_length, row_there}
use Rattle.sheet_records.proofs.write_parameters.Goals as goal
use Rattle.sheet_records.proofs.write_parameters.Goals.{After-unwrap-def}

pub unwrap-def-requires : goal.unwrap-def-requires
unwrap-def-requires c =
    let a = c.args in
    row_there _ _ c.next.result c.next.ensures.steps (omega (arith, rows_length a.input.now (columns_of a.columns) a.from a.rows c.requires.ahead, c.requires.some_row))

-- `def` was read
read : (c : After-unwrap-def) → let a = c.args in rows_from a.input.now (columns_of a.columns) a.from a.rows ≡ row_of c.unwrap-def.result ∷ rows_left c.next.new.self
read c = rw c.unwrap-def.ensures at c.next.ensures.steps

pub write_rows-requires : goal.write_rows-requires
write_rows-requires c =
    let r = read (goal.at.write_rows-requires c).After-unwrap-def in
    let start = c.new-run.ensures in (
      texts_room c.requires _ _ r c.texts_len-text.result c.texts_len-text.ensures,
      rw (start.next, start.held) (steps_room c.requires _ _ r c.texts_len-text.result c.payload_of.result c.texts_len-text.ensures c.payload_of.ensures),
    )

pub returns : goal.returns
returns c =
    let start = c.new-run.ensures in
    let more = c.write_rows.ensures in
    parameters_written c.requires _ _ (read (goal.at.returns c).After-unwrap-def)
    c.texts_len-text.result c.payload_of.result c.texts_len-text.ensures c.payload_of.ensures
    _ c.write_texts-bytes.new.area _ c.write_texts-bytes.result
    (put_lent start.held start.next (search (rules, more.same_reference, start.same_reference)) more.put) c.write_texts-bytes.ensures
