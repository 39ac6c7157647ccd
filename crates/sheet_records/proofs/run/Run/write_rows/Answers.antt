use mathlib.Core.Path.{◌≡◌, sym, ap, ◌∙◌}
use mathlib.Core.List.{◌++◌}
use Prim.Native.Nat.{◌+◌}
use native.Mathlib.Omega.{arith}
use lib.ListN.{length, length-append}
use Rattle.std.specs.Option.{is_some}
use Rattle.rules.specs.SheetRecords.{area_of}
use Rattle.sheet_lines.specs.Row.{row_of}
use Rattle.sheet_lines.specs.Word.{part_read}
use Rattle.sheet_records.specs.RowsLeft.{rows_left}
use Rattle.sheet_records.specs.Text.{row_texts}
use Rattle.sheet_records.specs.Run.{row_cells, run_from}
use Rattle.sheet_records.proofs.LawsLeft.{left_next, left_done}
use Rattle.sheet_records.proofs.run.Run.write_rows.Goals as goal

pub loop-row-preserved : goal.loop-row-preserved
loop-row-preserved c =
    let keyed = is_some c.args.wanted in
    let part = part_read c.args.wanted in
    let start = c.loop-row.start in
    let row = row_of c.in-Some.row in
    let rest = rows_left c.next.new.self in
    let gives = c.in-Some.ensures.steps in
    let more = c.write_row in
    let texts : c.texts_len-start.result ≡ length (row_texts keyed row) = rw c.of-sheet.ensures at c.texts_len-start.ensures in
    let parted = ap (run_from keyed part start) gives ∙ ap (λ n. row_cells keyed part start row ++ run_from keyed part (start + n) rest) (sym texts) in (
      tt,
      tt,
      omega (arith, c.loop-row.invariant.2, texts, ap (λ rows. length (area_of (row_texts keyed) rows)) gives, length-append (row_texts keyed row) (area_of (row_texts keyed) rest)),
      left_next (row_cells keyed part start row) (run_from keyed part (start + c.texts_len-start.result) rest) _ parted c.loop-row.invariant.3
          more.new.self.cells.now more.new.self.next more.ensures.put,
      more.ensures.same_reference ∙ c.loop-row.invariant.4,
    )

pub returns : goal.returns
returns c =
    record {
      put = left_done _ (ap (run_from (is_some c.args.wanted) (part_read c.args.wanted) c.loop-row.start) c.in-None.ensures.steps.0) c.loop-row.invariant.3;
      same_reference = c.loop-row.invariant.4;
    }
