use mathlib.Core.Path.{refl, ap, ◌∙◌}
use native.Mathlib.Omega.{arith}
use borrow.Author.Rules.{rules}
use lib.ListN.{length}
use Rattle.rules.specs.SheetRecords.{area_of}
use Rattle.sheet_lines.specs.Row.{row_of}
use Rattle.sheet_records.specs.RowsLeft.{rows_left}
use Rattle.sheet_records.specs.Sheet.{is_call}
use Rattle.sheet_records.specs.Text.{row_texts}
use Rattle.sheet_records.proofs.LawsFit.{area_room}
use Rattle.sheet_records.proofs.LawsLeft.{left_start, left_next, left_done, put_lent}
use Rattle.sheet_records.proofs.texts.write_texts.Goals as goal

pub loop-row-init : goal.loop-row-init
loop-row-init c =
    let a = c.args in
    let start = c.new-texts in
    rw c.into_iter-row-iterator.ensures.into_iter_gives (
      tt,
      tt,
      left_start (area_of (row_texts (is_call a.sheet)) (rows_left a.rows)) start.result.at start.result.out.now
          (omega (arith, area_room (is_call a.sheet) _ _ _ _ a.rows.ahead, c.requires, start.ensures.at, ap length start.ensures.held)),
      refl,
    )

pub loop-row-preserved : goal.loop-row-preserved
loop-row-preserved c =
    let texts = row_texts (is_call c.args.sheet) in
    let more = c.write_row_texts in (
      tt,
      tt,
      left_next (texts (row_of c.in-Some.row)) (area_of texts (rows_left c.next.new.self)) _ (ap (area_of texts) c.in-Some.ensures.steps) c.loop-row.invariant.2
          more.new.texts.out.now more.new.texts.at more.ensures.put,
      more.ensures.same_reference ∙ c.loop-row.invariant.3,
    )

pub returns : goal.returns
returns c =
    let start = c.new-texts.ensures in
    put_lent start.held start.at (search (rules, c.loop-row.invariant.3, start.same_reference))
    (left_done _ (ap (area_of (row_texts (is_call c.args.sheet))) c.in-None.ensures.steps.0) c.loop-row.invariant.2)
