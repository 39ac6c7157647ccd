use mathlib.Core.Path.{◌∙◌}
use mathlib.Core.Bool.{true}
use Prim.Native.Nat.{◌+◌, ◌-◌}
use native.Mathlib.Omega.{arith}
use lib.ListN.{get_or}
use Rattle.sheet_lines.specs.Word.{call_part_of}
use Rattle.sheet_lines.specs.declared.word.CallPart.TheVariants.{Positional}
use Rattle.sheet_records.specs.RowsLeft.{rows_left}
use Rattle.sheet_records.specs.Run.{run_from}
use Rattle.sheet_records.specs.Call.{parts_from}
use Rattle.sheet_records.proofs.LawsFit.{area_room}
use Rattle.sheet_records.proofs.LawsLeft.{left_room, left_next, left_done}
use Rattle.sheet_records.proofs.LawsCall.{parts, part_listed, parts_next, parts_none}
use Rattle.sheet_records.proofs.write_parts.Goals as goal

pub write_rows-requires : goal.write_rows-requires
write_rows-requires c =
    let rows = rows_left c.args.rows in
    let n = c.loop-part.part-index in
    let part = call_part_of (get_or parts n Positional) in (
      omega (arith, area_room true _ _ _ _ c.args.rows.ahead),
      left_room (run_from true part 0 rows) (parts_from rows (n + 1) (4 - (n + 1))) _ (parts_next rows n c.loop-part-test.true part (part_listed n c.loop-part-test.true)) c.loop-part.invariant.0,
    )

pub loop-part-preserved : goal.loop-part-preserved
loop-part-preserved c =
    let rows = rows_left c.args.rows in
    let n = c.loop-part.part-index in
    let part = call_part_of (get_or parts n Positional) in
    let more = c.write_rows in (
      left_next (run_from true part 0 rows) (parts_from rows (n + 1) (4 - (n + 1))) (parts_from rows n (4 - n)) (parts_next rows n c.loop-part-test.true part (part_listed n c.loop-part-test.true)) c.loop-part.invariant.0
          more.new.self.cells.now more.new.self.next more.ensures.put,
      more.ensures.same_reference ∙ c.loop-part.invariant.1,
    )

pub returns : goal.returns
returns c =
    record {
      put = left_done _ (parts_none (rows_left c.args.rows) c.loop-part.part-index (omega arith)) c.loop-part.invariant.0;
      same_reference = c.loop-part.invariant.1;
    }
