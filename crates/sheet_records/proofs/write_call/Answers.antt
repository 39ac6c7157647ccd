-- `sheet_records::write_call` meets its contract: the head, the parts behind it, and the texts.
-- Assumes nothing.
use mathlib.Core.Path.{◌≡◌}
use borrow.Author.Rules.{rules}
use lib.ListN.{length, drop}
use Rattle.std.proofs.lemmas.Iterator.Consumers.{count_from_yields_List}
use Rattle.rules.specs.SheetLines.{lines_in}
use Rattle.sheet_lines.proofs.LawsLines.{lines_yielded}
use Rattle.sheet_records.proofs.LawsLeft.{put_lent}
use Rattle.sheet_records.proofs.LawsWritten.{call_ahead, parts_room, call_written}
use Rattle.sheet_records.proofs.write_call.Goals as goal
use Rattle.sheet_records.proofs.write_call.Goals.{After-count-rows}

-- the lines were counted
counted : (c : After-count-rows) → c.count-rows.result ≡ length (lines_in (drop c.args.from c.args.input.now))
counted c = count_from_yields_List _ c.count-rows.result c.count-rows.ensures.ran (lines_yielded _)

pub invariant_of-all : goal.invariant_of-all
invariant_of-all c = record { ahead = call_ahead c.requires c.count-rows.result (counted (goal.at.invariant_of-all c).After-count-rows) }

pub write_parts-requires : goal.write_parts-requires
write_parts-requires c =
    let start = c.new-run.ensures in
    rw (start.next, start.held) (parts_room c.requires c.count-rows.result (counted (goal.at.write_parts-requires c).After-count-rows) c.write.new.cells c.write.ensures)

pub returns : goal.returns
returns c =
    let start = c.new-run.ensures in
    let more = c.write_parts.ensures in
    call_written c.requires c.count-rows.result (counted (goal.at.returns c).After-count-rows) c.write.new.cells c.write.ensures
    _ c.write_texts-bytes.new.area _ c.write_texts-bytes.result
    (put_lent start.held start.next (search (rules, more.same_reference, start.same_reference)) more.put) c.write_texts-bytes.ensures
