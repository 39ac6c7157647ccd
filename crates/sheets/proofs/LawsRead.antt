-- Reading two sheets into lent outputs (01, sheets; 30 and its line): without room and at a bad line nothing is written, and otherwise each output
-- holds its record or its area. Assumes nothing.
use mathlib.Core.Path.{◌≡◌, refl, sym, ap, ◌∙◌}
use mathlib.Core.Bool.{Bool, true, false, cond, ◌&&◌}
use mathlib.Core.List.{List}
use Prim.Native.Nat.{ℕ}
use lib.Dec.{leb}
use lib.ListN.{length}
use borrow.Author.Tests.{leb-true}
use Rattle.rules.specs.SheetInput.{judge_input}
use Rattle.rules.specs.SheetRecords.{sheets_in}
use Rattle.rules.proofs.LawsListing.{and_left, and_right}
use Rattle.sheet_judge.specs.Judged.{verdict_of}
use Rattle.sheet_judge.specs.declared.Places.{Places}
use Rattle.sheet_judge.specs.declared.BadLine.{BadLine}
use Rattle.sheets.specs.Read.{room_for, no_room, lengths_of, verdict_reading, reading, reading_of, SheetsReading, Room, RecordsWritten}
use Rattle.sheets.specs.declared.records.Records.{Records}
use Rattle.sheets.specs.declared.Unread.TheVariants.{Bad, NoRoom}
use Rattle.std.specs.Prelude.{Result, Ok, Err}

-- outputs that are long enough
pub room_held : (spec_cells spec call_cells call : List ℕ) → room_for (length spec_cells) (length spec) (length call_cells) (length call) ≡ true → Room spec_cells spec call_cells call
unfolding room_for
room_held spec_cells spec call_cells call room =
    let a : Bool = leb 265 (length spec_cells) in
    let b : Bool = leb 16384 (length spec) in
    let c : Bool = leb 774 (length call_cells) in
    let d : Bool = leb 16384 (length call) in
    record {
      parameters = leb-true 265 (length spec_cells) (and_left a (b && (c && d)) room);
      spec_area = leb-true 16384 (length spec) (and_left b (c && d) (and_right a (b && (c && d)) room));
      arguments = leb-true 774 (length call_cells) (and_left c d (and_right b (c && d) (and_right a (b && (c && d)) room)));
      call_area = leb-true 16384 (length call) (and_right c d (and_right b (c && d) (and_right a (b && (c && d)) room)));
    }

module _ (input spec_cells spec call_cells call : List ℕ) where
  pub reading_none : room_for (length spec_cells) (length spec) (length call_cells) (length call) ≡ false
      → SheetsReading input spec_cells spec call_cells call spec_cells spec call_cells call (Err NoRoom)
  unfolding reading
  reading_none none =
      record {
        answer = sym (ap (λ room. cond room (verdict_reading input (judge_input 64 64 input)) no_room) none);
        parameters = refl;
        spec_area = refl;
        arguments = refl;
        call_area = refl;
      }

  module _ (room : room_for (length spec_cells) (length spec) (length call_cells) (length call) ≡ true) (judged : Result Places BadLine) (verdict : verdict_of judged ≡ judge_input 64 64 input) where
    -- what is read is the verdict's
    read_verdict : verdict_reading input (verdict_of judged) ≡ reading input spec_cells spec call_cells call
    unfolding reading
    read_verdict = ap (verdict_reading input) verdict ∙ sym (ap (λ b. cond b (verdict_reading input (judge_input 64 64 input)) no_room) room)

    pub reading_bad : (line : BadLine) → judged ≡ Err line → SheetsReading input spec_cells spec call_cells call spec_cells spec call_cells call (Err (Bad line))
    reading_bad line e =
        record {
          answer = ap (λ j. verdict_reading input (verdict_of j)) (sym e) ∙ read_verdict;
          parameters = refl;
          spec_area = refl;
          arguments = refl;
          call_area = refl;
        }

    pub reading_right : (p : Places) → judged ≡ Ok p → {spec_cells' spec' call_cells' call' : List ℕ} {r : Records}
        → RecordsWritten input spec_cells spec call_cells call spec_cells' spec' call_cells' call' r
        → SheetsReading input spec_cells spec call_cells call spec_cells' spec' call_cells' call' (Ok r)
    reading_right p e {spec_cells'} {spec'} {call_cells'} {call'} {r} w =
        let list = w.parameters in
        let given = w.arguments in
        let lengths : reading_of (Ok r) ≡ lengths_of (sheets_in input) = cc (list.cells_count, list.bytes_count, given.cells_count, given.bytes_count) in
        record {
          answer = lengths ∙ ap (λ j. verdict_reading input (verdict_of j)) (sym e) ∙ read_verdict;
          parameters = list.cells_held;
          spec_area = list.area_held;
          arguments = given.cells_held;
          call_area = given.area_held;
        }
