-- `sheet_records::run::Run::write_row` meets its contract: a row that is not of the part adds nothing; any other adds a key and a value behind it.
-- Assumes nothing.
use mathlib.Core.Path.{◌≡◌, refl, sym, subst, ◌∙◌}
use mathlib.Core.Bool.{true, false, not, ◌||◌}
use mathlib.Core.List.{◌++◌}
use Prim.Native.Nat.{◌+◌, ◌≤◌}
use native.Mathlib.Omega.{arith}
use lib.ListN.{length}
use Rattle.std.specs.Option.{is_some}
use Rattle.rules.specs.Value.{value_cells}
use Rattle.rules.specs.SheetRows.{is_part}
use Rattle.cells.proofs.LawsWrite.{value_cells_two}
use Rattle.sheet_lines.specs.Word.{call_part_of, part_read}
use Rattle.sheet_lines.specs.Row.{row_of}
use Rattle.sheet_records.specs.Run.{key_cells, last_value, row_cells}
use Rattle.sheet_records.proofs.LawsRun.{added_none, added_same, room_front, room_rest, added_then}
use Rattle.sheet_records.proofs.LawsCell.{part_told, row_wanted, row_other}
use Rattle.sheet_records.proofs.run.Run.write_row.Goals as goal
use Rattle.sheet_records.proofs.run.Run.write_row.Goals.{Joined-wanted, in-Some+else-not-is_part, in_default}

pub returns-then-not-is_part : goal.returns-then-not-is_part
returns-then-not-is_part c =
    let a = c.args in
    let r = row_of a.row in
    let other : is_part (call_part_of c.in-Some.part) r ≡ false = part_told (call_part_of c.in-Some.part) r r.part c.is_part.result refl c.is_part.ensures ∙ c.if-not-is_part.true in
    added_none (row_cells (is_some a.wanted) (part_read a.wanted) a.text r) a.self.now
    (rw c.in-Some.is (row_other true (call_part_of c.in-Some.part) a.text r refl other)) c.requires.1

-- behind the tests the row is wanted
wanted : (c : Joined-wanted) → let a = c.args in (not (is_some a.wanted) || is_part (part_read a.wanted) (row_of a.row)) ≡ true
wanted c =
    let r = row_of c.args.row in
    elim c.match-wanted.branch [
      | in-Some+else-not-is_part w ↦ rw w.in-Some.is (part_told (call_part_of w.in-Some.part) r r.part w.is_part.result refl w.is_part.ensures ∙ w.if-not-is_part.false)
      | in_default w ↦ rw w.in_default.is
    ]

-- and what was wanted still is
kept : (c : Joined-wanted) → c.match-wanted.wanted ≡ c.args.wanted
kept c = elim c.match-wanted.branch [ in-Some+else-not-is_part w ↦ w.wanted-is ∙ sym w.in-Some.is | in_default w ↦ w.wanted-is ]

-- its cells fit
fits : (c : Joined-wanted) → let a = c.args in
    let r = row_of a.row in
    a.self.now.next + length (key_cells (is_some a.wanted) (part_read a.wanted) a.text r ++ value_cells (last_value (is_some a.wanted) a.text r)) ≤ length a.self.now.cells.now
fits c =
    let a = c.args in
    subst (λ l. a.self.now.next + length l ≤ length a.self.now.cells.now) (sym (row_wanted (is_some a.wanted) (part_read a.wanted) a.text (row_of a.row) (wanted c))) c.requires.1

pub write_key-requires : goal.write_key-requires
write_key-requires c =
    let a = c.args in
    let r = row_of a.row in
    let h = (goal.at.write_key-requires c).Joined-wanted in
    (c.requires.0, rw (kept h) (room_front (key_cells (is_some a.wanted) (part_read a.wanted) a.text r) (value_cells (last_value (is_some a.wanted) a.text r)) a.self.now (fits h)))

pub write_value-requires : goal.write_value-requires
write_value-requires c =
    let a = c.args in
    let r = row_of a.row in
    let h = (goal.at.write_value-requires c).Joined-wanted in
    let key = rw (kept h) at c.write_key.ensures in (
      c.requires.0,
      omega (arith, room_rest (key_cells (is_some a.wanted) (part_read a.wanted) a.text r) (value_cells (last_value (is_some a.wanted) a.text r)) a.self.now (fits h) c.write_key.new.self key, value_cells_two (last_value (is_some a.wanted) a.text r)),
    )

pub returns : goal.returns
returns c =
    let a = c.args in
    let r = row_of a.row in
    let h = (goal.at.returns c).Joined-wanted in
    let key = key_cells (is_some a.wanted) (part_read a.wanted) a.text r in
    let last = value_cells (last_value (is_some a.wanted) a.text r) in
    let first = rw (kept h) at c.write_key.ensures in
    let second = rw (c.of.ensures, kept h) at c.write_value.ensures in
    added_same (key ++ last) (row_cells (is_some a.wanted) (part_read a.wanted) a.text r) (row_wanted (is_some a.wanted) (part_read a.wanted) a.text r (wanted h))
    (added_then key last a.self.now (fits h) c.write_key.new.self first c.write_value.new.self second)
