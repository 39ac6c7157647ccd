-- `sheets::records::bind_list` meets its contract: what collection answers against the list is printed.
-- Assumes nothing.
use Rattle.sheets.proofs.LawsRecords.{printed_room, printed_put}
use Rattle.sheets.proofs.records.bind_list.Goals as goal

-- how much is printed is no matter of the areas
pub write_outcome-requires : goal.write_outcome-requires
write_outcome-requires c =
    let a = c.args in
    let l = a.list.now in
    let given = a.call.now in
    let room =
    printed_room l.area.now l c.requires.0 given.cells.now given.area.now c.bind-answer.new.board c.bind-answer.result c.bind-answer.ensures a.out.now c.requires.1 in
    record { limits = room.limits; room = room.room }

pub returns : goal.returns
returns c =
    let a = c.args in
    let l = a.list.now in
    let given = a.call.now in
    printed_put l.area.now l c.requires.0 given.cells.now given.area.now c.bind-answer.new.board c.bind-answer.result c.bind-answer.ensures a.out.now c.write_outcome.new.out c.write_outcome.result c.write_outcome.ensures
