-- `sheet_records::texts::write_row_texts` meets its contract: the text of a row's name, and its value's behind it.
-- Assumes nothing.
use mathlib.Core.Path.{sym}
use Rattle.cells.proofs.LawsOut.{wrote_rest, wrote_then}
use Rattle.sheet_records.specs.Text.{row_texts}
use Rattle.sheet_records.proofs.texts.write_row_texts.Goals as goal

pub write-requires-2 : goal.write-requires-2
unfolding row_texts
write-requires-2 c =
    wrote_rest c.name_text.result.now c.text_of.result.now c.args.texts.now (rw (c.name_text.ensures, c.text_of.ensures) c.requires)
    c.write.new.self c.write.ensures

pub returns : goal.returns
unfolding row_texts
returns c =
    let name = c.name_text in
    let value = c.text_of in
    rw (sym name.ensures, sym value.ensures)
    (wrote_then name.result.now value.result.now c.args.texts.now (rw (name.ensures, value.ensures) c.requires)
    c.write.new.self c.write.ensures c.write-2.new.self c.write-2.ensures)
