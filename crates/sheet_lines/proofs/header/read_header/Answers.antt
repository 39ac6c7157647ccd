-- `sheet_lines::header::read_header` meets its contract: a header is what the columns of the three words say.
-- Assumes nothing.
use mathlib.Core.Path.{sym}
use Rattle.rules.specs.SheetLines.{part_word, name_word, value_word}
use Rattle.sheet_lines.proofs.LawsHeader.{header_not_parted, header_no_part, header_no_name, header_no_value, header_read}
use Rattle.sheet_lines.proofs.header.read_header.Goals as goal

pub returns-in_err-parted : goal.returns-in_err-parted
returns-in_err-parted c = rw c.from_residual.ensures (header_not_parted _ c.in_err-parted.ensures)

pub returns-in_err-part : goal.returns-in_err-part
unfolding part_word
returns-in_err-part c = rw c.from_residual-in_err-part.ensures (header_no_part _ (sym c.in_err-part.ensures))

pub returns-in_err-name : goal.returns-in_err-name
unfolding name_word
returns-in_err-name c = rw c.from_residual-in_err-name.ensures (header_no_name _ (sym c.in_err-name.ensures))

pub returns-in_err-value : goal.returns-in_err-value
unfolding value_word
returns-in_err-value c = rw c.from_residual-in_err-value.ensures (header_no_value _ (sym c.in_err-value.ensures))

pub returns : goal.returns
unfolding part_word name_word value_word
returns c = header_read _ _ _ _ c.in_ok-parted.ensures.0 (sym c.in_ok-part.ensures) (sym c.in_ok-name.ensures) (sym c.in_ok-value.ensures)
