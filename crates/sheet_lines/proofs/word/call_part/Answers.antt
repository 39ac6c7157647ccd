-- `sheet_lines::word::call_part` meets its contract: each arm is told the place of the part in the table of words.
-- Assumes nothing.
use mathlib.Core.Path.{◌≡◌, sym, ap, ◌∙◌}
use native.Mathlib.Omega.{arith}
use Rattle.std.specs.Prelude.{Some}
use Rattle.rules.specs.SheetRows.{call_part}
use Rattle.sheet_lines.specs.Word.{part_read}
use Rattle.sheet_lines.proofs.LawsWord.{part_by, part_past, part_by_lem}
use Rattle.sheet_lines.proofs.word.call_part.Goals as goal
use Rattle.sheet_lines.proofs.word.call_part.Goals.{In_ok-position}

pub returns-in_err-position : goal.returns-in_err-position
returns-in_err-position c = ap part_read c.from_residual.ensures ∙ ap part_by c.in_err-position.ensures ∙ part_by_lem c.args.part.now

-- the place is that of a part
told : (c : In_ok-position) → part_by (Some c.in_ok-position.field-0) ≡ call_part c.args.part.now
told c = ap part_by c.in_ok-position.ensures ∙ part_by_lem c.args.part.now

pub returns-in-0 : goal.returns-in-0
returns-in-0 c = ap (λ n. part_by (Some n)) (sym c.in-0.is) ∙ told (goal.at.returns-in-0 c).In_ok-position

pub returns-in-1 : goal.returns-in-1
returns-in-1 c = ap (λ n. part_by (Some n)) (sym c.in-1.is) ∙ told (goal.at.returns-in-1 c).In_ok-position

pub returns-in-2 : goal.returns-in-2
returns-in-2 c = ap (λ n. part_by (Some n)) (sym c.in-2.is) ∙ told (goal.at.returns-in-2 c).In_ok-position

pub returns-in-3 : goal.returns-in-3
returns-in-3 c = ap (λ n. part_by (Some n)) (sym c.in-3.is) ∙ told (goal.at.returns-in-3 c).In_ok-position

pub returns-in-4 : goal.returns-in-4
returns-in-4 c = ap (λ n. part_by (Some n)) (sym c.in-4.is) ∙ told (goal.at.returns-in-4 c).In_ok-position

pub returns-in-5 : goal.returns-in-5
returns-in-5 c = ap (λ n. part_by (Some n)) (sym c.in-5.is) ∙ told (goal.at.returns-in-5 c).In_ok-position

pub returns-in_default : goal.returns-in_default
returns-in_default c =
    sym (part_past c.in_ok-position.field-0 (omega arith)) ∙ told (goal.at.returns-in_default c).In_ok-position
