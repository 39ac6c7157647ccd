-- `sheet_values::read::read_flag` meets its contract. Assumes nothing.
use mathlib.Core.Path.{◌∙◌, ap}
use lib.ListN.{length}
use borrow.Author.Tests.{eq-eqb, ne_eqb}
use Rattle.rules.specs.SheetValue.{under, read_form}
use Rattle.sheet_values.specs.Read.{cell_of}
use Rattle.sheet_values.proofs.LawsCell.{well_flag}
use Rattle.sheet_values.proofs.read.read_flag.Goals as goal

pub returns-then-rest-ne1 : goal.returns-then-rest-ne1
unfolding read_form
returns-then-rest-ne1 c = λ bytes. rw (ne_eqb (length c.args.rest.now) 1 c.if-rest-ne1.true)

pub returns-in_err-read_decimal : goal.returns-in_err-read_decimal
unfolding read_form
returns-in_err-read_decimal c =
    λ bytes. rw (eq-eqb (length c.args.rest.now) 1 c.if-rest-ne1.false) (ap (cell_of bytes) c.from_residual.ensures ∙ ap (under 2) c.in_err-read_decimal.ensures)

pub under-requires : goal.under-requires
under-requires c = well_flag c.in_ok-read_decimal.field-0 c.args.rest.now c.in_ok-read_decimal.ensures

pub returns : goal.returns
unfolding read_form
returns c =
    λ bytes. rw (eq-eqb (length c.args.rest.now) 1 c.if-rest-ne1.false) (c.under.ensures bytes ∙ ap (under 2) c.in_ok-read_decimal.ensures)
