-- `calls::form::values_formed` meets its contract: a value is there if reading gave one.
-- Assumes nothing.
use mathlib.Core.Path.{sym, ◌∙◌}
use borrow.Author.Rules.{rules}
use Rattle.rules.specs.Value.{well_formed_argument}
use Rattle.calls.proofs.LawsForm.{argument_read}
use Rattle.calls.proofs.form.values_formed.Goals as goal

pub returns : goal.returns
returns c =
    let area = c.args.record.now.area.now in
    c.run_formed.ensures (well_formed_argument area) (record { told = λ kind payload b k p post. sym (argument_read area kind payload) ∙ search rules })
