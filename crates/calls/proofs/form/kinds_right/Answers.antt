-- `calls::form::kinds_right` meets its contract: question 10 by the head that was read.
-- Assumes nothing.
use mathlib.Core.Path.{sym, ◌∙◌}
use Rattle.calls.proofs.LawsCall.{kinds_by}
use Rattle.calls.proofs.form.kinds_right.Goals as goal

pub returns-then-kind_right : goal.returns-then-kind_right
returns-then-kind_right c =
    c.kind_right-then-kind_right.ensures
    ∙ sym (kinds_by _ _ c.read_head-h.ensures ∙ rw (sym c.kind_right.ensures ∙ c.if-kind_right.true))

pub returns-else-kind_right : goal.returns-else-kind_right
returns-else-kind_right c =
    c.if-kind_right.false
    ∙ sym (kinds_by _ _ c.read_head-h.ensures ∙ rw (sym c.kind_right.ensures ∙ c.if-kind_right.false))
