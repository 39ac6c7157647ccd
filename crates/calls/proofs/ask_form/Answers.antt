-- `calls::ask_form` meets its contract: the questions in their order, each by what its function ensures.
-- Assumes nothing.
use mathlib.Core.Path.{◌≡◌, sym, ◌∙◌}
use mathlib.Core.Bool.{true}
use Rattle.rules.specs.CallRecord.{read_call}
use Rattle.rules.specs.CallQuestions.{lengths_right, kinds_right, ask_form}
use Rattle.calls.proofs.ask_form.Goals as goal
use Rattle.calls.proofs.ask_form.Goals.{Else-not-kinds_right, Else-not-lengths_right}

pub returns-then-not-lengths_right : goal.returns-then-not-lengths_right
unfolding ask_form
returns-then-not-lengths_right c = rw (sym c.lengths_right.ensures ∙ c.if-not-lengths_right.true)

-- 9 passed, and 10
nine : (c : Else-not-lengths_right) → lengths_right 64 c.args.record.now.cells.now ≡ true
nine c = sym c.lengths_right.ensures ∙ c.if-not-lengths_right.false

ten : (c : Else-not-kinds_right) → kinds_right (read_call c.args.record.now.cells.now) ≡ true
ten c = sym c.kinds_right.ensures ∙ c.if-not-kinds_right.false

pub returns-then-not-kinds_right : goal.returns-then-not-kinds_right
unfolding ask_form
returns-then-not-kinds_right c = rw (nine (goal.at.returns-then-not-kinds_right c).Else-not-lengths_right, sym c.kinds_right.ensures ∙ c.if-not-kinds_right.true)

pub returns-then-not-parts_formed : goal.returns-then-not-parts_formed
unfolding ask_form
returns-then-not-parts_formed c =
    rw (nine (goal.at.returns-then-not-parts_formed c).Else-not-lengths_right, ten (goal.at.returns-then-not-parts_formed c).Else-not-kinds_right, sym c.parts_formed.ensures ∙ c.if-not-parts_formed.true)

pub returns : goal.returns
unfolding ask_form
returns c =
    rw (nine (goal.at.returns c).Else-not-lengths_right, ten (goal.at.returns c).Else-not-kinds_right, sym c.parts_formed.ensures ∙ c.if-not-parts_formed.false)
