-- `builder::spec::ParametersSpecBuilder::add` meets its contract: 6 and 7 as `may_add` answers them, and a plain parameter under the style that
-- stays. Where they are answered well there is room.
-- Assumes nothing.
use mathlib.Core.Path.{◌≡◌, refl, sym, ap, ◌∙◌}
use Rattle.rules.specs.Answer.{fine}
use Rattle.cells.specs.Question.{answer_of}
use Rattle.builder.specs.Params.{style_of, step_of, ask_adding}
use Rattle.builder.proofs.LawsSpec.{stepping_refused, asked_plain, adding_plain}
use Rattle.builder.proofs.spec.ParametersSpecBuilder.add.Goals as goal
use Rattle.builder.proofs.spec.ParametersSpecBuilder.add.Goals.{In_default}

-- 6 and 7 are answered well
asked
    : (c : In_default)
    → let a = c.args in
    let b = a.self in
    ask_adding a.area.now b.params (style_of b.current_style) a.s.name ≡ fine
asked c = sym c.may_add.ensures ∙ ap answer_of c.in_default.is

pub returns-in-Err : goal.returns-in-Err
returns-in-Err c =
    let a = c.args in
    let pre = c.requires in
    rw c.refused.ensures
    (stepping_refused a.area.now a.self (step_of a.s) _
    (asked_plain a.area.now a.self a.s pre.0 pre.1 pre.2
    ∙ sym c.may_add.ensures
    ∙ ap answer_of c.in-Err.is))

pub returns : goal.returns
returns c =
    let pre = c.requires in
    adding_plain c.args.area.now c.args.self _ c.args.s pre.0 pre.1 pre.2 (asked (goal.at.returns c).In_default)
    c.push.ensures c.positional_only.ensures c.positional.ensures refl refl refl
