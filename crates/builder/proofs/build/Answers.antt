-- `builder::build` meets its contract: each refusal by the questions passed before it, and the list by the end of the last state.
-- Assumes nothing.
use mathlib.Core.Path.{refl, sym, ◌∙◌}
use Rattle.cells.specs.declared.question.Question.TheVariants.{PartialStep, UnknownCode, NameOutside, WrongDefault}
use Rattle.builder.proofs.LawsBuild.{none_built, ask_1, ask_2, ask_3, ask_4, ask_5, all_passed}
use Rattle.std.proofs.lemmas.Result.{err_from_is_err_and}
use Rattle.builder.proofs.build.Goals as goal

pub returns-then-not-whole_steps : goal.returns-then-not-whole_steps
returns-then-not-whole_steps c =
    let a = c.args.«record».now in
    none_built a.cells.now a.area.now PartialStep
    (ask_1 a.cells.now a.area.now
    (sym c.whole_steps.ensures ∙ c.if-not-whole_steps.true))

pub returns-then-not-codes_known : goal.returns-then-not-codes_known
returns-then-not-codes_known c =
    let a = c.args.«record».now in
    none_built a.cells.now a.area.now UnknownCode
    (ask_2 a.cells.now a.area.now
    (sym c.whole_steps.ensures ∙ c.if-not-whole_steps.false)
    (sym c.codes_known.ensures ∙ c.if-not-codes_known.true))

pub returns-then-not-names_inside : goal.returns-then-not-names_inside
returns-then-not-names_inside c =
    let a = c.args.«record».now in
    none_built a.cells.now a.area.now NameOutside
    (ask_3 a.cells.now a.area.now
    (sym c.whole_steps.ensures ∙ c.if-not-whole_steps.false)
    (sym c.codes_known.ensures ∙ c.if-not-codes_known.false)
    (sym c.names_inside.ensures ∙ c.if-not-names_inside.true))

pub returns-then-not-defaults_right : goal.returns-then-not-defaults_right
returns-then-not-defaults_right c =
    let a = c.args.«record».now in
    none_built a.cells.now a.area.now WrongDefault
    (ask_4 a.cells.now a.area.now
    (sym c.whole_steps.ensures ∙ c.if-not-whole_steps.false)
    (sym c.codes_known.ensures ∙ c.if-not-codes_known.false)
    (sym c.names_inside.ensures ∙ c.if-not-names_inside.false)
    (sym c.defaults_right.ensures ∙ c.if-not-defaults_right.true))

pub returns-in_err-taken : goal.returns-in_err-taken
returns-in_err-taken c =
    let a = c.args.«record».now in
    let p = err_from_is_err_and c.from_residual.result c.from_residual.ensures.1 in
    rw (p.1, p.2)
    (none_built a.cells.now a.area.now _
    (ask_5 a.cells.now a.area.now
    (sym c.whole_steps.ensures ∙ c.if-not-whole_steps.false)
    (sym c.codes_known.ensures ∙ c.if-not-codes_known.false)
    (sym c.names_inside.ensures ∙ c.if-not-names_inside.false)
    (sym c.defaults_right.ensures ∙ c.if-not-defaults_right.false)
    c.take_steps-taken.result c.take_steps-taken.ensures _ c.in_err-taken.was))

pub returns : goal.returns
returns c =
    let a = c.args.«record».now in
    rw c.finish.ensures
    (all_passed a.cells.now a.area.now
    (sym c.whole_steps.ensures ∙ c.if-not-whole_steps.false)
    (sym c.codes_known.ensures ∙ c.if-not-codes_known.false)
    (sym c.names_inside.ensures ∙ c.if-not-names_inside.false)
    (sym c.defaults_right.ensures ∙ c.if-not-defaults_right.false)
    c.take_steps-taken.result c.take_steps-taken.ensures a.area refl c.in_ok-taken.was)
