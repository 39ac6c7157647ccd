-- `builder::spec::ParametersSpecBuilder::step` meets its contract: a code that may stand is handed on, and any other is refused by 5.
-- Assumes nothing.
use mathlib.Core.Path.{refl}
use native.Mathlib.Omega.{arith}
use Rattle.rules.specs.Parameters.{comes_before}
use Rattle.builder.specs.declared.params.CurrentParameterStyle.TheVariants.{PosOrNamed, NamedOnly, NoMore}
use Rattle.builder.proofs.LawsAsk.{act_code}
use Rattle.builder.proofs.LawsSpec.{refused_code, refused_plain, refused_star, refused_above, under_first_three, under_first_two, under_last_two}
use Rattle.builder.proofs.spec.ParametersSpecBuilder.step.Goals as goal
use Rattle.builder.proofs.spec.ParametersSpecBuilder.step.Goals.{in_default-via-then-code-lt1, in_default-via-else-code-lt1+else-code-lt4+else-code-lt7}

-- written out, so that a `/` under another style fails here, by name
pub no_more_positional_only_args-requires : goal.no_more_positional_only_args-requires
no_more_positional_only_args-requires c = cc

pub kwargs-requires : goal.kwargs-requires
kwargs-requires c = (c.in-7.is, under_first_three c.args.self.current_style c.in-PosOnly-style.is)

pub add-requires : goal.add-requires
add-requires c = (omega arith, omega arith, under_first_three c.args.self.current_style c.in-PosOnly-style-2.is)

pub no_more_positional_args-requires : goal.no_more_positional_args-requires
no_more_positional_args-requires c = under_first_two c.args.self.current_style c.in-PosOnly-style-3.is

pub args-requires : goal.args-requires
args-requires c = (omega arith, under_first_two c.args.self.current_style c.in-PosOnly-style-3.is)

pub returns-in-PosOnly : goal.returns-in-PosOnly
returns-in-PosOnly c =
    let a = c.args in
    c.no_more_positional_only_args.ensures a.area.now _ (act_code a.s 4 c.in-4.is)

pub returns-in-PosOrNamed : goal.returns-in-PosOrNamed
unfolding comes_before
returns-in-PosOrNamed c =
    let a = c.args in
    rw c.refused.ensures
    (refused_code a.area.now a.self a.s 4 PosOrNamed c.in-4.is c.in-PosOrNamed.is refl)

pub returns-in-NamedOnly : goal.returns-in-NamedOnly
unfolding comes_before
returns-in-NamedOnly c =
    let a = c.args in
    rw c.refused-in-NamedOnly.ensures
    (refused_code a.area.now a.self a.s 4 NamedOnly c.in-4.is c.in-NamedOnly.is refl)

pub returns-in-NoMore : goal.returns-in-NoMore
unfolding comes_before
returns-in-NoMore c =
    let a = c.args in
    rw c.refused-in-NoMore.ensures
    (refused_code a.area.now a.self a.s 4 NoMore c.in-4.is c.in-NoMore.is refl)

pub returns-in-PosOnly-style : goal.returns-in-PosOnly-style
returns-in-PosOnly-style c = c.kwargs.ensures _

pub returns-in-NoMore-style : goal.returns-in-NoMore-style
unfolding comes_before
returns-in-NoMore-style c =
    let a = c.args in
    rw c.refused-in-NoMore-style.ensures
    (refused_code a.area.now a.self a.s 7 NoMore c.in-7.is c.in-NoMore-style.is refl)

pub returns-in-NoMore-style-2 : goal.returns-in-NoMore-style-2
returns-in-NoMore-style-2 c =
    let a = c.args in
    rw c.refused-in-NoMore-style-2.ensures
    (refused_plain a.area.now a.self a.s (omega arith) (omega arith) c.in-NoMore-style-2.is)

pub returns-then-code-eq5 : goal.returns-then-code-eq5
returns-then-code-eq5 c =
    let a = c.args in
    c.no_more_positional_args.ensures a.area.now _ (act_code a.s 5 c.if-code-eq5.true)

pub returns-else-code-eq5 : goal.returns-else-code-eq5
returns-else-code-eq5 c = c.args-else-code-eq5.ensures _

pub returns-in-NamedOnly-style : goal.returns-in-NamedOnly-style
returns-in-NamedOnly-style c =
    let a = c.args in
    rw c.refused-in-NamedOnly-style.ensures
    (refused_star a.area.now a.self a.s a.self.current_style (omega arith) (omega arith) refl (under_last_two a.self.current_style c.in-NamedOnly-style.is))

pub returns-in_default : goal.returns-in_default
returns-in_default c =
    let a = c.args in
    rw c.refused-in_default.ensures
    (elim c.in_default.branch [
      | in_default-via-then-code-lt1 w ↦ refused_code a.area.now a.self a.s 0 a.self.current_style (omega arith) refl refl
      | in_default-via-else-code-lt1+else-code-lt4+else-code-lt7 w ↦ refused_above a.area.now a.self a.s (omega arith)
    ])
