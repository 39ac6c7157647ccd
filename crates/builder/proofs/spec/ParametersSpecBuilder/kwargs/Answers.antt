-- `builder::spec::ParametersSpecBuilder::kwargs` meets its contract: 6, and `**kwargs`.
-- Assumes nothing.
use mathlib.Core.Path.{refl}
use Rattle.rules.specs.Parameters.{kwargs}
use Rattle.builder.proofs.LawsAsk.{act_code}
use Rattle.builder.proofs.LawsSpec.{adding_6, adding_kwargs}
use Rattle.builder.proofs.spec.ParametersSpecBuilder.kwargs.Goals as goal

pub returns-then-index-ge-CAPACITY : goal.returns-then-index-ge-CAPACITY
returns-then-index-ge-CAPACITY c =
    let b = c.args.self in
    let s = c.args.s in
    let pre = c.requires in
    λ area. rw c.refused.ensures (adding_6 area b s kwargs (act_code s 7 pre.0) pre.1 c.if-index-ge-CAPACITY.true)

pub returns : goal.returns
returns c =
    let b = c.args.self in
    let s = c.args.s in
    let pre = c.requires in
    let p = c.push.ensures in
    λ area.
    adding_kwargs area b _ s (act_code s 7 pre.0) pre.1 c.if-index-ge-CAPACITY.false
    p.longer
    p.positional_only p.positional refl p.args refl
