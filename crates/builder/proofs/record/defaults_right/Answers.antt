-- `builder::record::defaults_right` meets its contract: each step is asked the same. Assumes nothing.
use mathlib.Core.Path.{◌∙◌}
use native.Mathlib.Omega.{arith}
use Rattle.std.proofs.Common.{rules, tests}
use Rattle.std.proofs.lemmas.Iterator.{YieldsList-from_range}
use Rattle.std.proofs.lemmas.Iterator.Search.{all_from_yields_List}
use Rattle.rules.specs.ParameterRecord.{step_count}
use Rattle.rules.specs.Parameters.{act}
use Rattle.rules.specs.ParameterQuestions.{uses_right, defaults_right}
use Rattle.builder.specs.Params.{step_of}
use Rattle.builder.specs.Record.{step_at}
use Rattle.builder.proofs.LawsRecord.{all_steps}
use Rattle.builder.proofs.record.defaults_right.Goals as goal

pub returns : goal.returns
unfolding defaults_right step_of
returns c =
    let a = c.args.«record».now in
    let area = a.area.now in
    let cells = a.cells.now in
    all_from_yields_List (λ k. uses_right area (act (step_at cells k)) (step_at cells k).name (step_at cells k).default) _ _ _ c.all.ensures.ran
    (YieldsList-from_range 0 (step_count cells) (step_count cells) (cc) (omega arith))
    (λ x b q k. search (rules, tests))
    ∙ all_steps (λ t. uses_right area (act t) t.name t.default) cells
