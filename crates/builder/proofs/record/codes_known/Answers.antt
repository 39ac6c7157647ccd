-- `builder::record::codes_known` meets its contract: each step is asked the same. Assumes nothing.
use mathlib.Core.Path.{◌∙◌}
use native.Mathlib.Omega.{arith}
use Rattle.std.proofs.Common.{rules, tests}
use Rattle.std.proofs.lemmas.Iterator.{YieldsList-from_range}
use Rattle.std.proofs.lemmas.Iterator.Search.{all_from_yields_List}
use Rattle.rules.specs.ParameterRecord.{step_count}
use Rattle.rules.specs.Parameters.{act}
use Rattle.rules.specs.ParameterQuestions.{is_code, codes_known}
use Rattle.builder.specs.Record.{step_at}
use Rattle.builder.proofs.LawsRecord.{all_steps}
use Rattle.builder.proofs.record.codes_known.Goals as goal

pub returns : goal.returns
unfolding codes_known
returns c =
    let cells = c.args.cells.now in
    all_from_yields_List (λ k. is_code (act (step_at cells k))) _ _ _ c.all.ensures.ran
    (YieldsList-from_range 0 (step_count cells) (step_count cells) (cc) (omega arith))
    (λ x b q k. search (rules, tests))
    ∙ all_steps (λ t. is_code (act t)) cells
