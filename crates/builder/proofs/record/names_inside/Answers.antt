-- `builder::record::names_inside` meets its contract: the function's name is asked, and then each step the same. Assumes nothing.
use mathlib.Core.Path.{sym, ◌∙◌}
use native.Mathlib.Omega.{arith}
use Rattle.std.proofs.Common.{rules, tests}
use Rattle.std.proofs.lemmas.Iterator.{YieldsList-from_range}
use Rattle.std.proofs.lemmas.Iterator.Search.{all_from_yields_List}
use Rattle.rules.specs.ParameterRecord.{step_count}
use Rattle.rules.specs.ParameterQuestions.{step_name}
use Rattle.builder.specs.Record.{step_at}
use Rattle.builder.proofs.LawsRecord.{all_steps, function_not, function_named}
use Rattle.builder.proofs.record.names_inside.Goals as goal

pub returns-else-is_name : goal.returns-else-is_name
returns-else-is_name c =
    let a = c.args.«record».now in
    c.if-is_name.false ∙ function_not a.area.now a.cells.now c.cell.ensures c.is_name.ensures c.if-is_name.false

pub returns-then-is_name : goal.returns-then-is_name
returns-then-is_name c =
    let a = c.args.«record».now in
    let area = a.area.now in
    let cells = a.cells.now in
    all_from_yields_List (λ k. step_name area (step_at cells k)) _ _ _ c.all.ensures.ran
    (YieldsList-from_range 0 (step_count cells) (step_count cells) (cc) (omega arith))
    (λ x b q k. search (rules, tests))
    ∙ all_steps (step_name area) cells
    ∙ sym (function_named area cells c.cell.ensures c.is_name.ensures c.if-is_name.true)
