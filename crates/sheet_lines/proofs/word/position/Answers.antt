-- `sheet_lines::word::position` meets its contract: the library's search over the parts of the line is the one over its cells.
-- Assumes nothing.
use Rattle.std.proofs.Common.{◌∙◌, ap, eqb, rules, tests}
use Rattle.std.specs.List.{slice_split, position_from}
use Rattle.std.proofs.lemmas.Iterator.Search.{position_from_yields_List}
use Rattle.std.proofs.lemmas.Iterator.Splits.{YieldsList-from_slice_split}
use Rattle.std.proofs.lemmas.Iterator.Adapters.{position_from-zero}
use Rattle.rules.specs.Text.{same_bytes}
use Rattle.sheet_lines.proofs.LawsWord.{parts_cells}
use Rattle.sheet_lines.proofs.word.position.Goals as goal

pub returns : goal.returns
returns c =
    let a = c.args in
    let test = same_bytes a.word.now in
    position_from_yields_List test _ _ c.position.result c.position.ensures.ran
    (YieldsList-from_slice_split _ (λ b. eqb b 44) a.line.now c.split.ensures.rest c.split.ensures.done c.split.ensures.closure (λ x b q k. search (rules, tests)))
    (λ x b q k. search (rules, tests))
    ∙ position_from-zero test (slice_split (λ b. eqb b 44) a.line.now)
    ∙ ap (position_from test 0) (parts_cells a.line.now)
