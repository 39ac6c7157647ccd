-- `printer::items::any_item` meets its contract: each parameter is asked the same. Assumes nothing.
use mathlib.Core.Path.{◌∙◌}
use native.Mathlib.Omega.{arith}
use lib.ListN.{get_or}
use Rattle.std.proofs.Common.{rules, tests}
use Rattle.std.proofs.lemmas.Iterator.{YieldsList-from_range}
use Rattle.std.proofs.lemmas.Iterator.Search.{any_from_yields_List}
use Rattle.builder.specs.Params.{style_of}
use Rattle.printer.specs.Items.{is_under}
use Rattle.printer.proofs.LawsItems.{any_under}
use Rattle.printer.proofs.items.any_item.Goals as goal

pub returns : goal.returns
returns c area =
    let a = c.args in
    let p = a.params.now in
    any_from_yields_List (λ k. is_under (style_of a.style) (get_or p.codes k 0) (get_or p.styles k 0)) _ _ _ c.any.ensures.ran
    (YieldsList-from_range 0 p.len p.len (cc) (omega arith))
    (λ x b q k. search (rules, tests))
    ∙ any_under (style_of a.style) area p c.requires.1
