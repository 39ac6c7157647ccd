-- `accessors::entries::is_named` meets its contract: each of the first `count` names is asked the same. Assumes nothing.
use mathlib.Core.Path.{refl, ◌∙◌}
use native.Mathlib.Nat.{sub-zero}
use native.Mathlib.Omega.{arith}
use borrow.Author.Rules.{rules}
use borrow.Author.Tests.{tests}
use Rattle.std.proofs.lemmas.Iterator.{YieldsList-from_range}
use Rattle.std.proofs.lemmas.Iterator.Search.{any_from_yields_List}
use Rattle.calls.specs.Head.{head_of}
use Rattle.accessors.proofs.LawsEntries.{has_name, names_any}
use Rattle.accessors.proofs.entries.is_named.Goals as goal

pub returns : goal.returns
returns c =
    let a = c.args in
    any_from_yields_List (has_name a.call.now.area.now a.call.now.cells.now (head_of a.call.now.head) a.name.now) _ _ _ c.any.ensures.ran
    (YieldsList-from_range 0 a.count a.count refl (sub-zero a.count)) (λ x b q k. search (rules, tests))
    ∙ names_any a.call.now.area.now a.call.now.cells.now (head_of a.call.now.head) a.name.now 0 a.count (λ j b. c.requires.within j (omega arith))
