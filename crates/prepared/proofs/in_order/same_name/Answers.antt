-- `prepared::in_order::same_name` meets its contract: both names lie inside their areas, so a short one has the bytes of the other where
-- length and key are the same, and of a longer one all bytes are compared. Assumes nothing.
use mathlib.Core.Path.{◌∙◌}
use native.Mathlib.Omega.{arith}
use borrow.Author.Tests.{le-leb}
use Rattle.prepared.proofs.LawsNamedAfter.{short_same, part_same}
use Rattle.prepared.proofs.in_order.same_name.Goals as goal

pub returns-then-name-le8 : goal.returns-then-name-le8
returns-then-name-le8 c =
    let a = c.args in
    le-leb _ _ c.if-name-le8.true
    ∙ short_same a.area.now a.name a.spec.now a.other c.requires.0 c.requires.1 (λ j. omega (arith, c.type_inv.area j)) (λ j. omega (arith, c.type_inv.spec j))
    c.requires.2 c.if-name-le8.true c.requires.3

pub returns-else-name-le8 : goal.returns-else-name-le8
returns-else-name-le8 c =
    let a = c.args in
    c.same_text.ensures ∙ part_same a.area.now a.name a.spec.now a.other c.requires.0 c.requires.1
