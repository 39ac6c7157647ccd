-- `prepared::check::known_before` meets its contract: a row before it is asked for its name where its key is the same, and one with another key
-- has another name. Assumes nothing.
use mathlib.Core.Path.{refl, sym, ◌∙◌}
use mathlib.Core.Bool.{◌&&◌}
use Prim.Native.Nat.{◌+◌, ◌*◌}
use native.Mathlib.Nat.{sub-zero}
use borrow.Author.Rules.{rules}
use borrow.Author.Tests.{tests}
use lib.Dec.{eqb}
use lib.ListN.{get_or}
use Rattle.std.proofs.lemmas.Iterator.{YieldsList-from_range}
use Rattle.std.proofs.lemmas.Iterator.Search.{any_from_yields_List}
use Rattle.rules.specs.Lookup.{names}
use Rattle.prepared.specs.Rows.{param_at}
use Rattle.prepared.proofs.LawsRows.{known_range, known_bytes}
use Rattle.prepared.proofs.check.known_before.Goals as goal

pub returns : goal.returns
returns c =
    let a = c.args in
    let cells = a.list.now.cells.now in
    let bytes = c.bytes_at-bytes.result.now in
    any_from_yields_List (λ j. eqb (get_or cells (2 + 6 * j + 5) 0) (get_or cells (2 + 6 * a.i + 5) 0) && names bytes (param_at a.list.now.area.now cells j)) _ _ c.any.result
    c.any.ensures.ran (YieldsList-from_range 0 a.i a.i refl (sub-zero a.i)) (λ x b q k. search (rules, tests))
    ∙ known_range a.list.now.area.now cells bytes a.i c.requires c.bytes_at-bytes.ensures
    ∙ sym (known_bytes a.list.now.area.now cells bytes a.i _ c.bytes_at-bytes.ensures)
