-- `findings::found::first_missing` meets its contract: what the library finds is the first index that passes the test.
-- Assumes nothing.
use Rattle.std.proofs.lemmas.Iterator.{YieldsList-from_range, first_from_find}
use mathlib.Core.Path.{◌≡◌, refl}
use mathlib.Core.Bool.{Bool, true, false, ◌&&◌}
use Prim.Native.Nat.{ℕ, ◌-◌}
use borrow.Author.Rules.{rules}
use borrow.Author.Tests.{tests}
use lib.Dec.{eqb}
use lib.ListN.{get_or}
use Rattle.findings.specs.Found.{first_missing}
use Rattle.findings.proofs.LawsFirst.{first_found}
use Rattle.findings.proofs.found.first_missing.Goals as goal

pub returns : goal.returns
unfolding first_missing
returns c =
    let a = c.args in
    let p = a.params.now in
    let test : ℕ → Bool = λ i. eqb (get_or p.codes i 0) 1 && eqb (get_or a.sources.now i 0) 0 in
    first_found test a.next (p.len - a.next) c.find.result
    (first_from_find _ _ c.find.result (λ i. test i ≡ true) (λ i. test i ≡ false) c.find.ensures.ran (YieldsList-from_range a.next p.len (p.len - a.next) refl refl) (λ x q k. search (rules, tests)) (λ x q k. search (rules, tests)))
