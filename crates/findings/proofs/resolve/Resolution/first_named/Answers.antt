-- `findings::found::first_named` meets its contract: what the library finds is the first index that passes the test, or none does.
-- Assumes nothing.
use Rattle.std.specs.Prelude.{Option, Some, None, MatchOption}
use Rattle.std.specs.List.{AllWithin, HoldsAt}
use Rattle.std.proofs.lemmas.Iterator.{YieldsList-from_slice, IsFirst-from_position}
use mathlib.Core.Path.{◌≡◌, sym, ap, ◌∙◌}
use mathlib.Core.Bool.{Bool, false, not}
use mathlib.Core.List.{List}
use Prim.Native.Nat.{ℕ, ◌≤◌, ◌<◌}
use native.Mathlib.Omega.{arith}
use borrow.Author.Rules.{rules}
use borrow.Author.Tests.{tests, eq-eqb, ne_eqb}
use lib.Dec.{eqb}
use lib.ListN.{length, take, get_or}
use lib.Seq.{length-take-le, get_or-take}
use Rattle.rules.specs.Listing.{first_index}
use Rattle.builder.specs.Spec.{index_of}
use Rattle.findings.specs.Found.{first_named}
use Rattle.findings.proofs.LawsFirst.{first_at, nowhere}
use Rattle.findings.proofs.resolve.Resolution.first_named.Goals as goal

-- the first of the first n numbers of a list, where the test is that a number is not 0
module _ (xs : List ℕ) (n : ℕ) (long : n ≤ length xs) where
  abbrev test : ℕ → Bool
  test i = not (eqb (get_or xs i 0) 0)

  size : length (take n xs) ≡ n
  size = length-take-le n xs long

  zero_at : (j : ℕ) → j < n → get_or (take n xs) j 0 ≡ 0 → test j ≡ false
  zero_at j h e = ap not (eq-eqb (get_or xs j 0) 0 (sym (get_or-take n xs j 0 h) ∙ e))

  first_by
      : (r : Option ℕ)
      → MatchOption r (AllWithin (λ x. x ≡ 0) (take n xs) 0 (length (take n xs))) (λ i. (i < length (take n xs)) × HoldsAt (λ x. x ≡ 0 → ⊥) (take n xs) i × AllWithin (λ x. x ≡ 0) (take n xs) 0 i)
      → index_of r ≡ first_index test 0 n
  first_by (Some i) m =
      let below : i < n = omega (arith, m.0, size) in
      sym
      (first_at test 0 n i (omega arith) (omega arith)
      (ap not (ne_eqb (get_or xs i 0) 0 (λ e. m.1 0 (get_or-take n xs i 0 below ∙ e))))
      (λ j l u. zero_at j (omega arith) (m.2 j 0 l u)))
  first_by None m = sym (nowhere test 0 n (λ j l u. zero_at j (omega arith) (m j 0 l (omega (arith, size)))))

pub returns : goal.returns
unfolding first_named
returns c =
    let a = c.args in
    first_by a.self.now.sources a.self.now.next (omega arith) c.position.result
    (IsFirst-from_position _ _ c.position.result (λ x. x ≡ 0 → ⊥) (λ x. x ≡ 0) c.position.ensures.ran (YieldsList-from_slice (take a.self.now.next a.self.now.sources) cc) (λ x q k. search (rules, tests)) (λ x q k. search (rules, tests)))
