-- `findings::entries::in_rest` meets its contract: what the library tests of each pair is whether its name is this one.
-- Assumes nothing.
use Rattle.std.specs.Prelude.{MatchBool}
use Rattle.std.specs.List.{AllWithin, HoldsAt}
use Rattle.std.proofs.lemmas.Iterator.{YieldsList-from_slice, cases_from_any}
use mathlib.Core.Path.{◌≡◌, sym, ap, ◌∙◌}
use mathlib.Core.Bool.{Bool, true, false}
use mathlib.Core.List.{List}
use Prim.Native.Nat.{ℕ, ◌<◌}
use native.Mathlib.Omega.{arith}
use borrow.Author.Rules.{rules}
use borrow.Author.Tests.{tests}
use lib.ListN.{length, take, get_or}
use lib.Seq.{length-take-le, get_or-take}
use Rattle.rules.specs.Text.{among, same_bytes}
use Rattle.rules.specs.Binding.{texts_of}
use Rattle.cells.specs.Text.{part_at}
use Rattle.cells.specs.Record.{pair_at}
use Rattle.findings.specs.Resolved.{named_at}
use Rattle.findings.specs.Entries.{Held, held_names}
use Rattle.findings.proofs.LawsEntries.{name_part, among_one, among_none}
use Rattle.findings.proofs.resolve.Resolution.in_rest.Goals as goal

-- a pair's name by its payload, and so for all of the remainder
module _ (area cells rest : List ℕ) (count : ℕ) (name : List ℕ) (held : Held area cells rest count) where
  abbrev pairs : List ℕ
  pairs = take count rest

  abbrev tested : ℕ → Bool
  tested pair = same_bytes name (part_at area (pair_at cells pair).payload)

  size : length pairs ≡ count
  size = length-take-le count rest (omega (arith, held.few, held.pairs))

  is : (k : ℕ) → k < count → same_bytes name (named_at area cells (get_or pairs k 0)).name.bytes ≡ tested (get_or pairs k 0)
  is k below =
      let e = get_or-take count rest k 0 below in
      ap (same_bytes name) (name_part area cells (get_or pairs k 0) (rw e (held.named k below).inside))

  by_any
      : (r : Bool) → MatchBool r ((k : ℕ) × (k < length pairs) × HoldsAt (λ pair. tested pair ≡ true) pairs k) (AllWithin (λ pair. tested pair ≡ false) pairs 0 (length pairs))
      → r ≡ among name (texts_of (held_names area cells rest count))
  by_any true m = sym (among_one area cells name pairs m.0 m.1 (is m.0 (omega (arith, m.1, size)) ∙ m.2 0))
  by_any false m = sym (among_none area cells name pairs (λ k l. is k (omega (arith, size)) ∙ m k 0 (omega arith) l))

pub returns : goal.returns
returns c =
    let a = c.args in
    by_any a.call.now.area.now a.call.now.cells.now a.self.now.rest a.self.now.count a.name.now c.requires c.any.result
    (cases_from_any _ _ c.any.result (λ pair. tested a.call.now.area.now a.call.now.cells.now a.self.now.rest a.self.now.count a.name.now c.requires pair ≡ true) (λ pair. tested a.call.now.area.now a.call.now.cells.now a.self.now.rest a.self.now.count a.name.now c.requires pair ≡ false) c.any.ensures.ran
    (YieldsList-from_slice (take a.self.now.count a.self.now.rest) cc)
    (λ x q k. search (rules, tests))
    (λ x q k. search (rules, tests)))
