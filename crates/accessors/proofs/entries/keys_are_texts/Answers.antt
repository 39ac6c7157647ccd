-- `accessors::entries::keys_are_texts` meets its contract: each entry's key is asked the same. Assumes nothing.
use mathlib.Core.Path.{refl, sym, ap, ◌∙◌}
use Prim.Native.Nat.{◌+◌}
use native.Mathlib.Nat.{add-zero}
use native.Mathlib.Omega.{arith}
use borrow.Author.Rules.{rules}
use borrow.Author.Tests.{tests}
use Rattle.std.proofs.lemmas.Iterator.{YieldsList-from_range}
use Rattle.std.proofs.lemmas.Iterator.Search.{all_from_yields_List}
use Rattle.std.specs.List.{list_all, range_with_len}
use Rattle.calls.specs.Head.{head_of}
use Rattle.accessors.proofs.LawsEntries.{has_text, keys_all}
use Rattle.accessors.proofs.entries.keys_are_texts.Goals as goal

pub overflow_add-h : goal.overflow_add-h
overflow_add-h c = omega (arith, c.requires.few.few_n, c.requires.few.few_d)

pub returns : goal.returns
returns c =
    let a = c.args in
    all_from_yields_List (has_text a.call.now.area.now a.call.now.cells.now (head_of a.call.now.head)) _ _ _ c.all.ensures.ran
    (YieldsList-from_range a.call.now.head.n (a.call.now.head.n + a.call.now.head.d) a.call.now.head.d refl (omega arith)) (λ x b q k. search (rules, tests))
    ∙ ap (λ n. list_all (has_text a.call.now.area.now a.call.now.cells.now (head_of a.call.now.head)) (range_with_len n a.call.now.head.d)) (sym (add-zero a.call.now.head.n))
    ∙ keys_all a.call.now.area.now a.call.now.cells.now (head_of a.call.now.head) 0 a.call.now.head.d (λ j b. c.requires.formed j (omega arith))
