-- `calls::form::run_formed` meets its contract: what the library tests of each number is whether the two cells there are what is asked.
-- Assumes nothing.
use Rattle.std.proofs.lemmas.Iterator.{YieldsList-from_range, cases_from_all}
use mathlib.Core.Path.{◌≡◌, refl}
use mathlib.Core.Bool.{Bool, true, false}
use Prim.Native.Nat.{ℕ, ◌+◌, ◌*◌}
use native.Mathlib.Nat.{sub-zero}
use borrow.Author.Rules.{rules}
use borrow.Author.Tests.{tests}
use lib.ListN.{drop, get_or}
use Rattle.rules.specs.Cells.{read_each}
use Rattle.rules.specs.Value.{no_value, read_value}
use Rattle.cells.specs.Value.{value}
use Rattle.calls.proofs.LawsEach.{each_length}
use Rattle.calls.proofs.LawsRange.{all_by}
use Rattle.calls.proofs.LawsForm.{run_at}
use Rattle.calls.proofs.form.run_formed.Goals as goal

pub returns : goal.returns
returns g c = λ test tells.
    let a = c.args in
    let asked : ℕ → Bool = λ k. test (value (get_or a.cells.now (a.from + a.width * k) 0) (get_or a.cells.now (a.from + a.width * k + 1) 0)) in
    all_by test no_value (read_each a.width read_value a.count (drop a.from a.cells.now)) a.count (each_length a.width read_value a.count (drop a.from a.cells.now)) asked
    (run_at test a.cells.now a.from a.width a.count)
    c.all.result
    (cases_from_all _ _ c.all.result (λ k. asked k ≡ true) (λ k. asked k ≡ false) c.all.ensures.ran (YieldsList-from_range 0 a.count a.count refl (sub-zero a.count)) (λ x q k. search (rules, tests, tells.told)) (λ x q k. search (rules, tests, tells.told)))
