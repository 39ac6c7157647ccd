use mathlib.Core.Path.{sym, ap₂, ◌∙◌}
use mathlib.Core.List.{[]}
use native.Mathlib.Nat.{add-zero, sub-zero}
use native.Mathlib.Omega.{arith}
use Rattle.std.proofs.lemmas.Result.{err_from_is_err_and}
use Rattle.rules.specs.Binding.{ask_entries}
use Rattle.calls.specs.Head.{head_of}
use Rattle.calls.specs.Named.{names_in, entries_in}
use Rattle.accessors.proofs.LawsEntries.{entries_refused, entries_passed, inside_passed, entries_end}
use Rattle.accessors.proofs.entries.ask_entries.Goals as goal

pub loop-k-init : goal.loop-k-init
loop-k-init c =
    let a = c.args in
    let h = head_of a.call.now.head in
    (rw add-zero c.requires.1, ap₂ (λ n m. ask_entries [] [] (names_in a.call.now.area.now a.call.now.cells.now h n) (entries_in a.call.now.area.now a.call.now.cells.now h 0 m)) (sym (add-zero h.n)) (sym (sub-zero h.d)))

pub overflow_add-h : goal.overflow_add-h
overflow_add-h c =
    omega (arith, c.requires.0.few.few_n, c.requires.0.few.few_d)

pub ask_entry-requires : goal.ask_entry-requires
ask_entry-requires c = (c.requires.0.formed c.loop-k.k c.loop-k-test.true, c.loop-k.invariant.0)

pub returns-in_err-ask_entry : goal.returns-in_err-ask_entry
returns-in_err-ask_entry c =
    let p = err_from_is_err_and c.from_residual.result c.from_residual.ensures.1 in
    rw (p.1, p.2) (sym (c.loop-k.invariant.1 ∙ entries_refused _ _ _ c.loop-k.k c.loop-k-test.true _ _ (sym c.in_err-ask_entry.ensures)))

pub loop-k-preserved : goal.loop-k-preserved
loop-k-preserved c =
    let passed = sym c.in_ok-ask_entry.ensures in
    (inside_passed _ _ _ c.loop-k.k c.loop-k-test.true passed c.requires.0 c.loop-k.invariant.0, c.loop-k.invariant.1 ∙ entries_passed _ _ _ c.loop-k.k c.loop-k-test.true passed)

pub returns : goal.returns
returns c =
    sym (c.loop-k.invariant.1 ∙ entries_end _ _ _ c.loop-k.k c.loop-k-test.false)
