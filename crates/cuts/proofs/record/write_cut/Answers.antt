-- `cuts::record::write_cut` meets its contract: the head and four runs behind it are the record. Assumes nothing.
use mathlib.Core.Path.{refl, sym, ap, ◌∙◌}
use Prim.Native.Nat.{◌-◌, ◌+◌, ◌*◌, ◌/◌}
use native.Mathlib.Omega.{arith}
use lib.ListN.{length}
use Rattle.rules.specs.Cells.{over}
use Rattle.cells.specs.Out.{stored}
use Rattle.cuts.specs.Record.{cut_of, head_cells, run_of}
use Rattle.cuts.proofs.LawsWrite.{cut_cells, four_stored}
use Rattle.cuts.proofs.LawsRun.{run_length, run_is}
use Rattle.cuts.proofs.record.write_cut.Goals as goal

pub returns : goal.returns
returns c =
    let a = c.args in
    let fits = c.requires.0 in
    let cut = cut_of a.cut in
    let p = a.positionals.now in
    let n = a.named.now in
    let s = length p / 2 - cut.at_p in
    let d = length n / 4 - cut.at_n in
    four_stored a.out.now c.write_head.new.out c.copy_values.new.board c.copy_values-2.new.board c.copy_values-3.new.board c.copy_values-4.new.board
    (head_cells cut s d) (run_of p 0 cut.at_p) (run_of n 0 (2 * cut.at_n)) (run_of p (2 * cut.at_p) s) (run_of n (4 * cut.at_n) (2 * d))
    6 (6 + 2 * cut.at_p) (6 + 2 * cut.at_p + 4 * cut.at_n) (6 + 2 * cut.at_p + 4 * cut.at_n + 2 * s)
    c.write_head.ensures
    (c.copy_values.ensures ∙ ap (stored c.write_head.new.out 6) (run_is p 0 cut.at_p (omega arith)))
    (c.copy_values-2.ensures ∙ ap (stored c.copy_values.new.board (6 + 2 * cut.at_p)) (run_is n 0 (2 * cut.at_n) (omega arith)))
    (c.copy_values-3.ensures ∙ ap (stored c.copy_values-2.new.board (6 + 2 * cut.at_p + 4 * cut.at_n)) (run_is p (2 * cut.at_p) s (omega arith)))
    (c.copy_values-4.ensures ∙ ap (stored c.copy_values-3.new.board (6 + 2 * cut.at_p + 4 * cut.at_n + 2 * s)) (run_is n (4 * cut.at_n) (2 * d) (omega arith)))
    refl
    (ap (λ k. 6 + k) (sym (run_length p 0 cut.at_p)))
    (omega (arith, run_length n 0 (2 * cut.at_n)))
    (ap (λ k. 6 + 2 * cut.at_p + 4 * cut.at_n + k) (sym (run_length p (2 * cut.at_p) s)))
    (omega (arith, run_length n (4 * cut.at_n) (2 * d), c.requires.1, fits.few_values, fits.few_pairs, fits.within_values, fits.within_pairs))
    ∙ ap (λ l. over l a.out.now) (sym (cut_cells p n cut fits))
