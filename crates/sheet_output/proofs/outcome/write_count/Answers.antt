-- `sheet_output::outcome::write_count` meets its contract: two cells, and the last that is empty, are a line. Assumes nothing.
use native.Mathlib.Omega.{arith}
use mathlib.Core.List.{[], ◌∷◌, ◌++◌, append_assoc}
use lib.ListN.{length-append}
use Rattle.rules.specs.SheetOutput.{line}
use Rattle.rules.specs.SheetValue.{decimal}
use Rattle.rules.proofs.LawsDigits.{decimal_length}
use Rattle.cells.proofs.LawsOut.{wrote_same, wrote_room, wrote_both}
use Rattle.sheet_output.specs.Outcome.{count_line}
use Rattle.sheet_output.proofs.outcome.write_count.Goals as goal

pub number_cell-requires : goal.number_cell-requires
number_cell-requires c =
    let cell = length-append c.args.word.now (44 ∷ []) in
    omega (arith, wrote_room _ _ _ c.text_cell.ensures 63 (omega arith))

pub returns : goal.returns
unfolding count_line line
returns c =
    let a = c.args in
    let cell = length-append a.word.now (44 ∷ []) in
    wrote_same _ _ (append_assoc a.word.now (44 ∷ []) (decimal a.n ++ (44 ∷ 10 ∷ [])))
    (wrote_both _ _ _ c.text_cell.ensures _ _ (omega (arith, decimal_length a.n, length-append (decimal a.n) (44 ∷ 10 ∷ []))) c.number_cell.ensures)
