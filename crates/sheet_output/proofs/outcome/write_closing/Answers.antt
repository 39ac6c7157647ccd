-- `sheet_output::outcome::write_closing` meets its contract: one line behind the other. Assumes nothing.
use native.Mathlib.Omega.{arith}
use mathlib.Core.List.{[], ◌∷◌}
use Rattle.cells.proofs.LawsOut.{wrote_room, wrote_both}
use Rattle.sheet_output.specs.Outcome.{closing}
use Rattle.sheet_output.proofs.LawsOutcome.{count_length}
use Rattle.sheet_output.proofs.outcome.write_closing.Goals as goal

pub write_count-requires-2 : goal.write_count-requires-2
write_count-requires-2 c =
    omega (arith, wrote_room _ _ _ c.write_count.ensures 73 (omega (arith, count_length (116 ∷ 97 ∷ 107 ∷ 101 ∷ 110 ∷ []) c.args.taken)))

pub returns : goal.returns
unfolding closing
returns c =
    let first = count_length (116 ∷ 97 ∷ 107 ∷ 101 ∷ 110 ∷ []) c.args.taken in
    let second = count_length (100 ∷ 101 ∷ 102 ∷ 97 ∷ 117 ∷ 108 ∷ 116 ∷ 101 ∷ 100 ∷ []) c.args.defaulted in
    wrote_both _ _ _ c.write_count.ensures _ _ (omega arith) c.write_count-2.ensures
