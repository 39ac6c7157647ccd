-- `cells::key::short_key` meets its contract: the bytes that are not wanted are shifted out. Assumes nothing.
use native.Mathlib.Omega.{arith}
use lib.ListN.{length-drop}
use Rattle.cells.proofs.LawsWord.{front_shift}
use Rattle.cells.proofs.key.short_key.Goals as goal

pub returns : goal.returns
returns c =
    let a = c.args in
    front_shift _ _ c.word_at.ensures (rw (length-drop a.start a.area.now) (omega (arith, c.requires.0))) a.len c.requires.2
