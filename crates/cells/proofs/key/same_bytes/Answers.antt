-- `cells::key::same_bytes` meets its contract: what the shifts leave of two words are the bytes that are compared. Assumes nothing.
use native.Mathlib.Omega.{arith}
use lib.ListN.{length-drop}
use Rattle.cells.proofs.LawsWord.{shifts_same}
use Rattle.cells.proofs.key.same_bytes.Goals as goal

pub returns : goal.returns
returns c =
    let a = c.args in
    shifts_same _ _ _ _ c.word_at-one.ensures c.word_at-other.ensures
    (rw (length-drop a.at a.a.now) (omega (arith, c.requires.0)))
    (rw (length-drop a.from a.b.now) (omega (arith, c.requires.1)))
    a.len c.requires.3
