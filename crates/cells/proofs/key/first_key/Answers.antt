-- `cells::key::first_key` meets its contract: the bytes that are not wanted are shifted out. Assumes nothing.
use mathlib.Core.Path.{◌∙◌}
use native.Mathlib.Omega.{arith}
use lib.ListN.{length-drop}
use Rattle.cells.proofs.LawsWord.{front_shift, key_whole, key_none}
use Rattle.cells.proofs.key.first_key.Goals as goal

pub returns-then-len-ge8 : goal.returns-then-len-ge8
returns-then-len-ge8 c = c.word_at-word.ensures.key ∙ key_whole _ _ c.if-len-ge8.true

pub returns-then-len-eq0 : goal.returns-then-len-eq0
returns-then-len-eq0 c = key_none _ _ c.if-len-eq0.true

pub returns : goal.returns
returns c =
    let a = c.args in
    front_shift _ _ c.word_at-word.ensures (rw (length-drop a.start a.area.now) (omega (arith, c.requires))) a.len (omega (arith, c.if-len-ge8.false))
