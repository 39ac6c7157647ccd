use Prim.Native.Nat.{◌+◌, ◌<◌}
use mathlib.Core.Logic.{inl}
use native.Mathlib.Omega.{arith}
use lib.ListN.{drop, get_or, length-drop}
use lib.Seq.{get_or-drop}
use Rattle.cells.proofs.LawsKey.{key_start, key_room, key_next, key_end}
use Rattle.cells.proofs.LawsWord.{bytes_drop}
use Rattle.cells.proofs.key.word_at.Goals as goal
use Rattle.cells.proofs.key.word_at.Goals.{After-shared_slice_known-1}

pub loop-i-init : goal.loop-i-init
loop-i-init c = (key_start _, λ h. absurd (omega arith))

pub overflow_mul-word : goal.overflow_mul-word
overflow_mul-word c = let at = c.loop-i in omega (arith, key_room _ at.word at.i at.invariant.0 c.loop-i-test.true)

-- the byte that is read
byte : (c : After-shared_slice_known-1) → let a = c.args in get_or a.area.now (a.at + c.loop-i.i) 0 < 256
byte c = omega (arith, c.shared_slice_known-1.given (c.args.at + c.loop-i.i))

pub overflow_add-word-in-loop-i : goal.overflow_add-word-in-loop-i
overflow_add-word-in-loop-i c = let at = c.loop-i in omega (arith, key_room _ at.word at.i at.invariant.0 c.loop-i-test.true, byte c)

pub loop-i-preserved : goal.loop-i-preserved
loop-i-preserved c =
    let a = c.args in
    let at = c.loop-i in
    let next = key_next (drop a.at a.area.now) at.word at.i at.invariant.0 (rw (length-drop a.at a.area.now) (omega (arith, c.requires, c.loop-i-test.true))) c.loop-i-test.true in
    (rw (get_or-drop a.at a.area.now at.i 0) at next (byte c), λ h. bytes_drop a.at a.area.now (λ j. omega (arith, c.shared_slice_known-1.given j)))

pub returns : goal.returns
returns c = let at = c.loop-i in record { key = key_end _ at.word at.i at.invariant.0 (inl c.loop-i-test.false); byte = at.invariant.1 (omega (arith, c.loop-i-test.false)) }
