use Rattle.std.specs.Prelude.{◌+◌, ◌*◌, ◌<◌}
use native.Mathlib.Omega.{arith}
use Rattle.cells.proofs.LawsKey.{key_start, key_room, key_next, key_end, first_inside, first_byte, first_end}
use Rattle.cells.proofs.text.key_of.Goals as goal
use Rattle.cells.proofs.text.key_of.Goals.{In-loop-byte}

pub loop-byte-init : goal.loop-byte-init
loop-byte-init c = key_start c.args.bytes.now

-- the key has room for the byte, which stands in the text at the loop's index
room : (c : In-loop-byte) → c.loop-byte.key * 256 + 255 < 18446744073709551616
room c =
    let at = c.loop-byte in
    key_room _ at.key at.byte-index at.invariant (first_inside _ _ at.byte-index c.min.ensures c.loop-byte-test.true).0

pub overflow_mul-key : goal.overflow_mul-key
overflow_mul-key c = omega (arith, room (goal.at.overflow_mul-key c).In-loop-byte)

pub overflow_add-key : goal.overflow_add-key
overflow_add-key c = omega (arith, room (goal.at.overflow_add-key c).In-loop-byte, c.type_inv.bytes c.loop-byte.byte-index, first_byte _ _ c.loop-byte.byte-index c.min.ensures c.loop-byte-test.true)

pub loop-byte-preserved : goal.loop-byte-preserved
loop-byte-preserved c =
    let at = c.loop-byte in
    let h = first_inside c.args.bytes.now c.min.result at.byte-index c.min.ensures c.loop-byte-test.true in
    rw (first_byte c.args.bytes.now c.min.result at.byte-index c.min.ensures c.loop-byte-test.true) (key_next _ at.key at.byte-index at.invariant h.1 h.0 (omega (arith, c.type_inv.bytes at.byte-index)))

pub returns : goal.returns
returns c =
    let at = c.loop-byte in
    key_end _ at.key at.byte-index at.invariant (first_end _ _ at.byte-index c.min.ensures c.loop-byte-test.false)
