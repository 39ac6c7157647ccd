-- `sheet_output::parts::write_remainders` meets its contract: one behind the other. Assumes nothing.
use Prim.Native.Nat.{◌+◌}
use native.Mathlib.Omega.{arith}
use Rattle.cells.proofs.LawsOut.{wrote_room, wrote_both}
use Rattle.sheet_output.specs.Parts.{remainder_most}
use Rattle.sheet_output.proofs.LawsParts.{remainder_length}
use Rattle.sheet_output.proofs.parts.write_remainders.Goals as goal

pub write_remainder-requires : goal.write_remainder-requires
write_remainder-requires c = (c.requires.0, omega (arith, c.requires.2))

pub write_remainder-requires-2 : goal.write_remainder-requires-2
write_remainder-requires-2 c =
    let b = c.args.bound.now in
    let first = remainder_length b.spec.now b.call.now b.board.now c.args.first in
    let behind = wrote_room _ _ _ c.write_remainder.ensures (remainder_most c.args.second + 512) (omega (arith, c.requires.2)) in
    (c.requires.1, omega arith)

pub returns : goal.returns
returns c =
    let b = c.args.bound.now in
    let first = remainder_length b.spec.now b.call.now b.board.now c.args.first in
    let second = remainder_length b.spec.now b.call.now b.board.now c.args.second in
    let behind = wrote_room _ _ _ c.write_remainder.ensures (remainder_most c.args.second + 512) (omega (arith, c.requires.2)) in
    record {
      wrote = wrote_both _ _ _ c.write_remainder.ensures _ _ (omega (arith, c.requires.2)) c.write_remainder-2.ensures;
      room = wrote_room _ _ _ c.write_remainder-2.ensures 512 (omega arith);
    }
