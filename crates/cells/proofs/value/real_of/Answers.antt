-- `cells::value::real_of` meets its contract: the test is the one by which a pattern is a NaN's.
-- Assumes nothing.
use mathlib.Core.Path.{◌≡◌, ◌∙◌}
use mathlib.Core.Bool.{false}
use Prim.Native.Nat.{◌*◌, ◌%◌}
use native.Mathlib.Omega.{arith}
use lib.Ieee.{binary64, ones, hid, top, nan_bits}
use lib.Ieee.Bits.{nan_bits_above}
use borrow.Author.Tests.{le-ltb, lt-ltb}
use Rattle.cells.specs.Value.{real_of}
use Rattle.cells.proofs.value.real_of.Goals as goal
use Rattle.cells.proofs.value.real_of.Goals.{Else-bits-gt-INFINITY}

pub returns-then-bits-gt-INFINITY : goal.returns-then-bits-gt-INFINITY
unfolding real_of
returns-then-bits-gt-INFINITY c =
    let bits = c.args.bits in
    rw (nan_bits_above binary64 bits ∙ lt-ltb (ones binary64 * hid binary64) (bits % top binary64) (omega arith))

number : (c : Else-bits-gt-INFINITY) → nan_bits binary64 c.args.bits ≡ false
number c =
    let bits = c.args.bits in
    nan_bits_above binary64 bits ∙ le-ltb (ones binary64 * hid binary64) (bits % top binary64) (omega arith)

pub float_from_bits-result : goal.float_from_bits-result
float_from_bits-result c = rw (number c) tt

pub returns : goal.returns
unfolding real_of
returns c = rw (number c)
