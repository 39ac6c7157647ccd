-- `sheet_values::read::read_bits` meets its contract. The loop's invariant: what is read in all is what is read from the next byte on, behind
-- the number so far, which has as many digits as were read. Assumes nothing.
use mathlib.Core.Path.{◌≡◌}
use Prim.Native.Nat.{◌^◌, ◌<◌}
use lib.ListN.{drop}
use Rattle.rules.specs.SheetValue.{is_hex_digit, read_bits}
use Rattle.sheet_values.specs.Read.{taken}
use Rattle.sheet_values.proofs.read.read_bits.Given as goal

abbrev pub invariant-loop-b : goal.invariant-loop-b
invariant-loop-b l = (l.n < 16 ^ l.b-index) × (read_bits l.digits ≡ taken is_hex_digit 16 l.n (drop l.b-index l.digits))
