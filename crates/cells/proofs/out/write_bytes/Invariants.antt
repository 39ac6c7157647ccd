-- `cells::out::write_bytes` meets its contract. The loop's invariant: the first k bytes of the text are stored. Assumes nothing.
use mathlib.Core.Path.{◌≡◌}
use lib.ListN.{length, take}
use Rattle.cells.specs.Out.{stored}
use Rattle.cells.proofs.out.write_bytes.Given as goal

abbrev pub invariant-loop-k : goal.invariant-loop-k
invariant-loop-k l = (length l.out ≡ length l.initial.out) × (l.out ≡ stored l.initial.out l.at (take l.k l.text))
