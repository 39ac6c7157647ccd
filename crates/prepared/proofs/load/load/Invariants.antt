-- `prepared::load::load` meets its contract. The loop's invariant: each column holds its cell of the rows so far.
-- Assumes nothing.
use mathlib.Core.Path.{◌≡◌}
use Rattle.prepared.proofs.LawsLoad.{Loaded}
use Rattle.prepared.proofs.load.load.Given as goal

abbrev pub invariant-loop-i : goal.invariant-loop-i
invariant-loop-i l =
    (l.params.len ≡ l.n)
    × Loaded l.cells l.i l.params.codes l.params.styles l.params.names l.params.default_kinds l.params.default_payloads
