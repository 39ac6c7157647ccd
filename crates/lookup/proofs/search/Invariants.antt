-- `lookup::search` meets its contract. The outer invariant: the finding is that of the candidates that are left; the inner: the candidate's name is
-- these bytes where the bytes that are left are.
-- Assumes nothing.
use mathlib.Core.Path.{◌≡◌}
use Prim.Native.Nat.{◌-◌}
use lib.ListN.{take, drop}
use Rattle.rules.specs.Text.{same_bytes}
use Rattle.lookup.specs.Lookup.{fits_at, first_at}
use Rattle.lookup.proofs.search.Given as goal

abbrev pub invariant-loop-j : goal.invariant-loop-j
invariant-loop-j l =
    same_bytes l.name (take l.size (drop l.start l.list.area.now)) ≡ same_bytes (drop l.j l.name) (drop l.j (take l.size (drop l.start l.list.area.now)))

abbrev pub invariant-candidates : goal.invariant-candidates
invariant-candidates l =
    first_at (fits_at l.list.area.now l.list.params l.name) l.from (l.to - l.from) ≡ first_at (fits_at l.list.area.now l.list.params l.name) l.at (l.to - l.at)
