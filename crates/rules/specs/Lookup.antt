-- Name lookup (01, name lookup): which parameter a name in a call means, by its index, if it means one.
-- 01's own term defined here: a name that is that of a parameter.
use Rattle.std.specs.Prelude.{Bool, cond, ◌&&◌, List, [], ◌∷◌, ℕ, suc}
use Rattle.rules.specs.Listing.{any}
use Rattle.rules.specs.Text.{same_bytes}
use Rattle.rules.specs.Parameters.{Parameter, nameable}

-- do these bytes name this parameter? A positional-only parameter has no name in a call
unfoldable pub names : List ℕ → Parameter → Bool
names bytes q = nameable q && same_bytes bytes q.name.bytes

-- do they name a parameter of the list?
unfoldable pub known : List Parameter → List ℕ → Bool
known qs bytes = any (names bytes) qs

pub data Finding : Type 0 where
  at : ℕ → Finding
  unknown : Finding

abbrev pub find_from : ℕ → List Parameter → List ℕ → Finding
find_from i [] bytes = unknown
find_from i (q ∷ qs) bytes = cond (names bytes q) (at i) (find_from (suc i) qs bytes)

unfoldable pub find : List Parameter → List ℕ → Finding
find qs bytes = find_from 0 qs bytes
