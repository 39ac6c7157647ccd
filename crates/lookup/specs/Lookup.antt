-- Looking up a name in the parameters of a list, whatever they hold: the first parameter that the name fits.
use Rattle.std.specs.Prelude.{Option, Some, None, ◌≡◌, Bool, true, cond, ◌&&◌, List, ℕ, zero, suc, min, ◌<◌, get_or}
use Rattle.rules.specs.Text.{same_bytes, bytes_at, inside}
use Rattle.rules.specs.Lookup.{Finding, at, unknown}
use Rattle.builder.specs.declared.params.Parameters.{Parameters}
use Rattle.builder.specs.Params.{may_be_named}

-- the finding of `rules`
abbrev pub finding_of : Option ℕ → Finding
finding_of (Some i) = at i
finding_of None = unknown

-- a nameable parameter with these bytes; a name that does not lie inside the area fits nothing
unfoldable pub fits : List ℕ → List ℕ → ℕ → ℕ → ℕ → Bool
fits area bytes code style name = may_be_named code style && (inside area name && same_bytes bytes (bytes_at area name))

-- the same at an index
unfoldable pub fits_at : List ℕ → Parameters → List ℕ → ℕ → Bool
fits_at area p bytes i = fits area bytes (get_or p.codes i 0) (get_or p.styles i 0) (get_or p.names i 0)

-- the first index that passes the test, of `count` from i on
abbrev pub first_at : (ℕ → Bool) → ℕ → ℕ → Option ℕ
first_at test i zero = None
first_at test i (suc count) = cond (test i) (Some i) (first_at test (suc i) count)

-- a column holds 64 parameters
unfoldable pub find_in : List ℕ → Parameters → List ℕ → Option ℕ
find_in area p bytes = first_at (fits_at area p bytes) 0 (min p.len 64)

-- no two of the parameters have this name: whichever it fits is what is found
abbrev pub OneFits : List ℕ → Parameters → List ℕ → Type 0
OneFits area p bytes =
    (i : ℕ) → i < min p.len 64 → fits_at area p bytes i ≡ true → find_in area p bytes ≡ Some i
