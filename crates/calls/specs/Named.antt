-- The pairs of N that a call record holds, by their numbers: the written ones first, and then the entries.
use Rattle.std.specs.Prelude.{List, ℕ, ◌+◌, drop}
use Rattle.rules.specs.CallRecord.{Head, Named, Entry, read_pair, named_in, entry_in}
use Rattle.cells.specs.Listed.{listed}
use Rattle.calls.specs.Places.{named_at}

-- pair k of N as a named value, and as an entry
unfoldable pub pair_named : List ℕ → List ℕ → Head → ℕ → Named
pair_named area cells h k = named_in area (read_pair (drop (named_at 64 h k) cells))

unfoldable pub pair_entry : List ℕ → List ℕ → Head → ℕ → Entry
pair_entry area cells h k = entry_in area (read_pair (drop (named_at 64 h k) cells))

-- the first `count` named values, and `count` entries from number `from` on
abbrev pub names_in : List ℕ → List ℕ → Head → ℕ → List Named
names_in area cells h count = listed (pair_named area cells h) 0 count

abbrev pub entries_in : List ℕ → List ℕ → Head → ℕ → ℕ → List Entry
entries_in area cells h from count = listed (λ k. pair_entry area cells h (h.n + k)) from count
