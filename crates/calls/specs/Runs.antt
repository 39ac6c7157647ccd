-- Runs of values and of pairs in a call record's cells (01, cells, texts and records), at an index, as `rules` reads them.
use Rattle.std.specs.Prelude.{◌≡◌, Bool, true, not, ◌&&◌, List, map, ℕ, ◌+◌, ◌*◌, ◌^◌, ◌<◌, ◌≤◌, length, drop}
use Rattle.rules.specs.Listing.{all}
use Rattle.rules.specs.Cells.{read_each}
use Rattle.rules.specs.Text.{Text}
use Rattle.rules.specs.Value.{Value, value_width, read_value, well_formed_argument}
use Rattle.rules.specs.CallRecord.{Pair, pair_width, read_pair, Key, key_in, named_in}
use Rattle.rules.specs.CallQuestions.{same_key}
use Rattle.cells.specs.Value.{value}
use Rattle.cells.specs.Record.{pair_at}

abbrev pub values_at : List ℕ → ℕ → ℕ → List Value
values_at cells from count = read_each value_width read_value count (drop from cells)

abbrev pub pairs_at : List ℕ → ℕ → ℕ → List Pair
pairs_at cells from count = read_each pair_width read_pair count (drop from cells)

-- what 11 asks (01, the questions, call record) of a run of values that begin `width` cells apart, each by the same test, and of a run of
-- pairs, where a name or a key has a value behind it
abbrev pub run_formed : (Value → Bool) → List ℕ → ℕ → ℕ → ℕ → Bool
run_formed test cells from width count = all test (read_each width read_value count (drop from cells))

abbrev pub pairs_formed : (Value → Bool) → List ℕ → List ℕ → ℕ → ℕ → Bool
pairs_formed test area cells from count = all (λ p. test p.key && well_formed_argument area p.value) (pairs_at cells from count)

-- what is answered of two cells is what a test says of the value that they are
pub record Tells (answers : ℕ → ℕ → Bool → Type 0) (test : Value → Bool) : Type 0 where
  pub told : (kind payload : ℕ) (b : Bool) → kind < 2 ^ 64 → payload < 2 ^ 64 → answers kind payload b → test (value kind payload) ≡ b

-- the run lies inside the cells and all of it passes the test: what question 11 leaves to 12 and 13
pub record Formed (test : Pair → Bool) (cells : List ℕ) (from count : ℕ) : Type 0 where
  pub within : from + pair_width * count ≤ length cells
  pub formed : all test (pairs_at cells from count) ≡ true

-- the key that stands at an index, the keys of some entries, and those of a run
abbrev pub key_there : List ℕ → List ℕ → ℕ → Key
key_there area cells at = key_in area (pair_at cells at)

abbrev pub keys_of : List ℕ → List Pair → List Key
keys_of area ps = map (λ p. key_in area p.key) ps

abbrev pub keys_at : List ℕ → List ℕ → ℕ → ℕ → List Key
keys_at area cells from count = keys_of area (pairs_at cells from count)

-- the names of some written pairs, and those of a run
abbrev pub names_of : List ℕ → List Pair → List Text
names_of area ps = map (λ p. (named_in area p).name) ps

abbrev pub names_at : List ℕ → List ℕ → ℕ → ℕ → List Text
names_at area cells from count = names_of area (pairs_at cells from count)

-- a key that is none of some keys
abbrev pub new_key : Key → List Key → Bool
new_key k ks = all (λ l. not (same_key k l)) ks
