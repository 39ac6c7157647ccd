-- The slot of a key in a small table (01, questions 12 and 13): what is equal has the same slot, so a slot that nothing took holds nothing
-- equal. Which slot it is matters to speed alone.
use Rattle.std.specs.Prelude.{ℕ, ◌%◌}
use Rattle.rules.specs.CallRecord.{Key, word, number}
use Rattle.cells.specs.Text.{last_key}

-- how many slots there are
unfoldable pub slots : ℕ
slots = 929

-- a text's by its last eight bytes, a whole number's by the number
abbrev pub key_slot : Key → ℕ
key_slot (word t) = last_key t.bytes % slots
key_slot (number n) = n % slots
