-- The slot reader (01, slot reader): a walk over lent slots, one parameter at a time. What is left of them says all about a reader; a
-- position is how many slots were read, so what is left at a position is `drop`.
use Rattle.std.specs.Prelude.{◌≡◌, Bool, true, false, cond, not, List, [], ◌∷◌, ℕ, suc, ◌/◌, ◌≤◌, min, eqb, ltb, leb, length, take, drop, replicate}
use Rattle.rules.specs.Listing.{all}
use Rattle.rules.specs.Value.{Value}

-- a slot is two cells; an odd last cell is no slot
abbrev pub slots_in : List ℕ → List Value
slots_in [] = []
slots_in (kind ∷ []) = []
slots_in (kind ∷ payload ∷ cells) = record { kind = kind; payload = payload } ∷ slots_in cells

-- what a read answers: a number for "no", the pair of a filled slot as it is, or that the slot is empty
pub data Read : Type 0 where
  unread : ℕ → Read
  holds : Value → Read
  vacant : Read

-- a slot of kind 0 is empty, whatever its payload
unfoldable pub is_vacant : Value → Bool
is_vacant v = eqb v.kind 0

-- an optional value: 27 where no slot is left
abbrev pub read_optional : List Value → Read
read_optional [] = unread 27
read_optional (v ∷ vs) = cond (is_vacant v) vacant (holds v)

-- a needed value: 27 where no slot is left, 28 where it is empty
abbrev pub read_needed : List Value → Read
read_needed [] = unread 27
read_needed (v ∷ vs) = cond (is_vacant v) (unread 28) (holds v)

-- is the reader at its end?
abbrev pub at_end : List Value → Bool
at_end [] = true
at_end (v ∷ vs) = false

-- what is left after a read of either sort: a 28 has moved past its slot, a 27 moves nothing
abbrev pub left_after : List Value → List Value
left_after [] = []
left_after (v ∷ vs) = vs

-- the slots left at a position, and the position after a read there
unfoldable pub left_at : List ℕ → ℕ → List Value
left_at cells position = drop position (slots_in cells)

unfoldable pub position_after : List ℕ → ℕ → ℕ
position_after cells position = cond (ltb position (length (slots_in cells))) (suc position) position

-- ---- sequences of reads

-- a read of one sort or the other
pub data Sort : Type 0 where
  needed : Sort
  optional : Sort

abbrev pub read_by : Sort → List Value → Read
read_by needed vs = read_needed vs
read_by optional vs = read_optional vs

-- what some reads answer, one after the other, and what is left behind them
abbrev pub answers : List Sort → List Value → List Read
answers [] vs = []
answers (s ∷ ss) vs = read_by s vs ∷ answers ss (left_after vs)

abbrev pub left_behind : List Sort → List Value → List Value
left_behind [] vs = vs
left_behind (s ∷ ss) vs = left_behind ss (left_after vs)

-- where some reads from a position leave the reader
abbrev pub position_behind : List Sort → List ℕ → ℕ → ℕ
position_behind [] cells position = position
position_behind (s ∷ ss) cells position = position_behind ss cells (position_after cells position)

-- ---- what holds of every sequence of reads; the proof is `reads_in_order` of proofs/

-- what a read makes of the one slot that it sees
abbrev pub seen_empty : Sort → Read
seen_empty needed = unread 28
seen_empty optional = vacant

abbrev pub seen : Sort → Value → Read
seen sort v = cond (is_vacant v) (seen_empty sort) (holds v)

-- the reads and the slots side by side: the first read sees the first slot, the second the second
abbrev pub seen_each : List Sort → List Value → List Read
seen_each [] vs = []
seen_each (s ∷ ss) [] = []
seen_each (s ∷ ss) (v ∷ vs) = seen s v ∷ seen_each ss vs

abbrev pub is_no_more : Read → Bool
is_no_more (unread n) = eqb n 27
is_no_more (holds v) = false
is_no_more vacant = false

-- any reads `ss` from the first of the slots `vs` on, and from a position in some cells
pub record ReadsInOrder : Type 0 where
  -- k reads see slots 0 to k-1, each once and in order
  pub in_order : (ss : List Sort) (vs : List Value) → length ss ≤ length vs → answers ss vs ≡ seen_each ss (take (length ss) vs)
  -- and none of them is told that there is no slot
  pub none_missing : (ss : List Sort) (vs : List Value) → length ss ≤ length vs → all (λ r. not (is_no_more r)) (answers ss vs) ≡ true
  -- they leave the slots behind those k
  pub left : (ss : List Sort) (vs : List Value) → left_behind ss vs ≡ drop (length ss) vs
  -- so the end comes with the last slot, not before and not after
  pub end_after_last : (ss : List Sort) (vs : List Value) → at_end (left_behind ss vs) ≡ leb (length vs) (length ss)
  -- past it every read is a 27, and nothing moves
  pub past_the_end : (ss : List Sort) → answers ss [] ≡ replicate (length ss) (unread 27)
  pub stays_at_the_end : (ss : List Sort) → left_behind ss [] ≡ []
  -- two cells a slot
  pub slot_count : (cells : List ℕ) → length (slots_in cells) ≡ length cells / 2
  -- a position says what is left, after one read and after many
  pub left_after_one : (cells : List ℕ) (position : ℕ) → left_at cells (position_after cells position) ≡ left_after (left_at cells position)
  pub left_after_many : (ss : List Sort) (cells : List ℕ) (position : ℕ) → left_at cells (position_behind ss cells position) ≡ left_behind ss (left_at cells position)
  -- k reads from the start stand at position k, and never behind the last slot
  pub position_from_start : (ss : List Sort) (cells : List ℕ) → position_behind ss cells 0 ≡ min (length ss) (length cells / 2)
