-- Where in a call record a value of P and a pair of N stand (01, placement). For a record with more than B in a part, and for an index
-- past the end, the answer is 0, where the head stands and nothing else can.
use Rattle.std.specs.Prelude.{cond, ℕ, ◌+◌, ◌-◌, ◌*◌, ltb}
use Rattle.rules.specs.Value.{value_width}
use Rattle.rules.specs.CallRecord.{Head, head_width, pair_width}
use Rattle.calls.specs.Head.{at_most, named_from, items_from, entries_from}

-- things of `width` cells in two runs, `a` of them from `first` on and then `b` from `second` on: where number k stands
unfoldable pub in_runs : ℕ → ℕ → ℕ → ℕ → ℕ → ℕ → ℕ
in_runs width first a second b k =
    cond (ltb k a) (first + width * k) (cond (ltb k (a + b)) (second + width * (k - a)) 0)

-- value k of P: a written value, or an item of the star
unfoldable pub position_at : ℕ → Head → ℕ → ℕ
position_at B h k = cond (at_most B h) (in_runs value_width head_width h.p (items_from h) h.s k) 0

-- pair k of N: a written pair, or an entry of the double star
unfoldable pub named_at : ℕ → Head → ℕ → ℕ
named_at B h k = cond (at_most B h) (in_runs pair_width (named_from h) h.n (entries_from h) h.d k) 0
