-- The head of a call record as `rules` has it, and where each part of the record begins (01, cells, texts and records).
-- B is the number of values that each part of a call may have.
use Rattle.std.specs.Prelude.{Bool, ◌&&◌, List, [], ◌∷◌, ℕ, ◌+◌, ◌*◌, ◌≤◌, leb}
use Rattle.rules.specs.Value.{value_width}
use Rattle.rules.specs.CallRecord as rules
use Rattle.calls.specs.declared.head.Head.{Head}

abbrev pub head_of : Head → rules.Head
head_of h =
    record { p = h.p; n = h.n; star_kind = h.star_kind; s = h.s; double_kind = h.double_kind; d = h.d }

-- a call that is given nothing
abbrev pub no_head : rules.Head
no_head = record { p = 0; n = 0; star_kind = 0; s = 0; double_kind = 0; d = 0 }

-- the six cells that a head is read off
abbrev pub head_cells : rules.Head → List ℕ
head_cells h = h.p ∷ h.n ∷ h.star_kind ∷ h.s ∷ h.double_kind ∷ h.d ∷ []

-- no part has more than B: the first half of question 9, as a test and as four bounds
unfoldable pub at_most : ℕ → rules.Head → Bool
at_most B h = leb h.p B && leb h.n B && leb h.s B && leb h.d B

pub record Few (B : ℕ) (h : rules.Head) : Type 0 where
  pub few_p : h.p ≤ B
  pub few_n : h.n ≤ B
  pub few_s : h.s ≤ B
  pub few_d : h.d ≤ B

-- the written values begin behind the head, and then part follows part
unfoldable pub named_from : rules.Head → ℕ
named_from h = rules.head_width + value_width * h.p

unfoldable pub items_from : rules.Head → ℕ
items_from h = named_from h + rules.pair_width * h.n

unfoldable pub entries_from : rules.Head → ℕ
entries_from h = items_from h + value_width * h.s
