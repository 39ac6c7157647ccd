-- Slots of the Rust on 01's board, cell by cell. The proof is `board_examples` of proofs/.
use Rattle.std.specs.Prelude.{◌≡◌, List, [], ◌∷◌, ℕ, replicate}
use Rattle.std.proofs.Math.Option.{Option, none, some}
use Rattle.rules.specs.CallRecord.{Named}
use Rattle.rules.specs.Examples.{whole}
use Rattle.original.specs.Locals.{Held, single, tuple, dict}
use Rattle.original.specs.Whole.{rust_board}

-- `a = 7`, where `a` is byte 5 of the call area
abbrev pub named : Named
named = record { name = record { payload = 1281; bytes = 97 ∷ [] }; value = whole 7 }

-- a value, a slot that is empty, two values for *args and a name for **kwargs
abbrev pub slots : List (Option Held)
slots = some (single (whole 4)) ∷ none ∷ some (tuple (whole 1 ∷ whole 2 ∷ [])) ∷ some (dict (named ∷ [])) ∷ []

-- two cells more than are written
abbrev pub before : List ℕ
before = replicate 18 77

abbrev pub after : List ℕ
after =
    -- the slots
    3 ∷ 4 ∷ 0 ∷ 0 ∷ 8 ∷ 2 ∷ 9 ∷ 1 ∷
    -- the remainders
    3 ∷ 1 ∷ 3 ∷ 2 ∷ 6 ∷ 1281 ∷ 3 ∷ 7 ∷
    77 ∷ 77 ∷ []

pub record BoardExamples : Type 0 where
  pub all_slots : rust_board slots before ≡ after
  pub no_slots : rust_board [] before ≡ before
