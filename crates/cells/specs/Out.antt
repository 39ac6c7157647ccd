-- What lent cells, or bytes, hold after some were stored at an index (01, board, printed list, sheets).
use Rattle.std.specs.Prelude.{cond, List, ◌++◌, ◌≡◌, ℕ, ◌+◌, leb, length, take, drop}
use Rattle.std.specs.Borrow.{MutBor}
use Rattle.cells.specs.declared.out.Cursor.{Cursor}

-- where they don't all fit, nothing is stored
unfoldable pub stored : List ℕ → ℕ → List ℕ → List ℕ
stored cells at xs = cond (leb (at + length xs) (length cells)) (take at cells ++ xs ++ drop (at + length xs) cells) cells

-- some bytes stored from `at` on, and where they end
pub record Put (bytes : List ℕ) (at : ℕ) (before after : List ℕ) (r : ℕ) : Type 0 where
  pub held : after ≡ stored before at bytes
  pub ends : r ≡ at + length bytes

-- the first byte of what is lent
pub record Begins (lent : MutBor (List ℕ)) (line : Cursor) : Type 0 where
  pub held : line.out.now ≡ lent.now
  pub at : line.at ≡ 0
  pub same_reference : line.out.ghost_name ≡ lent.ghost_name

-- some bytes stored where the next ones are written, and the next ones behind them
pub record Wrote (text : List ℕ) (before after : Cursor) : Type 0 where
  pub put : Put text before.at before.out.now after.out.now after.at
  pub same_reference : after.out.ghost_name ≡ before.out.ghost_name
