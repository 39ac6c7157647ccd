-- A line of items (01, printed list): what one more item, and some more, put behind the bytes that are written.
use Rattle.std.specs.Prelude.{Bool, true, false, List, [], ◌∷◌, ◌++◌, ◌≡◌, ℕ, ◌+◌, ◌≤◌, length}
use Rattle.rules.specs.Value.{no_value}
use Rattle.rules.specs.Parameters.{act_of}
use Rattle.rules.specs.Printed.{mark, comma}
use Rattle.cells.specs.declared.out.Cursor.{Cursor}
use Rattle.cells.specs.Out.{Wrote}
use Rattle.builder.specs.Params.{kind_for}
use Rattle.printer.specs.declared.line.Line.{Line}

-- where a line is written
abbrev pub cursor_of : Line → Cursor
cursor_of line = record { out = line.out; at = line.at }

-- what stands ahead of an item: nothing ahead of the first
abbrev pub between : Bool → List ℕ
between false = []
between true = comma

-- some items, each with what stands ahead of it. Behind nothing that is their `join`
abbrev pub led : Bool → List (List ℕ) → List ℕ
led begun [] = []
led begun (x ∷ xs) = between begun ++ (x ++ led true xs)

-- is an item written, after these?
abbrev pub begun_by : Bool → List (List ℕ) → Bool
begun_by begun [] = begun
begun_by begun (x ∷ xs) = true

-- what stands behind a name, by the code of its step
unfoldable pub mark_for : ℕ → List ℕ
mark_for code = mark (kind_for (act_of code no_value))

-- the output has room for some more items
abbrev pub Room : List (List ℕ) → Line → Type 0
Room xs line = line.at + length (led line.begun xs) ≤ length line.out.now

-- a line with some more items: what is written, and that it is begun
pub record Added (xs : List (List ℕ)) (before after : Line) : Type 0 where
  pub wrote : Wrote (led before.begun xs) (cursor_of before) (cursor_of after)
  pub begun : after.begun ≡ begun_by before.begun xs
