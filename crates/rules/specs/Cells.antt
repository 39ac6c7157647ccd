-- Runs of equal things in a record's cells: read by consuming the cells, written one after the other.
use Rattle.std.specs.Prelude.{List, [], ◌∷◌, ◌++◌, ℕ, zero, suc, length, drop}

-- `count` things of `width` cells each off the front of some cells
abbrev pub read_each : {X : Type 0} → ℕ → (List ℕ → X) → ℕ → List ℕ → List X
read_each width read zero cells = []
read_each width read (suc count) cells = read cells ∷ read_each width read count (drop width cells)

-- the cells of some things, one after the other
abbrev pub write_each : {X : Type 0} → (X → List ℕ) → List X → List ℕ
write_each write [] = []
write_each write (x ∷ xs) = write x ++ write_each write xs

-- what lent cells hold after `written` was stored from cell 0 on: the cells behind it are as they were
unfoldable pub over : List ℕ → List ℕ → List ℕ
over written cells = written ++ drop (length written) cells
