-- The cells that the rows of a sheet add to its record (01, cells, texts and records), of either sheet: in a parameter sheet each row is a step, in a
-- call (`keyed`) only the rows of one part count. Then the lent cells that they are added to.
use Rattle.std.specs.Prelude.{◌≡◌, Bool, true, false, cond, not, ◌||◌, List, [], ◌++◌, ◌∷◌, ℕ, ◌+◌, ltb, length}
use Rattle.std.specs.Borrow.{MutBor}
use Rattle.rules.specs.Text.{payload_of}
use Rattle.rules.specs.Value.{Value, spec_text, call_text, value_cells}
use Rattle.rules.specs.SheetLines.{Row}
use Rattle.rules.specs.SheetRows.{CallPart, positional, named, star, item, double, entry, unknown_part, code_of, is_part}
use Rattle.rules.specs.SheetValue.{read_cell}
use Rattle.rules.specs.SheetRecords.{value_at}
use Rattle.cells.specs.Value.{value}
use Rattle.cells.specs.Out.{Put}
use Rattle.sheet_records.specs.Text.{name_text, row_texts}
use Rattle.sheet_records.specs.declared.run.Run.{Run}

-- the kind of a sheet's texts
unfoldable pub text_kind : Bool → ℕ
text_kind keyed = cond keyed call_text spec_text

-- the two cells before a row's value: the code and the name of a step, the name of a named value, the key of an entry; no other value has any
abbrev pub key_cells : Bool → CallPart → ℕ → Row → List ℕ
key_cells false part at r = value_cells (value (code_of r.part) (cond (ltb (code_of r.part) 4) (payload_of at (length r.name)) 0))
key_cells true positional at r = []
key_cells true named at r = value_cells (value call_text (payload_of at (length r.name)))
key_cells true star at r = []
key_cells true item at r = []
key_cells true double at r = []
key_cells true entry at r = value_cells (value_at call_text at (read_cell r.name))
key_cells true unknown_part at r = []

-- a row's value, whose text lies behind that of the row's name or key
unfoldable pub last_value : Bool → ℕ → Row → Value
last_value keyed at r = value_at (text_kind keyed) (at + length (name_text keyed r)) (read_cell r.value)

-- the cells of a row whose texts lie at `at`: none if it is not wanted
unfoldable pub row_cells : Bool → CallPart → ℕ → Row → List ℕ
row_cells keyed part at r = cond (not keyed || is_part part r) (key_cells keyed part at r ++ value_cells (last_value keyed at r)) []

-- the cells of some rows, the first of whose texts lies at `at`
abbrev pub run_from : Bool → CallPart → ℕ → List Row → List ℕ
run_from keyed part at [] = []
run_from keyed part at (r ∷ rs) = row_cells keyed part at r ++ run_from keyed part (at + length (row_texts keyed r)) rs

-- lent cells from one of them on
pub record Opens (lent : MutBor (List ℕ)) (from : ℕ) (run : Run) : Type 0 where
  pub held : run.cells.now ≡ lent.now
  pub next : run.next ≡ from
  pub same_reference : run.cells.ghost_name ≡ lent.ghost_name

-- a run with some more cells
pub record Added (more : List ℕ) (before after : Run) : Type 0 where
  pub put : Put more before.next before.cells.now after.cells.now after.next
  pub same_reference : after.cells.ghost_name ≡ before.cells.ghost_name
