-- The texts that a row brings into its area (01, sheets), of either sheet.
use Rattle.std.specs.Prelude.{Bool, cond, List, ◌++◌, ℕ}
use Rattle.rules.specs.SheetLines.{Row}
use Rattle.rules.specs.SheetValue.{read_cell}
use Rattle.rules.specs.SheetRecords.{text_of, key_text}

-- a row's name as a text: in a call, where the key of an entry is written like a value, and in a parameter sheet
unfoldable pub name_text : Bool → Row → List ℕ
name_text keyed r = cond keyed (key_text r) r.name

unfoldable pub row_texts : Bool → Row → List ℕ
row_texts keyed r = name_text keyed r ++ text_of (read_cell r.value)
