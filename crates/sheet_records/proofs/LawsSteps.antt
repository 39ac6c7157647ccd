-- The cells of a parameter record (01, cells, texts and records): the runs of its rows, how many cells they take, and the record by its first
-- cell and its steps.
-- Assumes nothing.
use mathlib.Core.Path.{◌≡◌, refl, sym, ap, ap₂, ◌∙◌}
use mathlib.Core.Bool.{false}
use mathlib.Core.List.{List, [], ◌∷◌, ◌++◌}
use Prim.Native.Nat.{ℕ, ◌+◌, ◌*◌}
use native.Mathlib.Omega.{arith}
use lib.ListN.{length, length-append}
use Rattle.rules.specs.Cells.{write_each}
use Rattle.rules.specs.Text.{payload_of}
use Rattle.rules.specs.Value.{value_cells}
use Rattle.rules.specs.ParameterRecord.{step_cells, encode_parameters}
use Rattle.rules.specs.SheetLines.{Row}
use Rattle.rules.specs.SheetRows.{CallPart}
use Rattle.rules.specs.SheetRecords.{step_texts, step_at, steps_from, parameter_record, area_of}
use Rattle.sheet_records.specs.Text.{name_text, row_texts}
use Rattle.sheet_records.specs.Run.{text_kind, last_value, row_cells, run_from}

step_texts_lem : (r : Row) → row_texts false r ≡ step_texts r
unfolding row_texts name_text step_texts
step_texts_lem r = refl

pub step_area : (rows : List Row) → area_of (row_texts false) rows ≡ area_of step_texts rows
step_area [] = refl
step_area (r ∷ rows) = ap₂ (λ a b. a ++ b) (step_texts_lem r) (step_area rows)

module _ (part : CallPart) where
  step_cells_lem : (at : ℕ) (r : Row) → step_cells (step_at at r) ≡ row_cells false part at r
  unfolding row_cells last_value text_kind name_text step_cells step_at value_cells
  step_cells_lem at r = refl

  steps_run : (at : ℕ) (rows : List Row) → write_each step_cells (steps_from at rows) ≡ run_from false part at rows
  steps_run at [] = refl
  steps_run at (r ∷ rows) =
      ap₂ (λ a b. a ++ b) (step_cells_lem at r) (steps_run (at + length (step_texts r)) rows ∙ ap (λ l. run_from false part (at + length l) rows) (sym (step_texts_lem r)))

  step_four : (at : ℕ) (r : Row) → length (row_cells false part at r) ≡ 4
  unfolding row_cells value_cells
  step_four at r = refl

  pub steps_length : (at : ℕ) (rows : List Row) → length (run_from false part at rows) ≡ 4 * length rows
  steps_length at [] = refl
  steps_length at (r ∷ rows) =
      omega (arith, length-append (row_cells false part at r) (run_from false part (at + length (row_texts false r)) rows), step_four at r, steps_length (at + length (row_texts false r)) rows)

  -- the record of rows whose first is `def`
  pub parameter_cells : (rows rest : List Row) (def : Row) → rows ≡ def ∷ rest
      → encode_parameters (parameter_record rows) ≡ (payload_of 0 (length def.name) ∷ []) ++ run_from false part (length (row_texts false def)) rest
  unfolding encode_parameters
  parameter_cells rows rest def e =
      ap (λ rs. encode_parameters (parameter_record rs)) e
      ∙ ap (λ l. payload_of 0 (length def.name) ∷ l) (steps_run (length (step_texts def)) rest ∙ ap (λ l. run_from false part (length l) rest) (sym (step_texts_lem def)))
