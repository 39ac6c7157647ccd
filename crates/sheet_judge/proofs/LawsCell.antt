-- Tests of a cell and of a row's cells, as the code asks them: an empty cell by its length, `def` and a step by how many rows came before, a step
-- by its code, a value by what reading its cell answered.
-- Assumes nothing.
use mathlib.Core.Path.{◌≡◌, refl, sym, ap, ◌∙◌}
use mathlib.Core.Bool.{Bool, true, false, cond, ◌&&◌}
use mathlib.Core.List.{List, [], ◌∷◌}
use Prim.Native.Nat.{ℕ, suc, ◌≤◌}
use native.Mathlib.Omega.{arith}
use lib.Dec.{leb, ltb, eqb}
use lib.ListN.{length}
use borrow.Author.Tests.{eq-eqb, ne_eqb, le-leb, lt-ltb, le-ltb}
use Rattle.rules.specs.SheetRows.{is_empty, is_value, is_def, code_of, step_right}
use Rattle.std.specs.Prelude.{Option, Some, None}
use Rattle.std.specs.Option.{is_some}
use Rattle.rules.specs.SheetRows as rules
use Rattle.rules.specs.SheetLines.{Row}
use Rattle.rules.specs.SheetValue.{read_cell}
use Rattle.sheet_values.specs.Read.{cell_of}
use Rattle.sheet_values.specs.declared.read.Cell.{Cell}
use Rattle.sheet_values.specs.declared.read.Cell.TheVariants as cell
use Rattle.sheet_judge.specs.Counts.{parameter_fits}

pub empty_test : (cell : List ℕ) → is_empty cell ≡ eqb (length cell) 0
empty_test [] = refl
empty_test (b ∷ bs) = sym (ne_eqb (suc (length bs)) 0 (λ e. omega arith))

pub empty_no : (cell : List ℕ) → (length cell ≡ 0 → ⊥) → is_empty cell ≡ false
empty_no cell n = empty_test cell ∙ ne_eqb (length cell) 0 n

pub and_yes : (a b : Bool) → b ≡ true → (a && b) ≡ a
and_yes true b e = e
and_yes false b e = refl

-- `def`, and a step, as the first row and as another
module _ (r : Row) (before : ℕ) where
  pub fits_def : before ≡ 0 → parameter_fits 64 before r ≡ (is_def r && is_empty r.value)
  unfolding parameter_fits
  fits_def e = rw (eq-eqb before 0 e)

  pub fits_step : (before ≡ 0 → ⊥) → parameter_fits 64 before r ≡ (step_right r && ltb before 67)
  unfolding parameter_fits
  fits_step n = rw (ne_eqb before 0 n)

-- a step by its code
pub step_code : (r : Row) (code : ℕ) → code_of r.part ≡ code
    → step_right r ≡ (leb 1 code && cond (ltb code 4) true (is_empty r.name) && cond (eqb code 3) (is_value r.value) (is_empty r.value))
unfolding step_right
step_code r code e = rw e

-- one of the two codes that use the name alone
pub step_named : (r : Row) (code : ℕ) → code_of r.part ≡ code → 1 ≤ code → code ≤ 2 → step_right r ≡ is_empty r.value
step_named r code e h k =
    step_code r code e ∙ rw (le-leb 1 code h, lt-ltb code 4 (omega arith), ne_eqb code 3 (λ p. omega arith))

-- one of the codes that use neither cell
pub step_mark : (r : Row) (code : ℕ) → code_of r.part ≡ code → 4 ≤ code → step_right r ≡ (is_empty r.name && is_empty r.value)
step_mark r code e h =
    step_code r code e ∙ rw (le-leb 1 code (omega arith), le-ltb code 4 h, ne_eqb code 3 (λ p. omega arith))

-- a cell that was read holds a value or it does not
pub value_read : (bytes : List ℕ) (r : Option Cell) → cell_of bytes r ≡ read_cell bytes → is_some r ≡ is_value bytes
unfolding is_value
value_read bytes (Some (cell.Value v)) e = ap rules.is_some e
value_read bytes (Some cell.Text) e = ap rules.is_some e
value_read bytes None e = ap rules.is_some e
