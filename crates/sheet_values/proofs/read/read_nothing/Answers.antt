-- `sheet_values::read::read_nothing` meets its contract. Assumes nothing.
use mathlib.Core.Path.{refl, ◌≡◌, ap, ◌∙◌}
use mathlib.Core.Bool.{Bool, true, false, cond}
use mathlib.Core.List.{List}
use mathlib.Core.Option.{some, none}
use Prim.Native.Nat.{ℕ}
use Rattle.std.specs.Bool.{then_some}
use Rattle.cells.specs.Value.{value}
use Rattle.rules.specs.SheetValue.{written, read_form}
use Rattle.cells.specs.declared.value.Value.TheVariants.{Nothing}
use Rattle.sheet_values.specs.declared.read.Cell.TheVariants.{Value}
use Rattle.sheet_values.specs.Read.{cell_of}
use Rattle.sheet_values.proofs.read.read_nothing.Goals as goal

nothing_if : (bytes : List ℕ) (b : Bool) → cell_of bytes (then_some b (Value Nothing)) ≡ cond b (some (written (value 1 0))) none
nothing_if bytes true = refl
nothing_if bytes false = refl

pub returns : goal.returns
unfolding read_form
returns c =
    λ bytes. ap (cell_of bytes) c.then_some.ensures ∙ nothing_if bytes _ ∙ ap (λ (b : Bool). cond b (some (written (value 1 0))) none) c.is_empty.ensures
