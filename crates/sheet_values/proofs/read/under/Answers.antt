-- `sheet_values::read::under` meets its contract: what it requires says that reading the two cells gives a value. Assumes nothing.
use mathlib.Core.Path.{◌≡◌, ap, ◌∙◌}
use mathlib.Core.Option.{some}
use native.Mathlib.Omega.{arith}
use Rattle.std.specs.Prelude.{Some, None}
use Rattle.rules.specs.SheetValue.{written}
use Rattle.cells.specs.Value.{value_as, pair_of, cells_of}
use Rattle.cells.specs.declared.value.Value.{Value}
use Rattle.sheet_values.proofs.LawsCell.{under_read, under_cells}
use Rattle.sheet_values.proofs.read.under.Goals as goal

pub returns-in_err-read_argument : goal.returns-in_err-read_argument
returns-in_err-read_argument c =
    let none_is_some : None ≡ Some (value_as c.args.kind c.args.n) =
    c.in_err-read_argument.ensures ∙ under_read c.args.kind c.args.n c.requires in
    λ bytes. cc

pub returns : goal.returns
returns c =
    let a = c.args in
    let some_value : Some c.in_ok-read_argument.field-0 ≡ Some (value_as a.kind a.n) =
    c.in_ok-read_argument.ensures ∙ under_read a.kind a.n c.requires in
    let same : c.in_ok-read_argument.field-0 ≡ value_as a.kind a.n = cc in
    λ bytes. ap (λ (v : Value). some (written (pair_of (cells_of v)))) same ∙ ap (λ p. some (written p)) (under_cells a.kind a.n c.requires (omega arith))
