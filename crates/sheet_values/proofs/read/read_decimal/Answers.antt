-- `sheet_values::read::read_decimal` meets its contract: one digit may be `0`, the first of several may not. Assumes nothing.
use mathlib.Core.Path.{sym, ◌∙◌}
use native.Mathlib.Omega.{arith}
use lib.ListN.{length}
use borrow.Author.Tests.{eqb-true, eqb-false}
use Rattle.sheet_values.proofs.LawsRead.{decimal_empty, decimal_single, decimal_zero, decimal_longer}
use Rattle.sheet_values.proofs.read.read_decimal.Goals as goal
use Rattle.sheet_values.proofs.read.read_decimal.Goals.{else-digits-gt1-via-then-digits-gt1+else-digits-eq48, else-digits-gt1-via-else-digits-gt1}

pub returns-then-is_empty : goal.returns-then-is_empty
returns-then-is_empty c =
    let a = c.args in
    sym (decimal_empty a.limit a.digits.now (eqb-true (length a.digits.now) 0 (sym c.if-is_empty.ensures)))

pub returns-then-digits-eq48 : goal.returns-then-digits-eq48
returns-then-digits-eq48 c =
    let a = c.args in
    sym (decimal_zero a.limit a.digits.now (λ e. omega arith) c.if-digits-eq48.true)

pub returns : goal.returns
returns c =
    let a = c.args in
    let some_digit = eqb-false (length a.digits.now) 0 (sym c.if-is_empty.ensures) in
    c.read_digits.ensures
    ∙ sym
    (elim c.else-digits-gt1.branch [
      | else-digits-gt1-via-then-digits-gt1+else-digits-eq48 w ↦
          decimal_longer a.limit a.digits.now some_digit (λ e. omega arith) w.if-digits-eq48.false
      | else-digits-gt1-via-else-digits-gt1 w ↦ decimal_single a.limit a.digits.now (omega arith)
    ])
