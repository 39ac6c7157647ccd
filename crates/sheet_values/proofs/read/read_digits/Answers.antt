use mathlib.Core.Path.{◌≡◌, sym, ap, ◌∙◌}
use mathlib.Core.Bool.{true}
use Prim.Native.Nat.{◌+◌, ◌*◌, ◌≤◌}
use native.Mathlib.Omega.{arith}
use lib.ListN.{drop, get_or}
use Rattle.rules.specs.SheetValue.{is_digit, worth}
use Rattle.sheet_values.specs.Read.{number_of, below}
use Rattle.sheet_values.proofs.LawsRead.{digit_worth, below_past, taken_next}
use Rattle.sheet_values.proofs.read.read_digits.Goals as goal

pub returns-in_err-checked_mul : goal.returns-in_err-checked_mul
returns-in_err-checked_mul c =
    let a = c.args in
    let b = get_or a.digits.now c.loop-b.b-index 0 in
    let past : a.limit ≤ c.loop-b.n * 10 + worth b = omega (arith, c.in_err-checked_mul.ensures, c.requires) in
    ap number_of c.from_residual.ensures
    ∙ sym
    (c.loop-b.invariant
    ∙ ap (below a.limit) (taken_next is_digit 10 c.loop-b.n a.digits.now c.loop-b.b-index c.loop-b-test.true (sym c.if-not-is_ascii_digit.ensures.value))
    ∙ below_past is_digit 10 (c.loop-b.n * 10 + worth b) a.limit (drop (c.loop-b.b-index + 1) a.digits.now) (omega arith) past)

pub returns-in_err-n : goal.returns-in_err-n
returns-in_err-n c =
    let a = c.args in
    let b = get_or a.digits.now c.loop-b.b-index 0 in
    let t : is_digit b ≡ true = sym c.if-not-is_ascii_digit.ensures.value in
    let past : a.limit ≤ c.loop-b.n * 10 + worth b =
    omega (arith, c.in_ok-checked_mul.ensures.1, c.in_err-n.ensures, c.from.ensures, digit_worth b t, c.requires) in
    ap number_of c.from_residual-in_err-n.ensures
    ∙ sym
    (c.loop-b.invariant
    ∙ ap (below a.limit) (taken_next is_digit 10 c.loop-b.n a.digits.now c.loop-b.b-index c.loop-b-test.true t)
    ∙ below_past is_digit 10 (c.loop-b.n * 10 + worth b) a.limit (drop (c.loop-b.b-index + 1) a.digits.now) (omega arith) past)
