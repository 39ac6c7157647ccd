use mathlib.Core.Path.{refl, sym, ap, ◌∙◌}
use mathlib.Core.Option.{some}
use Prim.Native.Nat.{ℕ, ◌+◌, ◌*◌}
use native.Mathlib.Omega.{arith}
use lib.ListN.{drop, get_or}
use Rattle.rules.specs.SheetValue.{is_hex_digit}
use Rattle.sheet_values.specs.Read.{number_of, taken}
use Rattle.sheet_values.proofs.LawsRead.{hex_none, hex_some, hex_most, taken_none, taken_next, bits_room, bits_more, bits_taken, bits_other}
use Rattle.sheet_values.proofs.read.read_bits.Goals as goal

pub returns-then-digits-ne16 : goal.returns-then-digits-ne16
returns-then-digits-ne16 c = sym (bits_other c.args.digits.now c.if-digits-ne16.true)

pub loop-b-init : goal.loop-b-init
loop-b-init c = (omega arith, bits_taken c.args.digits.now c.if-digits-ne16.false)

pub overflow_mul-n : goal.overflow_mul-n
overflow_mul-n c =
    omega (arith, bits_room c.loop-b.n c.loop-b.b-index 0 c.loop-b.invariant.0 (omega arith))

pub returns-in_err-n : goal.returns-in_err-n
returns-in_err-n c =
    let bs = c.args.digits.now in
    ap number_of c.from_residual.ensures
    ∙ sym
    (c.loop-b.invariant.1
    ∙ taken_none is_hex_digit 16 c.loop-b.n bs c.loop-b.b-index c.loop-b-test.true (hex_none (get_or bs c.loop-b.b-index 0) _ (sym c.hex_digit.ensures) (ap number_of c.in_err-n.was)))

pub overflow_add-n : goal.overflow_add-n
overflow_add-n c =
    let b = get_or c.args.digits.now c.loop-b.b-index 0 in
    let t = hex_some b (some c.in_ok-n.field-0) (sym c.in_ok-n.ensures) c.in_ok-n.field-0 refl in
    omega (arith, hex_most b t.0, t.1, bits_room c.loop-b.n c.loop-b.b-index 0 c.loop-b.invariant.0 (omega arith))

pub loop-b-preserved : goal.loop-b-preserved
loop-b-preserved c =
    let bs = c.args.digits.now in
    let b = get_or bs c.loop-b.b-index 0 in
    let t = hex_some b (some c.in_ok-n.field-0) (sym c.in_ok-n.ensures) c.in_ok-n.field-0 refl in (
      bits_more c.loop-b.n c.loop-b.b-index c.in_ok-n.field-0 c.loop-b.invariant.0 (omega (arith, hex_most b t.0, t.1)),
      c.loop-b.invariant.1
          ∙ taken_next is_hex_digit 16 c.loop-b.n bs c.loop-b.b-index c.loop-b-test.true t.0
          ∙ ap (λ (w : ℕ). taken is_hex_digit 16 (c.loop-b.n * 16 + w) (drop (c.loop-b.b-index + 1) bs)) t.1,
    )
