-- `sheet_values::read::read_whole` meets its contract: `-` in front or not. Assumes nothing.
use mathlib.Core.Path.{sym, ap, ◌∙◌}
use Prim.Native.Nat.{◌+◌, ◌^◌}
use native.Mathlib.Omega.{arith}
use Rattle.rules.specs.SheetValue.{read_decimal}
use Rattle.sheet_values.specs.Read.{number_of, negated}
use Rattle.sheet_values.proofs.LawsRead.{whole_unsigned, whole_negative, twos_complement}
use Rattle.sheet_values.proofs.read.read_whole.Goals as goal

pub returns-in_default : goal.returns-in_default
returns-in_default c =
    c.read_decimal.ensures ∙ sym (whole_unsigned c.args.digits.now c.in_default.ensures.cases)

pub returns-in_err-n : goal.returns-in_err-n
returns-in_err-n c =
    let minus = c.in-Some.ensures.cases in
    ap number_of c.from_residual.ensures
    ∙ ap negated (c.in_err-n.ensures ∙ ap (read_decimal (2 ^ 63 + 1)) minus.1)
    ∙ sym (whole_negative c.args.digits.now minus.0)

pub returns : goal.returns
returns c =
    let minus = c.in-Some.ensures.cases in
    ap number_of c.then_some.ensures
    ∙ twos_complement c.in_ok-n.n c.wrapping_neg.result (omega arith) (omega arith) c.wrapping_neg.ensures
    ∙ ap negated (c.in_ok-n.ensures ∙ ap (read_decimal (2 ^ 63 + 1)) minus.1)
    ∙ sym (whole_negative c.args.digits.now minus.0)
