-- `cells::value::bits_of_real` meets its contract: only a NaN differs from itself.
-- Assumes nothing.
use mathlib.Core.Path.{ap, sym, subst}
use lib.Ieee.Compare.{differs_from_itself}
use lib.Ieee.{binary64, to_bits}
use lib.Dec.{T}
use Rattle.cells.proofs.LawsNumber.{same_no_nan}
use Rattle.cells.proofs.value.bits_of_real.Goals as goal

pub returns-then-x : goal.returns-then-x
unfolding to_bits
returns-then-x c = sym (ap (to_bits binary64) (differs_from_itself c.args.x (subst T (sym c.if-x.true) tt)))

pub float_to_bits-result : goal.float_to_bits-result
float_to_bits-result c = same_no_nan c.args.x c.if-x.false
