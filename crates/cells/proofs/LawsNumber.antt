-- A float that is equal to itself is no NaN (01, values: reals by their bits). The two ways between a number and its bits are `to_z-of_z` and
-- `of_z-to_z` of mir.ValLaws, `to_bits-of_bits` and `of_bits-to_bits` of lib.Ieee.Bits. Assumes nothing.
use mathlib.Core.Path.{◌≡◌}
use mathlib.Core.Bool.{false, not}
use Prim.Native.Nat.{ℕ}
use native.Mathlib.Omega.{arith}
use lib.Dec.{T}
use lib.Ieee.{Float, nan, inf, fin, ne, eq, is_nan}

pub same_no_nan : (x : Float) → ne x x ≡ false → T (not (is_nan x))
unfolding ne eq is_nan
same_no_nan nan t = let z : ◌≡◌ {A = ℕ} 0 1 = cc in absurd (omega arith)
same_no_nan (inf s) t = tt
same_no_nan (fin s m e) t = tt
