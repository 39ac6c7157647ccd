-- How resolving ends, told apart by its variants: laws of their own, because a search among the facts of a function's code takes seconds.
-- Assumes nothing.
use Rattle.std.specs.Prelude.{Result, Ok, Err}
use mathlib.Core.Path.{◌≡◌}

pub err_ok : {T E X : Type 0} {e : E} {x : T} → ◌≡◌ {A = Result T E} (Err e) (Ok x) → X
err_ok p = cc

pub same_ok : {T E : Type 0} {x y : T} → ◌≡◌ {A = Result T E} (Ok x) (Ok y) → x ≡ y
same_ok p = cc

pub same_err : {T E : Type 0} {d e : E} → ◌≡◌ {A = Result T E} (Err d) (Err e) → d ≡ e
same_err p = cc
