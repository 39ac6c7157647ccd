-- Which values can be printed (01, sheets).
use Rattle.std.specs.Prelude.{true, List, ◌≡◌, ℕ}
use Rattle.rules.specs.Text.{payload_of, inside}
use Rattle.cells.specs.declared.value.Value.{Value}
use Rattle.cells.specs.declared.value.Value.TheVariants.{Nothing, Flag, Whole, Real, Nan, SpecText, CallText, Handle}

-- a text lies inside its area; nothing is asked of any other value
abbrev pub Printable : List ℕ → List ℕ → Value → Type 0
Printable spec call Nothing = Unit
Printable spec call (Flag b) = Unit
Printable spec call (Whole z) = Unit
Printable spec call (Real x) = Unit
Printable spec call (Nan bits) = Unit
Printable spec call (SpecText t) = inside spec (payload_of t.start t.len) ≡ true
Printable spec call (CallText t) = inside call (payload_of t.start t.len) ≡ true
Printable spec call (Handle h) = Unit
