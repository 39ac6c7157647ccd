-- Laws of names as they are printed: `**` and `*` taken off are prefixes taken off; and a prefix is taken off where it is the same as the
-- bytes in front. Assumes nothing.
use Rattle.std.specs.Prelude.{Option, Some, None, MatchOption}
use Rattle.std.specs.Option.{unwrap_or}
use Rattle.std.specs.Borrow.{Bor}
use Rattle.std.specs.Cmp.Lexicographic.{pointwise}
use mathlib.Core.Path.{◌≡◌, refl, ap, ◌∙◌}
use mathlib.Core.Bool.{Bool, true, false, cond, ◌&&◌, and-false}
use mathlib.Core.List.{List, [], ◌∷◌}
use Prim.Native.Nat.{ℕ, ◌+◌}
use lib.Dec.{eqb}
use lib.ListN.{length, take, drop}
use Rattle.rules.specs.Text.{same_bytes}
use Rattle.rules.specs.Printed.{asterisk, without_double, without_single, printed_name}
use Rattle.printer.specs.Name.{without_prefix}

-- ---- the two prefixes

double_prefix : (bytes : List ℕ) → without_prefix (42 ∷ 42 ∷ []) bytes ≡ without_double bytes
unfolding without_prefix asterisk
double_prefix [] = refl
double_prefix (a ∷ []) = rw (and-false (eqb a 42))
double_prefix (a ∷ b ∷ bytes) = go (eqb a 42) (eqb b 42)
  where
    go : (x y : Bool) → cond (x && (y && true)) bytes (a ∷ b ∷ bytes) ≡ cond (x && y) bytes (a ∷ b ∷ bytes)
    go true true = refl
    go true false = refl
    go false y = refl

single_prefix : (bytes : List ℕ) → without_prefix (42 ∷ []) bytes ≡ without_single bytes
unfolding without_prefix asterisk
single_prefix [] = refl
single_prefix (a ∷ bytes) = go (eqb a 42)
  where
    go : (x : Bool) → cond (x && true) bytes (a ∷ bytes) ≡ cond x bytes (a ∷ bytes)
    go true = refl
    go false = refl

-- one after the other
pub both_prefixes : (bytes name double single : List ℕ) → name ≡ bytes → double ≡ without_prefix (42 ∷ 42 ∷ []) name → single ≡ without_prefix (42 ∷ []) double
    → single ≡ printed_name bytes
unfolding printed_name
both_prefixes bytes name double single n d s = s ∙ single_prefix double ∙ ap without_single (d ∙ double_prefix name ∙ ap without_double n)

-- ---- a prefix

bytes_alike : (xs ys : List ℕ) → pointwise eqb xs ys ≡ same_bytes xs ys
bytes_alike [] [] = refl
bytes_alike [] (y ∷ ys) = refl
bytes_alike (x ∷ xs) [] = refl
bytes_alike (x ∷ xs) (y ∷ ys) = rw (bytes_alike xs ys)

-- what is behind the prefix where there is one, and else the name
pub behind_prefix
    : (prefix : List ℕ) (name : Bor (List ℕ)) (r : Option (Bor (List ℕ)))
    → MatchOption r (pointwise eqb (take (length prefix) name.now) prefix ≡ false)
    (λ x. (pointwise eqb (take (length prefix) name.now) prefix ≡ true) × (x.now ≡ drop (length prefix) name.now) × (length x.now + length prefix ≡ length name.now))
    → (unwrap_or r name).now ≡ without_prefix prefix name.now
unfolding without_prefix
behind_prefix prefix name None e = rw (← bytes_alike (take (length prefix) name.now) prefix, e)
behind_prefix prefix name (Some x) e = rw (← bytes_alike (take (length prefix) name.now) prefix, e.0) e.1
