-- Laws of chains of questions: a chain is fine exactly where each question is, how it is taken apart, and what a fine question says of its test.
-- Assumes nothing.
use mathlib.Core.Path.{◌≡◌, refl, sym, ap}
use mathlib.Core.Bool.{Bool, true, false, ◌&&◌}
use mathlib.Core.List.{List}
use Prim.Native.Nat.{ℕ}
use native.Mathlib.Omega.{arith}
use Rattle.rules.specs.Answer.{Answer, fine, refuse, ◌then◌, ask, Detail}
use Rattle.rules.specs.CallRecord.{Call, entries_of, positionals_of}
use Rattle.rules.specs.Parameters.{Parameter}
use Rattle.rules.specs.Binding.{star_passes, double_passes, ask_repeats, ask_entries, ask_given}

abbrev pub is_fine : Answer → Bool
is_fine fine = true
is_fine (refuse n d) = false

pub is_fine_then : (a b : Answer) → is_fine (a then b) ≡ (is_fine a && is_fine b)
is_fine_then fine b = refl
is_fine_then (refuse n d) b = refl

pub fine_refuse : {X : Type 0} {n : ℕ} {d : Detail} → fine ≡ refuse n d → X
fine_refuse e = let z : ◌≡◌ {A = ℕ} 0 1 = cc in absurd (omega arith)

pub then_left : (a b : Answer) → (a then b) ≡ fine → a ≡ fine
then_left fine b e = refl
then_left (refuse n d) b e = e

pub then_right : (a b : Answer) → (a then b) ≡ fine → b ≡ fine
then_right fine b e = e
then_right (refuse n d) b e = fine_refuse (sym e)

pub then_fine : (a b : Answer) → a ≡ fine → (a then b) ≡ b
then_fine a b e = ap (λ x. x then b) e

pub then_last : (a : Answer) → (a then fine) ≡ a
then_last fine = refl
then_last (refuse n d) = refl

pub then_assoc : (a b c : Answer) → (a then b then c) ≡ ((a then b) then c)
then_assoc fine b c = refl
then_assoc (refuse n d) b c = refl

pub ask_true : (n : ℕ) (b : Bool) → ask n b ≡ fine → b ≡ true
ask_true n true e = refl
ask_true n false e = fine_refuse (sym e)

-- 15 to 19 are one question, and what comes later another
pub given_then : (qs : List Parameter) (c : Call) (later : Answer) → ask_given qs c later ≡ (ask_given qs c fine then later)
given_then qs c later =
    go (ask 15 (star_passes c.star)) (ask_repeats (positionals_of c) c.named 0 qs) (ask 17 (double_passes c.double)) (ask_entries qs (positionals_of c) c.named (entries_of c.double))
  where
    go : (a b x e : Answer) → (a then b then x then e then later) ≡ ((a then b then x then e then fine) then later)
    go fine fine fine fine = refl
    go fine fine fine (refuse n d) = refl
    go fine fine (refuse n d) e = refl
    go fine (refuse n d) x e = refl
    go (refuse n d) b x e = refl
