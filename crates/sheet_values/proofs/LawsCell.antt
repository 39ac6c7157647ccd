-- What stands behind a cell's first byte (01, sheets): its number fits the kind, and the value that is made of the two has their cells.
-- Assumes nothing.
use mathlib.Core.Path.{◌≡◌, refl}
use mathlib.Core.Bool.{Bool, true, false, cond, ◌&&◌}
use mathlib.Core.List.{List, []}
use mathlib.Core.Option.{none, some}
use Rattle.std.specs.Prelude.{Some}
use Prim.Native.Nat.{ℕ, ◌<◌, ◌^◌}
use native.Mathlib.Omega.{arith}
use lib.Dec.{ltb}
use borrow.Author.Tests.{ltb-true, lt-ltb}
use Rattle.rules.specs.Value.{well_formed, well_formed_argument, call_text}
use Rattle.rules.specs.SheetValue.{number_from, is_shortest, read_decimal}
use Rattle.cells.specs.Value.{value, pair_of, cells_of, value_of, value_as, read_argument}
use Rattle.cells.proofs.LawsValue.{argument_cells}

-- ---- which numbers fit a kind

decimal_limit : (limit n : ℕ) (bs : List ℕ) → some n ≡ read_decimal limit bs → n < limit
unfolding read_decimal
decimal_limit limit n bs e = go (is_shortest bs) (ltb (number_from 10 0 bs) limit) refl e
  where
    go : (s t : Bool) → ltb (number_from 10 0 bs) limit ≡ t → some n ≡ cond (s && t) (some (number_from 10 0 bs)) none → n < limit
    go true true l q = let m : n ≡ number_from 10 0 bs = cc in omega (arith, ltb-true (number_from 10 0 bs) limit l)
    go true false l q = let z : ◌≡◌ {A = ℕ} 0 1 = cc in absurd (omega arith)
    go false t l q = let z : ◌≡◌ {A = ℕ} 0 1 = cc in absurd (omega arith)

well_below : (kind limit : ℕ) → ((n : ℕ) → n < limit → well_formed_argument [] (value kind n) ≡ true)
    → (n : ℕ) (bs : List ℕ) → some n ≡ read_decimal limit bs → well_formed_argument [] (value kind n) ≡ true
well_below kind limit well n bs e = well n (decimal_limit limit n bs e)

pub well_flag : (n : ℕ) (bs : List ℕ) → some n ≡ read_decimal 2 bs → well_formed_argument [] (value 2 n) ≡ true
unfolding well_formed_argument well_formed call_text
well_flag = well_below 2 2 (λ n h. rw (lt-ltb n 2 h))

pub well_handle : (n : ℕ) (bs : List ℕ) → some n ≡ read_decimal (2 ^ 32) bs → well_formed_argument [] (value 7 n) ≡ true
unfolding well_formed_argument well_formed call_text
well_handle = well_below 7 (2 ^ 32) (λ n h. rw (lt-ltb n (2 ^ 32) h))

-- any payload is a whole number's, and a real's
pub well_whole : (n : ℕ) → well_formed_argument [] (value 3 n) ≡ true
unfolding well_formed_argument well_formed call_text
well_whole n = refl

pub well_real : (n : ℕ) → well_formed_argument [] (value 4 n) ≡ true
unfolding well_formed_argument well_formed call_text
well_real n = refl

-- ---- the value of a kind and a payload

module _ (kind n : ℕ) (w : well_formed_argument [] (value kind n) ≡ true) where
  pub under_read : read_argument [] kind n ≡ Some (value_as kind n)
  unfolding read_argument
  under_read = rw w

  pub under_cells : n < 2 ^ 64 → pair_of (cells_of (value_as kind n)) ≡ value kind n
  unfolding value_of
  under_cells h = argument_cells [] (value kind n) h w
