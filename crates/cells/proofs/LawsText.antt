-- Laws of equal texts (01, texts), as a loop over both texts asks for them: texts of different
-- lengths differ; where two bytes differ so do the texts; where they are equal, what is left to compare is what stands after them.
-- Assumes nothing.
use mathlib.Core.Path.{◌≡◌, refl, ap, ◌∙◌}
use mathlib.Core.Bool.{false, ◌&&◌, and-false}
use mathlib.Core.List.{List, [], ◌∷◌}
use Prim.Native.Nat.{ℕ, suc, ◌<◌}
use lib.Dec.{eqb}
use lib.ListN.{length, drop, get_or}
use lib.Seq.{drop-cons}
use borrow.Author.Tests.{eq-eqb, ne_eqb}
use Rattle.rules.specs.Text.{same_bytes}

pub same_bytes_length : (xs ys : List ℕ) → (length xs ≡ length ys → ⊥) → same_bytes xs ys ≡ false
same_bytes_length [] [] n = absurd (n refl)
same_bytes_length [] (y ∷ ys) n = refl
same_bytes_length (x ∷ xs) [] n = refl
same_bytes_length (x ∷ xs) (y ∷ ys) n =
    rw (same_bytes_length xs ys (λ e. n (ap suc e))) (and-false (eqb x y))

module _ (xs ys : List ℕ) (i : ℕ) (h : i < length xs) (k : i < length ys) where
  same_bytes_drop : same_bytes (drop i xs) (drop i ys) ≡ eqb (get_or xs i 0) (get_or ys i 0) && same_bytes (drop (suc i) xs) (drop (suc i) ys)
  same_bytes_drop = rw (drop-cons xs i 0, drop-cons ys i 0)

  pub same_bytes_differs : (get_or xs i 0 ≡ get_or ys i 0 → ⊥) → same_bytes (drop i xs) (drop i ys) ≡ false
  same_bytes_differs n = same_bytes_drop ∙ rw (ne_eqb (get_or xs i 0) (get_or ys i 0) n)

  pub same_bytes_next : get_or xs i 0 ≡ get_or ys i 0 → same_bytes (drop i xs) (drop i ys) ≡ same_bytes (drop (suc i) xs) (drop (suc i) ys)
  same_bytes_next e = same_bytes_drop ∙ rw (eq-eqb (get_or xs i 0) (get_or ys i 0) e)
