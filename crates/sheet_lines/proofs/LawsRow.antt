-- The cells of a row (01, sheets): none is over 255 bytes (`short`).
-- Assumes nothing.
use mathlib.Core.Path.{◌≡◌}
use mathlib.Core.Bool.{true}
use mathlib.Core.List.{List, [], ◌∷◌}
use Prim.Native.Nat.{ℕ, zero, suc, ◌≤◌}
use native.Mathlib.Omega.{arith}
use lib.Dec.{leb, eqb}
use lib.ListN.{length, get_or}
use borrow.Author.Tests.{leb-true}
use Rattle.rules.specs.Listing.{all}
use Rattle.rules.specs.SheetLines.{three_cells, cells_in}
use Rattle.rules.proofs.LawsListing.{and_left, and_right}

cell_short : (cells : List (List ℕ)) (index : ℕ) → all (λ c. leb (length c) 255) cells ≡ true → length (get_or cells index []) ≤ 255
cell_short [] index e = omega arith
cell_short (c ∷ cs) zero e = leb-true (length c) 255 (and_left (leb (length c) 255) (all (λ d. leb (length d) 255) cs) e)
cell_short (c ∷ cs) (suc index) e = cell_short cs index (and_right (leb (length c) 255) (all (λ d. leb (length d) 255) cs) e)

-- any cell of a right line
pub short : (line : List ℕ) (cells : List (List ℕ)) → (three_cells (cells_in line) ≡ true) × (cells_in line ≡ cells) → (index : ℕ) → length (get_or cells index []) ≤ 255
unfolding three_cells
short line cells told index =
    cell_short cells index
    (and_right (eqb (length cells) 3) (all (λ c. leb (length c) 255) cells) (rw told.1 at told.0))
