-- Laws of writing in a loop: things written one after the other, and one more behind them.
-- Assumes nothing.
use mathlib.Core.Path.{◌≡◌, refl, sym, ap, ◌∙◌}
use mathlib.Core.List.{List, [], ◌∷◌, ◌++◌, append-nil, append_assoc}
use Prim.Native.Nat.{ℕ, ◌+◌, ◌*◌, ◌≤◌}
use native.Mathlib.Numerals.{add-one}
use native.Mathlib.Omega.{arith}
use lib.ListN.{length}
use Rattle.rules.specs.Cells.{write_each}
use Rattle.rules.specs.Value.{Value, value_cells}
use Rattle.rules.proofs.LawsRecord.{length_write_each}
use Rattle.cells.specs.Out.{stored}
use Rattle.cells.specs.Listed.{listed}
use Rattle.cells.proofs.LawsListed.{length_listed, listed_snoc}
use Rattle.cells.proofs.LawsOut.{stored_stored}

pub value_cells_two : (v : Value) → length (value_cells v) ≡ 2
unfolding value_cells
value_cells_two v = refl

pub write_each_append : {X : Type 0} (write : X → List ℕ) (xs ys : List X) → write_each write (xs ++ ys) ≡ write_each write xs ++ write_each write ys
write_each_append write [] ys = refl
write_each_append write (x ∷ xs) ys = ap (λ r. write x ++ r) (write_each_append write xs ys) ∙ sym (append_assoc (write x) (write_each write xs) (write_each write ys))

-- one more thing behind those that are written
pub written_more : {X : Type 0} (width : ℕ) (write : X → List ℕ) → ((x : X) → length (write x) ≡ width) → (f : ℕ → X) (from k at : ℕ) (before : List ℕ) → at + width * k + width ≤ length before
    → stored (stored before at (write_each write (listed f from k))) (at + width * k) (write (f (from + k))) ≡ stored before at (write_each write (listed f from (k + 1)))
written_more width write wide f from k at before fits =
    stored_stored before (write_each write (listed f from k)) (write (f (from + k))) at (at + width * k)
    (ap (λ n. at + n) (sym (length_write_each width (λ cells. f 0) write wide (listed f from k) ∙ ap (λ n. width * n) (length_listed f from k))))
    (room (wide (f (from + k))))
    ∙ ap (stored before at) (sym (ap (write_each write) more ∙ write_each_append write (listed f from k) (f (from + k) ∷ []) ∙ ap (λ l. write_each write (listed f from k) ++ l) (append-nil (write (f (from + k))))))
  where
    room : length (write (f (from + k))) ≡ width → at + width * k + length (write (f (from + k))) ≤ length before
    room e = omega arith

    more : listed f from (k + 1) ≡ listed f from k ++ (f (from + k) ∷ [])
    more = ap (listed f from) (add-one k) ∙ listed_snoc f from k
