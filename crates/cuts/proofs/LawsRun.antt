-- Runs of values and pairs in lent cells (01, cells, texts and records), as a cut writes them. In this order: how many cells a run takes, its
-- first things and the rest of them, and pairs as values. Assumes nothing.
use mathlib.Core.Path.{◌≡◌, refl, sym, ap, ◌∙◌}
use mathlib.Core.List.{List, ◌∷◌, ◌++◌, append_assoc}
use Prim.Native.Nat.{ℕ, zero, suc, ◌+◌, ◌-◌, ◌*◌, ◌≤◌}
use native.Mathlib.Nat.{mul-suc}
use native.Mathlib.Omega.{arith}
use lib.ListN.{length, take, drop, length-drop}
use lib.Seq.{drop-drop}
use Rattle.rules.specs.Cells.{read_each, write_each}
use Rattle.rules.specs.Value.{value_width, value_cells, read_value}
use Rattle.rules.specs.CallRecord.{pair_width, pair_cells, read_pair}
use Rattle.rules.proofs.LawsRecord.{length_write_each, value_cells_wide}
use Rattle.calls.proofs.LawsEach.{each_length}
use Rattle.calls.proofs.LawsWritten.{value_cells_lem}
use Rattle.cuts.specs.Record.{run_of}

pub run_length : (cells : List ℕ) (from count : ℕ) → length (run_of cells from count) ≡ 2 * count
unfolding value_width
run_length cells from count =
    length_write_each 2 read_value value_cells value_cells_wide (read_each 2 read_value count (drop from cells))
    ∙ ap (λ n. 2 * n) (each_length 2 read_value count (drop from cells))

-- the cells that a copy takes are the run
pub run_is : (cells : List ℕ) (from count : ℕ) → from + 2 * count ≤ length cells → take (2 * count) (drop from cells) ≡ run_of cells from count
run_is cells from count h = sym (value_cells_lem count (drop from cells) (rw (length-drop from cells) (omega arith)))

-- ---- the first things of a run, and the rest of them

module _ {X : Type 0} (width : ℕ) (read : List ℕ → X) where
  pub take_each_lem : (k count : ℕ) (cells : List ℕ) → k ≤ count → take k (read_each width read count cells) ≡ read_each width read k cells
  take_each_lem zero count cells h = refl
  take_each_lem (suc k) zero cells h = absurd (omega arith)
  take_each_lem (suc k) (suc count) cells h = ap {B = List X} (λ r. read cells ∷ r) (take_each_lem k count (drop width cells) (omega arith))

  pub drop_each : (k count : ℕ) (cells : List ℕ) → k ≤ count → drop k (read_each width read count cells) ≡ read_each width read (count - k) (drop (width * k) cells)
  drop_each zero count cells h =
      let e : count - 0 ≡ count = omega arith in
      let z : width * 0 ≡ 0 = omega arith in
      rw (e, z)
  drop_each (suc k) zero cells h = absurd (omega arith)
  drop_each (suc k) (suc count) cells h =
      let e : suc count - suc k ≡ count - k = omega arith in
      let m : width * suc k ≡ width + width * k = mul-suc width k ∙ swap (width * k) in
      drop_each k count (drop width cells) (omega arith) ∙ rw (e, m, drop-drop (width * k) width cells)
    where
      swap : (n : ℕ) → n + width ≡ width + n
      swap n = omega arith

-- ---- a pair is two values

pub pairs_values : (count : ℕ) (cells : List ℕ) → write_each pair_cells (read_each pair_width read_pair count cells) ≡ write_each value_cells (read_each value_width read_value (2 * count) cells)
unfolding pair_width value_width pair_cells read_pair
pairs_values zero cells = refl
pairs_values (suc count) cells =
    let e : 2 * suc count ≡ suc (suc (2 * count)) = omega arith in
    ap (λ l. (value_cells (read_value cells) ++ value_cells (read_value (drop 2 cells))) ++ l) (pairs_values count (drop 4 cells))
    ∙ append_assoc (value_cells (read_value cells)) (value_cells (read_value (drop 2 cells))) (write_each value_cells (read_each 2 read_value (2 * count) (drop 4 cells)))
    ∙ ap (λ l. value_cells (read_value cells) ++ (value_cells (read_value (drop 2 cells)) ++ write_each value_cells (read_each 2 read_value (2 * count) l))) (sym (drop-drop 2 2 cells))
    ∙ ap (λ n. write_each value_cells (read_each 2 read_value n cells)) (sym e)
