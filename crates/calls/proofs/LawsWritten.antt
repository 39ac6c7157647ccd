-- The written values of a record (01, cells, texts and records), whose counts are few: they stand side by side behind the head, so their
-- cells are the record's own. And what a loop that copies those cells one by one asks for. Assumes nothing.
use mathlib.Core.Path.{◌≡◌, refl, sym, ap, ◌∙◌}
use mathlib.Core.Bool.{true}
use mathlib.Core.List.{List, [], ◌∷◌}
use Prim.Native.Nat.{ℕ, zero, suc, ◌+◌, ◌*◌, ◌≤◌, ◌<◌}
use native.Mathlib.Nat.{zero-add}
use native.Mathlib.Omega.{arith}
use lib.ListN.{length, take, drop, get_or, set, length-drop}
use lib.Seq.{length-take-le, get_or-take, get_or-drop}
use borrow.Author.Tests.{le-leb}
use Rattle.rules.specs.Cells.{read_each, write_each}
use Rattle.rules.specs.Value.{value_width, value_cells, read_value, no_value}
use Rattle.rules.specs.CallRecord.{Head, head_width}
use Rattle.cells.specs.Record.{pair_at}
use Rattle.cells.specs.Listed.{listed}
use Rattle.cells.specs.Out.{stored}
use Rattle.cells.proofs.LawsListed.{elements}
use Rattle.cells.proofs.LawsOut.{stored_more}
use Rattle.calls.specs.Head.{at_most, Few, items_from}
use Rattle.calls.specs.Places.{in_runs, position_at}
use Rattle.calls.specs.Runs.{values_at}
use Rattle.calls.specs.Values.{positional_at, values_in}
use Rattle.calls.proofs.LawsEach.{each_length, runs_first}

-- values that were read, written again
pub value_cells_lem : (count : ℕ) (cells : List ℕ) → 2 * count ≤ length cells → write_each value_cells (read_each value_width read_value count cells) ≡ take (2 * count) cells
unfolding value_cells value_width read_value
value_cells_lem zero cells h = refl
value_cells_lem (suc count) [] h = absurd (omega arith)
value_cells_lem (suc count) (a ∷ []) h = absurd (omega arith)
value_cells_lem (suc count) (a ∷ (b ∷ cells)) h =
    let e : 2 * suc count ≡ suc (suc (2 * count)) = omega arith in
    rw e (ap {B = List ℕ} (λ r. a ∷ (b ∷ r)) (value_cells_lem count cells (omega arith)))

-- few counts, as the test that `position_at` asks
few_test : (B : ℕ) (h : Head) → Few B h → at_most B h ≡ true
unfolding at_most
few_test B h few =
    rw (le-leb h.p B few.few_p, le-leb h.n B few.few_n, le-leb h.s B few.few_s, le-leb h.d B few.few_d)

module _ (cells : List ℕ) (h : Head) (few : Few 64 h) where
  -- the written values by their numbers are the run behind the head
  written_run : values_at cells head_width h.p ≡ values_in cells h 0 h.p
  unfolding positional_at pair_at position_at
  written_run =
      elements (positional_at cells h) no_value 0 (values_at cells head_width h.p)
      (λ k below. runs_first value_width read_value cells head_width h.p (items_from h) h.s k no_value (rw (← count) below) ∙ here k)
      ∙ ap (listed (positional_at cells h) 0) count
    where
      count : length (values_at cells head_width h.p) ≡ h.p
      count = each_length value_width read_value h.p (drop head_width cells)

      here : (k : ℕ) → read_value (drop (in_runs value_width head_width h.p (items_from h) h.s k) cells) ≡ positional_at cells h (0 + k)
      here k = rw (few_test 64 h few, zero-add k)

  -- and their cells are those behind the head
  pub written_cells : 6 + 2 * h.p ≤ length cells → write_each value_cells (values_in cells h 0 h.p) ≡ take (2 * h.p) (drop 6 cells)
  unfolding head_width
  written_cells inside =
      ap (write_each value_cells) (sym written_run)
      ∙ value_cells_lem h.p (drop 6 cells) (rw (length-drop 6 cells) (omega arith))

-- one cell more of `n` cells from `from` on, stored from `at` on
pub copied_next : (cells before board : List ℕ) (from n at k : ℕ) → from + n ≤ length cells → at + n ≤ length before → length board ≡ length before
    → board ≡ stored before at (take k (take n (drop from cells))) → k < n
    → set board (at + k) (get_or cells (from + k) 0) ≡ stored before at (take (k + 1) (take n (drop from cells)))
copied_next cells before board from n at k inside room same held h =
    ap (set board (at + k)) (sym (get_or-take n (drop from cells) k 0 h ∙ get_or-drop from cells k 0))
    ∙ stored_more before run board at k held same (omega (arith, wide)) (omega (arith, wide))
  where
    run : List ℕ
    run = take n (drop from cells)

    wide : length run ≡ n
    wide = length-take-le n (drop from cells) (rw (length-drop from cells) (omega arith))
