-- Laws of writing the values of a call as they stand in its record, in this order: where the four runs lie; a run's cells are those of its
-- values; one run stored behind the others; all four stored.
-- Assumes nothing.
use mathlib.Core.Path.{◌≡◌, sym, ap, ◌∙◌}
use mathlib.Core.List.{List, ◌++◌, append_assoc}
use Prim.Native.Nat.{ℕ, ◌+◌, ◌*◌, ◌≤◌}
use native.Mathlib.Omega.{arith}
use lib.ListN.{length, take, drop, length-append, length-drop}
use lib.Seq.{drop-drop}
use Rattle.rules.specs.Cells.{write_each}
use Rattle.rules.specs.Value.{Value, value_width, value_cells, read_value}
use Rattle.rules.specs.CallRecord.{Head, head_width, pair_width, read_pair, call_length}
use Rattle.rules.proofs.LawsRecord.{length_write_each}
use Rattle.cells.specs.Record.{pair_at}
use Rattle.cells.specs.Listed.{listed}
use Rattle.cells.specs.Out.{stored}
use Rattle.cells.proofs.LawsListed.{length_listed, Listed-same}
use Rattle.cells.proofs.LawsOut.{stored_stored}
use Rattle.cells.proofs.LawsWrite.{value_cells_two, write_each_append}
use Rattle.calls.specs.Head.{items_from, named_from, entries_from}
use Rattle.calls.specs.Runs.{values_at}
use Rattle.calls.proofs.LawsEach.{each_length}
use Rattle.calls.proofs.LawsWritten.{value_cells_lem}
use Rattle.collector.proofs.LawsReady.{run_listed}
use Rattle.prepared.specs.InOrder.{pair_values, values_in_order}

-- ---- where the runs lie

module _ (cells : List ℕ) (h : Head) (whole : length cells ≡ call_length h) where
  pub values_inside : 6 + 2 * h.p ≤ length cells
  unfolding call_length head_width value_width pair_width
  values_inside = omega (arith, whole)

  pub named_inside : (from : ℕ) → from ≡ named_from h → from + 4 * h.n ≤ length cells
  unfolding call_length named_from head_width value_width pair_width
  named_inside from e = omega (arith, whole)

  pub items_inside : (from : ℕ) → from ≡ items_from h → from + 2 * h.s ≤ length cells
  unfolding call_length items_from named_from head_width value_width pair_width
  items_inside from e = omega (arith, whole)

  pub entries_inside : (from : ℕ) → from ≡ entries_from h → from + 4 * h.d ≤ length cells
  unfolding call_length entries_from items_from named_from head_width value_width pair_width
  entries_inside from e = omega (arith, whole)

-- ---- a run's cells

run_cells : (cells : List ℕ) (from count : ℕ) → from + 2 * count ≤ length cells → take (2 * count) (drop from cells) ≡ write_each value_cells (values_at cells from count)
run_cells cells from count inside = sym (value_cells_lem count (drop from cells) (rw (length-drop from cells) (omega arith)))

-- the values of the pairs, by their places
pair_values_lem : (cells : List ℕ) (from count : ℕ) → listed (λ k. pair_at cells (from + 4 * k + 2)) 0 count ≡ pair_values cells from count
unfolding pair_at read_pair value_width
pair_values_lem cells from count =
    Listed-same (λ k. pair_at cells (from + 4 * k + 2)) (λ k. (read_pair (drop (from + 4 * k) cells)).value) 0 count
    (λ k l u. ap read_value (sym (drop-drop 2 (from + 4 * k) cells)))
    ∙ sym (run_listed (λ p. p.value) cells from count)

pub pair_values_length : (cells : List ℕ) (from count : ℕ) → length (pair_values cells from count) ≡ count
pair_values_length cells from count = ap length (sym (pair_values_lem cells from count)) ∙ length_listed (λ k. pair_at cells (from + 4 * k + 2)) 0 count

-- ---- one run behind the others

more_stored : (before board after : List ℕ) (done more : List Value) (at : ℕ) → at ≡ 2 * length done → at + 2 * length more ≤ length before
    → board ≡ stored before 0 (write_each value_cells done) → after ≡ stored board at (write_each value_cells more)
    → after ≡ stored before 0 (write_each value_cells (done ++ more))
more_stored before board after done more at e room held next =
    next
    ∙ ap (λ b. stored b at (write_each value_cells more)) held
    ∙ stored_stored before (write_each value_cells done) (write_each value_cells more) 0 at (omega (arith, wide done)) (omega (arith, wide more))
    ∙ ap (stored before 0) (sym (write_each_append value_cells done more))
  where
    wide : (vs : List Value) → length (write_each value_cells vs) ≡ 2 * length vs
    wide vs = length_write_each 2 read_value value_cells value_cells_two vs

-- ---- all of them

pub in_order_stored : (cells : List ℕ) (h : Head) → length cells ≡ call_length h
    → (b0 b1 b2 b3 b4 : List ℕ) (items named entries : ℕ) → items ≡ items_from h → named ≡ named_from h → entries ≡ entries_from h
    → 2 * (h.p + h.s + h.n + h.d) ≤ length b0
    → b1 ≡ stored b0 0 (take (2 * h.p) (drop 6 cells))
    → b2 ≡ stored b1 (2 * h.p) (take (2 * h.s) (drop items cells))
    → b3 ≡ stored b2 (2 * (h.p + h.s)) (write_each value_cells (listed (λ k. pair_at cells (named + 4 * k + 2)) 0 h.n))
    → b4 ≡ stored b3 (2 * (h.p + h.s + h.n)) (write_each value_cells (listed (λ k. pair_at cells (entries + 4 * k + 2)) 0 h.d))
    → b4 ≡ stored b0 0 (write_each value_cells (values_in_order cells h))
unfolding values_in_order head_width
in_order_stored cells h whole b0 b1 b2 b3 b4 items named entries i n e room e1 e2 e3 e4 =
    fourth ∙ ap (λ vs. stored b0 0 (write_each value_cells vs)) (append_assoc (P ++ S) N D)
  where
    P : List Value
    P = values_at cells 6 h.p

    S : List Value
    S = values_at cells (items_from h) h.s

    N : List Value
    N = pair_values cells (named_from h) h.n

    D : List Value
    D = pair_values cells (entries_from h) h.d

    length_P : length P ≡ h.p
    length_P = each_length value_width read_value h.p (drop 6 cells)

    length_S : length S ≡ h.s
    length_S = each_length value_width read_value h.s (drop (items_from h) cells)

    length_N : length N ≡ h.n
    length_N = pair_values_length cells (named_from h) h.n

    length_D : length D ≡ h.d
    length_D = pair_values_length cells (entries_from h) h.d

    first : b1 ≡ stored b0 0 (write_each value_cells P)
    first = e1 ∙ ap (stored b0 0) (run_cells cells 6 h.p (values_inside cells h whole))

    second : b2 ≡ stored b0 0 (write_each value_cells (P ++ S))
    second =
        more_stored b0 b1 b2 P S (2 * h.p) (omega (arith, length_P)) (omega (arith, length_S, room)) first
        (e2 ∙ ap (stored b1 (2 * h.p)) (run_cells cells items h.s (items_inside cells h whole items i) ∙ ap (λ f. write_each value_cells (values_at cells f h.s)) i))

    third : b3 ≡ stored b0 0 (write_each value_cells ((P ++ S) ++ N))
    third =
        more_stored b0 b2 b3 (P ++ S) N (2 * (h.p + h.s)) (omega (arith, length-append P S, length_P, length_S)) (omega (arith, length_N, room)) second
        (e3 ∙ ap (λ vs. stored b2 (2 * (h.p + h.s)) (write_each value_cells vs)) (pair_values_lem cells named h.n ∙ ap (λ f. pair_values cells f h.n) n))

    fourth : b4 ≡ stored b0 0 (write_each value_cells (((P ++ S) ++ N) ++ D))
    fourth =
        more_stored b0 b3 b4 ((P ++ S) ++ N) D (2 * (h.p + h.s + h.n))
        (omega (arith, length-append (P ++ S) N, length-append P S, length_P, length_S, length_N)) (omega (arith, length_D, room)) third
        (e4 ∙ ap (λ vs. stored b3 (2 * (h.p + h.s + h.n)) (write_each value_cells vs)) (pair_values_lem cells entries h.d ∙ ap (λ f. pair_values cells f h.d) e))
