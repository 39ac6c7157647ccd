-- Laws of water in the last runs (02, §10; specs/Window). In order: sums of runs; one run more, while the window fills and once it is full; the
-- same at a position of a list; how large a sum can be; the first position; all of it as `window_laws`.
-- Assumes nothing.
use mathlib.Core.Path.{◌≡◌, sym, ap, ◌∙◌}
use mathlib.Core.Bool.{true}
use mathlib.Core.List.{List, [], ◌∷◌, ◌++◌}
use mathlib.Core.Option.{none, some}
use Prim.Native.Nat.{ℕ, suc, ◌+◌, ◌-◌, ◌*◌, ◌≤◌, ◌<◌, min, zero-le}
use native.Mathlib.Omega.{arith}
use borrow.Author.Tests.{ltb-true, ltb-false}
use lib.Dec.{ltb}
use lib.ListN.{length, take, drop, get_or, length-append, length-take, length-drop}
use lib.Seq.{drop-nil, length-take-le, take-suc, drop-cons, drop-append-le, get_or-take}
use Rattle.rules.specs.Listing.{all}
use Rattle.rules.specs.Window.{total, last_runs, last_sum, sum_at, exceeds, first_exceeding, WindowLaws}
use Rattle.rules.proofs.LawsListing.{and_left, and_right, all_take, all_drop}
use Rattle.rules.proofs.LawsIndex.{first_index_some, first_index_nowhere}

-- ---- sums

total_more : (runs : List ℕ) (m : ℕ) → total (runs ++ m ∷ []) ≡ total runs + m
total_more [] m = omega arith
total_more (r ∷ runs) m = omega (arith, total_more runs m)

-- where there are no more than w, the last w are all of them
last_all : (w : ℕ) (runs : List ℕ) → length runs ≤ w → last_runs w runs ≡ runs
unfolding last_runs
last_all w runs h = let z : length runs - w ≡ 0 = omega arith in ap (λ n. drop n runs) z

-- no runs, no minutes
pub no_runs : (w : ℕ) → last_sum w [] ≡ 0
unfolding last_sum last_runs
no_runs w = ap total (drop-nil (0 - w))

-- ---- one run more

module _ (w : ℕ) (runs : List ℕ) (m : ℕ) where
  -- while the window fills, it is added
  filling : length runs < w → last_sum w (runs ++ m ∷ []) ≡ last_sum w runs + m
  unfolding last_sum
  filling h =
      ap total (last_all w (runs ++ m ∷ []) (omega (arith, length-append runs (m ∷ []))))
      ∙ total_more runs m
      ∙ sym (ap (λ l. total l + m) (last_all w runs (omega arith)))

  -- once it is full, the oldest one is at k, and is dropped
  sliding : (k : ℕ) → length runs ≡ k + w → 1 ≤ w → last_sum w (runs ++ m ∷ []) + get_or runs k 0 ≡ last_sum w runs + m
  unfolding last_sum last_runs
  sliding k full one =
      let start : length runs - w ≡ k = omega arith in
      let next : length (runs ++ m ∷ []) - w ≡ suc k = omega (arith, length-append runs (m ∷ [])) in
      let before : drop (length runs - w) runs ≡ get_or runs k 0 ∷ drop (suc k) runs =
      ap (λ n. drop n runs) start ∙ drop-cons runs k 0 (omega arith) in
      let after : drop (length (runs ++ m ∷ []) - w) (runs ++ m ∷ []) ≡ drop (suc k) runs ++ m ∷ [] =
      ap (λ n. drop n (runs ++ m ∷ [])) next ∙ drop-append-le (suc k) runs (m ∷ []) (omega arith) in
      omega (arith, ap total before, ap total after, total_more (drop (suc k) runs) m)

-- ---- at a position

module _ (w : ℕ) (minutes : List ℕ) (i : ℕ) where
  runs_summed : i < length minutes → length (last_runs w (take (suc i) minutes)) ≡ min w (suc i)
  unfolding last_runs
  runs_summed h =
      omega (arith, length-drop (length (take (suc i) minutes) - w) (take (suc i) minutes), length-take-le (suc i) minutes h)

  at_the_start : i < w → sum_at w minutes i ≡ total (take (suc i) minutes)
  unfolding sum_at last_sum
  at_the_start h = ap total (last_all w (take (suc i) minutes) (omega (arith, length-take (suc i) minutes)))

  pub added : i < length minutes → i < w → sum_at w minutes i ≡ last_sum w (take i minutes) + get_or minutes i 0
  unfolding sum_at
  added h l =
      ap (last_sum w) (take-suc minutes i 0 h)
      ∙ filling w (take i minutes) (get_or minutes i 0) (omega (arith, length-take-le i minutes (omega arith)))

  pub dropped
      : i < length minutes → 1 ≤ w → w ≤ i
      → sum_at w minutes i + get_or minutes (i - w) 0 ≡ last_sum w (take i minutes) + get_or minutes i 0
  unfolding sum_at
  dropped h one full =
      let size : length (take i minutes) ≡ i = length-take-le i minutes (omega arith) in
      omega
      (arith, ap (last_sum w) (take-suc minutes i 0 h), sliding w (take i minutes) (get_or minutes i 0) (i - w) (omega arith) one, get_or-take i minutes (i - w) 0 (omega arith))

-- ---- how large

-- runs of 32 bits
abbrev pub Of32 : List ℕ → Type 0
Of32 runs = all (λ m. ltb m 4294967296) runs ≡ true

total_most : (runs : List ℕ) → Of32 runs → total runs ≤ length runs * 4294967295
total_most [] e = zero-le
total_most (m ∷ runs) e =
    omega (arith, ltb-true m 4294967296 (and_left (ltb m 4294967296) (all (λ r. ltb r 4294967296) runs) e), total_most runs (and_right (ltb m 4294967296) (all (λ r. ltb r 4294967296) runs) e))

last_most : (w : ℕ) (runs : List ℕ) → Of32 runs → w ≤ 1440 → last_sum w runs ≤ 1440 * 4294967295
unfolding last_sum last_runs
last_most w runs e h =
    omega
    (arith, total_most (drop (length runs - w) runs) (all_drop (λ m. ltb m 4294967296) (length runs - w) runs e), length-drop (length runs - w) runs)

-- of the first n runs of a list
pub front_most : (w : ℕ) (minutes : List ℕ) (n : ℕ) → Of32 minutes → w ≤ 1440 → last_sum w (take n minutes) ≤ 1440 * 4294967295
front_most w minutes n e h = last_most w (take n minutes) (all_take (λ m. ltb m 4294967296) n minutes e) h

sum_most : (w : ℕ) (minutes : List ℕ) (i : ℕ) → Of32 minutes → w ≤ 1440 → sum_at w minutes i ≤ 1440 * 4294967295
unfolding sum_at
sum_most w minutes i = front_most w minutes (suc i)

-- ---- the first position

module _ (w limit : ℕ) (minutes : List ℕ) where
  found
      : (i : ℕ) → first_exceeding w limit minutes ≡ some i
      → (i < length minutes) × ((limit < sum_at w minutes i) × ((k : ℕ) → k < i → sum_at w minutes k ≤ limit))
  unfolding first_exceeding exceeds
  found i e =
      let first = first_index_some (exceeds w limit minutes) 0 (length minutes) i e in (
        omega arith,
        (
          ltb-true limit (sum_at w minutes i) first.passes,
          λ k h. ltb-false limit (sum_at w minutes k) (first.none_before k zero-le h),
        ),
      )

  none_found : first_exceeding w limit minutes ≡ none → (k : ℕ) → k < length minutes → sum_at w minutes k ≤ limit
  unfolding first_exceeding exceeds
  none_found e k h =
      ltb-false limit (sum_at w minutes k) (first_index_nowhere (exceeds w limit minutes) 0 (length minutes) e k zero-le (omega arith))

  pub window_laws : WindowLaws w limit minutes
  window_laws =
      record {
        runs_summed = runs_summed w minutes;
        at_the_start = at_the_start w minutes;
        added = added w minutes;
        dropped = dropped w minutes;
        fits = sum_most w minutes;
        found = found;
        none_found = none_found;
      }
