-- Water in the last runs (02, §10): where a list of runs, each with its minutes, first exceeds what a pump permit allows over any w runs in a
-- row. The sum is taken afresh at each position; that it may be kept from one position to the next is a law (`WindowLaws`).
use Rattle.std.specs.Prelude.{◌≡◌, Bool, true, ◌&&◌, List, [], ◌∷◌, ℕ, suc, ◌+◌, ◌-◌, ◌*◌, ◌≤◌, ◌<◌, min, leb, ltb, length, take, drop, get_or}
use Rattle.std.proofs.Math.Option.{Option, none, some}
use Rattle.rules.specs.Listing.{all, first_index}
use Rattle.rules.specs.Answer.{Answer, fine, refuse, ask, Detail}

-- the sum of some runs
abbrev pub total : List ℕ → ℕ
total [] = 0
total (m ∷ ms) = m + total ms

-- the last w of some runs; where there are fewer, they are all of them
unfoldable pub last_runs : ℕ → List ℕ → List ℕ
last_runs w runs = drop (length runs - w) runs

-- and their sum
unfoldable pub last_sum : ℕ → List ℕ → ℕ
last_sum w runs = total (last_runs w runs)

-- the sum of the last w runs at a position, counted from 0: the run that stands there is the last of them
unfoldable pub sum_at : ℕ → List ℕ → ℕ → ℕ
sum_at w minutes i = last_sum w (take (suc i) minutes)

-- does it exceed the limit? A sum that is the limit does not
unfoldable pub exceeds : ℕ → ℕ → List ℕ → ℕ → Bool
exceeds w limit minutes i = ltb limit (sum_at w minutes i)

-- the first position where it does, if there is one
unfoldable pub first_exceeding : ℕ → ℕ → List ℕ → Option ℕ
first_exceeding w limit minutes = first_index (exceeds w limit minutes) 0 (length minutes)

-- 39: is w neither 0 nor above 1,440, and is the list not over 4,096? One question
unfoldable pub window_in_range : ℕ → ℕ → Bool
window_in_range w runs = leb 1 w && (leb w 1440 && leb runs 4096)

unfoldable pub ask_window : ℕ → List ℕ → Answer
ask_window w minutes = ask 39 (window_in_range w (length minutes))

-- what is answered: refused, with number and detail, that position, or that there is none
pub data Window : Type 0 where
  refused_window : ℕ → Detail → Window
  exceeded_at : ℕ → Window
  never_exceeded : Window

abbrev pub window_of : Answer → Option ℕ → Window
window_of (refuse n d) found = refused_window n d
window_of fine (some i) = exceeded_at i
window_of fine none = never_exceeded

unfoldable pub window : ℕ → ℕ → List ℕ → Window
window w limit minutes = window_of (ask_window w minutes) (first_exceeding w limit minutes)

-- ---- what these come to, in §10's words, for every list; the proof is `window_laws` of proofs/LawsWindow

pub record WindowLaws (w limit : ℕ) (minutes : List ℕ) : Type 0 where
  -- at each position w runs are summed, and at the start those that there are
  pub runs_summed : (i : ℕ) → i < length minutes → length (last_runs w (take (suc i) minutes)) ≡ min w (suc i)
  pub at_the_start : (i : ℕ) → i < w → sum_at w minutes i ≡ total (take (suc i) minutes)
  -- the sum may be kept: the new run is added, and dropped is the oldest, where w runs stand before the new one
  pub added : (i : ℕ) → i < length minutes → i < w → sum_at w minutes i ≡ last_sum w (take i minutes) + get_or minutes i 0
  pub dropped
      : (i : ℕ) → i < length minutes → 1 ≤ w → w ≤ i
      → sum_at w minutes i + get_or minutes (i - w) 0 ≡ last_sum w (take i minutes) + get_or minutes i 0
  -- no sum leaves 64 bits, where the runs are of 32 and w passes 39
  pub fits : (i : ℕ) → all (λ m. ltb m 4294967296) minutes ≡ true → w ≤ 1440 → sum_at w minutes i ≤ 1440 * 4294967295
  -- a position that is told exceeds the limit, and none before it does
  pub found
      : (i : ℕ) → first_exceeding w limit minutes ≡ some i
      → (i < length minutes) × ((limit < sum_at w minutes i) × ((k : ℕ) → k < i → sum_at w minutes k ≤ limit))
  -- where none is told, none exceeds it
  pub none_found : first_exceeding w limit minutes ≡ none → (k : ℕ) → k < length minutes → sum_at w minutes k ≤ limit
