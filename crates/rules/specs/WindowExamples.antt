-- Water in the last runs at work (02, §10), as one joint fact. Its proof is `window_examples` of proofs/.
use Rattle.std.specs.Prelude.{◌≡◌, List, [], ◌∷◌, ℕ, replicate}
use Rattle.rules.specs.Answer.{none}
use Rattle.rules.specs.Window.{last_runs, last_sum, sum_at, exceeds, first_exceeding, window_in_range, ask_window, Window, refused_window, exceeded_at, never_exceeded, window}

-- what is answered, with all that it rests on unfolded
unfoldable pub exceeding : ℕ → ℕ → List ℕ → Window
unfolding last_runs last_sum sum_at exceeds first_exceeding window_in_range ask_window window
exceeding w limit minutes = window w limit minutes

-- a week of runs, in minutes
abbrev pub week : List ℕ
week = 40 ∷ 20 ∷ 30 ∷ 45 ∷ 30 ∷ 0 ∷ 50 ∷ []

pub record WindowExamples : Type 0 where
  -- over three runs the sums are 40, 60, 90, 95, 105, 75, 80: the first above 90 is that of runs 1 to 3, and 3 is told
  pub three_runs : exceeding 3 90 week ≡ exceeded_at 3
  -- a sum that is the limit does not exceed it
  pub at_the_limit : exceeding 3 105 week ≡ never_exceeded
  pub above_it : exceeding 3 104 week ≡ exceeded_at 4
  -- the first two positions have fewer runs, and these count: 60 after two
  pub at_the_start : exceeding 3 59 week ≡ exceeded_at 1
  pub first_run : exceeding 3 39 week ≡ exceeded_at 0
  -- one run is a window, and so is one that is longer than the list: 215 in all
  pub single : exceeding 1 45 week ≡ exceeded_at 6
  pub longer : exceeding 1440 214 week ≡ exceeded_at 6
  pub longer_within : exceeding 1440 215 week ≡ never_exceeded
  -- no run, no position
  pub no_runs : exceeding 7 0 [] ≡ never_exceeded
  -- 39, at its limits
  pub no_window : exceeding 0 90 week ≡ refused_window 39 none
  pub longest : exceeding 1440 39 week ≡ exceeded_at 0
  pub too_long : exceeding 1441 90 week ≡ refused_window 39 none
  pub most_runs : exceeding 1 0 (replicate 4096 1) ≡ exceeded_at 0
  pub too_many_runs : exceeding 1 0 (replicate 4097 1) ≡ refused_window 39 none
