-- What an answer of the code means (02, §10), and what its loop keeps from one run to the next, in words of the definition.
use Rattle.std.specs.Prelude.{Option, Some, None, Result, Ok, Err, ◌≡◌, List, ℕ, ◌-◌, ◌≤◌, length, take}
use Rattle.rules.specs.Listing.{first_index}
use Rattle.rules.specs.Answer.{none}
use Rattle.rules.specs.Window.{last_sum, exceeds, first_exceeding, Window, refused_window, exceeded_at, never_exceeded}
use Rattle.window.specs.declared.OutOfRange.{OutOfRange}

-- an answer: the position, that there is none, or 39, which has no detail
abbrev pub window_in : Result (Option ℕ) OutOfRange → Window
window_in (Ok (Some i)) = exceeded_at i
window_in (Ok None) = never_exceeded
window_in (Err _) = refused_window 39 none

-- before the run at `last`, and after the last one
pub record Kept (w limit : ℕ) (minutes : List ℕ) (sum first last : ℕ) : Type 0 where
  pub inside : last ≤ length minutes
  -- the sum that is kept is the sum of the last w runs so far, taken afresh
  pub afresh : sum ≡ last_sum w (take last minutes)
  -- the oldest of these is at `first`
  pub oldest : first ≡ last - w
  -- no position so far exceeds the limit: what is looked for is the first from here on
  pub not_yet : first_exceeding w limit minutes ≡ first_index (exceeds w limit minutes) last (length minutes - last)
