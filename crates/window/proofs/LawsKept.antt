-- What the loop keeps (specs/Exceeded), in the order in which its proof asks for it: before the first run; how large the sum is; with the run at
-- `last`, while the window fills and once it is full; the limit exceeded there, or not; after the last run.
-- Assumes nothing.
use mathlib.Core.Path.{◌≡◌, refl, sym, ap, ◌∙◌}
use mathlib.Core.List.{List, [], ◌∷◌}
use mathlib.Core.Option.{none, some}
use Prim.Native.Nat.{ℕ, suc, ◌+◌, ◌-◌, ◌*◌, ◌≤◌, ◌<◌}
use native.Mathlib.Nat.{sub-zero}
use native.Mathlib.Numerals.{add-one}
use native.Mathlib.Omega.{arith}
use borrow.Author.Tests.{lt-ltb, le-ltb}
use lib.ListN.{length, take, get_or}
use Rattle.rules.specs.Listing.{first_index}
use Rattle.rules.specs.Window.{last_sum, sum_at, exceeds, first_exceeding}
use Rattle.rules.proofs.LawsListing.{and_both}
use Rattle.rules.proofs.LawsIndex.{first_index_hit, first_index_miss, first_index_none}
use Rattle.rules.proofs.LawsWindow.{no_runs, added, dropped, Of32, front_most}
use Rattle.window.specs.Exceeded.{Kept}

pub kept_first : (w limit : ℕ) (minutes : List ℕ) → Kept w limit minutes 0 0 0
unfolding first_exceeding
kept_first w limit minutes =
    record {
      inside = omega arith;
      afresh = sym (no_runs w);
      oldest = omega arith;
      not_yet = ap (first_index (exceeds w limit minutes) 0) (sym (sub-zero (length minutes)));
    }

-- a slice of 32 bits has such runs
each_of32 : (minutes : List ℕ) → ((i : ℕ) → get_or minutes i 0 < 4294967296) → Of32 minutes
each_of32 [] each = refl
each_of32 (m ∷ minutes) each = and_both _ _ (lt-ltb m 4294967296 (each 0)) (each_of32 minutes (λ i. each (suc i)))

module _ {w limit : ℕ} {minutes : List ℕ} {sum first last : ℕ} (k : Kept w limit minutes sum first last) where
  pub kept_most : w ≤ 1440 → ((i : ℕ) → get_or minutes i 0 < 4294967296) → sum ≤ 1440 * 4294967295
  kept_most h each = omega (arith, front_most w minutes last (each_of32 minutes each) h)

  module _ (here : last < length minutes) where
    pub sum_added : last < w → sum + get_or minutes last 0 ≡ sum_at w minutes last
    sum_added filling = omega (arith, added w minutes last here filling)

    pub sum_dropped : 1 ≤ w → w ≤ last → sum + get_or minutes last 0 ≡ sum_at w minutes last + get_or minutes first 0
    sum_dropped one full = omega (arith, dropped w minutes last here one full, ap (λ n. get_or minutes n 0) k.oldest)

    pub found_here : limit < sum_at w minutes last → first_exceeding w limit minutes ≡ some last
    unfolding exceeds
    found_here over =
        k.not_yet ∙ first_index_hit (exceeds w limit minutes) last (length minutes) here (lt-ltb limit (sum_at w minutes last) over)

    pub kept_next
        : {sum' first' : ℕ} → sum' ≡ sum_at w minutes last → first' ≡ last + 1 - w → sum_at w minutes last ≤ limit
        → Kept w limit minutes sum' first' (last + 1)
    unfolding sum_at exceeds
    kept_next e f within =
        record {
          inside = omega arith;
          afresh = e ∙ ap (λ n. last_sum w (take n minutes)) (sym (add-one last));
          oldest = f;
          not_yet = k.not_yet ∙ first_index_miss (exceeds w limit minutes) last (length minutes) here (le-ltb limit (sum_at w minutes last) within);
        }

  pub none_anywhere : length minutes ≤ last → first_exceeding w limit minutes ≡ none
  none_anywhere end = k.not_yet ∙ first_index_none (exceeds w limit minutes) last (length minutes) end
