-- The two counts of a list, step by step (02, §8). A list is what its steps add, and no question is asked on the way, so all of this holds of
-- step lists that 5, 6 or 7 refuses too (CountExamples has one of each). The proof is `step_counts` of proofs/LawsCounts.
use Rattle.std.specs.Prelude.{◌≡◌, true, List, ◌++◌, ℕ, ◌+◌, ◌≤◌}
use Rattle.rules.specs.ParameterRecord.{Step}
use Rattle.rules.specs.Parameters.{Style, pos_only, comes_before, ParameterKind, adds, Parameter, plain, added, added_from, positional_only_count, positional_count}

pub record StepCounts (area : List ℕ) : Type 0 where
  -- a plain parameter that is added under PosOnly raises both counts by one, whatever stands before it
  pub both_rise
      : (before : List Parameter) (k : ParameterKind) (name : ℕ)
      → plain k ≡ true
      → (positional_only_count (before ++ added area pos_only (adds k) name) ≡ positional_only_count before + 1)
      × (positional_count (before ++ added area pos_only (adds k) name) ≡ positional_count before + 1)
  -- once the style has left PosOnly, no further step raises the positional-only count
  pub only_stays
      : (before : List Parameter) (s : Style) (ts : List Step)
      → comes_before pos_only s ≡ true
      → positional_only_count (before ++ added_from area s ts) ≡ positional_only_count before
  -- so no list of steps, from the first style on, has more positional-only parameters than positional ones
  pub only_within
      : (ts : List Step)
      → positional_only_count (added_from area pos_only ts) ≤ positional_count (added_from area pos_only ts)
