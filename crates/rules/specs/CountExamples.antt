-- The two counts of short step lists (02, §8), over an area that has the names `a` and `b`, as one joint fact. Its proof is `count_examples` of
-- proofs/.
use Rattle.std.specs.Prelude.{◌≡◌, List, [], ◌∷◌, ℕ, replicate}
use Rattle.rules.specs.Text.{start_of, size_of, bytes_at, text_in}
use Rattle.rules.specs.Answer.{Answer, refuse, none}
use Rattle.rules.specs.ParameterRecord.{Step}
use Rattle.rules.specs.Parameters.{pos_only, comes_before, act, positional, nameable, positional_only, added_from, positional_only_count, positional_count}
use Rattle.rules.specs.Lookup.{names, known}
use Rattle.rules.specs.ParameterQuestions.{ask_step, ask_steps}
use Rattle.rules.specs.Examples.{step}
use Rattle.rules.specs.PrintedExamples.{slash, bare}

abbrev pub area : List ℕ
area = 97 ∷ 98 ∷ []

-- required parameters `a` and `b`
abbrev pub a : Step
a = step 1 1 0 0

abbrev pub b : Step
b = step 1 257 0 0

-- the positional-only and the positional count of what some steps add, and what 5 to 7 answer of them
unfoldable pub both_counts : List Step → ℕ × ℕ
unfolding start_of size_of bytes_at text_in comes_before act positional positional_only positional_only_count positional_count
both_counts ts = (positional_only_count (added_from area pos_only ts), positional_count (added_from area pos_only ts))

unfoldable pub steps_asked : List Step → Answer
unfolding start_of size_of bytes_at text_in comes_before act nameable names known ask_step
steps_asked ts = ask_steps 64 area pos_only [] ts

pub record CountExamples : Type 0 where
  -- `a, /, b`
  pub either_way : both_counts (a ∷ slash ∷ b ∷ []) ≡ (1, 2)
  -- `a, *, b`: b is added under NamedOnly and raises neither
  pub by_name : both_counts (a ∷ bare ∷ b ∷ []) ≡ (1, 1)
  -- `a, *, /, b`, which 5 refuses
  pub misplaced : both_counts (a ∷ bare ∷ slash ∷ b ∷ []) ≡ (1, 2)
  pub misplaced_refused : steps_asked (a ∷ bare ∷ slash ∷ b ∷ []) ≡ refuse 5 none
  -- 65 parameters, which 6 refuses
  pub too_many : both_counts (replicate 65 a) ≡ (65, 65)
  pub too_many_refused : steps_asked (replicate 65 a) ≡ refuse 6 none
  -- `/, a, a`, which 7 refuses
  pub repeated : both_counts (slash ∷ a ∷ a ∷ []) ≡ (0, 2)
  pub repeated_refused : steps_asked (slash ∷ a ∷ a ∷ []) ≡ refuse 7 none
