-- How steps move the two counts of a list (02, §8; specs/Counts), in this order: the counts of two lists joined; a plain parameter under PosOnly;
-- what comes after PosOnly; one step, which keeps that no more parameters are positional-only than positional; all steps, one after the other.
-- No step is asked whether it may stand there. Assumes nothing.
use mathlib.Core.Path.{◌≡◌, refl, ap, ◌∙◌}
use mathlib.Core.Bool.{Bool, true, false, cond, ◌&&◌, false≢true}
use mathlib.Core.List.{List, [], ◌∷◌, ◌++◌, append_assoc, append-nil}
use Prim.Native.Nat.{ℕ, ◌+◌, ◌≤◌}
use native.Mathlib.Omega.{arith}
use lib.Dec.{ltb}
use Rattle.rules.specs.ParameterRecord.{Step}
use Rattle.rules.specs.Parameters.{Style, pos_only, pos_or_named, named_only, no_more, ParameterKind, required, optional, defaulted, args, kwargs, Act, adds, slash, bare_star, unknown_code, act, rank, comes_before, next_style, Parameter, plain, positional, positional_only, added, added_from, positional_only_count, positional_count}
use Rattle.rules.specs.Counts.{StepCounts}
use Rattle.rules.proofs.LawsListing.{tally_append}

-- ---- lists joined

only_append : (xs ys : List Parameter) → positional_only_count (xs ++ ys) ≡ positional_only_count xs + positional_only_count ys
unfolding positional_only_count
only_append xs ys = tally_append positional_only xs ys

positional_append : (xs ys : List Parameter) → positional_count (xs ++ ys) ≡ positional_count xs + positional_count ys
unfolding positional_count
positional_append xs ys = tally_append positional xs ys

module _ (area : List ℕ) where
  -- ---- under PosOnly

  -- what a step adds is one of both counts, where it is a plain parameter
  adds_both : (k : ParameterKind) (name : ℕ) → plain k ≡ true → (positional_only_count (added area pos_only (adds k) name) ≡ 1) × (positional_count (added area pos_only (adds k) name) ≡ 1)
  unfolding positional_only_count positional_count positional_only positional comes_before
  adds_both k name e = (rw e, rw e)

  -- and whatever it is, it is one of both or of neither
  adds_alike : (a : Act) (name : ℕ) → positional_only_count (added area pos_only a name) ≡ positional_count (added area pos_only a name)
  unfolding positional_only_count positional_count positional_only positional comes_before
  adds_alike (adds k) name = refl
  adds_alike slash name = refl
  adds_alike bare_star name = refl
  adds_alike unknown_code name = refl

  both_rise : (before : List Parameter) (k : ParameterKind) (name : ℕ) → plain k ≡ true
      → (positional_only_count (before ++ added area pos_only (adds k) name) ≡ positional_only_count before + 1)
      × (positional_count (before ++ added area pos_only (adds k) name) ≡ positional_count before + 1)
  both_rise before k name e =
      let one = adds_both k name e in (
        only_append before (added area pos_only (adds k) name) ∙ ap (λ n. positional_only_count before + n) one.0,
        positional_append before (added area pos_only (adds k) name) ∙ ap (λ n. positional_count before + n) one.1,
      )

  -- ---- after PosOnly

  -- no step leads back to it
  left_for_good : (s : Style) (a : Act) → comes_before pos_only s ≡ true → comes_before pos_only (next_style s a) ≡ true
  unfolding comes_before
  left_for_good s (adds required) e = e
  left_for_good s (adds optional) e = e
  left_for_good s (adds (defaulted v)) e = e
  left_for_good s (adds args) e = refl
  left_for_good s (adds kwargs) e = refl
  left_for_good s slash e = refl
  left_for_good s bare_star e = refl
  left_for_good s unknown_code e = e

  -- what a step adds there is not positional-only
  adds_none : (s : Style) (a : Act) (name : ℕ) → comes_before pos_only s ≡ true → positional_only_count (added area s a name) ≡ 0
  unfolding positional_only_count positional_only comes_before
  adds_none s (adds k) name e = go (plain k) s e
    where
      go : (p : Bool) (s' : Style) → ltb 0 (rank s') ≡ true → ◌≡◌ {A = ℕ} (cond (p && ltb (rank s') 1) 1 0) 0
      go p pos_only f = absurd (false≢true f)
      go true pos_or_named f = refl
      go true named_only f = refl
      go true no_more f = refl
      go false pos_or_named f = refl
      go false named_only f = refl
      go false no_more f = refl
  adds_none s slash name e = refl
  adds_none s bare_star name e = refl
  adds_none s unknown_code name e = refl

  -- nor is anything that further steps add
  none_more : (s : Style) (ts : List Step) → comes_before pos_only s ≡ true → positional_only_count (added_from area s ts) ≡ 0
  unfolding positional_only_count
  none_more s [] e = refl
  none_more s (t ∷ ts) e =
      only_append (added area s (act t) t.name) (added_from area (next_style s (act t)) ts)
      ∙ rw (adds_none s (act t) t.name e, none_more (next_style s (act t)) ts (left_for_good s (act t) e))

  only_stays : (before : List Parameter) (s : Style) (ts : List Step) → comes_before pos_only s ≡ true → positional_only_count (before ++ added_from area s ts) ≡ positional_only_count before
  only_stays before s ts e = omega (arith, only_append before (added_from area s ts), none_more s ts e)

  -- ---- any step, and all of them

  -- no more parameters are positional-only than positional
  abbrev Within : List Parameter → Type 0
  Within qs = positional_only_count qs ≤ positional_count qs

  -- a step after PosOnly leaves the first count as it was, and the second is no less
  past_within : (before : List Parameter) (s : Style) (a : Act) (name : ℕ) → comes_before pos_only s ≡ true → Within before → Within (before ++ added area s a name)
  past_within before s a name e h =
      omega (arith, only_append before (added area s a name), positional_append before (added area s a name), adds_none s a name e)

  -- one under PosOnly raises both by one, or neither
  first_within : (before : List Parameter) (a : Act) (name : ℕ) → Within before → Within (before ++ added area pos_only a name)
  first_within before a name h =
      omega (arith, only_append before (added area pos_only a name), positional_append before (added area pos_only a name), adds_alike a name)

  -- so no step takes it away
  pub step_within : (before : List Parameter) (s : Style) (a : Act) (name : ℕ) → Within before → Within (before ++ added area s a name)
  unfolding comes_before
  step_within before pos_only a name h = first_within before a name h
  step_within before pos_or_named a name h = past_within before pos_or_named a name refl h
  step_within before named_only a name h = past_within before named_only a name refl h
  step_within before no_more a name h = past_within before no_more a name refl h

  steps_within : (before : List Parameter) (s : Style) (ts : List Step) → Within before → Within (before ++ added_from area s ts)
  steps_within before s [] h = rw (append-nil before) h
  steps_within before s (t ∷ ts) h =
      rw (← append_assoc before (added area s (act t) t.name) (added_from area (next_style s (act t)) ts))
      (steps_within (before ++ added area s (act t) t.name) (next_style s (act t)) ts (step_within before s (act t) t.name h))

  -- there is nothing before the first step
  nothing_within : Within []
  unfolding positional_only_count positional_count
  nothing_within = omega arith

  pub step_counts : StepCounts area
  step_counts =
      record {
        both_rise = both_rise;
        only_stays = only_stays;
        only_within = λ ts. omega (arith, steps_within [] pos_only ts nothing_within);
      }
