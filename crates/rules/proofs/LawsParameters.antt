-- Laws of a list that passes 1 to 7: its positional parameters come first, no name is that of two nameable parameters, and the names of
-- nameable parameters lie inside the area.
-- Assumes nothing.
use mathlib.Core.Path.{◌≡◌, refl, sym}
use mathlib.Core.Bool.{Bool, true, false, cond, not, ◌&&◌, ◌||◌, false≢true, true≢false}
use mathlib.Core.List.{List, [], ◌∷◌, ◌++◌, append-nil}
use Prim.Native.Nat.{ℕ}
use lib.Dec.{leb}
use Rattle.rules.specs.Listing.{all}
use Rattle.rules.specs.Text.{bytes_at, text_in, size_of, inside, is_text}
use Rattle.rules.specs.Answer.{Answer, fine, ◌then◌, ask}
use Rattle.rules.specs.ParameterRecord.{Step, read_parameters}
use Rattle.rules.specs.Parameters.{Style, pos_only, pos_or_named, named_only, no_more, required, optional, defaulted, args, kwargs, Act, adds, slash, bare_star, unknown_code, act, comes_before, may_stand, next_style, Parameter, plain, takes_position, takes_name, positional, nameable, added, added_from, parameters_of}
use Rattle.rules.specs.Lookup.{known}
use Rattle.rules.specs.ParameterQuestions.{has_name, step_name, has_room, name_is_new, ask_step, ask_steps, ask_parameters, list_of, whole_steps, codes_known, names_inside, defaults_right}
use Rattle.rules.specs.Passed.{positional_first, names_apart, name_inside}
use Rattle.rules.proofs.LawsListing.{and_both, and_left, and_right, all_append}
use Rattle.rules.proofs.LawsAnswer.{then_left, then_right, ask_true}

-- ---- the positional parameters come first

-- after a style that takes no position no later style does
stays_behind : (s : Style) (a : Act) → may_stand s a ≡ true → takes_position s ≡ false → takes_position (next_style s a) ≡ false
unfolding comes_before
stays_behind pos_only a m e = absurd (true≢false e)
stays_behind pos_or_named a m e = absurd (true≢false e)
stays_behind named_only (adds required) m e = refl
stays_behind named_only (adds optional) m e = refl
stays_behind named_only (adds (defaulted v)) m e = refl
stays_behind named_only (adds args) m e = refl
stays_behind named_only (adds kwargs) m e = refl
stays_behind named_only slash m e = absurd (false≢true m)
stays_behind named_only bare_star m e = refl
stays_behind named_only unknown_code m e = refl
stays_behind no_more (adds required) m e = refl
stays_behind no_more (adds optional) m e = refl
stays_behind no_more (adds (defaulted v)) m e = refl
stays_behind no_more (adds args) m e = refl
stays_behind no_more (adds kwargs) m e = refl
stays_behind no_more slash m e = absurd (false≢true m)
stays_behind no_more bare_star m e = refl
stays_behind no_more unknown_code m e = refl

none_added : (area : List ℕ) (s : Style) (a : Act) (name : ℕ) → takes_position s ≡ false → all (λ p. not (positional p)) (added area s a name) ≡ true
unfolding positional
none_added area s (adds k) name e = go (plain k) (takes_position s) e
  where
    go : (x b : Bool) → b ≡ false → (not (x && b) && true) ≡ true
    go true true e₁ = absurd (true≢false e₁)
    go true false e₁ = refl
    go false b e₁ = refl
none_added area s slash name e = refl
none_added area s bare_star name e = refl
none_added area s unknown_code name e = refl

module _ (A : ℕ) (area : List ℕ) where
  -- what a fine step says: it may stand there, its name is new, and the steps after it are fine
  may_stand_lem : (s : Style) (before : List Parameter) (t : Step) (rest : Answer) → (ask_step A area s before t then rest) ≡ fine → may_stand s (act t) ≡ true
  unfolding ask_step
  may_stand_lem s before t rest e =
      ask_true 5 (may_stand s (act t)) (then_left (ask 5 (may_stand s (act t))) (ask 6 (has_room A before (act t)) then ask 7 (name_is_new area s before (act t) t.name)) (then_left (ask_step A area s before t) rest e))

  name_new : (s : Style) (before : List Parameter) (t : Step) (rest : Answer) → (ask_step A area s before t then rest) ≡ fine → name_is_new area s before (act t) t.name ≡ true
  unfolding ask_step
  name_new s before t rest e =
      ask_true 7 (name_is_new area s before (act t) t.name) (then_right (ask 6 (has_room A before (act t))) (ask 7 (name_is_new area s before (act t) t.name)) (then_right (ask 5 (may_stand s (act t))) (ask 6 (has_room A before (act t)) then ask 7 (name_is_new area s before (act t) t.name)) (then_left (ask_step A area s before t) rest e)))

  none_positional : (s : Style) (before : List Parameter) (ts : List Step) → takes_position s ≡ false → ask_steps A area s before ts ≡ fine → all (λ p. not (positional p)) (added_from area s ts) ≡ true
  none_positional s before [] e f = refl
  none_positional s before (t ∷ ts) e f =
      all_append (λ p. not (positional p)) (added area s (act t) t.name) (added_from area (next_style s (act t)) ts)
      (none_added area s (act t) t.name e)
      (none_positional (next_style s (act t)) (before ++ added area s (act t) t.name) ts
      (stays_behind s (act t) (may_stand_lem s before t (ask_steps A area (next_style s (act t)) (before ++ added area s (act t) t.name) ts) f) e)
      (then_right (ask_step A area s before t) (ask_steps A area (next_style s (act t)) (before ++ added area s (act t) t.name) ts) f))

  positional_first_lem : (s : Style) (before : List Parameter) (ts : List Step) → ask_steps A area s before ts ≡ fine → positional_first (added_from area s ts) ≡ true
  unfolding positional
  positional_first_lem s before [] f = refl
  positional_first_lem s before (t ∷ ts) f =
      go (act t) (λ (s' : Style) (b : List Parameter). positional_first_lem s' b ts) (then_right (ask_step A area s before t) (ask_steps A area (next_style s (act t)) (before ++ added area s (act t) t.name) ts) f)
    where
      plainly : (b : Bool) (before' : List Parameter) → b ≡ takes_position s → ((s' : Style) (b' : List Parameter) → ask_steps A area s' b' ts ≡ fine → positional_first (added_from area s' ts) ≡ true)
          → ask_steps A area s before' ts ≡ fine → cond b (positional_first (added_from area s ts)) (all (λ p. not (positional p)) (added_from area s ts)) ≡ true
      plainly true before' e ih g = ih s before' g
      plainly false before' e ih g = none_positional s before' ts (sym e) g

      go : (a : Act) → ((s' : Style) (b : List Parameter) → ask_steps A area s' b ts ≡ fine → positional_first (added_from area s' ts) ≡ true)
          → ask_steps A area (next_style s a) (before ++ added area s a t.name) ts ≡ fine
          → positional_first (added area s a t.name ++ added_from area (next_style s a) ts) ≡ true
      go (adds required) ih g = plainly (takes_position s) (before ++ added area s (adds required) t.name) refl ih g
      go (adds optional) ih g = plainly (takes_position s) (before ++ added area s (adds optional) t.name) refl ih g
      go (adds (defaulted v)) ih g = plainly (takes_position s) (before ++ added area s (adds (defaulted v)) t.name) refl ih g
      go (adds args) ih g = none_positional named_only (before ++ added area s (adds args) t.name) ts refl g
      go (adds kwargs) ih g = none_positional no_more (before ++ added area s (adds kwargs) t.name) ts refl g
      go slash ih g = ih pos_or_named (before ++ []) g
      go bare_star ih g = ih named_only (before ++ []) g
      go unknown_code ih g = ih s (before ++ []) g

-- ---- no name is that of two nameable parameters

module _ (A : ℕ) (area : List ℕ) where
  names_apart_lem : (s : Style) (before : List Parameter) (ts : List Step) → ask_steps A area s before ts ≡ fine → names_apart before (added_from area s ts) ≡ true
  unfolding nameable text_in
  names_apart_lem s before [] f = refl
  names_apart_lem s before (t ∷ ts) f =
      go (act t) (name_new A area s before t (ask_steps A area (next_style s (act t)) (before ++ added area s (act t) t.name) ts) f)
      (names_apart_lem (next_style s (act t)) (before ++ added area s (act t) t.name) ts
      (then_right (ask_step A area s before t) (ask_steps A area (next_style s (act t)) (before ++ added area s (act t) t.name) ts) f))
    where
      go : (a : Act) → name_is_new area s before a t.name ≡ true
          → names_apart (before ++ added area s a t.name) (added_from area (next_style s a) ts) ≡ true
          → names_apart before (added area s a t.name ++ added_from area (next_style s a) ts) ≡ true
      go (adds k) new ih =
          and_both (not (plain k && takes_name s) || not (known before (bytes_at area t.name))) (names_apart (before ++ added area s (adds k) t.name) (added_from area (next_style s (adds k)) ts)) new ih
      go slash new ih = rw (append-nil before) at ih
      go bare_star new ih = rw (append-nil before) at ih
      go unknown_code new ih = rw (append-nil before) at ih

-- ---- nameable names lie inside the area

added_inside : (area : List ℕ) (s : Style) (a : Act) (name : ℕ) → (not (has_name a) || is_text 1 area name) ≡ true → all (name_inside area) (added area s a name) ≡ true
unfolding name_inside nameable text_in is_text
added_inside area s (adds k) name e = go (plain k) (takes_name s) (inside area name) (leb 1 (size_of name)) (leb (size_of name) 64) e
  where
    go : (p q i x y : Bool) → (not p || i && x && y) ≡ true → ((not (p && q) || i) && true) ≡ true
    go false q i x y f = refl
    go true true true x y f = refl
    go true false true x y f = refl
    go true true false x y f = absurd (false≢true f)
    go true false false x y f = absurd (false≢true f)
added_inside area s slash name e = refl
added_inside area s bare_star name e = refl
added_inside area s unknown_code name e = refl

names_inside_lem : (area : List ℕ) (s : Style) (ts : List Step) → all (step_name area) ts ≡ true → all (name_inside area) (added_from area s ts) ≡ true
unfolding step_name
names_inside_lem area s [] e = refl
names_inside_lem area s (t ∷ ts) e =
    all_append (name_inside area) (added area s (act t) t.name) (added_from area (next_style s (act t)) ts)
    (added_inside area s (act t) t.name (and_left (step_name area t) (all (step_name area) ts) e))
    (names_inside_lem area (next_style s (act t)) ts (and_right (step_name area t) (all (step_name area) ts) e))

-- ---- of a record that passes

module _ (A : ℕ) (cells area : List ℕ) (passes : ask_parameters A cells area ≡ fine) where
  abbrev third : Answer
  third = ask 3 (names_inside area (read_parameters cells))

  abbrev fourth : Answer
  fourth = ask 4 (defaults_right area (read_parameters cells).steps)

  abbrev steps : Answer
  steps = ask_steps A area pos_only [] (read_parameters cells).steps

  -- 3 to 7 pass
  from_third : (third then fourth then steps) ≡ fine
  unfolding ask_parameters
  from_third =
      then_right (ask 2 (codes_known (read_parameters cells).steps)) (third then fourth then steps)
      (then_right (ask 1 (whole_steps A cells)) (ask 2 (codes_known (read_parameters cells).steps) then third then fourth then steps) passes)

  pub names_fine : names_inside area (read_parameters cells) ≡ true
  names_fine = ask_true 3 (names_inside area (read_parameters cells)) (then_left third (fourth then steps) from_third)

  pub defaults_fine : defaults_right area (read_parameters cells).steps ≡ true
  defaults_fine = ask_true 4 (defaults_right area (read_parameters cells).steps) (then_left fourth steps (then_right third (fourth then steps) from_third))

  pub steps_fine : ask_steps A area pos_only [] (read_parameters cells).steps ≡ fine
  steps_fine = then_right fourth steps (then_right third (fourth then steps) from_third)

  pub list_positional_first : positional_first (list_of cells area) ≡ true
  unfolding list_of parameters_of
  list_positional_first = positional_first_lem A area pos_only [] (read_parameters cells).steps steps_fine

  pub list_names_apart : names_apart [] (list_of cells area) ≡ true
  unfolding list_of parameters_of
  list_names_apart = names_apart_lem A area pos_only [] (read_parameters cells).steps steps_fine

  pub list_name_inside : all (name_inside area) (list_of cells area) ≡ true
  unfolding list_of parameters_of names_inside
  list_name_inside =
      names_inside_lem area pos_only (read_parameters cells).steps
      (and_right (is_text 1 area (read_parameters cells).function) (all (step_name area) (read_parameters cells).steps) names_fine)
