-- Laws of what is asked of a step (01, questions 5 to 7), over the number A of parameters that a list may have: of a step that may not stand,
-- of a mark, of a step that adds a parameter; then what is the same for the three plain kinds; then what a step of the code does.
-- Assumes nothing.
use mathlib.Core.Path.{◌≡◌, refl, ◌∙◌}
use mathlib.Core.Bool.{true, false, false≢true}
use mathlib.Core.List.{List}
use Prim.Native.Nat.{ℕ, ◌<◌, ◌≤◌}
use lib.Dec.{ltb}
use lib.ListN.{length}
use borrow.Author.Tests.{lt-ltb, le-ltb}
use Rattle.rules.specs.Answer.{fine, refuse, ask, ◌then◌, none as no_detail}
use Rattle.rules.specs.ParameterRecord.{Step as RecordStep}
use Rattle.rules.specs.Parameters.{Style, no_more, ParameterKind, required, optional, defaulted, args, kwargs, adds, slash, bare_star, act, act_of, may_stand, next_style, Parameter, plain, comes_before, is_args, is_kwargs}
use Rattle.rules.specs.ParameterQuestions.{name_is_new, ask_step}
use Rattle.builder.specs.declared.params.Step.{Step}
use Rattle.builder.specs.Params.{kind_for, step_of}
use Rattle.builder.proofs.LawsCodes.{plain_code, plain_adds}

-- ---- what is asked of a step, over the number A of parameters that a list may have

module _ (A : ℕ) (area : List ℕ) (s : Style) (before : List Parameter) (t : RecordStep) where
  -- question 5
  pub ask_step_5 : may_stand s (act t) ≡ false → ask_step A area s before t ≡ refuse 5 no_detail
  unfolding ask_step
  ask_step_5 e = rw e

  pub ask_step_slash : act t ≡ slash → may_stand s slash ≡ true → ask_step A area s before t ≡ fine
  unfolding ask_step
  ask_step_slash e m = rw (e, m)

  pub ask_step_star : act t ≡ bare_star → may_stand s bare_star ≡ true → ask_step A area s before t ≡ fine
  unfolding ask_step
  ask_step_star e m = rw (e, m)

  -- a step that adds a parameter and may stand here is asked 6 and 7
  module _ (k : ParameterKind) (e : act t ≡ adds k) (m : may_stand s (adds k) ≡ true) where
    pub ask_step_adds
        : ask_step A area s before t
        ≡ ask 6 (ltb (length before) A)
        then ask 7 (name_is_new area s before (adds k) t.name)
    unfolding ask_step
    ask_step_adds = rw (e, m)

    pub ask_step_6 : A ≤ length before → ask_step A area s before t ≡ refuse 6 no_detail
    ask_step_6 h = ask_step_adds ∙ rw (le-ltb (length before) A h)

    pub ask_step_fine
        : length before < A
        → name_is_new area s before (adds k) t.name ≡ true
        → ask_step A area s before t ≡ fine
    ask_step_fine h n = ask_step_adds ∙ rw (lt-ltb (length before) A h, n)

-- ---- the plain kinds, of codes 1 to 3

pub may_stand_plain : (s : Style) (k : ParameterKind) → plain k ≡ true → may_stand s (adds k) ≡ comes_before s no_more
may_stand_plain s required e = refl
may_stand_plain s optional e = refl
may_stand_plain s (defaulted v) e = refl
may_stand_plain s args e = absurd (false≢true e)
may_stand_plain s kwargs e = absurd (false≢true e)

pub next_style_plain : (s : Style) (k : ParameterKind) → plain k ≡ true → s ≡ next_style s (adds k)
next_style_plain s required e = refl
next_style_plain s optional e = refl
next_style_plain s (defaulted v) e = refl
next_style_plain s args e = absurd (false≢true e)
next_style_plain s kwargs e = absurd (false≢true e)

pub is_args_plain : (k : ParameterKind) → plain k ≡ true → is_args k ≡ false
is_args_plain required e = refl
is_args_plain optional e = refl
is_args_plain (defaulted v) e = refl
is_args_plain args e = absurd (false≢true e)
is_args_plain kwargs e = refl

pub is_kwargs_plain : (k : ParameterKind) → plain k ≡ true → is_kwargs k ≡ false
is_kwargs_plain required e = refl
is_kwargs_plain optional e = refl
is_kwargs_plain (defaulted v) e = refl
is_kwargs_plain args e = refl
is_kwargs_plain kwargs e = absurd (false≢true e)

-- ---- a step of the code

pub act_code : (s : Step) (n : ℕ) → s.code ≡ n → act (step_of s) ≡ act_of n (step_of s).default
unfolding act step_of
act_code s n e = rw e

pub act_plain : (s : Step) → 1 ≤ s.code → s.code < 4 → act (step_of s) ≡ adds (kind_for (act (step_of s)))
unfolding act step_of
act_plain s l u = plain_adds (step_of s).default s.code l u

pub kind_plain : (s : Step) → 1 ≤ s.code → s.code < 4 → plain (kind_for (act (step_of s))) ≡ true
unfolding act step_of
kind_plain s l u = plain_code (step_of s).default s.code l u
