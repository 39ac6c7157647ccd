-- Laws of a list that passes 1 to 7, beside those of `rules`: the positional-only parameters come first, *args and **kwargs stand once at most,
-- and there are no more than A parameters. They follow from the order of the styles under which the parameters were added.
-- Assumes nothing.
use mathlib.Core.Path.{◌≡◌, refl}
use mathlib.Core.Bool.{Bool, true, false, cond, not, ◌&&◌, false≢true}
use mathlib.Core.List.{List, [], ◌∷◌, ◌++◌, append-nil, append_assoc}
use Prim.Native.Nat.{ℕ, ◌≤◌, ◌<◌}
use native.Mathlib.Omega.{arith}
use borrow.Author.Tests.{leb-true, le-leb, ltb-true, ltb-false, le-ltb}
use lib.Dec.{leb, ltb}
use lib.ListN.{length, length-append}
use Rattle.rules.specs.Listing.{all}
use Rattle.rules.specs.Answer.{Answer, fine, ◌then◌, ask}
use Rattle.rules.specs.ParameterRecord.{Step, read_parameters}
use Rattle.rules.specs.Parameters.{Style, pos_only, pos_or_named, named_only, no_more, rank, comes_before, ParameterKind, required, optional, defaulted, args, kwargs, Act, adds, slash, bare_star, unknown_code, act, may_stand, next_style, Parameter, plain, positional_only, is_args, is_kwargs, added, added_from, parameters_of}
use Rattle.rules.specs.ParameterQuestions.{has_room, name_is_new, ask_step, ask_steps, ask_parameters, list_of}
use Rattle.rules.proofs.LawsListing.{and_left, and_right, and_both, and_no_right, not_of}
use Rattle.rules.proofs.LawsAnswer.{then_left, then_right, ask_true}
use Rattle.rules.proofs.LawsParameters.{steps_fine}
use Rattle.original.proofs.LawsSlots.{come_first, once}

-- ---- the styles follow each other

-- each parameter was added under a style that does not come before s, may stand under it, and the rest follow it
abbrev in_order : Style → List Parameter → Bool
in_order s [] = true
in_order s (q ∷ qs) = leb (rank s) (rank q.style) && may_stand q.style (adds q.kind) && in_order (next_style q.style (adds q.kind)) qs

module _ (s : Style) (q : Parameter) (qs : List Parameter) (e : in_order s (q ∷ qs) ≡ true) where
  not_before : rank s ≤ rank q.style
  not_before =
      leb-true (rank s) (rank q.style) (and_left (leb (rank s) (rank q.style)) (may_stand q.style (adds q.kind)) (and_left (leb (rank s) (rank q.style) && may_stand q.style (adds q.kind)) (in_order (next_style q.style (adds q.kind)) qs) e))

  stands : may_stand q.style (adds q.kind) ≡ true
  stands =
      and_right (leb (rank s) (rank q.style)) (may_stand q.style (adds q.kind)) (and_left (leb (rank s) (rank q.style) && may_stand q.style (adds q.kind)) (in_order (next_style q.style (adds q.kind)) qs) e)

  rest_order : in_order (next_style q.style (adds q.kind)) qs ≡ true
  rest_order = and_right (leb (rank s) (rank q.style) && may_stand q.style (adds q.kind)) (in_order (next_style q.style (adds q.kind)) qs) e

order_weaker : (s t : Style) (qs : List Parameter) → rank s ≤ rank t → in_order t qs ≡ true → in_order s qs ≡ true
order_weaker s t [] h e = refl
order_weaker s t (q ∷ qs) h e =
    and_both (leb (rank s) (rank q.style) && may_stand q.style (adds q.kind)) (in_order (next_style q.style (adds q.kind)) qs)
    (and_both (leb (rank s) (rank q.style)) (may_stand q.style (adds q.kind)) (le-leb (rank s) (rank q.style) (omega (arith, not_before t q qs e))) (stands t q qs e))
    (rest_order t q qs e)

-- what a style is that something stands under, and the style after it
next_least : (k : ParameterKind) (t : Style) → may_stand t (adds k) ≡ true → rank t ≤ rank (next_style t (adds k))
unfolding comes_before
next_least required t m = omega arith
next_least optional t m = omega arith
next_least (defaulted v) t m = omega arith
next_least args t m = omega (arith, ltb-true (rank t) 2 m)
next_least kwargs t m = omega (arith, ltb-true (rank t) 3 m)

args_early : (k : ParameterKind) (t : Style) → may_stand t (adds k) ≡ true → 2 ≤ rank t → is_args k ≡ false
unfolding comes_before
args_early required t m h = refl
args_early optional t m h = refl
args_early (defaulted v) t m h = refl
args_early args t m h = absurd (omega (arith, ltb-true (rank t) 2 m))
args_early kwargs t m h = refl

stands_early : (k : ParameterKind) (t : Style) → may_stand t (adds k) ≡ true → rank t < 3
unfolding comes_before
stands_early required t m = ltb-true (rank t) 3 m
stands_early optional t m = ltb-true (rank t) 3 m
stands_early (defaulted v) t m = ltb-true (rank t) 3 m
stands_early args t m = omega (arith, ltb-true (rank t) 2 m)
stands_early kwargs t m = ltb-true (rank t) 3 m

-- ---- what follows from their order

no_args : (s : Style) (qs : List Parameter) → 2 ≤ rank s → in_order s qs ≡ true → all (λ q. not (is_args q.kind)) qs ≡ true
no_args s [] h e = refl
no_args s (q ∷ qs) h e =
    and_both (not (is_args q.kind)) (all (λ p. not (is_args p.kind)) qs)
    (not_of (is_args q.kind) (args_early q.kind q.style (stands s q qs e) (omega (arith, not_before s q qs e))))
    (no_args (next_style q.style (adds q.kind)) qs (omega (arith, not_before s q qs e, next_least q.kind q.style (stands s q qs e))) (rest_order s q qs e))

one_args : (s : Style) (qs : List Parameter) → in_order s qs ≡ true → once (λ q. is_args q.kind) qs ≡ true
one_args s [] e = refl
one_args s (q ∷ qs) e = go q.kind (rest_order s q qs e) (one_args (next_style q.style (adds q.kind)) qs (rest_order s q qs e))
  where
    go : (k : ParameterKind) → in_order (next_style q.style (adds k)) qs ≡ true → once (λ p. is_args p.kind) qs ≡ true → cond (is_args k) (all (λ p. not (is_args p.kind)) qs) (once (λ p. is_args p.kind) qs) ≡ true
    go required f ih = ih
    go optional f ih = ih
    go (defaulted v) f ih = ih
    go args f ih = no_args named_only qs (omega arith) f
    go kwargs f ih = ih

one_kwargs : (s : Style) (qs : List Parameter) → in_order s qs ≡ true → once (λ q. is_kwargs q.kind) qs ≡ true
one_kwargs s [] e = refl
one_kwargs s (q ∷ qs) e = go q.kind (rest_order s q qs e) (one_kwargs (next_style q.style (adds q.kind)) qs (rest_order s q qs e))
  where
    last : (ps : List Parameter) → in_order no_more ps ≡ true → all (λ p. not (is_kwargs p.kind)) ps ≡ true
    last [] f = refl
    last (p ∷ ps) f = absurd (omega (arith, not_before no_more p ps f, stands_early p.kind p.style (stands no_more p ps f)))

    go : (k : ParameterKind) → in_order (next_style q.style (adds k)) qs ≡ true → once (λ p. is_kwargs p.kind) qs ≡ true → cond (is_kwargs k) (all (λ p. not (is_kwargs p.kind)) qs) (once (λ p. is_kwargs p.kind) qs) ≡ true
    go required f ih = ih
    go optional f ih = ih
    go (defaulted v) f ih = ih
    go args f ih = ih
    go kwargs f ih = last qs f

no_only : (s : Style) (qs : List Parameter) → 1 ≤ rank s → in_order s qs ≡ true → all (λ q. not (positional_only q)) qs ≡ true
unfolding positional_only comes_before
no_only s [] h e = refl
no_only s (q ∷ qs) h e =
    and_both (not (plain q.kind && ltb (rank q.style) 1)) (all (λ p. not (positional_only p)) qs)
    (not_of (plain q.kind && ltb (rank q.style) 1) (and_no_right (plain q.kind) (ltb (rank q.style) 1) (le-ltb (rank q.style) 1 (omega (arith, not_before s q qs e)))))
    (no_only (next_style q.style (adds q.kind)) qs (omega (arith, not_before s q qs e, next_least q.kind q.style (stands s q qs e))) (rest_order s q qs e))

only_first : (s : Style) (qs : List Parameter) → in_order s qs ≡ true → come_first positional_only qs ≡ true
unfolding positional_only comes_before
only_first s [] e = refl
only_first s (q ∷ qs) e = go q.kind (ltb (rank q.style) 1) refl (rest_order s q qs e) (only_first (next_style q.style (adds q.kind)) qs (rest_order s q qs e))
  where
    go : (k : ParameterKind) (b : Bool) → ltb (rank q.style) 1 ≡ b → in_order (next_style q.style (adds k)) qs ≡ true → come_first positional_only qs ≡ true
        → cond (plain k && b) (come_first positional_only qs) (all (λ p. not (positional_only p)) qs) ≡ true
    go required true p f ih = ih
    go required false p f ih = no_only q.style qs (ltb-false (rank q.style) 1 p) f
    go optional true p f ih = ih
    go optional false p f ih = no_only q.style qs (ltb-false (rank q.style) 1 p) f
    go (defaulted v) true p f ih = ih
    go (defaulted v) false p f ih = no_only q.style qs (ltb-false (rank q.style) 1 p) f
    go args b p f ih = no_only named_only qs (omega arith) f
    go kwargs b p f ih = no_only no_more qs (omega arith) f

-- ---- of steps that pass

module _ (A : ℕ) (area : List ℕ) where
  may_stand_lem : (s : Style) (before : List Parameter) (t : Step) → ask_step A area s before t ≡ fine → may_stand s (act t) ≡ true
  unfolding ask_step
  may_stand_lem s before t e = ask_true 5 (may_stand s (act t)) (then_left (ask 5 (may_stand s (act t))) (ask 6 (has_room A before (act t)) then ask 7 (name_is_new area s before (act t) t.name)) e)

  has_room_lem : (s : Style) (before : List Parameter) (t : Step) → ask_step A area s before t ≡ fine → has_room A before (act t) ≡ true
  unfolding ask_step
  has_room_lem s before t e =
      ask_true 6 (has_room A before (act t)) (then_left (ask 6 (has_room A before (act t))) (ask 7 (name_is_new area s before (act t) t.name)) (then_right (ask 5 (may_stand s (act t))) (ask 6 (has_room A before (act t)) then ask 7 (name_is_new area s before (act t) t.name)) e))

  in_order_lem : (s : Style) (before : List Parameter) (ts : List Step) → ask_steps A area s before ts ≡ fine → in_order s (added_from area s ts) ≡ true
  unfolding comes_before
  in_order_lem s before [] f = refl
  in_order_lem s before (t ∷ ts) f =
      go (act t) (may_stand_lem s before t (then_left (ask_step A area s before t) rest f)) (in_order_lem (next_style s (act t)) (before ++ added area s (act t) t.name) ts (then_right (ask_step A area s before t) rest f))
    where
      rest : Answer
      rest = ask_steps A area (next_style s (act t)) (before ++ added area s (act t) t.name) ts

      go : (a : Act) → may_stand s a ≡ true → in_order (next_style s a) (added_from area (next_style s a) ts) ≡ true → in_order s (added area s a t.name ++ added_from area (next_style s a) ts) ≡ true
      go (adds k) m ih =
          and_both (leb (rank s) (rank s) && may_stand s (adds k)) (in_order (next_style s (adds k)) (added_from area (next_style s (adds k)) ts))
          (and_both (leb (rank s) (rank s)) (may_stand s (adds k)) (le-leb (rank s) (rank s) (omega arith)) m) ih
      go slash m ih = order_weaker s pos_or_named (added_from area pos_or_named ts) (omega (arith, ltb-true (rank s) 1 m)) ih
      go bare_star m ih = order_weaker s named_only (added_from area named_only ts) (omega (arith, ltb-true (rank s) 2 m)) ih
      go unknown_code m ih = absurd (false≢true m)

  few_added : (s : Style) (before : List Parameter) (ts : List Step) → ask_steps A area s before ts ≡ fine → length before ≤ A → length (before ++ added_from area s ts) ≤ A
  few_added s before [] f h = rw (append-nil before) h
  few_added s before (t ∷ ts) f h =
      rw (append_assoc before (added area s (act t) t.name) (added_from area (next_style s (act t)) ts))
      at (few_added (next_style s (act t)) (before ++ added area s (act t) t.name) ts (then_right (ask_step A area s before t) rest f) (added_few (act t) (has_room_lem s before t (then_left (ask_step A area s before t) rest f))))
    where
      rest : Answer
      rest = ask_steps A area (next_style s (act t)) (before ++ added area s (act t) t.name) ts

      added_few : (a : Act) → has_room A before a ≡ true → length (before ++ added area s a t.name) ≤ A
      added_few (adds k) m = omega (arith, ltb-true (length before) A m, length-append before (added area s (adds k) t.name))
      added_few slash m = rw (append-nil before) h
      added_few bare_star m = rw (append-nil before) h
      added_few unknown_code m = rw (append-nil before) h

-- ---- of a record that passes

module _ (A : ℕ) (cells area : List ℕ) (passes : ask_parameters A cells area ≡ fine) where
  list_in_order : in_order pos_only (list_of cells area) ≡ true
  unfolding list_of parameters_of
  list_in_order = in_order_lem A area pos_only [] (read_parameters cells).steps (steps_fine A cells area passes)

  pub list_only_first : come_first positional_only (list_of cells area) ≡ true
  list_only_first = only_first pos_only (list_of cells area) list_in_order

  pub list_one_args : once (λ q. is_args q.kind) (list_of cells area) ≡ true
  list_one_args = one_args pos_only (list_of cells area) list_in_order

  pub list_one_kwargs : once (λ q. is_kwargs q.kind) (list_of cells area) ≡ true
  list_one_kwargs = one_kwargs pos_only (list_of cells area) list_in_order

  pub list_few : length (list_of cells area) ≤ A
  unfolding list_of parameters_of
  list_few = few_added A area pos_only [] (read_parameters cells).steps (steps_fine A cells area passes) (omega arith)
