-- Which numbers the questions refuse with: a parameter record's with 1 to 7, a call record's with 9 to 13, the board's with 14, those of binding
-- with 15 to 19 as long as they read the arguments, then with 20 to 24. Before them: a chain refuses with numbers that pass a test where each of its questions does, and what that says of a refusal.
-- Assumes nothing.
use mathlib.Core.Path.{◌≡◌, refl, sym, ap, ◌∙◌}
use mathlib.Core.Bool.{Bool, true, false, cond, ◌&&◌, ◌||◌}
use mathlib.Core.List.{List, [], ◌∷◌, ◌++◌}
use Prim.Native.Nat.{ℕ, suc, ◌≤◌}
use native.Mathlib.Omega.{arith}
use borrow.Author.Tests.{leb-true, le-leb}
use lib.Dec.{leb}
use lib.ListN.{length}
use Rattle.rules.specs.Text.{among}
use Rattle.rules.specs.Value.{Value}
use Rattle.rules.specs.Answer.{Answer, fine, refuse, ◌then◌, ask, Detail, name, spec_area, call_area, part_of}
use Rattle.rules.specs.ParameterRecord.{Step, read_parameters}
use Rattle.rules.specs.CallRecord.{Call, Named, Entry, Key, word, number, word_of, read_call, entries_of, positionals_of, named_of}
use Rattle.rules.specs.Parameters.{Style, pos_only, pos_or_named, named_only, no_more, Parameter, act, next_style, may_stand, added, is_required, has_args, has_kwargs}
use Rattle.rules.specs.ParameterQuestions.{whole_steps, codes_known, names_inside, defaults_right, has_room, name_is_new, ask_step, ask_steps, ask_parameters}
use Rattle.rules.specs.Placement.{Slot, is_unfilled, from_p, place, star_remainder, named_remainder}
use Rattle.rules.specs.Board.{board_least}
use Rattle.rules.specs.CallQuestions.{lengths_right, kinds_right, parts_well_formed, entries_differ, names_differ, ask_form, ask_call, ask_board}
use Rattle.rules.specs.Binding.{star_passes, double_passes, texts_of, named_by, ask_repeats, names_filled, ask_entry, ask_entries, missing, ask_required, ask_star_remainder, ask_named_remainder, ask_given, ask_placed, ask_binding}
use Rattle.rules.specs.Collection.{refused, outcome_of}
use Rattle.rules.proofs.LawsListing.{and_left, and_right, and_both}
use Rattle.rules.proofs.LawsAnswer.{given_then}

-- ---- chains

-- nothing is refused, or with a number that passes a test
abbrev pub refuses_by : (ℕ → Bool) → Answer → Bool
refuses_by test fine = true
refuses_by test (refuse n d) = test n

module _ (test : ℕ → Bool) where
  pub then_by : (a b : Answer) → refuses_by test a ≡ true → refuses_by test b ≡ true → refuses_by test (a then b) ≡ true
  then_by fine b e f = f
  then_by (refuse n d) b e f = e

  pub ask_by : (n : ℕ) (b : Bool) → test n ≡ true → refuses_by test (ask n b) ≡ true
  ask_by n true e = refl
  ask_by n false e = e

  pub number_by : (a : Answer) (n : ℕ) (d : Detail) → refuses_by test a ≡ true → a ≡ refuse n d → test n ≡ true
  number_by a n d e is = sym (ap (refuses_by test) is) ∙ e

-- a number is one of those from `least` to `most`
abbrev pub number_in : ℕ → ℕ → ℕ → Bool
number_in least most n = leb least n && leb n most

abbrev pub refuses_in : ℕ → ℕ → Answer → Bool
refuses_in least most a = refuses_by (number_in least most) a

pub in_range : (least most n : ℕ) → least ≤ n → n ≤ most → number_in least most n ≡ true
in_range least most n l m = and_both (leb least n) (leb n most) (le-leb least n l) (le-leb n most m)

-- where all of them pass a test, the numbers of a chain do
pub wider_by : (least most : ℕ) (test : ℕ → Bool) → ((n : ℕ) → least ≤ n → n ≤ most → test n ≡ true) → (a : Answer) → refuses_in least most a ≡ true → refuses_by test a ≡ true
wider_by least most test h fine e = refl
wider_by least most test h (refuse n d) e =
    h n (leb-true least n (and_left (leb least n) (leb n most) e)) (leb-true n most (and_right (leb least n) (leb n most) e))

-- a number of some is one of more
pub wider_in : (least most least' most' : ℕ) (a : Answer) → least' ≤ least → most ≤ most' → refuses_in least most a ≡ true → refuses_in least' most' a ≡ true
wider_in least most least' most' a l m e =
    wider_by least most (number_in least' most') (λ n low high. in_range least' most' n (omega arith) (omega arith)) a e

-- a chain's refusal is the outcome's
pub outcome_by : (test : ℕ → Bool) (a : Answer) (qs : List Parameter) (P : List Value) (N : List Named) (board : List ℕ) (n : ℕ) (d : Detail)
    → refuses_by test a ≡ true → outcome_of a qs P N board ≡ refused n d → test n ≡ true
outcome_by test fine qs P N board n d h e = let z : ◌≡◌ {A = ℕ} 0 1 = cc in absurd (omega arith)
outcome_by test (refuse m f) qs P N board n d h e = let same : n ≡ m = cc in rw same h

-- ---- 1 to 7

module _ (A : ℕ) (area : List ℕ) where
  step_in : (s : Style) (before : List Parameter) (t : Step) → refuses_in 5 7 (ask_step A area s before t) ≡ true
  unfolding ask_step
  step_in s before t = go (may_stand s (act t)) (has_room A before (act t)) (name_is_new area s before (act t) t.name)
    where
      go : (a b c : Bool) → refuses_in 5 7 (ask 5 a then ask 6 b then ask 7 c) ≡ true
      go false b c = refl
      go true false c = refl
      go true true c = ask_by (number_in 5 7) 7 c refl

  pub steps_in : (s : Style) (before : List Parameter) (ts : List Step) → refuses_in 5 7 (ask_steps A area s before ts) ≡ true
  steps_in s before [] = refl
  steps_in s before (t ∷ ts) =
      then_by (number_in 5 7) (ask_step A area s before t) (ask_steps A area (next_style s (act t)) (before ++ added area s (act t) t.name) ts) (step_in s before t)
      (steps_in (next_style s (act t)) (before ++ added area s (act t) t.name) ts)

pub parameters_in_lem : (A : ℕ) (cells area : List ℕ) → refuses_in 1 7 (ask_parameters A cells area) ≡ true
unfolding ask_parameters
parameters_in_lem A cells area =
    go (whole_steps A cells) (codes_known (read_parameters cells).steps) (names_inside area (read_parameters cells)) (defaults_right area (read_parameters cells).steps)
    (ask_steps A area pos_only [] (read_parameters cells).steps) (steps_in A area pos_only [] (read_parameters cells).steps)
  where
    go : (a b c d : Bool) (steps : Answer) → refuses_in 5 7 steps ≡ true → refuses_in 1 7 (ask 1 a then ask 2 b then ask 3 c then ask 4 d then steps) ≡ true
    go false b c d steps h = refl
    go true false c d steps h = refl
    go true true false d steps h = refl
    go true true true false steps h = refl
    go true true true true steps h = wider_in 5 7 1 7 steps (omega arith) (omega arith) h

-- ---- 9 to 13, 14

pub form_in : (B : ℕ) (cells area : List ℕ) → refuses_in 9 11 (ask_form B cells area) ≡ true
unfolding ask_form
form_in B cells area = go (lengths_right B cells) (kinds_right (read_call cells)) (parts_well_formed area (read_call cells))
  where
    go : (a b c : Bool) → refuses_in 9 11 (ask 9 a then ask 10 b then ask 11 c) ≡ true
    go false b c = refl
    go true false c = refl
    go true true c = ask_by (number_in 9 11) 11 c refl

pub call_in_lem : (B : ℕ) (cells area : List ℕ) → refuses_in 9 13 (ask_call B cells area) ≡ true
unfolding ask_call
call_in_lem B cells area =
    then_by (number_in 9 13) (ask_form B cells area) (ask 12 (entries_differ area (read_call cells)) then ask 13 (names_differ area (read_call cells)))
    (wider_in 9 11 9 13 (ask_form B cells area) (omega arith) (omega arith) (form_in B cells area))
    (then_by (number_in 9 13) (ask 12 (entries_differ area (read_call cells))) (ask 13 (names_differ area (read_call cells)))
    (ask_by (number_in 9 13) 12 (entries_differ area (read_call cells)) refl) (ask_by (number_in 9 13) 13 (names_differ area (read_call cells)) refl))

pub board_in : (A B : ℕ) (board : List ℕ) → refuses_in 14 14 (ask_board A B board) ≡ true
unfolding ask_board
board_in A B board = ask_by (number_in 14 14) 14 (leb (board_least A B) (length board)) refl

-- ---- 15 to 19

repeats_in : (P : List Value) (written : List Named) (i : ℕ) (qs : List Parameter) → refuses_in 15 19 (ask_repeats P written i qs) ≡ true
repeats_in P written i [] = refl
repeats_in P written i (q ∷ qs) = go (from_p P i q && named_by written q) (repeats_in P written (suc i) qs)
  where
    go : (b : Bool) → refuses_in 15 19 (ask_repeats P written (suc i) qs) ≡ true
        → refuses_in 15 19 (cond b (refuse 16 (name (part_of spec_area q.name))) (ask_repeats P written (suc i) qs)) ≡ true
    go true h = refl
    go false h = h

entry_in : (qs : List Parameter) (P : List Value) (before : List Named) (k : Key) → refuses_in 15 19 (ask_entry qs P before k) ≡ true
entry_in qs P before (word t) = go (names_filled P 0 qs t.bytes || among t.bytes (texts_of before))
  where
    go : (b : Bool) → refuses_in 15 19 (cond b (refuse 19 (name (part_of call_area t))) fine) ≡ true
    go true = refl
    go false = refl
entry_in qs P before (number n) = refl

pub entries_in : (qs : List Parameter) (P : List Value) (before : List Named) (es : List Entry) → refuses_in 15 19 (ask_entries qs P before es) ≡ true
entries_in qs P before [] = refl
entries_in qs P before (e ∷ es) =
    then_by (number_in 15 19) (ask_entry qs P before e.key) (ask_entries qs P (before ++ word_of e.key e.value) es) (entry_in qs P before e.key)
    (entries_in qs P (before ++ word_of e.key e.value) es)

pub given_in : (qs : List Parameter) (c : Call) → refuses_in 15 19 (ask_given qs c fine) ≡ true
given_in qs c =
    let repeats : Answer = ask_repeats (positionals_of c) c.named 0 qs in
    let seventeen : Answer = ask 17 (double_passes c.double) in
    let entries : Answer = ask_entries qs (positionals_of c) c.named (entries_of c.double) in
    then_by (number_in 15 19) (ask 15 (star_passes c.star)) (repeats then seventeen then entries then fine) (ask_by (number_in 15 19) 15 (star_passes c.star) refl)
    (then_by (number_in 15 19) repeats (seventeen then entries then fine) (repeats_in (positionals_of c) c.named 0 qs)
    (then_by (number_in 15 19) seventeen (entries then fine) (ask_by (number_in 15 19) 17 (double_passes c.double) refl)
    (then_by (number_in 15 19) entries fine (entries_in qs (positionals_of c) c.named (entries_of c.double)) refl)))

-- ---- 20 to 24

required_in : (qs : List Parameter) (ss : List Slot) → refuses_in 20 23 (ask_required qs ss) ≡ true
required_in [] ss = refl
required_in (q ∷ qs) [] = refl
required_in (q ∷ qs) (s ∷ ss) = go (is_required q.kind && is_unfilled s) q.style (required_in qs ss)
  where
    go : (b : Bool) (style : Style) → refuses_in 20 23 (ask_required qs ss) ≡ true
        → refuses_in 20 23 (cond b (refuse (missing style) (name (part_of spec_area q.name))) (ask_required qs ss)) ≡ true
    go true pos_only h = refl
    go true pos_or_named h = refl
    go true named_only h = refl
    go true no_more h = refl
    go false style h = h

star_in : (b : Bool) (vs : List Value) → refuses_in 20 23 (ask_star_remainder b vs) ≡ true
star_in true vs = refl
star_in false [] = refl
star_in false (v ∷ vs) = refl

-- what 24 comes before
pub late_in : (qs : List Parameter) (P : List Value) (N : List Named) → refuses_in 20 23 (ask_required qs (place qs P N) then ask_star_remainder (has_args qs) (star_remainder qs P)) ≡ true
late_in qs P N =
    then_by (number_in 20 23) (ask_required qs (place qs P N)) (ask_star_remainder (has_args qs) (star_remainder qs P)) (required_in qs (place qs P N)) (star_in (has_args qs) (star_remainder qs P))

pub named_in : (b : Bool) (vs : List Named) → refuses_in 20 24 (ask_named_remainder b vs) ≡ true
named_in true vs = refl
named_in false [] = refl
named_in false (v ∷ vs) = refl

pub placed_in : (qs : List Parameter) (P : List Value) (N : List Named) → refuses_in 20 24 (ask_placed qs P N) ≡ true
unfolding ask_placed
placed_in qs P N =
    let late : Answer = ask_required qs (place qs P N) then ask_star_remainder (has_args qs) (star_remainder qs P) in
    then_by (number_in 20 24) (ask_named_remainder (has_kwargs qs) (named_remainder qs N)) late (named_in (has_kwargs qs) (named_remainder qs N))
    (wider_in 20 23 20 24 late (omega arith) (omega arith) (late_in qs P N))

-- ---- 15 to 24

pub binding_in : (qs : List Parameter) (c : Call) → refuses_in 15 24 (ask_binding qs c) ≡ true
unfolding ask_binding
binding_in qs c =
    let placed : Answer = ask_placed qs (positionals_of c) (named_of c) in
    rw (given_then qs c placed)
    (then_by (number_in 15 24) (ask_given qs c fine) placed
    (wider_in 15 19 15 24 (ask_given qs c fine) (omega arith) (omega arith) (given_in qs c))
    (wider_in 20 24 15 24 placed (omega arith) (omega arith) (placed_in qs (positionals_of c) (named_of c))))
