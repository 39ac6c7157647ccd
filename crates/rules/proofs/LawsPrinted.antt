-- Laws of the printed list, in this order: a name is not longer printed than it is; a joined list is not longer than its items with a comma and a
-- blank each; the items of a sort, and each sign, by how many parameters there are of the sort; so the longest list fits its output, and a list
-- that passes 1 to 7 is such a list. Assumes nothing.
use mathlib.Core.Path.{◌≡◌, refl}
use mathlib.Core.Bool.{Bool, true, false, cond, not, ◌&&◌, ◌||◌, false≢true}
use mathlib.Core.List.{List, [], ◌∷◌, ◌++◌, map, append-nil, append_assoc}
use Prim.Native.Nat.{ℕ, suc, ◌+◌, ◌*◌, ◌≤◌}
use native.Mathlib.Omega.{arith}
use lib.Dec.{leb, eqb}
use lib.ListN.{length, take, drop, length-append, length-take}
use borrow.Author.Tests.{leb-true, le-leb, ltb-true}
use Rattle.rules.specs.Listing.{all, any, tally, keep}
use Rattle.rules.specs.Text.{bytes_at, text_in, size_of, start_of, inside, is_text}
use Rattle.rules.specs.Answer.{Answer, fine, ◌then◌, ask}
use Rattle.rules.specs.ParameterRecord.{Step, read_parameters}
use Rattle.rules.specs.Parameters.{Style, pos_only, pos_or_named, named_only, no_more, ParameterKind, required, optional, defaulted, args, kwargs, Act, adds, slash, bare_star, unknown_code, act, comes_before, may_stand, next_style, Parameter, plain, takes_position, takes_name, positional, nameable, positional_only, is_args, is_kwargs, has_args, has_kwargs, added, added_from, parameters_of}
use Rattle.rules.specs.ParameterQuestions.{has_name, step_name, has_room, name_is_new, ask_step, ask_steps, ask_parameters, list_of, names_inside}
use Rattle.rules.specs.Printed.{asterisk, without_double, without_single, printed_name, mark, item, items_of, either_way, name_only, if_any, slash_item, star_item, kwargs_item, comma, join, printed, printed_least}
use Rattle.rules.proofs.LawsListing.{and_left, and_right, all_append}
use Rattle.rules.proofs.LawsAnswer.{then_left, then_right, ask_true}
use Rattle.rules.proofs.LawsParameters.{names_fine, steps_fine}

-- ---- a name and an item

double_length : (bytes : List ℕ) → length (without_double bytes) ≤ length bytes
double_length [] = omega arith
double_length (a ∷ []) = omega arith
double_length (a ∷ b ∷ bytes) = go (eqb a asterisk && eqb b asterisk)
  where
    go : (t : Bool) → length (cond t bytes (a ∷ b ∷ bytes)) ≤ suc (suc (length bytes))
    go true = omega arith
    go false = omega arith

single_length : (bytes : List ℕ) → length (without_single bytes) ≤ length bytes
single_length [] = omega arith
single_length (a ∷ bytes) = go (eqb a asterisk)
  where
    go : (t : Bool) → length (cond t bytes (a ∷ bytes)) ≤ suc (length bytes)
    go true = omega arith
    go false = omega arith

mark_length : (k : ParameterKind) → length (mark k) ≤ 6
mark_length required = omega arith
mark_length optional = omega arith
mark_length (defaulted v) = omega arith
mark_length args = omega arith
mark_length kwargs = omega arith

item_length : (q : Parameter) → length (item q) ≤ length q.name.bytes + 6
unfolding item printed_name
item_length q =
    let s : length (without_single (without_double q.name.bytes)) ≤ length (without_double q.name.bytes) = single_length (without_double q.name.bytes) in
    let d : length (without_double q.name.bytes) ≤ length q.name.bytes = double_length q.name.bytes in
    let m : length (mark q.kind) ≤ 6 = mark_length q.kind in
    simp length-append (omega arith)

-- ---- items with a comma and a blank each

abbrev width : List (List ℕ) → ℕ
width [] = 0
width (x ∷ xs) = length x + 2 + width xs

width_append : (xs ys : List (List ℕ)) → width (xs ++ ys) ≡ width xs + width ys
width_append [] ys = omega arith
width_append (x ∷ xs) ys = omega (arith, width_append xs ys)

join_width : (xs : List (List ℕ)) → length (join comma xs) ≤ width xs
unfolding comma
join_width [] = omega arith
join_width (x ∷ []) = omega arith
join_width (x ∷ y ∷ ys) =
    let rest : length (join comma (y ∷ ys)) ≤ width (y ∷ ys) = join_width (y ∷ ys) in
    omega (arith, length-append x (comma ++ join comma (y ∷ ys)), length-append comma (join comma (y ∷ ys)))

-- ---- the items of a sort

-- a name of at most 64 bytes, if it has one
unfoldable pub short_name : Parameter → Bool
short_name q = not (plain q.kind) || leb (length q.name.bytes) 64

items_width : (test : Parameter → Bool) → ((q : Parameter) → test q ≡ true → plain q.kind ≡ true) → (qs : List Parameter) → all short_name qs ≡ true
    → width (items_of test qs) ≤ 72 * tally test qs
unfolding items_of short_name
items_width test p [] e = omega arith
items_width test p (q ∷ qs) e =
    go (test q) refl (and_left (not (plain q.kind) || leb (length q.name.bytes) 64) (all short_name qs) e)
    (items_width test p qs (and_right (not (plain q.kind) || leb (length q.name.bytes) 64) (all short_name qs) e))
  where
    short : (b : Bool) → b ≡ true → (not b || leb (length q.name.bytes) 64) ≡ true → length q.name.bytes ≤ 64
    short true h s = leb-true (length q.name.bytes) 64 s
    short false h s = absurd (false≢true h)

    go : (b : Bool) → test q ≡ b → (not (plain q.kind) || leb (length q.name.bytes) 64) ≡ true → width (map item (keep test qs)) ≤ 72 * tally test qs
        → width (map item (cond b (q ∷ keep test qs) (keep test qs))) ≤ 72 * cond b (suc (tally test qs)) (tally test qs)
    go true h s ih = omega (arith, item_length q, short (plain q.kind) (p q h) s)
    go false h s ih = ih

-- a sign of a byte, where there are items of a sort
any_width : (test : Parameter → Bool) (qs : List Parameter) (xs : List (List ℕ)) → width xs ≤ 3 → width (if_any (items_of test qs) xs) ≤ 3 * tally test qs
unfolding items_of
any_width test [] xs h = omega arith
any_width test (q ∷ qs) xs h = go (test q) (any_width test qs xs h)
  where
    go : (b : Bool) → width (if_any (map item (keep test qs)) xs) ≤ 3 * tally test qs
        → width (if_any (map item (cond b (q ∷ keep test qs) (keep test qs))) xs) ≤ 3 * cond b (suc (tally test qs)) (tally test qs)
    go true e = omega arith
    go false e = e

-- where one passes, at least one does
some_tally : (test : Parameter → Bool) (qs : List Parameter) → any test qs ≡ true → 1 ≤ tally test qs
some_tally test [] e = absurd (false≢true e)
some_tally test (q ∷ qs) e = go (test q) e (some_tally test qs)
  where
    go : (b : Bool) → (b || any test qs) ≡ true → (any test qs ≡ true → 1 ≤ tally test qs) → 1 ≤ cond b (suc (tally test qs)) (tally test qs)
    go true f ih = omega arith
    go false f ih = ih f

-- a sign where one passes, and something else where none does
sign_width : (b : Bool) (n : ℕ) (x : List ℕ) (ys : List (List ℕ)) → (b ≡ true → 1 ≤ n) → length x ≤ 8 → width (cond b (x ∷ []) ys) ≤ 10 * n + width ys
sign_width true n x ys f h = omega (arith, f refl)
sign_width false n x ys f h = omega arith

-- ---- each parameter is of one sort at the most

abbrev bit : Bool → ℕ
bit true = 1
bit false = 0

tally_bit : (test : Parameter → Bool) (q : Parameter) (qs : List Parameter) → tally test (q ∷ qs) ≡ bit (test q) + tally test qs
tally_bit test q qs = go (test q)
  where
    go : (b : Bool) → cond b (suc (tally test qs)) (tally test qs) ≡ bit b + tally test qs
    go true = omega arith
    go false = omega arith

-- how many of a sort there are of one parameter, for the five sorts
abbrev sorts : (k : ParameterKind) → Style → ℕ
sorts k s =
    bit (plain k && comes_before s pos_or_named)
    + bit (plain k && takes_position s && (plain k && takes_name s))
    + bit (not (plain k && takes_position s) && (plain k && takes_name s))
    + bit (is_args k)
    + bit (is_kwargs k)

plain_sort : (s : Style) → sorts required s ≤ 1
unfolding comes_before
plain_sort pos_only = omega arith
plain_sort pos_or_named = omega arith
plain_sort named_only = omega arith
plain_sort no_more = omega arith

one_sort : (k : ParameterKind) (s : Style) → sorts k s ≤ 1
one_sort required s = plain_sort s
one_sort optional s = plain_sort s
one_sort (defaulted v) s = plain_sort s
one_sort args s = omega arith
one_sort kwargs s = omega arith

sorts_tally : (qs : List Parameter) → tally positional_only qs + tally either_way qs + tally name_only qs + tally (λ q. is_args q.kind) qs + tally (λ q. is_kwargs q.kind) qs ≤ length qs
unfolding positional_only either_way name_only positional nameable
sorts_tally [] = omega arith
sorts_tally (q ∷ qs) =
    omega (
      arith,
      one_sort q.kind q.style,
      sorts_tally qs,
      tally_bit positional_only q qs,
      tally_bit either_way q qs,
      tally_bit name_only q qs,
      tally_bit (λ p. is_args p.kind) q qs,
      tally_bit (λ p. is_kwargs p.kind) q qs,
    )

-- ---- the longest list fits

only_plain : (q : Parameter) → positional_only q ≡ true → plain q.kind ≡ true
unfolding positional_only
only_plain q e = and_left (plain q.kind) (comes_before q.style pos_or_named) e

nameable_plain : (q : Parameter) → nameable q ≡ true → plain q.kind ≡ true
unfolding nameable
nameable_plain q e = and_left (plain q.kind) (takes_name q.style) e

either_plain : (q : Parameter) → either_way q ≡ true → plain q.kind ≡ true
unfolding either_way
either_plain q e = nameable_plain q (and_right (positional q) (nameable q) e)

named_plain : (q : Parameter) → name_only q ≡ true → plain q.kind ≡ true
unfolding name_only
named_plain q e = nameable_plain q (and_right (not (positional q)) (nameable q) e)

slash_width : (qs : List Parameter) → width (slash_item qs) ≤ 3 * tally positional_only qs
unfolding slash_item
slash_width qs = any_width positional_only qs ((47 ∷ []) ∷ []) (omega arith)

star_width : (qs : List Parameter) → width (star_item qs) ≤ 10 * tally (λ q. is_args q.kind) qs + 3 * tally name_only qs
unfolding star_item has_args
star_width qs =
    omega (
      arith,
      sign_width (any (λ q. is_args q.kind) qs) (tally (λ q. is_args q.kind) qs) (42 ∷ 97 ∷ 114 ∷ 103 ∷ 115 ∷ []) (if_any (items_of name_only qs) ((42 ∷ []) ∷ []))
          (some_tally (λ q. is_args q.kind) qs) (omega arith),
      any_width name_only qs ((42 ∷ []) ∷ []) (omega arith),
    )

kwargs_width : (qs : List Parameter) → width (kwargs_item qs) ≤ 10 * tally (λ q. is_kwargs q.kind) qs
unfolding kwargs_item has_kwargs
kwargs_width qs =
    omega (
      arith,
      sign_width (any (λ q. is_kwargs q.kind) qs) (tally (λ q. is_kwargs q.kind) qs) (42 ∷ 42 ∷ 107 ∷ 119 ∷ 97 ∷ 114 ∷ 103 ∷ 115 ∷ []) []
          (some_tally (λ q. is_kwargs q.kind) qs) (omega arith),
    )

-- 75 bytes for each parameter: 64 of a name, ` = ...`, `, `, and `, /` or `, *` beside it
pub printed_length : (qs : List Parameter) → all short_name qs ≡ true → length (printed qs) ≤ 75 * length qs
unfolding printed
printed_length qs e =
    let p : List (List ℕ) = items_of positional_only qs in
    let w : List (List ℕ) = items_of either_way qs in
    let n : List (List ℕ) = items_of name_only qs in
    let after_star : List (List ℕ) = n ++ kwargs_item qs in
    let from_star : List (List ℕ) = star_item qs ++ after_star in
    let from_either : List (List ℕ) = w ++ from_star in
    let from_slash : List (List ℕ) = slash_item qs ++ from_either in
    omega (
      arith,
      join_width (p ++ from_slash),
      width_append p from_slash,
      width_append (slash_item qs) from_either,
      width_append w from_star,
      width_append (star_item qs) after_star,
      width_append n (kwargs_item qs),
      items_width positional_only only_plain qs e,
      items_width either_way either_plain qs e,
      items_width name_only named_plain qs e,
      slash_width qs,
      star_width qs,
      kwargs_width qs,
      sorts_tally qs,
    )

pub printed_fits : (A : ℕ) (qs : List Parameter) → length qs ≤ A → all short_name qs ≡ true → length (printed qs) ≤ printed_least A
unfolding printed_least
printed_fits A qs h e = omega (arith, printed_length qs e)

-- ---- a list that passes has few parameters, and their names are short

text_short : (area : List ℕ) (name : ℕ) → is_text 1 area name ≡ true → leb (length (bytes_at area name)) 64 ≡ true
unfolding is_text bytes_at
text_short area name e =
    le-leb (length (take (size_of name) (drop (start_of name) area))) 64
    (omega (
      arith,
      length-take (size_of name) (drop (start_of name) area),
      leb-true (size_of name) 64 (and_right (inside area name && leb 1 (size_of name)) (leb (size_of name) 64) e),
    ))

added_short : (area : List ℕ) (s : Style) (a : Act) (name : ℕ) → (not (has_name a) || is_text 1 area name) ≡ true → all short_name (added area s a name) ≡ true
unfolding short_name text_in
added_short area s (adds k) name e = go (plain k) e
  where
    go : (p : Bool) → (not p || is_text 1 area name) ≡ true → ((not p || leb (length (bytes_at area name)) 64) && true) ≡ true
    go true f = rw (text_short area name f)
    go false f = refl
added_short area s slash name e = refl
added_short area s bare_star name e = refl
added_short area s unknown_code name e = refl

names_short : (area : List ℕ) (s : Style) (ts : List Step) → all (step_name area) ts ≡ true → all short_name (added_from area s ts) ≡ true
unfolding step_name
names_short area s [] e = refl
names_short area s (t ∷ ts) e =
    all_append short_name (added area s (act t) t.name) (added_from area (next_style s (act t)) ts)
    (added_short area s (act t) t.name (and_left (step_name area t) (all (step_name area) ts) e))
    (names_short area (next_style s (act t)) ts (and_right (step_name area t) (all (step_name area) ts) e))

step_room : (A : ℕ) (area : List ℕ) (s : Style) (before : List Parameter) (t : Step) → ask_step A area s before t ≡ fine → has_room A before (act t) ≡ true
unfolding ask_step
step_room A area s before t f =
    let last : Answer = ask 7 (name_is_new area s before (act t) t.name) in
    ask_true 6 (has_room A before (act t))
    (then_left (ask 6 (has_room A before (act t))) last (then_right (ask 5 (may_stand s (act t))) (ask 6 (has_room A before (act t)) then last) f))

-- each step that adds a parameter found room for it
few_added : (A : ℕ) (area : List ℕ) (s : Style) (before : List Parameter) (ts : List Step) → length before ≤ A → ask_steps A area s before ts ≡ fine
    → length (before ++ added_from area s ts) ≤ A
few_added A area s before [] h f = rw (append-nil before) h
few_added A area s before (t ∷ ts) h f =
    rw (← append_assoc before (added area s (act t) t.name) (added_from area (next_style s (act t)) ts))
    (few_added A area (next_style s (act t)) (before ++ added area s (act t) t.name) ts (go (act t) room)
    (then_right (ask_step A area s before t) (ask_steps A area (next_style s (act t)) (before ++ added area s (act t) t.name) ts) f))
  where
    room : has_room A before (act t) ≡ true
    room = step_room A area s before t (then_left (ask_step A area s before t) (ask_steps A area (next_style s (act t)) (before ++ added area s (act t) t.name) ts) f)

    go : (a : Act) → has_room A before a ≡ true → length (before ++ added area s a t.name) ≤ A
    go (adds k) e = omega (arith, length-append before (added area s (adds k) t.name), ltb-true (length before) A e)
    go slash e = rw (append-nil before) h
    go bare_star e = rw (append-nil before) h
    go unknown_code e = rw (append-nil before) h

module _ (A : ℕ) (cells area : List ℕ) (passes : ask_parameters A cells area ≡ fine) where
  pub list_few : length (list_of cells area) ≤ A
  unfolding list_of parameters_of
  list_few = few_added A area pos_only [] (read_parameters cells).steps (omega arith) (steps_fine A cells area passes)

  pub list_short_name : all short_name (list_of cells area) ≡ true
  unfolding list_of parameters_of names_inside
  list_short_name =
      names_short area pos_only (read_parameters cells).steps
      (and_right (is_text 1 area (read_parameters cells).function) (all (step_name area) (read_parameters cells).steps) (names_fine A cells area passes))

  -- so the printed list fits an output that passes 29
  pub list_fits : length (printed (list_of cells area)) ≤ printed_least A
  list_fits = printed_fits A (list_of cells area) list_few list_short_name
