-- The steps that lead to the rows of a prepared list, in this order: what a right row says; its parameter is laid out as the row again; the
-- steps, with the marks put in where the style changes; what 1 to 7 ask of them, and the list that they add.
-- Assumes nothing.
use mathlib.Core.Path.{◌≡◌, refl, sym, ap, ap₂, subst, ◌∙◌}
use mathlib.Core.Bool.{Bool, true, not, ◌&&◌, ◌||◌, false≢true}
use mathlib.Core.List.{List, [], ◌∷◌, ◌++◌, map, append-nil}
use Prim.Native.Nat.{ℕ, zero, suc, ◌+◌, ◌-◌, ◌≤◌, ◌<◌}
use native.Mathlib.Omega.{arith}
use lib.Dec.{eqb, leb, ltb}
use lib.ListN.{length, length-append}
use borrow.Author.Tests.{eqb-true, ltb-true, leb-true}
use Rattle.rules.specs.Listing.{all}
use Rattle.rules.specs.Text.{bytes_at, text_in}
use Rattle.rules.specs.Value.{no_value}
use Rattle.rules.specs.Answer.{fine}
use Rattle.rules.specs.ParameterRecord.{Step}
use Rattle.rules.specs.Parameters.{Style, pos_only, pos_or_named, named_only, no_more, Act, adds, slash, bare_star, unknown_code, act, comes_before, may_stand, next_style, rank, Parameter, nameable, added, added_from}
use Rattle.rules.specs.Lookup.{known}
use Rattle.rules.specs.ParameterQuestions.{step_name, uses_right, ask_step, ask_steps}
use Rattle.rules.specs.Passed.{names_apart}
use Rattle.rules.proofs.LawsListing.{and_left, and_right, and_both, all_append}
use Rattle.rules.proofs.LawsAnswer.{then_fine}
use Rattle.builder.specs.Params.{style_for, kind_for, parameter_of}
use Rattle.builder.proofs.LawsAsk.{ask_step_fine}
use Rattle.cells.specs.Text.{key_of}
use Rattle.prepared.specs.Prepared.{Row, row_of, parameter_of_row, adds_one, row_right, rows_right}
use Rattle.prepared.proofs.LawsPrepared.{row_of_step, rank_next}

-- ---- a right row

rank_style_for : (n : ℕ) → n < 3 → rank (style_for n) ≡ n
rank_style_for zero h = refl
rank_style_for (suc zero) h = refl
rank_style_for (suc (suc zero)) h = refl
rank_style_for (suc (suc (suc n))) h = absurd (omega arith)

-- what the six tests of a row say
pub record RightRow (area : List ℕ) (r : Row) : Type 0 where
  pub adding : adds_one (act r.step) ≡ true
  pub low : r.style < 3
  pub stands : may_stand (style_for r.style) (act r.step) ≡ true
  pub named : step_name area r.step ≡ true
  pub uses : uses_right area (act r.step) r.step.name r.step.default ≡ true
  pub keyed : r.key ≡ key_of (bytes_at area r.step.name)

pub right_row : (area : List ℕ) (r : Row) → row_right area r ≡ true → RightRow area r
unfolding row_right
right_row area r e =
    record {
      adding = and_left a b to_b;
      low = ltb-true r.style 3 (and_right a b to_b);
      stands = and_right (a && b) c to_c;
      named = and_right (a && b && c) d to_d;
      uses = and_right (a && b && c && d) u to_u;
      keyed = eqb-true r.key (key_of (bytes_at area r.step.name)) (and_right (a && b && c && d && u) k e);
    }
  where
    a : Bool
    a = adds_one (act r.step)

    b : Bool
    b = ltb r.style 3

    c : Bool
    c = may_stand (style_for r.style) (act r.step)

    d : Bool
    d = step_name area r.step

    u : Bool
    u = uses_right area (act r.step) r.step.name r.step.default

    k : Bool
    k = eqb r.key (key_of (bytes_at area r.step.name))

    to_u : (a && b && c && d && u) ≡ true
    to_u = and_left (a && b && c && d && u) k e

    to_d : (a && b && c && d) ≡ true
    to_d = and_left (a && b && c && d) u to_u

    to_c : (a && b && c) ≡ true
    to_c = and_left (a && b && c) d to_d

    to_b : (a && b) ≡ true
    to_b = and_left (a && b) c to_c

-- the first of right rows, and those after it
module _ (area : List ℕ) (least : ℕ) (r : Row) (rs : List Row) (e : rows_right area least (r ∷ rs) ≡ true) where
  abbrev next : Style
  next = next_style (style_for r.style) (act r.step)

  front : (leb least r.style && row_right area r) ≡ true
  front = and_left (leb least r.style && row_right area r) (rows_right area (rank next) rs) e

  first_right : RightRow area r
  first_right = right_row area r (and_right (leb least r.style) (row_right area r) front)

  first_rank : rank (style_for r.style) ≡ r.style
  first_rank = rank_style_for r.style first_right.low

  first_up : least ≤ rank (style_for r.style)
  first_up = omega (arith, first_rank, leb-true least r.style (and_left (leb least r.style) (row_right area r) front))

  first_low : rank (style_for r.style) < 3
  first_low = omega (arith, first_rank, first_right.low)

  rest_right : rows_right area (rank next) rs ≡ true
  rest_right = and_right (leb least r.style && row_right area r) (rows_right area (rank next) rs) e

-- ---- a row's parameter is laid out as the row

module _ (area : List ℕ) where
  row_back : (r : Row) → RightRow area r → row_of (parameter_of_row area r) ≡ r
  unfolding parameter_of_row parameter_of act
  row_back r h =
      row_of_step area (style_for r.style) r.step h.adding h.uses
      ∙ ap₂ {C = Row} (λ s k. record { step = r.step; style = s; key = k }) (rank_style_for r.style h.low) (sym h.keyed)

  pub rows_back : (least : ℕ) (rs : List Row) → rows_right area least rs ≡ true → map row_of (map (parameter_of_row area) rs) ≡ rs
  rows_back least [] e = refl
  rows_back least (r ∷ rs) e =
      ap₂ {C = List Row} (λ x xs. x ∷ xs) (row_back r (first_right area least r rs e))
      (rows_back (rank (next_style (style_for r.style) (act r.step))) rs (rest_right area least r rs e))

-- ---- the steps that lead to the rows

abbrev pub mark : ℕ → Step
mark code = record { code = code; name = 0; default = no_value }

-- the mark between two styles, if there has to be one
abbrev pub marks : Style → Style → List Step
marks pos_only pos_only = []
marks pos_only pos_or_named = mark 4 ∷ []
marks pos_only named_only = mark 5 ∷ []
marks pos_only no_more = []
marks pos_or_named pos_only = []
marks pos_or_named pos_or_named = []
marks pos_or_named named_only = mark 5 ∷ []
marks pos_or_named no_more = []
marks named_only t = []
marks no_more t = []

abbrev pub steps_from : Style → List Row → List Step
steps_from s [] = []
steps_from s (r ∷ rs) = marks s (style_for r.style) ++ r.step ∷ steps_from (next_style (style_for r.style) (act r.step)) rs

-- what holds with no mark, and with each mark, holds between any two styles in their order
module _ (P : Style → Style → List Step → Type 0) (none : (s : Style) → P s s []) (first : P pos_only pos_or_named (mark 4 ∷ []))
    (both : P pos_only named_only (mark 5 ∷ [])) (second : P pos_or_named named_only (mark 5 ∷ [])) where
  marked : (s t : Style) → rank s ≤ rank t → rank t < 3 → P s t (marks s t)
  marked pos_only pos_only h l = none pos_only
  marked pos_only pos_or_named h l = first
  marked pos_only named_only h l = both
  marked pos_only no_more h l = absurd (omega arith)
  marked pos_or_named pos_only h l = absurd (omega arith)
  marked pos_or_named pos_or_named h l = none pos_or_named
  marked pos_or_named named_only h l = second
  marked pos_or_named no_more h l = absurd (omega arith)
  marked named_only pos_only h l = absurd (omega arith)
  marked named_only pos_or_named h l = absurd (omega arith)
  marked named_only named_only h l = none named_only
  marked named_only no_more h l = absurd (omega arith)
  marked no_more pos_only h l = absurd (omega arith)
  marked no_more pos_or_named h l = absurd (omega arith)
  marked no_more named_only h l = absurd (omega arith)
  marked no_more no_more h l = absurd (omega arith)

module _ (s t : Style) (h : rank s ≤ rank t) (l : rank t < 3) where
  marks_few : length (marks s t) + rank s ≤ rank t
  marks_few = marked (λ s t ms. length ms + rank s ≤ rank t) (λ s. omega arith) (omega arith) (omega arith) (omega arith) s t h l

  marks_all : (f : Step → Bool) → f (mark 4) ≡ true → f (mark 5) ≡ true → all f (marks s t) ≡ true
  marks_all f a b =
      let star : all f (mark 5 ∷ []) ≡ true = and_both (f (mark 5)) true b refl in
      marked (λ s t ms. all f ms ≡ true) (λ s. refl) (and_both (f (mark 4)) true a refl) star star s t h l

  marks_add : (area : List ℕ) (ts : List Step) → added_from area s (marks s t ++ ts) ≡ added_from area t ts
  unfolding act
  marks_add area ts = marked (λ s t ms. added_from area s (ms ++ ts) ≡ added_from area t ts) (λ s. refl) refl refl refl s t h l

  marks_asked : (A : ℕ) (area : List ℕ) (before : List Parameter) (ts : List Step) → ask_steps A area s before (marks s t ++ ts) ≡ ask_steps A area t before ts
  unfolding ask_step act comes_before
  marks_asked A area before ts =
      let star : ask_steps A area named_only (before ++ []) ts ≡ ask_steps A area named_only before ts = ap (λ b. ask_steps A area named_only b ts) (append-nil before) in
      marked (λ s t ms. ask_steps A area s before (ms ++ ts) ≡ ask_steps A area t before ts) (λ s. refl)
      (ap (λ b. ask_steps A area pos_or_named b ts) (append-nil before)) star star s t h l

-- ---- what is asked of them

module _ (area : List ℕ) where
  -- at most two marks: each takes the style further, and no row stands under the last
  pub steps_few : (s : Style) (rs : List Row) → rows_right area (rank s) rs ≡ true → length (steps_from s rs) ≤ length rs + (2 - rank s)
  steps_few s [] e = omega arith
  steps_few s (r ∷ rs) e =
      let t : Style = style_for r.style in
      let rest : List Step = steps_from (next_style t (act r.step)) rs in
      omega (
        arith,
        length-append (marks s t) (r.step ∷ rest),
        marks_few s t (first_up area (rank s) r rs e) (first_low area (rank s) r rs e),
        first_low area (rank s) r rs e,
        rank_next t (act r.step) (first_right area (rank s) r rs e).stands,
        steps_few (next_style t (act r.step)) rs (rest_right area (rank s) r rs e),
      )

  -- what holds of the marks and of the steps of right rows
  pub Steps-all
      : (f : Step → Bool) → f (mark 4) ≡ true → f (mark 5) ≡ true → ((r : Row) → RightRow area r → f r.step ≡ true)
      → (s : Style) (rs : List Row) → rows_right area (rank s) rs ≡ true → all f (steps_from s rs) ≡ true
  Steps-all f a b row s [] e = refl
  Steps-all f a b row s (r ∷ rs) e =
      let t : Style = style_for r.style in
      let rest : List Step = steps_from (next_style t (act r.step)) rs in
      all_append f (marks s t) (r.step ∷ rest)
      (marks_all s t (first_up area (rank s) r rs e) (first_low area (rank s) r rs e) f a b)
      (and_both (f r.step) (all f rest) (row r (first_right area (rank s) r rs e)) (Steps-all f a b row (next_style t (act r.step)) rs (rest_right area (rank s) r rs e)))

  added_one : (s : Style) (a : Act) (name : ℕ) → adds_one a ≡ true → added area s a name ≡ record { kind = kind_for a; style = s; name = text_in area name } ∷ []
  added_one s (adds k) name e = refl
  added_one s slash name e = absurd (false≢true e)
  added_one s bare_star name e = absurd (false≢true e)
  added_one s unknown_code name e = absurd (false≢true e)

  added_row : (r : Row) → RightRow area r → added area (style_for r.style) (act r.step) r.step.name ≡ parameter_of_row area r ∷ []
  unfolding parameter_of_row parameter_of act
  added_row r h = added_one (style_for r.style) (act r.step) r.step.name h.adding

  pub steps_add : (s : Style) (rs : List Row) → rows_right area (rank s) rs ≡ true → added_from area s (steps_from s rs) ≡ map (parameter_of_row area) rs
  steps_add s [] e = refl
  steps_add s (r ∷ rs) e =
      let t : Style = style_for r.style in
      let rest : List Step = steps_from (next_style t (act r.step)) rs in
      marks_add s t (first_up area (rank s) r rs e) (first_low area (rank s) r rs e) area (r.step ∷ rest)
      ∙ ap₂ {C = List Parameter} (λ x y. x ++ y) (added_row r (first_right area (rank s) r rs e)) (steps_add (next_style t (act r.step)) rs (rest_right area (rank s) r rs e))

  adds_kind : (a : Act) → adds_one a ≡ true → a ≡ adds (kind_for a)
  adds_kind (adds k) e = refl
  adds_kind slash e = absurd (false≢true e)
  adds_kind bare_star e = absurd (false≢true e)
  adds_kind unknown_code e = absurd (false≢true e)

  -- the step of a right row is fine where there is room and its name is new
  row_asked
      : (before : List Parameter) (r : Row) → RightRow area r → length before < 64
      → (not (nameable (parameter_of_row area r)) || not (known before (parameter_of_row area r).name.bytes)) ≡ true
      → ask_step 64 area (style_for r.style) before r.step ≡ fine
  unfolding nameable parameter_of_row parameter_of text_in act
  row_asked before r h room new =
      ask_step_fine 64 area (style_for r.style) before r.step (kind_for (act r.step)) (adds_kind (act r.step) h.adding)
      (subst (λ a. may_stand (style_for r.style) a ≡ true) (adds_kind (act r.step) h.adding) h.stands) room new

  pub steps_asked
      : (s : Style) (before : List Parameter) (rs : List Row) → rows_right area (rank s) rs ≡ true → length before + length rs ≤ 64
      → names_apart before (map (parameter_of_row area) rs) ≡ true → ask_steps 64 area s before (steps_from s rs) ≡ fine
  steps_asked s before [] e few apart = refl
  steps_asked s before (r ∷ rs) e few apart =
      marks_asked s t (first_up area (rank s) r rs e) (first_low area (rank s) r rs e) 64 area before (r.step ∷ rest)
      ∙ then_fine (ask_step 64 area t before r.step) (ask_steps 64 area next (before ++ added area t (act r.step) r.step.name) rest)
      (row_asked before r (first_right area (rank s) r rs e) (omega arith) (and_left new (names_apart (before ++ q ∷ []) (map (parameter_of_row area) rs)) apart))
      ∙ ap (λ a. ask_steps 64 area next (before ++ a) rest) (added_row r (first_right area (rank s) r rs e))
      ∙ steps_asked next (before ++ q ∷ []) rs (rest_right area (rank s) r rs e) (omega (arith, length-append before (q ∷ [])))
      (and_right new (names_apart (before ++ q ∷ []) (map (parameter_of_row area) rs)) apart)
    where
      t : Style
      t = style_for r.style

      next : Style
      next = next_style t (act r.step)

      rest : List Step
      rest = steps_from next rs

      q : Parameter
      q = parameter_of_row area r

      new : Bool
      new = not (nameable q) || not (known before q.name.bytes)
