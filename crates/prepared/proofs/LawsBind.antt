-- Laws of binding against cells that are a prepared list, in this order: what holds of the list that they spell; the list in the builder's
-- columns is one that binding can lean on; how the call ends, which one answer tells. Assumes nothing.
use mathlib.Core.Path.{◌≡◌, refl, sym, ap, ◌∙◌}
use mathlib.Core.Bool.{Bool, true, false, not, cond, ◌&&◌, ◌||◌}
use mathlib.Core.List.{List, [], ◌∷◌, map}
use Rattle.std.specs.Prelude.{Result, Ok, Err}
use Prim.Native.Nat.{ℕ, zero, suc, ◌+◌, ◌*◌, ◌≤◌, ◌<◌}
use native.Mathlib.Nat.{zero-add}
use native.Mathlib.Decide.{dec_le}
use native.Mathlib.Omega.{arith}
use lib.Dec.{leb}
use lib.ListN.{length, get_or}
use borrow.Author.Tests.{leb-true, le-ltb, ltb-false}
use Rattle.rules.specs.Listing.{all}
use Rattle.rules.specs.Text.{inside, is_text, size_of, text_in}
use Rattle.rules.specs.Value.{Value}
use Rattle.rules.specs.Parameters.{Act, adds, slash, bare_star, unknown_code, act, act_of, plain, takes_name, positional, nameable, next_style, rank}
use Rattle.rules.specs.ParameterQuestions.{has_name, step_name}
use Rattle.rules.specs.Answer.{none}
use Rattle.rules.specs.Collection.{Outcome, refused, accepted}
use Rattle.rules.specs.Passed.{positional_first, names_apart, name_inside}
use Rattle.rules.proofs.LawsListing.{and_left, and_right, and_both}
use Rattle.cells.proofs.LawsListed.{length_listed, get_d_listed}
use Rattle.builder.specs.Params.{style_for, kind_for, parameter_of}
use Rattle.builder.specs.Build.{IsList}
use Rattle.builder.specs.declared.spec.ParametersSpec.{ParametersSpec}
use Rattle.builder.proofs.LawsCodes.{code_3, code_4}
use Rattle.findings.specs.Resolve.{Prepared}
use Rattle.answers.specs.Answer.{told}
use Rattle.answers.specs.declared.answer.Counts.{Counts}
use Rattle.answers.specs.declared.answer.Refusal.{Refusal}
use Rattle.answers.proofs.LawsTold.{answer_from, told_back, told_one}
use Rattle.collector.specs.Collect.{Ends, bound_to}
use Rattle.prepared.specs.Prepared.{Row, rows_in, list_in, parameter_of_row, row_right, rows_right, is_prepared, prepared_length, front_width, row_width, bound_prepared}
use Rattle.prepared.specs.Rows.{row_at, stands, Whole, Narrow, Keyed}
use Rattle.prepared.specs.Load.{by_position}
use Rattle.prepared.specs.Bind.{told_by, EndsBound}
use Rattle.prepared.specs.declared.PreparedRefusal.{PreparedRefusal}
use Rattle.prepared.specs.declared.PreparedRefusal.TheVariants.{NotPrepared, Call}
use Rattle.prepared.proofs.LawsRows.{never, stands_0, stands_4, cells_at, row_at_cells, rows_listed}
use Rattle.prepared.proofs.LawsCheck.{right_name, right_stands, right_style, rows_keyed}
use Rattle.prepared.proofs.LawsLoad.{by_0, by_3, by_4, row_position}

-- ---- the positional rows come first

-- under a style from the third on, no row is positional
named_only : (code style : ℕ) → 2 ≤ style → by_position code style ≡ false
named_only code style h = split (dec_le 4 code) (dec_le 1 code)
  where
    split : Dec (4 ≤ code) → Dec (1 ≤ code) → by_position code style ≡ false
    split (yes l) d = sym (by_4 code style l)
    split (no l) (yes g) = sym (by_3 code style g (omega arith)) ∙ le-ltb style 2 h
    split (no l) (no g) = sym (by_0 code style (omega arith))

least_rank : (style : ℕ) → 2 ≤ style → 2 ≤ rank (style_for style)
least_rank zero h = absurd (omega arith)
least_rank (suc zero) h = absurd (omega arith)
least_rank (suc (suc zero)) h = omega arith
least_rank (suc (suc (suc n))) h = omega arith

-- after a row that is not positional, the style is from the third on
after_named : (code style : ℕ) (v : Value) → stands code style v ≡ true → by_position code style ≡ false → 2 ≤ rank (next_style (style_for style) (act_of code v))
after_named code style v t n = split (dec_le 4 code) (dec_le 1 code)
  where
    split : Dec (4 ≤ code) → Dec (1 ≤ code) → 2 ≤ rank (next_style (style_for style) (act_of code v))
    split (yes l) d =
        code_4 v (λ k. stands k style v ≡ true → 2 ≤ rank (next_style (style_for style) (act_of k v)))
        (λ e. absurd (never e)) (λ e. absurd (never e)) (λ e. omega arith) (λ e. omega arith)
        (λ k u e. absurd (never (rw u at e))) code l t
    split (no l) (yes g) =
        let late : 2 ≤ rank (style_for style) = least_rank style (ltb-false style 2 (by_3 code style g (omega arith) ∙ n)) in
        code_3 (λ k. 2 ≤ rank (next_style (style_for style) (act_of k v))) late late late code g (omega arith)
    split (no l) (no g) = absurd (never (stands_0 style v code (omega arith) ∙ t))

after_row : (area : List ℕ) (r : Row) → row_right area r ≡ true → by_position r.step.code r.style ≡ false → 2 ≤ rank (next_style (style_for r.style) (act r.step))
unfolding act
after_row area r t n = after_named r.step.code r.style r.step.default (right_stands area r t) n

-- the first of some rows that are right from a style on, and those behind it
module _ (area : List ℕ) (least : ℕ) (r : Row) (rs : List Row) (t : rows_right area least (r ∷ rs) ≡ true) where
  abbrev next : ℕ
  next = rank (next_style (style_for r.style) (act r.step))

  first_late : least ≤ r.style
  first_late = leb-true least r.style (and_left (leb least r.style) (row_right area r) (and_left (leb least r.style && row_right area r) (rows_right area next rs) t))

  first_right : row_right area r ≡ true
  first_right = and_right (leb least r.style) (row_right area r) (and_left (leb least r.style && row_right area r) (rows_right area next rs) t)

  rest_right : rows_right area next rs ≡ true
  rest_right = and_right (leb least r.style && row_right area r) (rows_right area next rs) t

rows_none : (area : List ℕ) (least : ℕ) (rs : List Row) → 2 ≤ least → rows_right area least rs ≡ true → all (λ p. not (positional p)) (map (parameter_of_row area) rs) ≡ true
rows_none area least [] h t = refl
rows_none area least (r ∷ rs) h t =
    and_both (not (positional (parameter_of_row area r))) (all (λ p. not (positional p)) (map (parameter_of_row area) rs))
    (ap not (sym (row_position area r) ∙ late))
    (rows_none area (next area least r rs t) rs (after_row area r (first_right area least r rs t) late) (rest_right area least r rs t))
  where
    late : by_position r.step.code r.style ≡ false
    late = named_only r.step.code r.style (omega (arith, first_late area least r rs t))

rows_first : (area : List ℕ) (least : ℕ) (rs : List Row) → rows_right area least rs ≡ true → positional_first (map (parameter_of_row area) rs) ≡ true
rows_first area least [] t = refl
rows_first area least (r ∷ rs) t =
    ap (λ b. cond b (positional_first (map (parameter_of_row area) rs)) (all (λ p. not (positional p)) (map (parameter_of_row area) rs))) (sym (row_position area r))
    ∙ go (by_position r.step.code r.style) refl (rows_first area (next area least r rs t) rs (rest_right area least r rs t))
  where
    go : (b : Bool) → by_position r.step.code r.style ≡ b → positional_first (map (parameter_of_row area) rs) ≡ true
        → cond b (positional_first (map (parameter_of_row area) rs)) (all (λ p. not (positional p)) (map (parameter_of_row area) rs)) ≡ true
    go true e more = more
    go false e more = rows_none area (next area least r rs t) rs (after_row area r (first_right area least r rs t) e) (rest_right area least r rs t)

-- ---- the nameable names lie inside the area

plain_named : (a : Act) → plain (kind_for a) ≡ has_name a
plain_named (adds k) = refl
plain_named slash = refl
plain_named bare_star = refl
plain_named unknown_code = refl

text_inside : (area : List ℕ) (name : ℕ) → is_text 1 area name ≡ true → inside area name ≡ true
unfolding is_text
text_inside area name t = and_left (inside area name) (leb 1 (size_of name)) (and_left (inside area name && leb 1 (size_of name)) (leb (size_of name) 64) t)

row_inside : (area : List ℕ) (r : Row) → step_name area r.step ≡ true → name_inside area (parameter_of_row area r) ≡ true
unfolding name_inside nameable parameter_of_row parameter_of text_in step_name act
row_inside area r t =
    ap (λ p. not (p && takes_name (style_for r.style)) || inside area r.step.name) (plain_named (act_of r.step.code r.step.default))
    ∙ go (has_name (act_of r.step.code r.step.default)) (takes_name (style_for r.style)) t
  where
    go : (p n : Bool) → (not p || is_text 1 area r.step.name) ≡ true → (not (p && n) || inside area r.step.name) ≡ true
    go true true e = text_inside area r.step.name e
    go true false e = refl
    go false n e = refl

rows_inside : (area : List ℕ) (least : ℕ) (rs : List Row) → rows_right area least rs ≡ true → all (name_inside area) (map (parameter_of_row area) rs) ≡ true
rows_inside area least [] t = refl
rows_inside area least (r ∷ rs) t =
    and_both (name_inside area (parameter_of_row area r)) (all (name_inside area) (map (parameter_of_row area) rs))
    (row_inside area r (right_name area r (first_right area least r rs t)))
    (rows_inside area (next area least r rs t) rs (rest_right area least r rs t))

-- ---- each row is right, and so its code and its style are small

rows_each : (area : List ℕ) (least : ℕ) (rs : List Row) → rows_right area least rs ≡ true → (j : ℕ) (d : Row) → j < length rs → row_right area (get_or rs j d) ≡ true
rows_each area least [] t j d h = absurd (omega arith)
rows_each area least (r ∷ rs) t zero d h = first_right area least r rs t
rows_each area least (r ∷ rs) t (suc j) d h = rows_each area (next area least r rs t) rs (rest_right area least r rs t) j d (omega arith)

stands_small : (code style : ℕ) (v : Value) → stands code style v ≡ true → code < 8
stands_small code style v t = split (dec_le 8 code)
  where
    split : Dec (8 ≤ code) → code < 8
    split (yes l) = absurd (never (stands_4 style v code (omega arith) (λ e. omega arith) (λ e. omega arith) ∙ t))
    split (no l) = omega arith

-- ---- cells that are a prepared list

module _ (area cells : List ℕ) (t : is_prepared area cells ≡ true) where
  abbrev few : Bool
  few = leb (get_or cells 0 0) 64

  abbrev long : Bool
  long = leb (2 + 6 * get_or cells 0 0) (length cells)

  abbrev named : Bool
  named = is_text 1 area (get_or cells 1 0)

  abbrev rows : Bool
  rows = rows_right area 0 (rows_in cells)

  abbrev apart : Bool
  apart = names_apart [] (list_in area cells)

  all_of : (few && long && named && rows && apart) ≡ true
  unfolding is_prepared prepared_length front_width row_width
  all_of = t

  up_to_rows : (few && long && named && rows) ≡ true
  up_to_rows = and_left (few && long && named && rows) apart all_of

  rows_hold : rows ≡ true
  rows_hold = and_right (few && long && named) rows up_to_rows

  front : (few && long) ≡ true
  front = and_left (few && long) named (and_left (few && long && named) rows up_to_rows)

  pub prepared_whole : Whole cells
  prepared_whole =
      record {
        few = leb-true (get_or cells 0 0) 64 (and_left few long front);
        long = leb-true (2 + 6 * get_or cells 0 0) (length cells) (and_right few long front);
      }

  row_right_lem : (j : ℕ) → j < get_or cells 0 0 → row_right area (cells_at cells j) ≡ true
  row_right_lem j h =
      ap (row_right area)
      (sym (row_at_cells cells j)
      ∙ ap (row_at cells) (sym (zero-add j))
      ∙ sym (get_d_listed (row_at cells) 0 (get_or cells 0 0) j (row_at cells 0) h)
      ∙ ap (λ rs. get_or rs j (row_at cells 0)) (sym (rows_listed cells)))
      ∙ rows_each area 0 (rows_in cells) rows_hold j (row_at cells 0) (rw (rows_listed cells, length_listed (row_at cells) 0 (get_or cells 0 0)) h)

  pub prepared_narrow : Narrow cells
  prepared_narrow =
      record {
        code = λ j h. omega (arith, stands_small (get_or cells (2 + 6 * j) 0) (get_or cells (2 + 6 * j + 1) 0) (cells_at cells j).step.default (right_stands area (cells_at cells j) (row_right_lem j h)));
        style = λ j h. omega (arith, right_style area (cells_at cells j) (row_right_lem j h));
      }

  -- the positional parameters come first, no nameable name comes twice, and each row's key is its name's
  pub prepared_first : positional_first (list_in area cells) ≡ true
  unfolding list_in
  prepared_first = rows_first area 0 (rows_in cells) rows_hold

  pub prepared_apart : names_apart [] (list_in area cells) ≡ true
  prepared_apart = and_right (few && long && named && rows) apart all_of

  pub prepared_keyed : Keyed area cells (get_or cells 0 0)
  prepared_keyed = rows_keyed area cells (get_or cells 0 0) prepared_whole.long (ap (rows_right area 0) (sym (rows_listed cells)) ∙ rows_hold)

  module _ (l : ParametersSpec) (is : IsList area l (list_in area cells)) where
    pub prepared_ready : Prepared area l
    unfolding list_in
    prepared_ready =
        record {
          is_list = rw is.parameters is;
          first = rw is.parameters prepared_first;
          apart = rw is.parameters prepared_apart;
          inside = rw is.parameters (rows_inside area 0 (rows_in cells) rows_hold);
        }

  module _ (call_cells call_bytes before after : List ℕ) where
    pub prepared_counts : (c : Counts) → Ends (bound_to (list_in area cells) call_cells call_bytes before) before after (Ok c)
        → EndsBound (bound_prepared area cells call_cells call_bytes before) before after (Ok c)
    unfolding bound_prepared
    prepared_counts c e = rw t (record { answer = e.answer; numbered = e.numbered; board = e.board })

    pub prepared_refused : (r : Refusal) → Ends (bound_to (list_in area cells) call_cells call_bytes before) before after (Err r)
        → EndsBound (bound_prepared area cells call_cells call_bytes before) before after (Err (Call r))
    unfolding bound_prepared
    prepared_refused r e = rw t (record { answer = e.answer; numbered = e.numbered; board = e.board })

pub unprepared_ends : (area cells call_cells call_bytes before : List ℕ) → is_prepared area cells ≡ false → EndsBound (bound_prepared area cells call_cells call_bytes before) before before (Err NotPrepared)
unfolding bound_prepared
unprepared_ends area cells call_cells call_bytes before t = rw t (record { answer = refl; numbered = refl; board = refl })

-- ---- one answer

abbrev number_in : Outcome → ℕ
number_in (refused n d) = n
number_in (accepted c after) = 0

-- collection has no answer for 100
bound_other : (r : Result Counts Refusal) (after : List ℕ) → told r after ≡ refused 100 none → ⊥
bound_other r after e = absurd (omega (arith, ap number_in (sym e ∙ ap (λ x. told x after) (sym (told_back r after) ∙ ap answer_from e))))

-- a call's answer, as that of binding against lent cells
abbrev bound_by : Result Counts Refusal → Result Counts PreparedRefusal
bound_by (Ok c) = Ok c
bound_by (Err r) = Err (Call r)

-- two answers that tell the same are the same
pub bound_one : (r r' : Result Counts PreparedRefusal) (after after' : List ℕ) → told_by r after ≡ told_by r' after' → r ≡ r'
bound_one (Ok c) (Ok c') after after' e = ap bound_by (told_one (Ok c) (Ok c') after after' e)
bound_one (Ok c) (Err NotPrepared) after after' e = absurd (bound_other (Ok c) after e)
bound_one (Ok c) (Err (Call r')) after after' e = ap bound_by (told_one (Ok c) (Err r') after after' e)
bound_one (Err NotPrepared) (Ok c') after after' e = absurd (bound_other (Ok c') after' (sym e))
bound_one (Err NotPrepared) (Err NotPrepared) after after' e = refl
bound_one (Err NotPrepared) (Err (Call r')) after after' e = absurd (bound_other (Err r') after' (sym e))
bound_one (Err (Call r)) (Ok c') after after' e = ap bound_by (told_one (Err r) (Ok c') after after' e)
bound_one (Err (Call r)) (Err NotPrepared) after after' e = absurd (bound_other (Err r) after e)
bound_one (Err (Call r)) (Err (Call r')) after after' e = ap bound_by (told_one (Err r) (Err r') after after' e)
