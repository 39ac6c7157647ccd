-- Rows of a right sheet (01, sheets), in this order: verdicts, of which each is right where a chain of them is; what each right row keeps of
-- the rows before it holds of all rows (`sheet_holds`); the steps of a parameter sheet; the counts and the stars of a call sheet.
-- Assumes nothing.
use mathlib.Core.Path.{◌≡◌, refl, sym, ap, ◌∙◌, subst}
use mathlib.Core.Bool.{Bool, true, false, cond, ◌&&◌, ◌||◌, false≢true}
use mathlib.Core.List.{List, [], ◌∷◌, ◌++◌, map, append-nil}
use Prim.Native.Nat.{ℕ, zero, suc, ◌+◌, ◌≤◌}
use native.Mathlib.Omega.{arith}
use lib.Dec.{ltb, eqb}
use lib.ListN.{length, length-append}
use lib.Seq.{append_snoc}
use borrow.Author.Tests.{ltb-true, eqb-true}
use Rattle.rules.specs.Listing.{all, any, tally}
use Rattle.rules.specs.CallQuestions.{kind_right}
use Rattle.rules.specs.SheetLines.{cells_in, three_cells, header_right, Columns, columns_in, Row, row_in}
use Rattle.rules.specs.SheetRows.{is_empty, is_value, step_right, parameter_row_right, CallPart, positional, named, star, item, double, entry, unknown_part, part_number, call_part, is_part, is_list, is_dict, is_other, fewer, list_before, dict_before, call_row_right_as, call_row_right}
use Rattle.rules.specs.SheetInput.{Verdict, right, bad, ◌else◌, unless, judge_rows, judge_sheet, rows_of}
use Rattle.rules.specs.SheetRecords.{kind_by}
use Rattle.rules.proofs.LawsListing.{and_left, and_right, and_both, all_append, any_append, tally_append}

-- ---- verdicts

pub right_bad : {X : Type 0} {n line : ℕ} → right ≡ bad n line → X
right_bad e = let z : ◌≡◌ {A = ℕ} 0 1 = cc in absurd (omega arith)

pub else_left : (v w : Verdict) → (v else w) ≡ right → v ≡ right
else_left right w e = refl
else_left (bad n line) w e = e

pub else_right : (v w : Verdict) → (v else w) ≡ right → w ≡ right
else_right right w e = e
else_right (bad n line) w e = right_bad (sym e)

pub unless_true : (b : Bool) (line : ℕ) → unless b line ≡ right → b ≡ true
unless_true true line e = refl
unless_true false line e = right_bad (sym e)

-- ---- what each right row keeps

module _ (row_right : List Row → Row → Bool) (Holds : List Row → Type 0) (more : (rows : List Row) (r : Row) → Holds rows → row_right rows r ≡ true → Holds (rows ++ (r ∷ []))) where
  rows_hold : (c : Columns) (at : ℕ) (before : List Row) (lines : List (List ℕ)) → Holds before → judge_rows row_right c at before lines ≡ right → Holds (before ++ map (row_in c) lines)
  rows_hold c at before [] h e = rw append-nil h
  rows_hold c at before (x ∷ xs) h e =
      let told : Bool = three_cells (cells_in x) && row_right before (row_in c x) in
      let rest : Verdict = judge_rows row_right c (suc at) (before ++ (row_in c x ∷ [])) xs in
      rw (← append_snoc before (row_in c x) (map (row_in c) xs))
      (rows_hold c (suc at) (before ++ (row_in c x ∷ [])) xs
      (more before (row_in c x) h (and_right (three_cells (cells_in x)) (row_right before (row_in c x)) (unless_true told at (else_left (unless told at) rest e))))
      (else_right (unless told at) rest e))

  pub sheet_holds : Holds [] → (at : ℕ) (lines : List (List ℕ)) → judge_sheet row_right at lines ≡ right → Holds (rows_of lines)
  sheet_holds none at [] e = none
  sheet_holds none at (header ∷ lines) e =
      rows_hold (columns_in header) (suc at) [] lines none (else_right (unless (header_right header) at) (judge_rows row_right (columns_in header) (suc at) [] lines) e)

-- ---- a parameter sheet

-- behind `def` each row is a right step, and there are at most A + 2
abbrev pub StepRows : ℕ → List Row → Type 0
StepRows A [] = Unit {0}
StepRows A (def ∷ steps) = (all step_right steps ≡ true) × (length steps ≤ A + 2)

pub step_more : (A : ℕ) (rows : List Row) (r : Row) → StepRows A rows → parameter_row_right A rows r ≡ true → StepRows A (rows ++ (r ∷ []))
step_more A [] r h e = (refl, omega arith)
step_more A (def ∷ steps) r h e =
    let own : step_right r ≡ true = and_left (step_right r) (ltb (length steps) (A + 2)) e in
    let room = ltb-true (length steps) (A + 2) (and_right (step_right r) (ltb (length steps) (A + 2)) e) in
    (all_append step_right steps (r ∷ []) h.0 (and_both (step_right r) true own refl), omega (arith, length-append steps (r ∷ [])))

-- ---- one star

-- where there is none, none is a list
none_before : (part : CallPart) (is_one : List ℕ → Bool) (rows : List Row) → tally (is_part part) rows ≤ 0
    → any (λ r. is_part part r && is_one r.value) rows ≡ false
none_before part is_one [] h = refl
none_before part is_one (r ∷ rs) h = go (is_part part r) h (none_before part is_one rs)
  where
    go : (b : Bool) → cond b (suc (tally (is_part part) rs)) (tally (is_part part) rs) ≤ 0
        → (tally (is_part part) rs ≤ 0 → any (λ q. is_part part q && is_one q.value) rs ≡ false)
        → (b && is_one r.value || any (λ q. is_part part q && is_one q.value) rs) ≡ false
    go true l ih = absurd (omega arith)
    go false l ih = ih l

-- where there is at most one, it is a list exactly where its kind is 1
pub one_before : (part : CallPart) (is_one : List ℕ → Bool) (rows : List Row) → tally (is_part part) rows ≤ 1
    → any (λ r. is_part part r && is_one r.value) rows ≡ eqb (kind_by part is_one rows) 1
one_before part is_one [] h = refl
one_before part is_one (r ∷ rs) h = go (is_part part r) (is_one r.value) h (one_before part is_one rs)
  where
    go : (b o : Bool) → cond b (suc (tally (is_part part) rs)) (tally (is_part part) rs) ≤ 1
        → (tally (is_part part) rs ≤ 1 → any (λ q. is_part part q && is_one q.value) rs ≡ eqb (kind_by part is_one rs) 1)
        → (b && o || any (λ q. is_part part q && is_one q.value) rs) ≡ eqb (cond b (cond o 1 2) (kind_by part is_one rs)) 1
    go true true l ih = refl
    go true false l ih = none_before part is_one rs (omega arith)
    go false o l ih = ih l

kind_most : (part : CallPart) (is_one : List ℕ → Bool) (rows : List Row) → kind_by part is_one rows ≤ 2
kind_most part is_one [] = omega arith
kind_most part is_one (r ∷ rs) = go (is_part part r) (is_one r.value) (kind_most part is_one rs)
  where
    go : (b o : Bool) → kind_by part is_one rs ≤ 2 → cond b (cond o 1 2) (kind_by part is_one rs) ≤ 2
    go true true h = omega arith
    go true false h = omega arith
    go false o h = h

-- a star that is there once, and is a list where it has values, is of a right kind
pub kind_right_lem : (part : CallPart) (is_one : List ℕ → Bool) (rows : List Row) → tally (is_part part) rows ≤ 1 → (n : ℕ)
    → (1 ≤ n → any (λ r. is_part part r && is_one r.value) rows ≡ true) → kind_right (kind_by part is_one rows) n ≡ true
kind_right_lem part is_one rows one n some =
    go (kind_by part is_one rows) n (kind_most part is_one rows) (λ h. eqb-true (kind_by part is_one rows) 1 (sym (one_before part is_one rows one) ∙ some h))
  where
    go : (k n : ℕ) → k ≤ 2 → (1 ≤ n → k ≡ 1) → kind_right k n ≡ true
    go zero zero h f = refl
    go zero (suc n) h f = absurd (omega (arith, f (omega arith)))
    go (suc zero) n h f = refl
    go (suc (suc zero)) zero h f = refl
    go (suc (suc zero)) (suc n) h f = absurd (omega (arith, f (omega arith)))
    go (suc (suc (suc k))) n h f = absurd (omega arith)

-- ---- a call sheet

-- how many rows a part may have
abbrev pub most : ℕ → CallPart → ℕ
most B positional = B
most B named = B
most B star = 1
most B item = B
most B double = 1
most B entry = B
most B unknown_part = 0

-- no part has too many; there are values behind a list, and entries behind a dictionary
pub record CallRows (B : ℕ) (rows : List Row) : Type 0 where
  pub few : (part : CallPart) → tally (is_part part) rows ≤ most B part
  pub items : 1 ≤ tally (is_part item) rows → list_before rows ≡ true
  pub entries : 1 ≤ tally (is_part entry) rows → dict_before rows ≡ true

pub no_rows : (B : ℕ) → CallRows B []
no_rows B = record { few = λ part. omega arith; items = λ h. absurd (omega arith); entries = λ h. absurd (omega arith) }

-- parts are told apart by their numbers
abbrev part_of : ℕ → CallPart
part_of zero = positional
part_of (suc zero) = named
part_of (suc (suc zero)) = star
part_of (suc (suc (suc zero))) = item
part_of (suc (suc (suc (suc zero)))) = double
part_of (suc (suc (suc (suc (suc zero))))) = entry
part_of (suc (suc (suc (suc (suc (suc n)))))) = unknown_part

part_back : (part : CallPart) → part_of (part_number part) ≡ part
part_back positional = refl
part_back named = refl
part_back star = refl
part_back item = refl
part_back double = refl
part_back entry = refl
part_back unknown_part = refl

module _ (B : ℕ) (rows : List Row) (r : Row) where
  -- a right row finds room
  room : (part : CallPart) → call_row_right_as B rows part r ≡ true → fewer (most B part) part rows ≡ true
  room positional e = and_right (is_empty r.name && is_value r.value) (fewer B positional rows) e
  room named e = and_right (is_value r.value) (fewer B named rows) e
  room star e = and_right (is_empty r.name && (is_list r.value || is_other r.value)) (fewer 1 star rows) e
  room item e = and_right (is_empty r.name && is_value r.value && list_before rows) (fewer B item rows) e
  room double e = and_right (is_empty r.name && (is_dict r.value || is_other r.value)) (fewer 1 double rows) e
  room entry e = and_right (is_value r.name && is_value r.value && dict_before rows) (fewer B entry rows) e
  room unknown_part e = absurd (false≢true e)

  behind_list : call_row_right_as B rows item r ≡ true → list_before rows ≡ true
  behind_list e =
      and_right (is_empty r.name && is_value r.value) (list_before rows)
      (and_left (is_empty r.name && is_value r.value && list_before rows) (fewer B item rows) e)

  behind_dict : call_row_right_as B rows entry r ≡ true → dict_before rows ≡ true
  behind_dict e =
      and_right (is_value r.name && is_value r.value) (dict_before rows)
      (and_left (is_value r.name && is_value r.value && dict_before rows) (fewer B entry rows) e)

  module _ (right : call_row_right B rows r ≡ true) where
    right_as : (part : CallPart) → is_part part r ≡ true → call_row_right_as B rows part r ≡ true
    unfolding is_part call_row_right
    right_as part e =
        let number : part_number (call_part r.part) ≡ part_number part = eqb-true (part_number (call_part r.part)) (part_number part) e in
        let same : call_part r.part ≡ part = sym (part_back (call_part r.part)) ∙ ap part_of number ∙ part_back part in
        subst (λ q. call_row_right_as B rows q r ≡ true) same right

    few_more : ((part : CallPart) → tally (is_part part) rows ≤ most B part) → (part : CallPart) → tally (is_part part) (rows ++ (r ∷ [])) ≤ most B part
    unfolding fewer
    few_more few part = go (is_part part r) refl
      where
        go : (b : Bool) → is_part part r ≡ b → tally (is_part part) (rows ++ (r ∷ [])) ≤ most B part
        go true e = rw (tally_append (is_part part) rows (r ∷ []), e) (omega (arith, ltb-true (tally (is_part part) rows) (most B part) (room part (right_as part e))))
        go false e = rw (tally_append (is_part part) rows (r ∷ []), e) (omega (arith, few part))

    -- what stands before a part's rows still does
    still : (part : CallPart) (test : Row → Bool) → (call_row_right_as B rows part r ≡ true → any test rows ≡ true) → (1 ≤ tally (is_part part) rows → any test rows ≡ true)
        → 1 ≤ tally (is_part part) (rows ++ (r ∷ [])) → any test (rows ++ (r ∷ [])) ≡ true
    still part test own before h = any_append test rows (r ∷ []) ∙ ap (λ b. b || any test (r ∷ [])) (go (is_part part r) refl)
      where
        go : (b : Bool) → is_part part r ≡ b → any test rows ≡ true
        go true e = own (right_as part e)
        go false e = before (omega (arith, rw (tally_append (is_part part) rows (r ∷ []), e) at h))

    pub call_more : CallRows B rows → CallRows B (rows ++ (r ∷ []))
    unfolding list_before dict_before
    call_more h =
        record {
          few = few_more h.few;
          items = still item (λ q. is_part star q && is_list q.value) behind_list h.items;
          entries = still entry (λ q. is_part double q && is_dict q.value) behind_dict h.entries;
        }

pub call_rows : (B : ℕ) (c : Columns) (at : ℕ) (lines : List (List ℕ)) → judge_rows (call_row_right B) c at [] lines ≡ right → CallRows B (map (row_in c) lines)
call_rows B c at lines e = rows_hold (call_row_right B) (CallRows B) (λ rows r h told. call_more B rows r told h) c at [] lines (no_rows B) e
