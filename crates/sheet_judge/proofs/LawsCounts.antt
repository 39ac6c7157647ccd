-- Rows judged by counts (01, sheets): what a row asks of the rows before it can be asked of their counts, in a parameter sheet of how many
-- they are (`parameter_fits_lem`), in a call sheet of the counts of the parts and the kinds of the stars (`counts_fit`); and the counts of the
-- rows with one more (`counts_more`).
-- Assumes nothing.
use mathlib.Core.Path.{◌≡◌, refl, ap, ◌∙◌}
use mathlib.Core.Bool.{Bool, true, false, cond, ◌&&◌, ◌||◌, false≢true}
use mathlib.Core.List.{List, [], ◌∷◌, ◌++◌}
use Prim.Native.Nat.{ℕ, zero, suc, ◌+◌}
use native.Mathlib.Omega.{arith}
use lib.Dec.{ltb, eqb}
use lib.ListN.{length}
use borrow.Author.Tests.{ltb-true, lt-ltb, le-ltb, ne_eqb}
use Rattle.rules.specs.Listing.{tally}
use Rattle.rules.specs.SheetLines.{Row}
use Rattle.rules.specs.SheetRows.{is_empty, is_value, step_right, parameter_row_right, CallPart, positional, named, star, item, double, entry, unknown_part, part_number, call_part, is_part, is_list, is_dict, is_other, fewer, list_before, dict_before, call_row_right_as, call_row_right}
use Rattle.rules.specs.SheetRecords.{kind_by}
use Rattle.rules.proofs.LawsListing.{and_right, same_test, tally_append}
use Rattle.rules.proofs.LawsSheetRows.{one_before, CallRows}
use Rattle.sheet_judge.specs.Counts.{parameter_fits, counts_of, fits_as, fits, more_as, more}
use Rattle.calls.specs.Head.{head_of, Few}
use Rattle.calls.specs.declared.head.Head.{Head}

-- ---- the parameter sheet

pub parameter_fits_lem : (A : ℕ) (before : List Row) (r : Row) → parameter_row_right A before r ≡ parameter_fits A (length before) r
unfolding parameter_fits
parameter_fits_lem A [] r = refl
parameter_fits_lem A (first ∷ others) r =
    rw (ne_eqb (suc (length others)) 0 (λ e. omega arith)) (ap (λ b. step_right r && b) (one_more (length others)))
  where
    one_more : (n : ℕ) → ltb n (A + 2) ≡ ltb (suc n) (A + 3)
    one_more n =
        same_test (ltb n (A + 2)) (ltb (suc n) (A + 3)) (λ e. lt-ltb (suc n) (A + 3) (omega (arith, ltb-true n (A + 2) e)))
        (λ e. lt-ltb n (A + 2) (omega (arith, ltb-true (suc n) (A + 3) e)))

-- ---- one star

-- the kind of a star over rows joined: the first row for it says it
kind_append : (part : CallPart) (is_one : List ℕ → Bool) (xs ys : List Row)
    → kind_by part is_one (xs ++ ys) ≡ cond (eqb (kind_by part is_one xs) 0) (kind_by part is_one ys) (kind_by part is_one xs)
kind_append part is_one [] ys = refl
kind_append part is_one (x ∷ xs) ys = go (is_part part x) (is_one x.value) (kind_append part is_one xs ys)
  where
    go : (b o : Bool) → kind_by part is_one (xs ++ ys) ≡ cond (eqb (kind_by part is_one xs) 0) (kind_by part is_one ys) (kind_by part is_one xs)
        → cond b (cond o 1 2) (kind_by part is_one (xs ++ ys))
        ≡ cond (eqb (cond b (cond o 1 2) (kind_by part is_one xs)) 0) (kind_by part is_one ys) (cond b (cond o 1 2) (kind_by part is_one xs))
    go true true e = refl
    go true false e = refl
    go false o e = e

-- there is none exactly where its kind is 0
none_kind : (part : CallPart) (is_one : List ℕ → Bool) (rows : List Row) → ltb (tally (is_part part) rows) 1 ≡ eqb (kind_by part is_one rows) 0
none_kind part is_one [] = refl
none_kind part is_one (r ∷ rs) = go (is_part part r) (is_one r.value) (none_kind part is_one rs)
  where
    go : (b o : Bool) → ltb (tally (is_part part) rs) 1 ≡ eqb (kind_by part is_one rs) 0
        → ltb (cond b (suc (tally (is_part part) rs)) (tally (is_part part) rs)) 1 ≡ eqb (cond b (cond o 1 2) (kind_by part is_one rs)) 0
    go true true e = le-ltb (suc (tally (is_part part) rs)) 1 (omega arith)
    go true false e = le-ltb (suc (tally (is_part part) rs)) 1 (omega arith)
    go false o e = e

-- ---- a row behind others

module _ (B : ℕ) (rows : List Row) (h : CallRows B rows) where
  pub counts_few : Few B (head_of (counts_of rows))
  unfolding counts_of
  counts_few = record { few_p = h.few positional; few_n = h.few named; few_s = h.few item; few_d = h.few entry }

  pub counts_fit : (r : Row) → call_row_right B rows r ≡ fits B (counts_of rows) r
  unfolding call_row_right fits counts_of fewer list_before dict_before
  counts_fit r = go (call_part r.part)
    where
      go : (q : CallPart) → call_row_right_as B rows q r ≡ fits_as B (counts_of rows) q r.name r.value
      go positional = refl
      go named = refl
      go star = ap (λ b. is_empty r.name && (is_list r.value || is_other r.value) && b) (none_kind star is_list rows)
      go item = ap (λ b. is_empty r.name && is_value r.value && b && ltb (tally (is_part item) rows) B) (one_before star is_list rows (h.few star))
      go double = ap (λ b. is_empty r.name && (is_dict r.value || is_other r.value) && b) (none_kind double is_dict rows)
      go entry = ap (λ b. is_value r.name && is_value r.value && b && ltb (tally (is_part entry) rows) B) (one_before double is_dict rows (h.few double))
      go unknown_part = refl

-- ---- one row more

-- what a row of part q makes of the count of a part, and of the kind of a star
abbrev tally_with : CallPart → CallPart → ℕ → ℕ
tally_with q part n = cond (eqb (part_number q) (part_number part)) (n + 1) n

abbrev kind_with : CallPart → CallPart → Bool → ℕ → ℕ
kind_with q part is_one n = cond (eqb (part_number q) (part_number part)) (cond is_one 1 2) n

module _ (rows : List Row) (r : Row) (q : CallPart) (e : call_part r.part ≡ q) (part : CallPart) where
  is : is_part part r ≡ eqb (part_number q) (part_number part)
  unfolding is_part
  is = ap (λ x. eqb (part_number x) (part_number part)) e

  tally_with_lem : tally (is_part part) (rows ++ (r ∷ [])) ≡ tally_with q part (tally (is_part part) rows)
  tally_with_lem = tally_append (is_part part) rows (r ∷ []) ∙ rw is (go (eqb (part_number q) (part_number part)) (tally (is_part part) rows))
    where
      go : (b : Bool) (n : ℕ) → n + cond b 1 0 ≡ cond b (n + 1) n
      go true n = refl
      go false n = omega arith

  -- a star that has come does not come again
  module _ (is_one : List ℕ → Bool) (new : eqb (part_number q) (part_number part) ≡ true → eqb (kind_by part is_one rows) 0 ≡ true) where
    kind_with_lem : kind_by part is_one (rows ++ (r ∷ [])) ≡ kind_with q part (is_one r.value) (kind_by part is_one rows)
    kind_with_lem =
        kind_append part is_one rows (r ∷ []) ∙ rw is (go (eqb (part_number q) (part_number part)) (is_one r.value) (kind_by part is_one rows) new)
      where
        go : (b o : Bool) (n : ℕ) → (b ≡ true → eqb n 0 ≡ true) → cond (eqb n 0) (cond b (cond o 1 2) 0) n ≡ cond b (cond o 1 2) n
        go true o n first = rw (first refl)
        go false o zero first = refl
        go false o (suc n) first = rw (ne_eqb (suc n) 0 (λ p. omega arith))

-- what a right row says: a star was not there before
new_star : (B : ℕ) (k : Head) (r : Row) (q : CallPart) → fits_as B k q r.name r.value ≡ true → eqb (part_number q) (part_number star) ≡ true
    → eqb k.star_kind 0 ≡ true
new_star B k r positional h p = absurd (false≢true p)
new_star B k r named h p = absurd (false≢true p)
new_star B k r star h p = and_right (is_empty r.name && (is_list r.value || is_other r.value)) (eqb k.star_kind 0) h
new_star B k r item h p = absurd (false≢true p)
new_star B k r double h p = absurd (false≢true p)
new_star B k r entry h p = absurd (false≢true p)
new_star B k r unknown_part h p = absurd (false≢true p)

new_double : (B : ℕ) (k : Head) (r : Row) (q : CallPart) → fits_as B k q r.name r.value ≡ true → eqb (part_number q) (part_number double) ≡ true
    → eqb k.double_kind 0 ≡ true
new_double B k r positional h p = absurd (false≢true p)
new_double B k r named h p = absurd (false≢true p)
new_double B k r star h p = absurd (false≢true p)
new_double B k r item h p = absurd (false≢true p)
new_double B k r double h p = and_right (is_empty r.name && (is_dict r.value || is_other r.value)) (eqb k.double_kind 0) h
new_double B k r entry h p = absurd (false≢true p)
new_double B k r unknown_part h p = absurd (false≢true p)

-- the counts as the row's part makes them
counts_with : CallPart → List Row → Row → Head
counts_with q rows r =
    record {
      p = tally_with q positional (tally (is_part positional) rows);
      n = tally_with q named (tally (is_part named) rows);
      star_kind = kind_with q star (is_list r.value) (kind_by star is_list rows);
      s = tally_with q item (tally (is_part item) rows);
      double_kind = kind_with q double (is_dict r.value) (kind_by double is_dict rows);
      d = tally_with q entry (tally (is_part entry) rows);
    }

more_with : (q : CallPart) (rows : List Row) (r : Row) → more_as (counts_of rows) q r.value ≡ counts_with q rows r
unfolding counts_of counts_with
more_with positional rows r = refl
more_with named rows r = refl
more_with star rows r = refl
more_with item rows r = refl
more_with double rows r = refl
more_with entry rows r = refl
more_with unknown_part rows r = refl

module _ (B : ℕ) (rows : List Row) (r : Row) (q : CallPart) (e : call_part r.part ≡ q)
    (h : fits_as B (counts_of rows) q r.name r.value ≡ true) where
  star_new : eqb (part_number q) (part_number star) ≡ true → eqb (kind_by star is_list rows) 0 ≡ true
  unfolding counts_of
  star_new = new_star B (counts_of rows) r q h

  double_new : eqb (part_number q) (part_number double) ≡ true → eqb (kind_by double is_dict rows) 0 ≡ true
  unfolding counts_of
  double_new = new_double B (counts_of rows) r q h

  counts_as : more_as (counts_of rows) q r.value ≡ counts_of (rows ++ (r ∷ []))
  unfolding counts_of counts_with
  counts_as =
      more_with q rows r
      ∙ rw (
        tally_with_lem rows r q e positional,
        tally_with_lem rows r q e named,
        kind_with_lem rows r q e star is_list star_new,
        tally_with_lem rows r q e item,
        kind_with_lem rows r q e double is_dict double_new,
        tally_with_lem rows r q e entry,
      )

pub counts_more : (B : ℕ) (rows : List Row) (r : Row) → fits B (counts_of rows) r ≡ true → more (counts_of rows) r ≡ counts_of (rows ++ (r ∷ []))
unfolding fits more
counts_more B rows r h = counts_as B rows r (call_part r.part) refl h
