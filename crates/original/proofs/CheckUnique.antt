-- The Rust's check for unique names lets pass what question 13 lets pass, and otherwise its error is the first name that occurs before.
-- Assumes nothing.
use mathlib.Core.Path.{◌≡◌, refl, sym, ap, ◌∙◌}
use mathlib.Core.Bool.{Bool, true, false, cond, not, ◌||◌, true≢false}
use mathlib.Core.List.{List, [], ◌∷◌, ◌++◌, append-nil}
use mathlib.Core.Option.{none, some}
use Prim.Native.Nat.{ℕ}
use lib.Seq.{append_snoc}
use Rattle.rules.specs.Text.{Text, same_bytes, among, differ}
use Rattle.rules.specs.CallRecord.{read_call}
use Rattle.rules.specs.CallQuestions.{names_differ}
use Rattle.rules.proofs.LawsListing.{and_left, and_right, and_both, or_left, or_right, or_neither, not_yes, not_of}
use Rattle.rules.proofs.LawsText.{same_bytes_comm, among_append, differ_middle}
use Rattle.original.specs.CheckUnique.{insert_all, checked_as, new_check_unique, is_unique, written_names, FirstRepeated, ChecksUnique}

-- texts that differ, and one that is not among them
differ_snoc : (xs : List Text) (t : Text) → differ xs ≡ true → among t.bytes xs ≡ false → differ (xs ++ (t ∷ [])) ≡ true
differ_snoc [] t d new = refl
differ_snoc (x ∷ xs) t d new =
    and_both (not (among x.bytes (xs ++ (t ∷ [])))) (differ (xs ++ (t ∷ [])))
    (not_of (among x.bytes (xs ++ (t ∷ [])))
    (among_append x.bytes xs (t ∷ [])
    ∙ or_neither (among x.bytes xs) (same_bytes x.bytes t.bytes || false)
    (not_yes (among x.bytes xs) (and_left (not (among x.bytes xs)) (differ xs) d))
    (or_neither (same_bytes x.bytes t.bytes) false (same_bytes_comm x.bytes t.bytes ∙ or_left (same_bytes t.bytes x.bytes) (among t.bytes xs) new) refl)))
    (differ_snoc xs t (and_right (not (among x.bytes xs)) (differ xs) d) (or_right (same_bytes t.bytes x.bytes) (among t.bytes xs) new))

-- names that differ are all inserted
insert_all_lem : (set names : List Text) → differ (set ++ names) ≡ true → insert_all set names ≡ none
insert_all_lem set [] d = refl
insert_all_lem set (t ∷ ts) d =
    ap (λ c. cond c (some t) (insert_all (set ++ (t ∷ [])) ts)) (differ_middle set t ts d)
    ∙ insert_all_lem (set ++ (t ∷ [])) ts (ap differ (append_snoc set t ts) ∙ d)

-- of others, the loop returns the first that is in the set already
insert_returns : (set names all : List Text) → all ≡ set ++ names → differ set ≡ true → differ all ≡ false → (f : FirstRepeated all) × (insert_all set names ≡ some f.again)
insert_returns set [] all whole d e = absurd (true≢false (sym d ∙ ap differ (sym (append-nil set)) ∙ ap differ (sym whole) ∙ e))
insert_returns set (t ∷ ts) all whole d e = go (among t.bytes set) refl (λ p. insert_returns (set ++ (t ∷ [])) ts all (whole ∙ sym (append_snoc set t ts)) p e)
  where
    go : (c : Bool) → among t.bytes set ≡ c
        → (differ (set ++ (t ∷ [])) ≡ true → (f : FirstRepeated all) × (insert_all (set ++ (t ∷ [])) ts ≡ some f.again))
        → (f : FirstRepeated all) × (cond c (some t) (insert_all (set ++ (t ∷ [])) ts) ≡ some f.again)
    go true m later = (record { before = set; again = t; after = ts; stands = whole; none_before = d; occurs = m }, refl)
    go false m later = later (differ_snoc set t d m)

-- `new_check_unique` of any names
pub check_unique_original : (names : List Text) → ChecksUnique names
unfolding new_check_unique
check_unique_original names =
    record {
      handed_on = λ d. ap (λ o. checked_as o names) (insert_all_lem [] names d);
      refused = λ e. let r : (f : FirstRepeated names) × (insert_all [] names ≡ some f.again) = insert_returns [] names names refl refl e in (r.0, ap (λ o. checked_as o names) r.1);
    }

-- so it passes exactly where question 13 does
pub check_unique_13 : (area cells : List ℕ) → is_unique (new_check_unique (written_names area cells)) ≡ names_differ area (read_call cells)
unfolding written_names names_differ
check_unique_13 area cells = go (differ (written_names area cells)) refl
  where
    checked : ChecksUnique (written_names area cells)
    checked = check_unique_original (written_names area cells)

    go : (c : Bool) → differ (written_names area cells) ≡ c → is_unique (new_check_unique (written_names area cells)) ≡ c
    go true d = ap is_unique (checked.handed_on d)
    go false e = ap is_unique (checked.refused e).1
