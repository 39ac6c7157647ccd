-- Laws of the slot reader. In order: how many slots some cells have; the slot at a position, and that a position past the last has
-- none; a sequence of reads over what is left; a sequence of reads from a position; all of it as `reads_in_order`.
-- Assumes nothing.
use mathlib.Core.Path.{◌≡◌, refl, sym, ap, ap₂, ◌∙◌, subst}
use mathlib.Core.Bool.{Bool, true, false, cond, not}
use mathlib.Core.List.{List, [], ◌∷◌}
use Prim.Native.Nat.{ℕ, zero, suc, ◌+◌, ◌*◌, ◌/◌, ◌<◌, ◌≤◌, min}
use native.Mathlib.Nat.{not-suc-le-zero, le_of_suc-le-suc, min-eq_left, min-eq_right}
use native.Mathlib.Omega.{arith}
use borrow.Author.Tests.{lt-ltb, le-ltb, ltb-true, ltb-false}
use lib.Dec.{ltb, leb, leb-zero, leb-suc-zero, leb-suc-suc}
use lib.ListN.{length, take, drop, get_or, replicate, drop_of_length-le}
use lib.Seq.{drop-cons}
use Rattle.rules.specs.Listing.{all}
use Rattle.rules.specs.Value.{Value}
use Rattle.rules.specs.Reader.{slots_in, Read, unread, holds, is_vacant, at_end, left_after, left_at, position_after, Sort, needed, optional, read_by, answers, left_behind, position_behind, seen_empty, seen, seen_each, is_no_more, ReadsInOrder}
use Rattle.rules.proofs.LawsListing.{and_both}

-- ---- slots in cells

pub slot_count_lem : (cells : List ℕ) → length (slots_in cells) ≡ length cells / 2
slot_count_lem [] = refl
slot_count_lem (kind ∷ []) = refl
slot_count_lem (kind ∷ payload ∷ cells) = ap suc (slot_count_lem cells) ∙ two_more (length cells)
  where
    two_more : (n : ℕ) → suc (n / 2) ≡ suc (suc n) / 2
    two_more n = omega arith

-- the two cells of slot `at`, as `rules` has a value
abbrev pub slot_at : List ℕ → ℕ → Value
slot_at cells at = record { kind = get_or cells (2 * at) 0; payload = get_or cells (2 * at + 1) 0 }

get_d_slots_in : (cells : List ℕ) (at : ℕ) (d : Value) → at < length (slots_in cells) → get_or (slots_in cells) at d ≡ slot_at cells at
get_d_slots_in [] at d h = absurd (not-suc-le-zero h)
get_d_slots_in (kind ∷ []) at d h = absurd (not-suc-le-zero h)
get_d_slots_in (kind ∷ payload ∷ cells) zero d h = refl
get_d_slots_in (kind ∷ payload ∷ cells) (suc at) d h = get_d_slots_in cells at d (le_of_suc-le-suc h) ∙ ap₂ (λ m n. record { kind = m; payload = n }) (deeper (2 * at) (2 * suc at) twice) (deeper (2 * at + 1) (2 * suc at + 1) once)
  where
    deeper : (m n : ℕ) → n ≡ suc (suc m) → get_or cells m 0 ≡ get_or (kind ∷ payload ∷ cells) n 0
    deeper m n e = sym (ap (λ i. get_or (kind ∷ payload ∷ cells) i 0) e)

    twice : 2 * suc at ≡ suc (suc (2 * at))
    twice = omega arith

    once : 2 * suc at + 1 ≡ suc (suc (2 * at + 1))
    once = omega arith

-- ---- what is left at a position

pub slot_left : (cells : List ℕ) (at : ℕ) → at < length cells / 2 → left_at cells at ≡ slot_at cells at ∷ left_at cells (suc at)
unfolding left_at
slot_left cells at h =
    drop-cons (slots_in cells) at (slot_at cells at) inside ∙ ap (λ v. v ∷ drop (suc at) (slots_in cells)) (get_d_slots_in cells at (slot_at cells at) inside)
  where
    inside : at < length (slots_in cells)
    inside = subst (λ n. at < n) (sym (slot_count_lem cells)) h

pub none_left_at : (cells : List ℕ) (at : ℕ) → length cells / 2 ≤ at → left_at cells at ≡ []
unfolding left_at
none_left_at cells at h = drop_of_length-le (slots_in cells) (subst (λ n. n ≤ at) (sym (slot_count_lem cells)) h)

pub moves_on : (cells : List ℕ) (at : ℕ) → at < length cells / 2 → position_after cells at ≡ suc at
unfolding position_after
moves_on cells at h = ap (λ b. cond b (suc at) at) (ap (ltb at) (slot_count_lem cells) ∙ lt-ltb at (length cells / 2) h)

pub stays_there : (cells : List ℕ) (at : ℕ) → length cells / 2 ≤ at → position_after cells at ≡ at
unfolding position_after
stays_there cells at h = ap (λ b. cond b (suc at) at) (ap (ltb at) (slot_count_lem cells) ∙ le-ltb at (length cells / 2) h)

pub left_after_one_lem : (cells : List ℕ) (at : ℕ) → left_at cells (position_after cells at) ≡ left_after (left_at cells at)
left_after_one_lem cells at = go (ltb at (length cells / 2)) refl
  where
    go : (b : Bool) → ltb at (length cells / 2) ≡ b → left_at cells (position_after cells at) ≡ left_after (left_at cells at)
    go true e =
        let h : at < length cells / 2 = ltb-true at (length cells / 2) e in
        ap (left_at cells) (moves_on cells at h) ∙ sym (ap left_after (slot_left cells at h))
    go false e =
        let h : length cells / 2 ≤ at = ltb-false at (length cells / 2) e in
        ap (left_at cells) (stays_there cells at h) ∙ none_left_at cells at h ∙ sym (ap left_after (none_left_at cells at h))

-- ---- sequences of reads over what is left

reads_seen : (s : Sort) (v : Value) (vs : List Value) → read_by s (v ∷ vs) ≡ seen s v
reads_seen needed v vs = refl
reads_seen optional v vs = refl

pub in_order_lem : (ss : List Sort) (vs : List Value) → length ss ≤ length vs → answers ss vs ≡ seen_each ss (take (length ss) vs)
in_order_lem [] vs h = refl
in_order_lem (s ∷ ss) [] h = absurd (not-suc-le-zero h)
in_order_lem (s ∷ ss) (v ∷ vs) h = ap₂ {C = List Read} (λ r rs. r ∷ rs) (reads_seen s v vs) (in_order_lem ss vs (le_of_suc-le-suc h))

seen_something : (s : Sort) (v : Value) → is_no_more (seen s v) ≡ false
seen_something s v = go (is_vacant v) s
  where
    go : (b : Bool) (s : Sort) → is_no_more (cond b (seen_empty s) (holds v)) ≡ false
    go true needed = refl
    go true optional = refl
    go false s = refl

pub none_missing_lem : (ss : List Sort) (vs : List Value) → length ss ≤ length vs → all (λ r. not (is_no_more r)) (answers ss vs) ≡ true
none_missing_lem [] vs h = refl
none_missing_lem (s ∷ ss) [] h = absurd (not-suc-le-zero h)
none_missing_lem (s ∷ ss) (v ∷ vs) h = and_both _ _ (ap (λ r. not (is_no_more r)) (reads_seen s v vs) ∙ ap not (seen_something s v)) (none_missing_lem ss vs (le_of_suc-le-suc h))

pub stays_at_the_end_lem : (ss : List Sort) → left_behind ss [] ≡ []
stays_at_the_end_lem [] = refl
stays_at_the_end_lem (s ∷ ss) = stays_at_the_end_lem ss

pub left_behind_lem : (ss : List Sort) (vs : List Value) → left_behind ss vs ≡ drop (length ss) vs
left_behind_lem [] vs = refl
left_behind_lem (s ∷ ss) [] = stays_at_the_end_lem ss
left_behind_lem (s ∷ ss) (v ∷ vs) = left_behind_lem ss vs

at_end_past : (n : ℕ) (vs : List Value) → at_end (drop n vs) ≡ leb (length vs) n
at_end_past zero [] = refl
at_end_past zero (v ∷ vs) = sym (leb-suc-zero (length vs))
at_end_past (suc n) [] = sym (leb-zero (suc n))
at_end_past (suc n) (v ∷ vs) = at_end_past n vs ∙ sym (leb-suc-suc (length vs) n)

pub end_after_last_lem : (ss : List Sort) (vs : List Value) → at_end (left_behind ss vs) ≡ leb (length vs) (length ss)
end_after_last_lem ss vs = ap at_end (left_behind_lem ss vs) ∙ at_end_past (length ss) vs

past_one : (s : Sort) → read_by s [] ≡ unread 27
past_one needed = refl
past_one optional = refl

pub past_the_end_lem : (ss : List Sort) → answers ss [] ≡ replicate (length ss) (unread 27)
past_the_end_lem [] = refl
past_the_end_lem (s ∷ ss) = ap₂ {C = List Read} (λ r rs. r ∷ rs) (past_one s) (past_the_end_lem ss)

-- ---- sequences of reads from a position

pub left_after_many_lem : (ss : List Sort) (cells : List ℕ) (at : ℕ) → left_at cells (position_behind ss cells at) ≡ left_behind ss (left_at cells at)
left_after_many_lem [] cells at = refl
left_after_many_lem (s ∷ ss) cells at = left_after_many_lem ss cells (position_after cells at) ∙ ap (left_behind ss) (left_after_one_lem cells at)

-- from a position that is not behind the last slot
position_behind_lem : (ss : List Sort) (cells : List ℕ) (at : ℕ) → at ≤ length cells / 2 → position_behind ss cells at ≡ min (length ss + at) (length cells / 2)
position_behind_lem [] cells at h = sym (ap (λ n. min n (length cells / 2)) start ∙ min-eq_left h)
  where
    start : 0 + at ≡ at
    start = omega arith
position_behind_lem (s ∷ ss) cells at h = go (ltb at (length cells / 2)) refl (position_behind_lem ss cells)
  where
    go : (b : Bool) → ltb at (length cells / 2) ≡ b → ((at : ℕ) → at ≤ length cells / 2 → position_behind ss cells at ≡ min (length ss + at) (length cells / 2))
        → position_behind ss cells (position_after cells at) ≡ min (suc (length ss) + at) (length cells / 2)
    go true e rest =
        let inside : at < length cells / 2 = ltb-true at (length cells / 2) e in
        let next : length ss + suc at ≡ suc (length ss) + at = omega arith in
        ap (position_behind ss cells) (moves_on cells at inside) ∙ rest (suc at) inside ∙ ap (λ n. min n (length cells / 2)) next
    go false e rest =
        let outside : length cells / 2 ≤ at = ltb-false at (length cells / 2) e in
        let one : length cells / 2 ≤ length ss + at = omega arith in
        let two : length cells / 2 ≤ suc (length ss) + at = omega arith in
        ap (position_behind ss cells) (stays_there cells at outside) ∙ rest at h ∙ min-eq_right one ∙ sym (min-eq_right two)

pub position_from_start_lem : (ss : List Sort) (cells : List ℕ) → position_behind ss cells 0 ≡ min (length ss) (length cells / 2)
position_from_start_lem ss cells = position_behind_lem ss cells 0 (omega arith) ∙ ap (λ n. min n (length cells / 2)) start
  where
    start : length ss + 0 ≡ length ss
    start = omega arith

pub reads_in_order : ReadsInOrder
reads_in_order =
    record {
      in_order = in_order_lem;
      none_missing = none_missing_lem;
      left = left_behind_lem;
      end_after_last = end_after_last_lem;
      past_the_end = past_the_end_lem;
      stays_at_the_end = stays_at_the_end_lem;
      slot_count = slot_count_lem;
      left_after_one = left_after_one_lem;
      left_after_many = left_after_many_lem;
      position_from_start = position_from_start_lem;
    }
