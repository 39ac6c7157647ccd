-- Laws of a table with a mark for each slot (01, questions 12 and 13), in this order: the slot of a key; marks stay; a key that has no mark at
-- its slot is new; a run of entries that is walked from its end, the slots of whose keys are marked as they are passed. Assumes nothing.
use mathlib.Core.Path.{◌≡◌, refl, sym, ap, subst, ◌∙◌}
use mathlib.Core.Bool.{Bool, true, false, not, false≢true}
use mathlib.Core.List.{List, [], ◌∷◌, ◌++◌}
use Prim.Native.Nat.{ℕ, ◌+◌, ◌-◌, ◌*◌, ◌%◌, ◌<◌, ◌≤◌}
use native.Mathlib.Omega.{arith}
use lib.Dec.{eqb}
use lib.ListN.{length, drop, get_or, set, length-set}
use lib.Seq.{get_or-set_same, get_or-set_other}
use borrow.Author.Tests.{eqb-true, eqb-false, eq-eqb, ne_eqb}
use Rattle.rules.specs.Listing.{all}
use Rattle.rules.specs.Text.{text_in, bytes_at, inside}
use Rattle.rules.specs.Value.{Value, call_text, well_formed_key}
use Rattle.rules.specs.CallRecord.{Pair, pair_width, read_pair, Key, word, number, key_in}
use Rattle.rules.specs.CallQuestions.{same_key, keys_differ}
use Rattle.rules.proofs.LawsListing.{and_right, and_both, and_no_left, and_no_right, not_of, all_imp}
use Rattle.rules.proofs.LawsText.{same_bytes_eq}
use Rattle.cells.specs.Text.{last_key}
use Rattle.calls.specs.Runs.{pairs_at, Formed, key_there, keys_at, new_key}
use Rattle.calls.specs.Slots.{slots, key_slot}
use Rattle.calls.proofs.LawsEach.{each_split, keys_next, keys_split, formed_first, formed_next}
use Rattle.calls.proofs.LawsKeys.{text_inside, key_text}

-- ---- slots

pub slot_below : (k : Key) → key_slot k < slots
unfolding slots
slot_below (word t) = omega arith
slot_below (number n) = omega arith

-- the slot of a key by the two cells that were read
module _ (area : List ℕ) (v w : Value) (read : w ≡ v) where
  module _ (six : w.kind ≡ 6) (e : well_formed_key area v ≡ true) where
    is_text : eqb v.kind 6 ≡ true
    is_text = eq-eqb v.kind 6 (ap (λ (x : Value). x.kind) (sym read) ∙ six)

    pub word_inside : inside area w.payload ≡ true
    unfolding call_text
    word_inside = ap (λ (x : Value). inside area x.payload) read ∙ text_inside 0 area v.payload (key_text area v is_text e)

    pub slot_word : last_key (bytes_at area w.payload) % 929 ≡ key_slot (key_in area v)
    unfolding key_in text_in call_text slots
    slot_word = ap (λ (x : Value). last_key (bytes_at area x.payload) % 929) read ∙ rw is_text

  pub slot_number : (w.kind ≡ 6 → ⊥) → w.payload % 929 ≡ key_slot (key_in area v)
  unfolding key_in call_text slots
  slot_number n =
      ap (λ (x : Value). x.payload % 929) read ∙ rw (ne_eqb v.kind 6 (λ e. n (ap (λ (x : Value). x.kind) read ∙ e)))

-- equal keys have the same slot
same_key_slot : (k l : Key) → same_key k l ≡ true → key_slot k ≡ key_slot l
same_key_slot (word t) (word u) e = ap (λ (bytes : List ℕ). last_key bytes % slots) (same_bytes_eq t.bytes u.bytes e)
same_key_slot (word t) (number n) e = absurd (false≢true e)
same_key_slot (number m) (word u) e = absurd (false≢true e)
same_key_slot (number m) (number n) e = ap (λ (j : ℕ). j % slots) (eqb-true m n e)

-- ---- marks

-- is a slot marked, and that of a key?
abbrev pub mark : List Bool → ℕ → Bool
mark marks s = get_or marks s false

abbrev pub marked : List Bool → Key → Bool
marked marks k = mark marks (key_slot k)

mark_stays : (marks : List Bool) (s k : ℕ) → s < length marks → mark marks k ≡ true → mark (set marks s true) k ≡ true
mark_stays marks s k h e = go (eqb k s) refl
  where
    go : (b : Bool) → eqb k s ≡ b → mark (set marks s true) k ≡ true
    go true q = rw (eqb-true k s q, get_or-set_same marks s true false h)
    go false q = rw (get_or-set_other marks s k true false (eqb-false k s q)) e

mark_new : (marks : List Bool) (s : ℕ) → s < length marks → mark (set marks s true) s ≡ true
mark_new marks s h = rw (get_or-set_same marks s true false h)

-- a key that has no mark at its slot is none of some keys whose slots are marked
pub unmarked_new : (marks : List Bool) (k : Key) (ls : List Key) → marked marks k ≡ false → all (marked marks) ls ≡ true → new_key k ls ≡ true
unmarked_new marks k ls free e = all_imp (marked marks) (λ l. not (same_key k l)) (λ l m. not_of (same_key k l) (apart l m (same_key k l) refl)) ls e
  where
    apart : (l : Key) → marked marks l ≡ true → (b : Bool) → same_key k l ≡ b → same_key k l ≡ false
    apart l m true q = absurd (false≢true (sym free ∙ ap (mark marks) (same_key_slot k l q) ∙ m))
    apart l m false q = q

-- ---- a run that is walked from its end

-- what is left is `left` entries of `count`; the keys of those behind them differ, and their slots are marked
pub record Walked (area cells : List ℕ) (marks : List Bool) (from count left : ℕ) : Type 0 where
  pub few : left ≤ count
  pub wide : length marks ≡ slots
  pub apart : keys_differ (keys_at area cells (from + pair_width * left) (count - left)) ≡ true
  pub seen : all (marked marks) (keys_at area cells (from + pair_width * left) (count - left)) ≡ true

module _ (test : Pair → Bool) (cells : List ℕ) (from count left : ℕ) (some : 0 < left) (few : left ≤ count) (h : Formed test cells from count) where
  formed_here : Formed test cells (from + pair_width * (left - 1)) (count - (left - 1))
  unfolding pair_width
  formed_here =
      let e : left - 1 + (count - (left - 1)) ≡ count = omega arith in
      record {
        within = omega (arith, h.within);
        formed =
            all_back (pairs_at cells from (left - 1)) (pairs_at cells (from + pair_width * (left - 1)) (count - (left - 1)))
            (sym (ap (all test) (each_split pair_width read_pair cells from (left - 1) (count - (left - 1)))) ∙ rw e h.formed);
      }
    where
      all_back : (xs ys : List Pair) → all test (xs ++ ys) ≡ true → all test ys ≡ true
      all_back [] ys e = e
      all_back (x ∷ xs) ys e = all_back xs ys (and_right (test x) (all test (xs ++ ys)) e)

  -- the last of those that are left, and those behind it, are well formed
  pub formed_last : test (read_pair (drop (from + pair_width * (left - 1)) cells)) ≡ true
  formed_last = formed_first test cells (from + pair_width * (left - 1)) (count - (left - 1)) (omega arith) formed_here

  pub formed_behind : Formed test cells (from + pair_width * (left - 1) + pair_width) (count - left)
  formed_behind =
      let e : count - (left - 1) - 1 ≡ count - left = omega arith in
      subst (λ n. Formed test cells (from + pair_width * (left - 1) + pair_width) n) e (formed_next test cells (from + pair_width * (left - 1)) (count - (left - 1)) (omega arith) formed_here)

differ_back : (ks ls : List Key) → keys_differ ls ≡ false → keys_differ (ks ++ ls) ≡ false
differ_back [] ls e = e
differ_back (k ∷ ks) ls e = and_no_right (new_key k (ks ++ ls)) (keys_differ (ks ++ ls)) (differ_back ks ls e)

module _ (area cells : List ℕ) (from count : ℕ) where
  pub walked_start : (marks : List Bool) → length marks ≡ slots → Walked area cells marks from count count
  walked_start marks w =
      let n : count - count ≡ 0 = omega arith in
      record { few = omega arith; wide = w; apart = rw n; seen = rw n }

  module _ (marks : List Bool) (left : ℕ) (some : 0 < left) (w : Walked area cells marks from count left) where
    abbrev last : Key
    last = key_there area cells (from + pair_width * (left - 1))

    abbrev behind : List Key
    behind = keys_at area cells (from + pair_width * (left - 1) + pair_width) (count - left)

    same_place : from + pair_width * (left - 1) + pair_width ≡ from + pair_width * left
    unfolding pair_width
    same_place = omega arith

    here : keys_at area cells (from + pair_width * (left - 1)) (count - (left - 1)) ≡ last ∷ behind
    here =
        let e : count - (left - 1) - 1 ≡ count - left = omega (arith, w.few) in
        keys_next area cells (from + pair_width * (left - 1)) (count - (left - 1)) (omega (arith, w.few))
        ∙ rw e

    behind_seen : all (marked marks) behind ≡ true
    behind_seen = rw same_place w.seen

    -- the last of those that are left is none of those behind it if its slot has no mark
    pub walked_new : marked marks last ≡ false → new_key last behind ≡ true
    walked_new free = unmarked_new marks last behind free behind_seen

    pub walked_next : new_key last behind ≡ true → Walked area cells (set marks (key_slot last) true) from count (left - 1)
    walked_next new =
        record {
          few = omega (arith, w.few);
          wide = length-set marks (key_slot last) true ∙ w.wide;
          apart = ap keys_differ here ∙ and_both (new_key last behind) (keys_differ behind) new (rw same_place w.apart);
          seen =
              ap (all (marked (set marks (key_slot last) true))) here
              ∙ and_both (marked (set marks (key_slot last) true) last) (all (marked (set marks (key_slot last) true)) behind)
              (mark_new marks (key_slot last) room)
              (all_imp (marked marks) (marked (set marks (key_slot last) true)) (λ k e. mark_stays marks (key_slot last) (key_slot k) room e) behind behind_seen);
        }
      where
        room : key_slot last < length marks
        room = rw w.wide (slot_below last)

    pub walked_fails : new_key last behind ≡ false → keys_differ (keys_at area cells from count) ≡ false
    walked_fails f =
        let e : left - 1 + (count - (left - 1)) ≡ count = omega (arith, w.few) in
        subst (λ (n : ℕ). keys_differ (keys_at area cells from n) ≡ false) e
        (ap keys_differ (keys_split area cells from (left - 1) (count - (left - 1)))
        ∙ differ_back (keys_at area cells from (left - 1)) (keys_at area cells (from + pair_width * (left - 1)) (count - (left - 1)))
        (ap keys_differ here ∙ and_no_left (new_key last behind) (keys_differ behind) f))
