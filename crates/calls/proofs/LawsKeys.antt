-- Keys and names that are well formed (01, questions 11 to 13), as the code reads them: that the bytes of such a text are those that
-- `rules` compares; what reading a key answers, beside the key that `rules` has there; that two keys that were read are equal when
-- `rules` says so; and that a written name is a key that is a text, so that 13 is 12 asked of the written pairs. Assumes nothing.
use Rattle.std.specs.Prelude.{Some}
use mathlib.Core.Path.{◌≡◌, refl, sym, ap, ap₂, ◌∙◌}
use mathlib.Core.Bool.{Bool, true, false, not, ◌&&◌, ◌||◌}
use mathlib.Core.List.{List, [], ◌∷◌, map}
use Prim.Native.Nat.{ℕ, ◌+◌, ◌-◌, ◌<◌}
use lib.Dec.{eqb, leb}
use mir.Syntax.{w64}
use mir.Val.{Fits, to_z}
use mir.ValLaws.{of_z-to_z}
use borrow.Author.Tests.{eqb-true}
use Rattle.rules.specs.Text.{size_of, bytes_at, inside, is_text, Text, text_in, same_bytes, among, differ}
use Rattle.rules.specs.Value.{Value, call_text, well_formed_argument, well_formed_name, well_formed_key}
use Rattle.rules.specs.CallRecord.{Pair, pair_width, word, number, key_in, named_in}
use Rattle.rules.specs.CallQuestions.{well_formed_pair, well_formed_entry, same_key, keys_differ}
use Rattle.rules.proofs.LawsListing.{and_left, and_right, and_both, all_imp, map_where, map_map}
use Rattle.rules.proofs.LawsText.{payload_of_halves, is_text_weaker}
use Rattle.cells.specs.Text.{text_of, part_at}
use Rattle.cells.specs.Value.{read_key}
use Rattle.cells.specs.declared.value.Key.TheVariants.{Word, Number}
use Rattle.calls.specs.Runs.{pairs_at, Formed, key_there, keys_at, new_key, names_at}
use Rattle.calls.specs.Keys.{same_read}
use Rattle.calls.proofs.LawsEach.{keys_next}

-- ---- the bytes of a text

pub text_part : (least : ℕ) (area : List ℕ) (payload : ℕ) → is_text least area payload ≡ true → part_at area payload ≡ bytes_at area payload
unfolding is_text part_at
text_part least area payload e =
    rw (and_left (inside area payload) (leb least (size_of payload)) (and_left (inside area payload && leb least (size_of payload)) (leb (size_of payload) 64) e))

-- ---- a key that was read

-- a well-formed key is a text, with its bytes inside the area, or a whole number
pub data Seen (area : List ℕ) (v : Value) : Type 0 where
  as_word : read_key area v.kind v.payload ≡ Some (Word (text_of v.payload)) → key_in area v ≡ word (text_in area v.payload)
      → part_at area v.payload ≡ bytes_at area v.payload → Seen area v
  as_number : read_key area v.kind v.payload ≡ Some (Number (to_z w64 v.payload)) → key_in area v ≡ number v.payload → Seen area v

pub text_inside : (least : ℕ) (area : List ℕ) (payload : ℕ) → is_text least area payload ≡ true → inside area payload ≡ true
unfolding is_text
text_inside least area payload e =
    and_left (inside area payload) (leb least (size_of payload)) (and_left (inside area payload && leb least (size_of payload)) (leb (size_of payload) 64) e)

pub key_text : (area : List ℕ) (v : Value) → eqb v.kind call_text ≡ true → well_formed_key area v ≡ true → is_text 0 area v.payload ≡ true
unfolding well_formed_key call_text
key_text area v q e = rw (eqb-true v.kind 6 q) at e

pub seen : (area : List ℕ) (v : Value) → well_formed_key area v ≡ true → Seen area v
unfolding read_key key_in
seen area v e = go (eqb v.kind call_text) refl
  where
    go : (b : Bool) → eqb v.kind call_text ≡ b → Seen area v
    go true q = as_word (rw (e, q)) (rw q) (text_part 0 area v.payload (key_text area v q e))
    go false q = as_number (rw (e, q)) (rw q)

seen_same : (area : List ℕ) (v w : Value) → Fits w64 v.payload → Fits w64 w.payload → Seen area v → Seen area w
    → same_read area (read_key area v.kind v.payload) (read_key area w.kind w.payload) ≡ same_key (key_in area v) (key_in area w)
unfolding text_of text_in
seen_same area v w f g (as_word r k b) (as_word s l d) =
    rw (r, s, k, l, payload_of_halves v.payload, payload_of_halves w.payload, b, d)
seen_same area v w f g (as_word r k b) (as_number s l) = rw (r, s, k, l)
seen_same area v w f g (as_number r k) (as_word s l d) = rw (r, s, k, l)
seen_same area v w f g (as_number r k) (as_number s l) =
    rw (r, s, k, l, of_z-to_z w64 v.payload f, of_z-to_z w64 w.payload g)

-- two keys as they were read are equal when `rules` says so
pub same_keys : (area : List ℕ) (v w : Value) → Fits w64 v.payload → Fits w64 w.payload → well_formed_key area v ≡ true → well_formed_key area w ≡ true
    → same_read area (read_key area v.kind v.payload) (read_key area w.kind w.payload) ≡ same_key (key_in area v) (key_in area w)
same_keys area v w f g d e = seen_same area v w f g (seen area v d) (seen area w e)

-- is the key at an index none of those of a run?
abbrev pub new_at : List ℕ → List ℕ → ℕ → ℕ → ℕ → Bool
new_at area cells key at left = new_key (key_there area cells key) (keys_at area cells at left)

-- it is held against the first of the run: it is none of the run's if it is none of the rest, or it is one of them
module _ (area cells : List ℕ) (key at left : ℕ) (some : 0 < left) where
  pub new_passes : same_key (key_there area cells key) (key_there area cells at) ≡ false → new_at area cells key at left ≡ new_at area cells key (at + pair_width) (left - 1)
  new_passes e = ap (new_key (key_there area cells key)) (keys_next area cells at left some) ∙ rw e

  pub new_fails : same_key (key_there area cells key) (key_there area cells at) ≡ true → new_at area cells key at left ≡ false
  new_fails e = ap (new_key (key_there area cells key)) (keys_next area cells at left some) ∙ rw e

-- ---- a written name is a key that is a text

name_key : (area : List ℕ) (v : Value) → well_formed_name area v ≡ true → well_formed_key area v ≡ true
unfolding well_formed_name well_formed_key call_text
name_key area v e =
    rw (eqb-true v.kind 6 (and_left (eqb v.kind 6) (is_text 1 area v.payload) e))
    (is_text_weaker area v.payload (and_right (eqb v.kind 6) (is_text 1 area v.payload) e))

module _ (area : List ℕ) (p : Pair) (e : well_formed_pair area p ≡ true) where
  written_name : well_formed_name area p.key ≡ true
  unfolding well_formed_pair
  written_name = and_left (well_formed_name area p.key) (well_formed_argument area p.value) e

  written_entry : well_formed_entry area p ≡ true
  unfolding well_formed_pair well_formed_entry
  written_entry =
      and_both (well_formed_key area p.key) (well_formed_argument area p.value) (name_key area p.key written_name)
      (and_right (well_formed_name area p.key) (well_formed_argument area p.value) e)

  written_word : key_in area p.key ≡ word (named_in area p).name
  unfolding well_formed_name key_in named_in
  written_word = rw (and_left (eqb p.key.kind call_text) (is_text 1 area p.key.payload) written_name)

-- texts as keys differ just where they differ as names
none_of : (b x y : Bool) → x ≡ not y → (not b && x) ≡ not (b || y)
none_of true x y e = refl
none_of false x y e = e

word_new : (t : Text) (us : List Text) → new_key (word t) (map word us) ≡ not (among t.bytes us)
word_new t [] = refl
word_new t (u ∷ us) = none_of (same_bytes t.bytes u.bytes) (new_key (word t) (map word us)) (among t.bytes us) (word_new t us)

words_differ : (ts : List Text) → keys_differ (map word ts) ≡ differ ts
words_differ [] = refl
words_differ (t ∷ ts) = ap₂ (λ a b. a && b) (word_new t ts) (words_differ ts)

-- so written pairs that are well formed are well-formed entries, and no name of theirs stands twice just where no key does
module _ (area cells : List ℕ) (from count : ℕ) (h : Formed (well_formed_pair area) cells from count) where
  pub written_formed : Formed (well_formed_entry area) cells from count
  written_formed = record { within = h.within; formed = all_imp (well_formed_pair area) (well_formed_entry area) (written_entry area) (pairs_at cells from count) h.formed }

  pub written_keys : keys_differ (keys_at area cells from count) ≡ differ (names_at area cells from count)
  written_keys =
      ap keys_differ
      (map_where (λ p. key_in area p.key) (λ p. word (named_in area p).name) (well_formed_pair area) (written_word area) (pairs_at cells from count) h.formed
      ∙ sym (map_map (λ p. (named_in area p).name) word (pairs_at cells from count)))
      ∙ words_differ (names_at area cells from count)
