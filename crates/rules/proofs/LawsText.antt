-- Laws of texts: equal bytes, a text among others, no text twice; and the two halves of a payload.
-- Assumes nothing.
use mathlib.Core.Path.{◌≡◌, refl, sym, ap₂, ◌∙◌}
use mathlib.Core.Bool.{Bool, true, false, not, ◌&&◌, ◌||◌, false≢true}
use mathlib.Core.List.{List, [], ◌∷◌, ◌++◌}
use Prim.Native.Nat.{ℕ, ◌<◌}
use borrow.Author.Tests.{eq-eqb, eqb-true}
use lib.Dec.{eqb, leb, leb-zero}
use native.Mathlib.Omega.{arith}
use Rattle.rules.specs.Text.{Text, same_bytes, among, differ, payload_of, start_of, size_of, inside, is_text}
use Rattle.rules.proofs.LawsListing.{and_left, and_right, and_both, or_left, or_right, or_neither, not_yes, not_of, same_test}

-- ---- equal bytes

pub same_bytes_refl : (xs : List ℕ) → same_bytes xs xs ≡ true
same_bytes_refl [] = refl
same_bytes_refl (x ∷ xs) = and_both (eqb x x) (same_bytes xs xs) (eq-eqb x x refl) (same_bytes_refl xs)

pub same_bytes_eq : (xs ys : List ℕ) → same_bytes xs ys ≡ true → xs ≡ ys
same_bytes_eq [] [] e = refl
same_bytes_eq [] (y ∷ ys) e = absurd (false≢true e)
same_bytes_eq (x ∷ xs) [] e = absurd (false≢true e)
same_bytes_eq (x ∷ xs) (y ∷ ys) e =
    ap₂ {C = List ℕ} (λ z zs. z ∷ zs) (eqb-true x y (and_left (eqb x y) (same_bytes xs ys) e)) (same_bytes_eq xs ys (and_right (eqb x y) (same_bytes xs ys) e))

pub eq_same_bytes : (xs ys : List ℕ) → xs ≡ ys → same_bytes xs ys ≡ true
eq_same_bytes xs ys e = rw (← e) (same_bytes_refl xs)

pub same_bytes_comm : (xs ys : List ℕ) → same_bytes xs ys ≡ same_bytes ys xs
same_bytes_comm xs ys =
    same_test (same_bytes xs ys) (same_bytes ys xs)
    (λ e. eq_same_bytes ys xs (sym (same_bytes_eq xs ys e)))
    (λ e. eq_same_bytes xs ys (sym (same_bytes_eq ys xs e)))

-- ---- a text among others, no text twice

pub among_append : (b : List ℕ) (xs ys : List Text) → among b (xs ++ ys) ≡ (among b xs || among b ys)
among_append b [] ys = refl
among_append b (x ∷ xs) ys = go (same_bytes b x.bytes) (among_append b xs ys)
  where
    go : (c : Bool) → among b (xs ++ ys) ≡ (among b xs || among b ys) → (c || among b (xs ++ ys)) ≡ (c || among b xs || among b ys)
    go true e = refl
    go false e = e

-- where no text stands twice, one in the middle is not among those before it
pub differ_middle : (xs : List Text) (t : Text) (ys : List Text) → differ (xs ++ t ∷ ys) ≡ true → among t.bytes xs ≡ false
differ_middle [] t ys e = refl
differ_middle (x ∷ xs) t ys e =
    or_neither (same_bytes t.bytes x.bytes) (among t.bytes xs)
    (same_bytes_comm t.bytes x.bytes ∙ or_left (same_bytes x.bytes t.bytes) (among x.bytes ys) (or_right (among x.bytes xs) (among x.bytes (t ∷ ys)) apart))
    (differ_middle xs t ys (and_right (not (among x.bytes (xs ++ t ∷ ys))) (differ (xs ++ t ∷ ys)) e))
  where
    apart : (among x.bytes xs || among x.bytes (t ∷ ys)) ≡ false
    apart = sym (among_append x.bytes xs (t ∷ ys)) ∙ not_yes (among x.bytes (xs ++ t ∷ ys)) (and_left (not (among x.bytes (xs ++ t ∷ ys))) (differ (xs ++ t ∷ ys)) e)

pub differ_back : (xs ys : List Text) → differ (xs ++ ys) ≡ true → differ ys ≡ true
differ_back [] ys e = e
differ_back (x ∷ xs) ys e = differ_back xs ys (and_right (not (among x.bytes (xs ++ ys))) (differ (xs ++ ys)) e)

pub differ_front : (xs ys : List Text) → differ (xs ++ ys) ≡ true → differ xs ≡ true
differ_front [] ys e = refl
differ_front (x ∷ xs) ys e =
    and_both (not (among x.bytes xs)) (differ xs)
    (not_of (among x.bytes xs) (or_left (among x.bytes xs) (among x.bytes ys) (sym (among_append x.bytes xs ys) ∙ not_yes (among x.bytes (xs ++ ys)) (and_left (not (among x.bytes (xs ++ ys))) (differ (xs ++ ys)) e))))
    (differ_front xs ys (and_right (not (among x.bytes (xs ++ ys))) (differ (xs ++ ys)) e))

-- ---- a payload's halves

pub start_of_payload : (start size : ℕ) → size < 256 → start_of (payload_of start size) ≡ start
unfolding start_of payload_of
start_of_payload start size h = omega arith

pub size_of_payload : (start size : ℕ) → size < 256 → size_of (payload_of start size) ≡ size
unfolding size_of payload_of
size_of_payload start size h = omega arith

pub payload_of_halves : (payload : ℕ) → payload_of (start_of payload) (size_of payload) ≡ payload
unfolding start_of size_of payload_of
payload_of_halves payload = omega arith

-- a text of at least one byte is one of at least none
pub is_text_weaker : (area : List ℕ) (payload : ℕ) → is_text 1 area payload ≡ true → is_text 0 area payload ≡ true
unfolding is_text
is_text_weaker area payload e =
    and_both (inside area payload && leb 0 (size_of payload)) (leb (size_of payload) 64)
    (and_both (inside area payload) (leb 0 (size_of payload)) (and_left (inside area payload) (leb 1 (size_of payload)) (and_left (inside area payload && leb 1 (size_of payload)) (leb (size_of payload) 64) e)) (leb-zero (size_of payload)))
    (and_right (inside area payload && leb 1 (size_of payload)) (leb (size_of payload) 64) e)
