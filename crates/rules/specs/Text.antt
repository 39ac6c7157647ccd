-- Texts (01, cells, texts and records): a text is a run of bytes in a lent area. A cell holds its payload, start × 256 + length.
-- An area is the list of its bytes. 01's own terms defined here: payload, inside its area, equal texts.
use Rattle.std.specs.Prelude.{Bool, true, false, not, ◌&&◌, ◌||◌, List, [], ◌∷◌, ℕ, ◌+◌, ◌*◌, ◌/◌, ◌%◌, leb, eqb, length, take, drop}

-- the payload of a text
unfoldable pub payload_of : ℕ → ℕ → ℕ
payload_of start size = start * 256 + size

-- where the text of a payload starts
unfoldable pub start_of : ℕ → ℕ
start_of payload = payload / 256

-- how many bytes it has
unfoldable pub size_of : ℕ → ℕ
size_of payload = payload % 256

-- the bytes that a payload names in an area
unfoldable pub bytes_at : List ℕ → ℕ → List ℕ
bytes_at area payload = take (size_of payload) (drop (start_of payload) area)

-- the text starts within the first 65,536 bytes and all of it lies inside its area; so does an empty text that starts at the area's end
unfoldable pub inside : List ℕ → ℕ → Bool
inside area payload = leb (start_of payload) 65535 && leb (start_of payload + size_of payload) (length area)

-- a text of `least` to 64 bytes inside an area
unfoldable pub is_text : ℕ → List ℕ → ℕ → Bool
is_text least area payload = inside area payload && leb least (size_of payload) && leb (size_of payload) 64

-- two texts are equal when they have the same bytes, wherever they stand
abbrev pub same_bytes : List ℕ → List ℕ → Bool
same_bytes [] [] = true
same_bytes [] (y ∷ ys) = false
same_bytes (x ∷ xs) [] = false
same_bytes (x ∷ xs) (y ∷ ys) = eqb x y && same_bytes xs ys

-- a text as it is read: the payload, which the board repeats, and the bytes, by which it is compared
pub record Text : Type 0 where
  pub payload : ℕ
  pub bytes : List ℕ

unfoldable pub text_in : List ℕ → ℕ → Text
text_in area payload = record { payload = payload; bytes = bytes_at area payload }

-- is there a text with these bytes among the texts?
abbrev pub among : List ℕ → List Text → Bool
among bytes [] = false
among bytes (t ∷ ts) = same_bytes bytes t.bytes || among bytes ts

-- no text twice
abbrev pub differ : List Text → Bool
differ [] = true
differ (t ∷ ts) = not (among t.bytes ts) && differ ts
