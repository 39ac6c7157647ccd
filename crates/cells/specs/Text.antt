-- A text of the code (01, texts), what reading one answers, and the key of a text.
use Rattle.std.specs.Prelude.{Option, Some, None, ◌≡◌, true, cond, List, [], ◌∷◌, ℕ, ◌+◌, ◌-◌, ◌*◌, ◌<◌, ◌≤◌, length, take, drop, get_or}
use Rattle.std.specs.Borrow.{Bor}
use Rattle.rules.specs.Text.{start_of, size_of, is_text, inside, bytes_at, same_bytes}
use Rattle.cells.specs.declared.text.Text.{Text}

-- the text that a payload names
unfoldable pub text_of : ℕ → Text
text_of payload = record { start = start_of payload; len = size_of payload }

-- a text of `least` to 64 bytes inside the area, or no
unfoldable pub read_text : ℕ → List ℕ → ℕ → Option Text
read_text least area payload = cond (is_text least area payload) (Some (text_of payload)) None

-- the bytes of a payload that lies inside the area, none of any other
unfoldable pub part_at : List ℕ → ℕ → List ℕ
part_at area payload = cond (inside area payload) (bytes_at area payload) []

-- where they begin in a lent area, as a block of memory and the number of a byte in it: as many bytes behind the area's own place as the
-- payload's start says; at the area's own place where the payload does not lie inside
unfoldable pub place_at : Bor (List ℕ) → ℕ → ℕ × ℕ
place_at area payload = cond (inside area.now payload) (area.ref_ptr.0, start_of payload + area.ref_ptr.1) area.ref_ptr

-- the first eight bytes of a text as one number, most significant first: texts that differ here need not be compared byte by byte
abbrev pub key_from : ℕ → List ℕ → ℕ
key_from k [] = k
key_from k (b ∷ bs) = key_from (k * 256 + b) bs

unfoldable pub key_of : List ℕ → ℕ
key_of bytes = key_from 0 (take 8 bytes)

-- the same of its last eight bytes
unfoldable pub last_key : List ℕ → ℕ
last_key bytes = key_from 0 (drop (length bytes - 8) bytes)

-- the number of the first eight bytes, which are bytes
pub record IsWord (bytes : List ℕ) (word : ℕ) : Type 0 where
  pub key : word ≡ key_of bytes
  pub byte : (j : ℕ) → get_or bytes j 0 < 256

-- a text may start where the payload says, and its area has eight bytes from there on
pub record HasWord (area : List ℕ) (payload : ℕ) : Type 0 where
  pub low : start_of payload ≤ 65535
  pub room : start_of payload + 8 ≤ length area

-- two texts inside their areas that have the same bytes
pub record ShortSame (a : List ℕ) (x : ℕ) (b : List ℕ) (y : ℕ) : Type 0 where
  pub one : inside a x ≡ true
  pub other : inside b y ≡ true
  pub same : same_bytes (bytes_at a x) (bytes_at b y) ≡ true
