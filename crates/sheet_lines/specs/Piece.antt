-- Pieces of an input (01, sheets): a piece is a pair of indices into it, and the first mark inside a piece parts it.
use Rattle.std.specs.Prelude.{Option, Some, None, ◌≡◌, cond, List, [], ◌∷◌, ℕ, suc, ◌-◌, ◌≤◌, ◌<◌, ltb, length, take, drop}
use Rattle.std.specs.Borrow.{Bor}
use Rattle.rules.specs.SheetLines.{split}

-- the bytes from `from` up to, not including, `to`
unfoldable pub piece : List ℕ → ℕ → ℕ → List ℕ
piece input from to = take (to - from) (drop from input)

-- the pieces behind a mark at `at`; there are none where `at` is the end
unfoldable pub behind : ℕ → List ℕ → ℕ → ℕ → List (List ℕ)
behind mark input at to = cond (ltb at to) (split mark (piece input (suc at) to)) []

-- `end` is where the first mark stands, or where the piece ends if there is none
pub record PieceEnd (mark : ℕ) (input : List ℕ) (from to end : ℕ) : Type 0 where
  pub after : from ≤ end
  pub within : end ≤ to
  pub parted : split mark (piece input from to) ≡ piece input from end ∷ behind mark input end to

-- the index of the first mark from `from` on, if there is one
abbrev pub MarkFound : ℕ → List ℕ → ℕ → Option ℕ → Type 0
MarkFound mark input from (Some at) = PieceEnd mark input from (length input) at × (at < length input)
MarkFound mark input from None = PieceEnd mark input from (length input) (length input)

-- what stands before the first mark and what stands behind it
pub record Halves (mark : ℕ) (bytes first rest : List ℕ) : Type 0 where
  pub parted : split mark bytes ≡ first ∷ split mark rest
  pub shorter : length rest < length bytes

-- both, if there is a mark
abbrev pub SplitOnce : ℕ → List ℕ → Option (Bor (List ℕ) × Bor (List ℕ)) → Type 0
SplitOnce mark bytes (Some p) = Halves mark bytes p.0.now p.1.now
SplitOnce mark bytes None = split mark bytes ≡ bytes ∷ []
