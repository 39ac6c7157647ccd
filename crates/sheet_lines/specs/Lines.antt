-- The lines of an input one by one (01, sheets): those that are left, and what asking for the next one answers.
use Rattle.std.specs.Prelude.{Option, Some, None, ◌≡◌, List, [], ◌∷◌, ℕ, ◌+◌, ◌≤◌, length, drop}
use Rattle.std.specs.Borrow.{Bor}
use Rattle.rules.specs.SheetLines.{lines_in, unended}
use Rattle.sheet_lines.specs.declared.lines.Lines.{Lines}

abbrev pub lines_left : Lines → List (List ℕ)
lines_left s = lines_in (drop s.at s.input.now)

-- the line from byte `at` on, and where what is behind it begins
pub record LineAt (input : List ℕ) (at : ℕ) (line : List ℕ) (next : ℕ) : Type 0 where
  pub lines : lines_in (drop at input) ≡ line ∷ lines_in (drop next input)
  pub rest : unended (drop at input) ≡ unended (drop next input)
  pub width : next ≡ at + length line + 1
  pub within : next ≤ length input

-- no line is left: nothing ends the bytes from byte `at` on
pub record NoLine (input : List ℕ) (at : ℕ) : Type 0 where
  pub lines : lines_in (drop at input) ≡ []
  pub rest : unended (drop at input) ≡ drop at input

abbrev pub NextLine : Lines → Option (Bor (List ℕ)) → Lines → Type 0
NextLine before (Some line) after = LineAt before.input.now before.at line.now after.at × (after.input ≡ before.input)
NextLine before None after = NoLine before.input.now before.at × (after.at ≡ before.at) × (after.input ≡ before.input)
