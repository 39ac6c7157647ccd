-- `cells::text::read_text` meets its contract: each answer rewrites with the tests that led there.
-- Assumes nothing.
use mathlib.Core.Path.{◌≡◌}
use mathlib.Core.Bool.{true}
use Prim.Native.Nat.{◌+◌, ◌/◌, ◌%◌}
use native.Mathlib.Omega.{arith}
use lib.ListN.{length}
use borrow.Author.Tests.{le-leb, lt-leb}
use Rattle.rules.specs.Text.{is_text, inside, start_of, size_of}
use Rattle.cells.specs.Text.{read_text, text_of}
use Rattle.cells.proofs.text.read_text.Goals as goal
use Rattle.cells.proofs.text.read_text.Goals.{Else-area-start}

pub returns-then-start-gt65535 : goal.returns-then-start-gt65535
unfolding read_text is_text inside start_of
returns-then-start-gt65535 c = simp (lt-leb _ _ c.if-start-gt65535.true)

pub returns-then-area-start : goal.returns-then-area-start
unfolding read_text is_text inside start_of size_of
returns-then-area-start c =
    let s = c.args in
    simp (le-leb _ _ c.if-start-gt65535.false, lt-leb (s.payload / 256 + s.payload % 256) (length s.area.now) (omega arith))

-- after two tests
in_area : (c : Else-area-start) → inside c.args.area.now c.args.payload ≡ true
unfolding inside start_of size_of
in_area c =
    let s = c.args in
    simp (le-leb _ _ c.if-start-gt65535.false, le-leb (s.payload / 256 + s.payload % 256) (length s.area.now) (omega arith))

pub returns-then-len-least : goal.returns-then-len-least
unfolding read_text is_text size_of
returns-then-len-least c = simp (in_area (goal.at.returns-then-len-least c).Else-area-start, lt-leb _ _ c.if-len-least.true)

pub returns-then-len-gt64 : goal.returns-then-len-gt64
unfolding read_text is_text size_of
returns-then-len-gt64 c = simp (in_area (goal.at.returns-then-len-gt64 c).Else-area-start, le-leb _ _ c.if-len-least.false, lt-leb _ _ c.if-len-gt64.true)

pub returns : goal.returns
unfolding read_text is_text start_of size_of text_of
returns c = simp (in_area (goal.at.returns c).Else-area-start, le-leb _ _ c.if-len-least.false, le-leb _ _ c.if-len-gt64.false)
