-- `cells::text::part` meets its contract: each answer, and where it lies, rewrites with the tests that led there.
-- Assumes nothing.
use native.Mathlib.Nat.{add-sub_cancel_left}
use borrow.Author.Tests.{le-leb, lt-leb}
use Rattle.rules.specs.Text.{inside, bytes_at, start_of, size_of}
use Rattle.cells.specs.Text.{part_at, place_at}
use Rattle.cells.proofs.text.part.Goals as goal

pub returns-then-start-gt65535 : goal.returns-then-start-gt65535
unfolding part_at place_at inside start_of
returns-then-start-gt65535 c = let far = lt-leb _ _ c.if-start-gt65535.true in record { bytes = simp far; place = simp far }

pub returns-then-area-start : goal.returns-then-area-start
unfolding part_at place_at inside start_of size_of
returns-then-area-start c =
    let near = le-leb _ _ c.if-start-gt65535.false in
    let long = lt-leb _ _ c.if-area-start.true in
    record { bytes = simp (near, long); place = simp (near, long) }

pub returns : goal.returns
unfolding part_at place_at inside bytes_at start_of size_of
returns c =
    let near = le-leb _ _ c.if-start-gt65535.false in
    let fits = le-leb _ _ c.if-area-start.false in
    record { bytes = simp (near, fits, add-sub_cancel_left); place = simp (near, fits) }
