-- `calls::place::in_runs` meets its contract: each answer rewrites with the tests that led there.
-- Assumes nothing.
use borrow.Author.Tests.{lt-ltb, le-ltb}
use Rattle.calls.specs.Places.{in_runs}
use Rattle.calls.proofs.place.in_runs.Goals as goal

pub returns-then-k-a : goal.returns-then-k-a
unfolding in_runs
returns-then-k-a c = rw (lt-ltb _ _ c.if-k-a.true)

pub returns-then-k-a-2 : goal.returns-then-k-a-2
unfolding in_runs
returns-then-k-a-2 c = rw (le-ltb _ _ c.if-k-a.false, lt-ltb _ _ c.if-k-a-2.true)

pub returns : goal.returns
unfolding in_runs
returns c = rw (le-ltb _ _ c.if-k-a.false, le-ltb _ _ c.if-k-a-2.false)
