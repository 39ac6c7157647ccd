use mathlib.Core.Path.{◌≡◌, sym, ◌∙◌}
use mathlib.Core.Bool.{false}
use Prim.Native.Nat.{◌+◌, ◌-◌}
use native.Mathlib.Omega.{arith}
use lib.ListN.{get_or}
use Rattle.lookup.specs.Lookup.{fits, fits_at, first_at}
use Rattle.lookup.proofs.LawsFind.{first_at_hit, first_at_miss, fits_style, fits_start, fits_end, fits_size, fits_bytes, bytes_differ, bytes_next, bytes_end}
use Rattle.lookup.proofs.search.Goals as goal
use Rattle.lookup.proofs.search.Goals.{In-candidates}

-- a candidate that does not fit leaves the others
missed
    : (c : In-candidates)
    → let a = c.args in
    let p = a.list.now.params in
    let at = c.candidates.at in
    fits a.list.now.area.now a.name.now (get_or p.codes at 0) (get_or p.styles at 0) (get_or p.names at 0) ≡ false
    → first_at (fits_at a.list.now.area.now p a.name.now) a.from (a.to - a.from)
    ≡ first_at (fits_at a.list.now.area.now p a.name.now) (at + 1) (a.to - (at + 1))
unfolding fits_at
missed c e =
    let a = c.args in
    c.candidates.invariant ∙ first_at_miss (fits_at a.list.now.area.now a.list.now.params a.name.now) c.candidates.at a.to c.candidates-test.true e

pub candidates-preserved-then-name-size : goal.candidates-preserved-then-name-size
candidates-preserved-then-name-size c =
    missed (goal.at.candidates-preserved-then-name-size c).In-candidates (fits_size _ _ _ _ _ (λ e. absurd (omega (arith, c.if-name-size.true))))

pub candidates-preserved-then-not-nameable_at : goal.candidates-preserved-then-not-nameable_at
candidates-preserved-then-not-nameable_at c =
    missed (goal.at.candidates-preserved-then-not-nameable_at c).In-candidates (fits_style _ _ _ _ _ (sym c.nameable_at.ensures ∙ c.if-not-nameable_at.true))

pub candidates-preserved-then-start-gt65535 : goal.candidates-preserved-then-start-gt65535
candidates-preserved-then-start-gt65535 c =
    missed (goal.at.candidates-preserved-then-start-gt65535 c).In-candidates (fits_start _ _ _ _ _ c.if-start-gt65535.true)

pub candidates-preserved-then-area-start : goal.candidates-preserved-then-area-start
candidates-preserved-then-area-start c =
    missed (goal.at.candidates-preserved-then-area-start c).In-candidates (fits_end _ _ _ _ _ c.if-area-start.true)

pub candidates-preserved : goal.candidates-preserved
candidates-preserved c =
    missed (goal.at.candidates-preserved c).In-candidates
    (fits_bytes _ _ _ _ _ (sym c.nameable_at.ensures ∙ c.if-not-nameable_at.false) c.if-start-gt65535.false c.if-area-start.false
    ∙ c.loop-j.invariant
    ∙ bytes_differ _ _ _ _ c.loop-j.j c.if-area-start.false c.if-name-size.false c.loop-j-test.true c.if-name-j.true)

pub loop-j-preserved : goal.loop-j-preserved
loop-j-preserved c =
    c.loop-j.invariant ∙ bytes_next _ _ _ _ c.loop-j.j c.if-area-start.false c.if-name-size.false c.loop-j-test.true c.if-name-j.false

pub returns-in-candidates : goal.returns-in-candidates
unfolding fits_at
returns-in-candidates c =
    let a = c.args in
    sym
    (c.candidates.invariant
    ∙ first_at_hit (fits_at a.list.now.area.now a.list.now.params a.name.now) c.candidates.at a.to c.candidates-test.true
    (fits_bytes _ _ _ _ _ (sym c.nameable_at.ensures ∙ c.if-not-nameable_at.false) c.if-start-gt65535.false c.if-area-start.false
    ∙ c.loop-j.invariant
    ∙ bytes_end _ _ _ _ c.loop-j.j c.if-area-start.false c.if-name-size.false c.loop-j-test.false))
