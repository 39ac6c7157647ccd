-- `cuts::play` meets its contract: the parts of the two arrays that were written are the two records, and of these demand 3 holds.
-- Assumes nothing.
use mathlib.Core.Bool.{true}
use mathlib.Core.Path.{◌≡◌, sym, ◌∙◌}
use Prim.Native.Nat.{◌+◌}
use lib.ListN.{length, take}
use Rattle.cuts.specs.Play.{sizes_right}
use Rattle.cuts.specs.Record.{cut_of, Fits}
use Rattle.cuts.proofs.LawsDemand.{whole_cut, sizes_fit, whole_fits, part_cells, whole_cells, play_outside, play_tried}
use Rattle.cuts.proofs.play.Goals as goal
use Rattle.cuts.proofs.play.Goals.{Else-not-sizes_right}

-- the sizes passed their test
sized : (c : Else-not-sizes_right) → let a = c.args in sizes_right (length a.positionals.now) (length a.named.now) (cut_of a.cut) ≡ true
sized c = sym c.sizes_right.ensures ∙ c.if-not-sizes_right.false

fitting : (c : Else-not-sizes_right) → let a = c.args in Fits a.positionals.now a.named.now (cut_of a.cut)
fitting c = let a = c.args in sizes_fit a.positionals.now a.named.now (cut_of a.cut) (sized c)

pub returns-then-not-sizes_right : goal.returns-then-not-sizes_right
returns-then-not-sizes_right c =
    let a = c.args in
    play_outside a.spec.now.cells.now a.spec.now.area.now a.positionals.now a.named.now a.area.now (cut_of a.cut) a.board.now
    (sym c.sizes_right.ensures ∙ c.if-not-sizes_right.true)

pub returns : goal.returns
returns c =
    let a = c.args in
    let p = a.positionals.now in
    let n = a.named.now in
    play_tried a.spec.now.cells.now a.spec.now.area.now p n a.area.now (cut_of a.cut) a.board.now (sized (goal.at.returns c).Else-not-sizes_right)
    (take (6 + length p + length n) c.write_cut.new.out) (take (6 + length p + length n) c.write_cut-2.new.out)
    c.try_cut.new.board c.try_cut.result
    (part_cells p n (whole_cut p n) (whole_fits p n (cut_of a.cut) (fitting (goal.at.returns c).Else-not-sizes_right)) _ c.write_cut.new.out c.write_cut.ensures ∙ whole_cells p n)
    (part_cells p n (cut_of a.cut) (fitting (goal.at.returns c).Else-not-sizes_right) _ c.write_cut-2.new.out c.write_cut-2.ensures)
    c.try_cut.ensures
