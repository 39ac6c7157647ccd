-- `sheet_output::parts::write_element` meets its contract: the line of each sort. Assumes nothing.
use mathlib.Core.Path.{sym, ap, ap₂, ◌∙◌}
use Rattle.cells.proofs.LawsOut.{wrote_same}
use Rattle.sheet_output.specs.declared.parts.Sort.{Sort}
use Rattle.sheet_output.specs.Parts.{star_line, star_line_at, named_line, named_line_at, element_line}
use Rattle.sheet_output.proofs.parts.write_element.Goals as goal

pub returns-in-Star : goal.returns-in-Star
unfolding star_line_at
returns-in-Star c =
    let a = c.args in
    wrote_same _ _
    (ap (star_line a.bound.now.spec.now a.bound.now.call.now) c.pair_at.ensures
    ∙ sym (ap (λ (s : Sort). element_line s a.bound.now.spec.now a.bound.now.call.now a.bound.now.board.now a.rest.from a.k) c.in-Star.is)) c.write_star.ensures

pub returns-in-Named : goal.returns-in-Named
unfolding named_line_at
returns-in-Named c =
    let a = c.args in
    wrote_same _ _
    (ap₂ (named_line a.bound.now.spec.now a.bound.now.call.now) c.pair_at-name.ensures c.pair_at-value.ensures
    ∙ sym (ap (λ (s : Sort). element_line s a.bound.now.spec.now a.bound.now.call.now a.bound.now.board.now a.rest.from a.k) c.in-Named.is)) c.write_name.ensures
