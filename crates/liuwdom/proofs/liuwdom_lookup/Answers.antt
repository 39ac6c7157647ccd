-- `liuwdom::liuwdom_lookup` meets its contract: the refusal of a list is told and written, or what is found in it.
-- Assumes nothing.
use mathlib.Core.Path.{ap, ◌∙◌}
use Rattle.liuwdom.specs.Told.{told_cells}
use Rattle.liuwdom.proofs.LawsAnswer.{lookup_refused, lookup_found}
use Rattle.liuwdom.proofs.liuwdom_lookup.Goals as goal
use Rattle.liuwdom.proofs.liuwdom_lookup.Goals.{in-Ok, in-Err}

pub returns : goal.returns
returns c =
    elim c.match-build.branch [
      | in-Ok w ↦ lookup_found _ _ _ _ c.build.ensures c.write.ensures _ _ w.in-Ok.is w.get_str.ensures (ap told_cells w.told-is ∙ w.found-told.ensures)
      | in-Err w ↦ lookup_refused _ _ _ _ c.build.ensures c.write.ensures _ w.in-Err.is (ap told_cells w.told-is ∙ w.refused-told.ensures)
    ]
