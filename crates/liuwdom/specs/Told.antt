-- The eight cells of an answer before they are written.
use Rattle.std.specs.Prelude.{List, [], ◌∷◌, ℕ}
use Rattle.rules.specs.Text.{start_of, size_of}
use Rattle.liuwdom.specs.declared.answer.Told.{Told}

abbrev pub told_cells : Told → List ℕ
told_cells t =
    t.number ∷ t.area ∷ start_of t.name ∷ size_of t.name ∷ t.first ∷ t.second ∷ t.third ∷ t.fourth ∷ []
