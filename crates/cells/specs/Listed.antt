-- A list given by its elements: what stands at an index, from an index on.
use Rattle.std.specs.Prelude.{List, [], ◌∷◌, ℕ, zero, suc}

-- `count` elements from index i on
abbrev pub listed : {X : Type 0} → (ℕ → X) → ℕ → ℕ → List X
listed at i zero = []
listed at i (suc count) = at i ∷ listed at (suc i) count
