-- How the Rust reads and writes a slice or a vector by an index, `xs[i]`: it panics where the index is past the end. A panic is none, as in the
-- builder. `get_unchecked` (spec.rs 796-797), which is undefined there, is read as if it panicked.
use Rattle.std.specs.Prelude.{List, [], ◌∷◌, ℕ, zero, suc}
use Rattle.std.proofs.Math.Option.{Option, none, some}
use Rattle.original.specs.Builder.{next}

-- `xs[i]`
abbrev pub read_at : {X : Type 0} → List X → ℕ → Option X
read_at [] i = none
read_at (x ∷ xs) zero = some x
read_at (x ∷ xs) (suc i) = read_at xs i

-- `xs[i] = y`, and the slice after it
abbrev pub store_at : {X : Type 0} → List X → ℕ → X → Option (List X)
store_at [] i y = none
store_at (x ∷ xs) zero y = some (y ∷ xs)
store_at (x ∷ xs) (suc i) y = next (store_at xs i y) (λ after. some (x ∷ after))
