-- What holds of every list that passes 1 to 7, and what binding leans on: `list_positional_first`, `list_names_apart` and `list_name_inside` of
-- proofs/ show it.
use Rattle.std.specs.Prelude.{Bool, true, cond, not, ◌&&◌, ◌||◌, List, [], ◌∷◌, ◌++◌, ℕ}
use Rattle.rules.specs.Listing.{all}
use Rattle.rules.specs.Text.{inside}
use Rattle.rules.specs.Parameters.{Parameter, positional, nameable}
use Rattle.rules.specs.Lookup.{known}

-- the positional parameters come first
abbrev pub positional_first : List Parameter → Bool
positional_first [] = true
positional_first (q ∷ qs) = cond (positional q) (positional_first qs) (all (λ p. not (positional p)) qs)

-- no two nameable parameters have one name: each one's is new among those before it
abbrev pub names_apart : List Parameter → List Parameter → Bool
names_apart before [] = true
names_apart before (q ∷ qs) = (not (nameable q) || not (known before q.name.bytes)) && names_apart (before ++ (q ∷ [])) qs

-- the name of a nameable parameter lies inside the area
unfoldable pub name_inside : List ℕ → Parameter → Bool
name_inside area q = not (nameable q) || inside area q.name.payload
