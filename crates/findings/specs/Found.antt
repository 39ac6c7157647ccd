-- The first slot of a kind, by index: what the searches over codes and sources find.
use Rattle.std.specs.Prelude.{not, ◌&&◌, List, ℕ, eqb, get_or}
use Rattle.std.proofs.Math.Option.{Option}
use Rattle.rules.specs.Listing.{first_index}

unfoldable pub first_named : List ℕ → ℕ → ℕ → Option ℕ
first_named sources k count = first_index (λ i. not (eqb (get_or sources i 0) 0)) k count

unfoldable pub first_missing : List ℕ → List ℕ → ℕ → ℕ → Option ℕ
first_missing codes sources k count = first_index (λ i. eqb (get_or codes i 0) 1 && eqb (get_or sources i 0) 0) k count
