-- Laws of the questions of binding as the code asks them: what it answers is what 15 to 24 answer.
-- Assumes nothing.
use mathlib.Core.Path.{◌≡◌, refl}
use mathlib.Core.Bool.{not, ◌&&◌}
use mathlib.Core.List.{List}
use mathlib.Core.Option.{some}
use Prim.Native.Nat.{ℕ, zero, suc, ◌-◌, ◌<◌}
use native.Mathlib.Omega.{arith}
use lib.Dec.{eqb}
use lib.ListN.{get_or}
use Rattle.rules.proofs.LawsIndex.{first_index_some}
use Rattle.findings.specs.Found.{first_named, first_missing}
use Rattle.questions.specs.Judge.{missing_as}
use Rattle.answers.specs.declared.answer.Refusal.TheVariants.{MissingNamedOnly}

pub missing_other : (style name : ℕ) → (style ≡ 0 → ⊥) → (style ≡ 1 → ⊥) → MissingNamedOnly name ≡ missing_as style name
missing_other zero name a b = absurd (a refl)
missing_other (suc zero) name a b = absurd (b refl)
missing_other (suc (suc n)) name a b = refl

-- ---- what is found is an index of the list

pub missing_within : (codes sources : List ℕ) (next len i : ℕ) → first_missing codes sources next (len - next) ≡ some i → i < len
unfolding first_missing
missing_within codes sources next len i e = let first = first_index_some (λ k. eqb (get_or codes k 0) 1 && eqb (get_or sources k 0) 0) next (len - next) i e in omega arith

pub named_within : (sources : List ℕ) (next i : ℕ) → first_named sources 0 next ≡ some i → i < next
unfolding first_named
named_within sources next i e = let first = first_index_some (λ k. not (eqb (get_or sources k 0) 0)) 0 next i e in omega arith
