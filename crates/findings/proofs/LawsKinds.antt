-- The kinds of a list's parameters: which code is that of a required one, and that there is an *args or a **kwargs where one is found.
-- Assumes nothing.
use mathlib.Core.Path.{◌≡◌, refl, sym}
use mathlib.Core.Bool.{Bool, true, false, cond, ◌||◌}
use mathlib.Core.List.{List, [], ◌∷◌}
use mathlib.Core.Option.{some}
use Prim.Native.Nat.{ℕ, zero, suc}
use native.Mathlib.Omega.{arith}
use borrow.Author.Tests.{ne_eqb}
use lib.Dec.{eqb}
use Rattle.rules.specs.Listing.{any, first_from}
use Rattle.rules.specs.Value.{Value}
use Rattle.rules.specs.Parameters.{Parameter, is_required, is_args, is_kwargs, args_index, kwargs_index, has_args, has_kwargs, act_of}
use Rattle.builder.specs.Params.{kind_for}
use Rattle.findings.proofs.LawsAsked.{is_some}

pub required_code : (code : ℕ) (v : Value) → is_required (kind_for (act_of code v)) ≡ eqb code 1
required_code zero v = refl
required_code (suc zero) v = refl
required_code (suc (suc zero)) v = refl
required_code (suc (suc (suc zero))) v = refl
required_code (suc (suc (suc (suc zero)))) v = refl
required_code (suc (suc (suc (suc (suc zero))))) v = refl
required_code (suc (suc (suc (suc (suc (suc zero)))))) v = refl
required_code (suc (suc (suc (suc (suc (suc (suc zero))))))) v = refl
required_code (suc (suc (suc (suc (suc (suc (suc (suc n)))))))) v = sym (ne_eqb (suc (suc (suc (suc (suc (suc (suc (suc n)))))))) 1 (λ (e : suc (suc (suc (suc (suc (suc (suc (suc n))))))) ≡ 1). absurd (omega arith)))

-- ---- a parameter that takes what is left over

any_found : {X : Type 0} (test : X → Bool) (i : ℕ) (xs : List X) → any test xs ≡ is_some (first_from test i xs)
any_found test i [] = refl
any_found test i (x ∷ xs) = go (test x) (any_found test (suc i) xs)
  where
    go : (b : Bool) → any test xs ≡ is_some (first_from test (suc i) xs) → (b || any test xs) ≡ is_some (cond b (some i) (first_from test (suc i) xs))
    go true e = refl
    go false e = e

pub args_found : (qs : List Parameter) → has_args qs ≡ is_some (args_index qs)
unfolding has_args args_index
args_found qs = any_found (λ q. is_args q.kind) 0 qs

pub kwargs_found : (qs : List Parameter) → has_kwargs qs ≡ is_some (kwargs_index qs)
unfolding has_kwargs kwargs_index
kwargs_found qs = any_found (λ q. is_kwargs q.kind) 0 qs
