-- Reworked from starlark 0.14.2, src/eval/runtime/params/spec.rs (can_fill_with_args_impl), Apache-2.0.
-- `ParametersSpec::can_fill_with_args_impl` (spec.rs 853-898), statement by statement: may this many positionals and these names fill the
-- list? A name is its bytes. A panic, where `filled` is read or written past its end, is none; what does not panic is an answer, or the way
-- that a loop has ended.
use Rattle.std.specs.Prelude.{Bool, true, false, cond, ◌&&◌, List, [], ◌∷◌, ℕ, zero, suc, ltb, length, replicate}
use Rattle.std.proofs.Math.Option.{Option, none, some}
use Rattle.rules.specs.Parameters.{ParameterKind}
use Rattle.rules.specs.Parameters as kind
use Rattle.original.specs.Spec.{is_some, is_none, ParametersSpec, get}
use Rattle.original.specs.Builder.{next}
use Rattle.original.specs.Slices.{read_at, store_at}

-- how a loop that may `return false` has ended: it has done so, or `filled` is this after its last turn
pub data Loop : Type 0 where
  returns_false : Loop
  goes_on : List Bool → Loop

-- what comes after a loop, where it has not returned
abbrev pub unless_returned : Option Loop → (List Bool → Option Bool) → Option Bool
unless_returned none rest = none
unless_returned (some returns_false) rest = some false
unless_returned (some (goes_on filled)) rest = rest filled

-- 857-865, `for p in 0..pos`: the turns from p on, of which `left` are to come
abbrev pub fill_positions : ParametersSpec → ℕ → ℕ → List Bool → Option Loop
fill_positions self p zero filled = some (goes_on filled)
fill_positions self p (suc left) filled =
    -- 858-859: a positional parameter's slot is filled
    cond (ltb p self.num_positional) (next (store_at filled p true) (fill_positions self (suc p) left))
    -- 860-861: past those it goes to *args, where there is one
    (cond (is_some self.args) (fill_positions self (suc p) left filled)
    -- 862-863
    (some returns_false))

-- 872-876, for an index that the map has and whether its slot is filled already: then it is a duplicate, else it is filled now
abbrev pub fill_at : ℕ → Bool → List Bool → Option Loop
fill_at i true filled = some returns_false
fill_at i false filled = next (store_at filled i true) (λ after. some (goes_on after))

-- 870-883, what a name does to `filled` by what the map has for it
abbrev pub fill_name : ParametersSpec → Option ℕ → List Bool → Option Loop
-- 871-877
fill_name self (some i) filled = next (read_at filled i) (λ already. fill_at i already filled)
-- 878-882: what no parameter has for its name needs **kwargs
fill_name self none filled = cond (is_none self.kwargs) (some returns_false) (some (goes_on filled))

-- the turns after one that may have returned
abbrev pub then_names : Option Loop → (List Bool → Option Loop) → Option Loop
then_names none rest = none
then_names (some returns_false) rest = some returns_false
then_names (some (goes_on filled)) rest = rest filled

-- 869-884, `for name in names`
abbrev pub fill_names : ParametersSpec → List (List ℕ) → List Bool → Option Loop
fill_names self [] filled = some (goes_on filled)
fill_names self (name ∷ names) filled = then_names (fill_name self (get self.names name) filled) (fill_names self names)

-- 885-897, `filled` zipped with the kinds: false at the first that is required and not filled, true after the last
abbrev pub none_missing : List Bool → List ParameterKind → Bool
none_missing [] kinds = true
none_missing (f ∷ filled) [] = true
-- 886-888
none_missing (true ∷ filled) (k ∷ kinds) = none_missing filled kinds
-- 889-895
none_missing (false ∷ filled) (kind.args ∷ kinds) = none_missing filled kinds
none_missing (false ∷ filled) (kind.kwargs ∷ kinds) = none_missing filled kinds
none_missing (false ∷ filled) (kind.defaulted v ∷ kinds) = none_missing filled kinds
none_missing (false ∷ filled) (kind.optional ∷ kinds) = none_missing filled kinds
none_missing (false ∷ filled) (kind.required ∷ kinds) = false

-- 855-898
unfoldable pub can_fill_with_args : ParametersSpec → ℕ → List (List ℕ) → Option Bool
can_fill_with_args self pos names =
    -- 856-865
    unless_returned (fill_positions self 0 pos (replicate (length self.param_kinds) false))
    -- 866-868
    (λ filled. cond (ltb self.num_positional pos && is_none self.args) (some false)
    -- 869-884
    (unless_returned (fill_names self names filled)
    -- 885-897
    (λ filled'. some (none_missing filled' self.param_kinds))))
