-- Reworked from starlark 0.14.2, src/eval/runtime/params/spec.rs (collect_inline_impl, collect_slow), Apache-2.0.
-- `collect_inline_impl` and `collect_slow` (spec.rs 601-851), whole: after the arguments are moved into the slots come defaults and missing
-- parameters, then *args and **kwargs. Statement by statement in the Rust's order; beside each part stand its lines.
use Rattle.std.specs.Prelude.{Bool, true, false, cond, ◌&&◌, List, [], map, ℕ, zero, suc, ◌-◌, ltb, leb, eqb, length, replicate}
use Rattle.std.proofs.Math.Option.{Option, none, some}
use Rattle.rules.specs.CallRecord.{Call, Named, Star, no_star, iterable, not_iterable, Double, no_double, dictionary, not_dictionary}
use Rattle.rules.specs.Parameters.{ParameterKind, required, optional, defaulted, args, kwargs}
use Rattle.original.specs.Spec.{is_some, ParametersSpec}
use Rattle.original.specs.Builder.{next, assert}
use Rattle.original.specs.Slices.{read_at, store_at}
use Rattle.original.specs.Locals.{Held, single, tuple, FunctionError, MissingPositionalOnly, MissingNamedOnly, Missing, ExtraPositionalArg, ExtraNamedArg, Result, ok, err, ◌and_then◌, usize_max, alloc, Locals, set_slots, store}
use Rattle.original.specs.Arguments.{zip_slots, take_positionals, name_each, take_star, test_repeats, take_double}

-- ---- defaults and missing parameters

-- 807-819
unfoldable pub missing_at : ParametersSpec → ℕ → List ℕ → FunctionError
missing_at spec index param_name =
    cond (ltb index spec.num_positional_only) (MissingPositionalOnly param_name)
    (cond (leb spec.num_positional index) (MissingNamedOnly param_name) (Missing param_name))

-- 803-825, for a slot that is empty
abbrev pub settle_empty : ParametersSpec → ℕ → ParameterKind → List (Option Held) → Option (Result (List (Option Held)))
-- 806
settle_empty spec index required slots = next (read_at spec.param_names index) (λ name. some (err (missing_at spec index name.bytes)))
-- 822
settle_empty spec index (defaulted x) slots = next (store_at slots index (some (single x))) (λ after. some (ok after))
settle_empty spec index optional slots = some (ok slots)
settle_empty spec index args slots = some (ok slots)
settle_empty spec index kwargs slots = some (ok slots)

-- 796-825: both reads are unchecked
unfoldable pub settle_one : ParametersSpec → ℕ → List (Option Held) → Option (Result (List (Option Held)))
settle_one spec index slots =
    next (read_at slots index)
    (λ slot. next (read_at spec.param_kinds index)
    (λ def. cond (is_some slot) (some (ok slots)) (settle_empty spec index def slots)))

-- 793-826: `count` indices from `index` on
abbrev pub settle_each : ParametersSpec → ℕ → ℕ → List (Option Held) → Option (Result (List (Option Held)))
settle_each spec index zero slots = some (ok slots)
settle_each spec index (suc count) slots = settle_one spec index slots and_then settle_each spec (suc index) count

-- 793: the range is empty where `next_position` is past the kinds
unfoldable pub settle : ParametersSpec → Locals → Option (Result Locals)
settle spec l =
    settle_each spec l.next_position (length spec.param_kinds - l.next_position) l.slots
    and_then λ after. some (ok (set_slots after l))

-- ---- *args and **kwargs

-- 831-839
abbrev pub set_args : Option ℕ → Locals → Option (Result Locals)
set_args (some i) l = store i (tuple l.star_args) l
set_args none l = cond (eqb (length l.star_args) 0) (some (ok l)) (some (err (ExtraPositionalArg (length l.star_args))))

-- 843-850
abbrev pub extra_named : Option (List Named) → List (Option Held) → Result (List (Option Held))
extra_named (some ms) slots = err (ExtraNamedArg (map (λ m. m.name.bytes) ms))
extra_named none slots = ok slots

-- 841-850
abbrev pub set_kwargs : Option ℕ → Locals → Option (Result (List (Option Held)))
set_kwargs (some i) l = store i (alloc l.kwargs) l and_then λ m. some (ok m.slots)
set_kwargs none l = some (extra_named l.kwargs l.slots)

-- ---- whole

-- 686-688 and 712
unfoldable pub start_locals : List (Option Held) → Locals
start_locals slots = record { slots = slots; star_args = []; kwargs = none; next_position = 0; lowest_name = usize_max }

-- 682-850
unfoldable pub collect_slow : ParametersSpec → Call → List (Option Held) → Option (Result (List (Option Held)))
collect_slow spec c slots =
    -- 684
    assert (leb (length spec.param_kinds) (length slots))
    (take_positionals spec c.positionals (start_locals slots)
    and_then name_each spec c.named
    and_then take_star spec c.star
    and_then test_repeats spec
    and_then take_double spec c.double
    and_then settle spec
    and_then set_args spec.args
    and_then set_kwargs spec.kwargs)

abbrev pub star_is_none : Star → Bool
star_is_none no_star = true
star_is_none (iterable vs) = false
star_is_none not_iterable = false

abbrev pub double_is_none : Double → Bool
double_is_none no_double = true
double_is_none (dictionary es) = false
double_is_none not_dictionary = false

-- 613-617
unfoldable pub is_short : ParametersSpec → Call → Bool
is_short spec c =
    eqb (length c.positionals) spec.num_positional
    && eqb (length c.positionals) (length spec.param_kinds)
    && eqb (length c.named) 0
    && star_is_none c.star
    && double_is_none c.double

-- 613-626, with one empty slot for each parameter (911-913)
unfoldable pub collect_inline : ParametersSpec → Call → Option (Result (List (Option Held)))
collect_inline spec c =
    let slots : List (Option Held) = replicate (length spec.param_kinds) none in
    cond (is_short spec c) (some (ok (zip_slots c.positionals slots))) (collect_slow spec c slots)
