-- Reworked from starlark 0.14.2, src/eval/runtime/params/spec.rs (collect_slow, LazyKwargs) and src/eval/runtime/arguments.rs (FunctionError), Apache-2.0.
-- What `collect_slow` (spec.rs 629-851) works on: its result, what a slot can hold, the map of names that fit no parameter, and its locals. A
-- statement that panics has no result: none, as in the builder.
use Rattle.std.specs.Prelude.{Bool, true, false, cond, List, [], ◌∷◌, ◌++◌, ℕ, ◌^◌, ◌-◌}
use Rattle.std.proofs.Math.Option.{Option, none, some}
use Rattle.rules.specs.Text.{same_bytes}
use Rattle.rules.specs.Value.{Value}
use Rattle.rules.specs.CallRecord.{Named}
use Rattle.original.specs.Builder.{next}
use Rattle.original.specs.Slices.{store_at}

-- a Rust value in a slot: one of 01's, the tuple of `heap.alloc_tuple` (832) or the dictionary of `kwargs.alloc` (842)
pub data Held : Type 0 where
  single : Value → Held
  tuple : List Value → Held
  dict : List Named → Held

-- `FunctionError` as far as the collector makes it, and the three wordings of `function_error!` (808-818). A name is its bytes; the name and
-- the signature of the function, which are wording, are left out
pub data FunctionError : Type 0 where
  ArgsArrayIsNotIterable : FunctionError
  RepeatedArg : List ℕ → FunctionError
  KwArgsIsNotDict : FunctionError
  ArgsValueIsNotString : FunctionError
  MissingPositionalOnly : List ℕ → FunctionError
  MissingNamedOnly : List ℕ → FunctionError
  Missing : List ℕ → FunctionError
  ExtraPositionalArg : ℕ → FunctionError
  ExtraNamedArg : List (List ℕ) → FunctionError

-- `crate::Result`
pub data Result (X : Type 0) : Type 0 where
  ok : X → Result X
  err : FunctionError → Result X

-- the statement after one that may panic, which is none, or may return an error
infixl 20 ◌and_then◌
abbrev pub ◌and_then◌ : {X Y : Type 0} → Option (Result X) → (X → Option (Result Y)) → Option (Result Y)
◌and_then◌ none rest = none
◌and_then◌ (some (ok x)) rest = rest x
◌and_then◌ (some (err e)) rest = some (err e)

-- `usize::MAX`
unfoldable pub usize_max : ℕ
usize_max = 2 ^ 64 - 1

-- ---- `LazyKwargs` (638-680): a `SmallMap` keeps the order of insertion, so it is read as the list of its pairs

-- `insert_hashed` (655): is the key there, and the map with the key's value replaced in its place, or with a new pair at the end
abbrev pub holds_key : List ℕ → List Named → Bool
holds_key bytes [] = false
holds_key bytes (m ∷ ms) = cond (same_bytes bytes m.name.bytes) true (holds_key bytes ms)

abbrev pub insert_hashed : Named → List Named → List Named
insert_hashed v [] = v ∷ []
insert_hashed v (m ∷ ms) =
    cond (same_bytes v.name.bytes m.name.bytes) (record { name = m.name; value = v.value } ∷ ms) (m ∷ insert_hashed v ms)

-- `insert` (647-657): its answer, true for a key that was there, and the map after it
abbrev pub insert_repeats : Named → Option (List Named) → Bool
insert_repeats v none = false
insert_repeats v (some ms) = holds_key v.name.bytes ms

abbrev pub insert : Named → Option (List Named) → Option (List Named)
insert v none = some (v ∷ [])
insert v (some ms) = some (insert_hashed v ms)

-- `insert_unique_unchecked` (660-671)
abbrev pub insert_unique_unchecked : Named → Option (List Named) → Option (List Named)
insert_unique_unchecked v none = some (v ∷ [])
insert_unique_unchecked v (some ms) = some (ms ++ (v ∷ []))

-- `alloc` (673-679)
abbrev pub alloc : Option (List Named) → Held
alloc (some ms) = dict ms
alloc none = dict []

-- the mutable locals (686-688, 712) and the slots that are lent
pub record Locals : Type 0 where
  pub slots : List (Option Held)
  pub star_args : List Value
  pub kwargs : Option (List Named)
  pub next_position : ℕ
  pub lowest_name : ℕ

-- `next_position = n`
abbrev pub set_next_position : ℕ → Locals → Locals
set_next_position n l =
    record { slots = l.slots; star_args = l.star_args; kwargs = l.kwargs; next_position = n; lowest_name = l.lowest_name }

-- `lowest_name = n`
abbrev pub set_lowest_name : ℕ → Locals → Locals
set_lowest_name n l =
    record { slots = l.slots; star_args = l.star_args; kwargs = l.kwargs; next_position = l.next_position; lowest_name = n }

-- `star_args` has other values
abbrev pub set_star_args : List Value → Locals → Locals
set_star_args vs l =
    record { slots = l.slots; star_args = vs; kwargs = l.kwargs; next_position = l.next_position; lowest_name = l.lowest_name }

-- `kwargs` is another map
abbrev pub set_map : Option (List Named) → Locals → Locals
set_map ms l =
    record { slots = l.slots; star_args = l.star_args; kwargs = ms; next_position = l.next_position; lowest_name = l.lowest_name }

-- the slots hold other values
abbrev pub set_slots : List (Option Held) → Locals → Locals
set_slots ss l =
    record { slots = ss; star_args = l.star_args; kwargs = l.kwargs; next_position = l.next_position; lowest_name = l.lowest_name }

-- `slots[i] = Some(x)`
abbrev pub store : ℕ → Held → Locals → Option (Result Locals)
store i x l = next (store_at l.slots i (some x)) (λ after. some (ok (set_slots after l)))
