-- The collector of specs/ made total, a device of the proofs alone: a read past the end gives a default, a store past the end changes nothing,
-- and nothing is asserted. The laws of the loops speak of it; LawsTotal shows that over a list whose indices lie inside the Rust ends as this
-- does. What can't panic is cited from specs/, and the rest stands in the same order and by the same names.
use mathlib.Core.Bool.{Bool, cond}
use mathlib.Core.List.{List, [], ◌∷◌, ◌++◌}
use mathlib.Core.Option.{Option, none, some}
use Prim.Native.Nat.{ℕ, zero, suc, min, ◌-◌}
use lib.Dec.{ltb, leb, eqb}
use lib.ListN.{length, get_or, set, replicate}
use Rattle.rules.specs.Text.{Text}
use Rattle.rules.specs.Value.{Value}
use Rattle.rules.specs.CallRecord.{Call, Named, Entry, Key, word, number, Star, no_star, iterable, not_iterable, Double, no_double, dictionary, not_dictionary}
use Rattle.rules.specs.Parameters.{ParameterKind, required, optional, defaulted, args, kwargs}
use Rattle.original.specs.Spec.{is_some, ParametersSpec, get}
use Rattle.original.specs.Locals.{Held, single, tuple, ArgsArrayIsNotIterable, RepeatedArg, KwArgsIsNotDict, ArgsValueIsNotString, ExtraPositionalArg, Result, ok, err, alloc, insert_repeats, insert, insert_unique_unchecked, Locals, set_next_position, set_lowest_name, set_star_args, set_map, set_slots}
use Rattle.original.specs.Arguments.{zip_slots}
use Rattle.original.specs.Collect.{missing_at, extra_named, start_locals, is_short}

-- what is read past the end of the names and of the kinds
unfoldable pub no_text : Text
no_text = record { payload = 0; bytes = [] }

unfoldable pub no_kind : ParameterKind
no_kind = optional

-- the statement after one that may return early
infixl 20 ◌total_then◌
abbrev pub ◌total_then◌ : {X Y : Type 0} → Result X → (X → Result Y) → Result Y
◌total_then◌ (ok x) rest = rest x
◌total_then◌ (err e) rest = err e

-- ---- the arguments

-- the locals with a slot written
abbrev pub stored : ℕ → Held → Locals → Locals
stored i x l = set_slots (set l.slots i (some x)) l

unfoldable pub take_one : ParametersSpec → Value → Locals → Locals
take_one spec v l =
    cond (ltb l.next_position spec.num_positional)
    (set_next_position (suc l.next_position) (stored l.next_position (single v) l))
    (set_star_args (l.star_args ++ (v ∷ [])) l)

abbrev pub take_each : ParametersSpec → List Value → Locals → Locals
take_each spec [] l = l
take_each spec (v ∷ vs) l = take_each spec vs (take_one spec v l)

unfoldable pub take_positionals : ParametersSpec → List Value → Locals → Locals
take_positionals spec pos l =
    cond (leb (length pos) spec.num_positional)
    (set_next_position (length pos) (set_slots (zip_slots pos l.slots) l))
    (take_each spec pos l)

abbrev pub name_at : Option ℕ → Named → Locals → Locals
name_at none v l = set_map (insert_unique_unchecked v l.kwargs) l
name_at (some i) v l = set_lowest_name (min l.lowest_name i) (stored i (single v.value) l)

abbrev pub name_each : ParametersSpec → List Named → Locals → Locals
name_each spec [] l = l
name_each spec (v ∷ vs) l = name_each spec vs (name_at (get spec.names v.name.bytes) v l)

abbrev pub take_star : ParametersSpec → Star → Locals → Result Locals
take_star spec no_star l = ok l
take_star spec (iterable vs) l = ok (take_each spec vs l)
take_star spec not_iterable l = err ArgsArrayIsNotIterable

unfoldable pub test_repeats : ParametersSpec → Locals → Result Locals
test_repeats spec l =
    cond (ltb l.lowest_name l.next_position) (err (RepeatedArg (get_or spec.param_names l.lowest_name no_text).bytes)) (ok l)

abbrev pub entry_repeats : Option ℕ → Named → Locals → Bool
entry_repeats none v l = insert_repeats v l.kwargs
entry_repeats (some i) v l = is_some (get_or l.slots i none)

abbrev pub entry_after : Option ℕ → Named → Locals → Locals
entry_after none v l = set_map (insert v l.kwargs) l
entry_after (some i) v l = stored i (single v.value) l

unfoldable pub entry_at : Option ℕ → Named → Locals → Result Locals
entry_at found v l = cond (entry_repeats found v l) (err (RepeatedArg v.name.bytes)) (ok (entry_after found v l))

abbrev pub entry_one : ParametersSpec → Key → Value → Locals → Result Locals
entry_one spec (number n) v l = err ArgsValueIsNotString
entry_one spec (word s) v l = entry_at (get spec.names s.bytes) (record { name = s; value = v }) l

abbrev pub entry_each : ParametersSpec → List Entry → Locals → Result Locals
entry_each spec [] l = ok l
entry_each spec (e ∷ es) l = entry_one spec e.key e.value l total_then entry_each spec es

abbrev pub take_double : ParametersSpec → Double → Locals → Result Locals
take_double spec no_double l = ok l
take_double spec (dictionary es) l = entry_each spec es l
take_double spec not_dictionary l = err KwArgsIsNotDict

-- ---- defaults, *args and **kwargs

abbrev pub settle_empty : ParametersSpec → ℕ → ParameterKind → List (Option Held) → Result (List (Option Held))
settle_empty spec index required slots = err (missing_at spec index (get_or spec.param_names index no_text).bytes)
settle_empty spec index (defaulted x) slots = ok (set slots index (some (single x)))
settle_empty spec index optional slots = ok slots
settle_empty spec index args slots = ok slots
settle_empty spec index kwargs slots = ok slots

unfoldable pub settle_one : ParametersSpec → ℕ → List (Option Held) → Result (List (Option Held))
settle_one spec index slots =
    cond (is_some (get_or slots index none)) (ok slots) (settle_empty spec index (get_or spec.param_kinds index no_kind) slots)

abbrev pub settle_each : ParametersSpec → ℕ → ℕ → List (Option Held) → Result (List (Option Held))
settle_each spec index zero slots = ok slots
settle_each spec index (suc count) slots = settle_one spec index slots total_then settle_each spec (suc index) count

unfoldable pub settle : ParametersSpec → Locals → Result Locals
settle spec l =
    settle_each spec l.next_position (length spec.param_kinds - l.next_position) l.slots
    total_then λ after. ok (set_slots after l)

abbrev pub set_args : Option ℕ → Locals → Result Locals
set_args (some i) l = ok (stored i (tuple l.star_args) l)
set_args none l = cond (eqb (length l.star_args) 0) (ok l) (err (ExtraPositionalArg (length l.star_args)))

abbrev pub set_kwargs : Option ℕ → Locals → Result (List (Option Held))
set_kwargs (some i) l = ok (set l.slots i (some (alloc l.kwargs)))
set_kwargs none l = extra_named l.kwargs l.slots

-- ---- whole

unfoldable pub collect_slow : ParametersSpec → Call → List (Option Held) → Result (List (Option Held))
collect_slow spec c slots =
    take_star spec c.star (name_each spec c.named (take_positionals spec c.positionals (start_locals slots)))
    total_then test_repeats spec
    total_then take_double spec c.double
    total_then settle spec
    total_then set_args spec.args
    total_then set_kwargs spec.kwargs

unfoldable pub collect_inline : ParametersSpec → Call → Result (List (Option Held))
collect_inline spec c =
    let slots : List (Option Held) = replicate (length spec.param_kinds) none in
    cond (is_short spec c) (ok (zip_slots c.positionals slots)) (collect_slow spec c slots)
