-- Reworked from starlark 0.14.2, src/eval/runtime/params/spec.rs (collect_slow), Apache-2.0.
-- The first part of `collect_slow` (spec.rs 691-787), which moves the arguments into the slots, statement by statement in the Rust's order;
-- beside each part stand its lines.
-- A call of 01 stands for the arguments: `star` is `args()`, `double` is `kwargs()`, and the names of `named` are zipped with their values already.
use Rattle.std.specs.Prelude.{Bool, cond, List, [], ◌∷◌, ◌++◌, ℕ, suc, min, ltb, leb, length}
use Rattle.std.proofs.Math.Option.{Option, none, some}
use Rattle.rules.specs.Value.{Value}
use Rattle.rules.specs.CallRecord.{Named, Entry, Key, word, number, Star, no_star, iterable, not_iterable, Double, no_double, dictionary, not_dictionary}
use Rattle.original.specs.Spec.{is_some, ParametersSpec, get}
use Rattle.original.specs.Builder.{next}
use Rattle.original.specs.Slices.{read_at}
use Rattle.original.specs.Locals.{Held, single, ArgsArrayIsNotIterable, RepeatedArg, KwArgsIsNotDict, ArgsValueIsNotString, Result, ok, err, ◌and_then◌, insert_repeats, insert, insert_unique_unchecked, Locals, set_next_position, set_lowest_name, set_star_args, set_map, set_slots, store}

-- ---- positionals

-- 619-621, 693-695: for (v, s) in pos.zip(slots), which ends with the shorter of the two
abbrev pub zip_slots : List Value → List (Option Held) → List (Option Held)
zip_slots [] ss = ss
zip_slots (v ∷ vs) [] = []
zip_slots (v ∷ vs) (s ∷ ss) = some (single v) ∷ zip_slots vs ss

-- 699-704, 738-743: the next slot while a positional one is left, else star_args. The sum of 701 and 740 is at most `num_positional`, so it
-- doesn't overflow
unfoldable pub take_one : ParametersSpec → Value → Locals → Option (Result Locals)
take_one spec v l =
    cond (ltb l.next_position spec.num_positional)
    (store l.next_position (single v) l and_then λ m. some (ok (set_next_position (suc l.next_position) m)))
    (some (ok (set_star_args (l.star_args ++ (v ∷ [])) l)))

-- 698-705, 734-744
abbrev pub take_each : ParametersSpec → List Value → Locals → Option (Result Locals)
take_each spec [] l = some (ok l)
take_each spec (v ∷ vs) l = take_one spec v l and_then take_each spec vs

-- 691-706
unfoldable pub take_positionals : ParametersSpec → List Value → Locals → Option (Result Locals)
take_positionals spec pos l =
    cond (leb (length pos) spec.num_positional)
    (some (ok (set_next_position (length pos) (set_slots (zip_slots pos l.slots) l))))
    (take_each spec pos l)

-- ---- written names

-- 717-728, by what `get_index_from_param_spec` gives: the map's index (arguments.rs 84-90), looked up here or beforehand (spec.rs 495-499)
abbrev pub name_at : Option ℕ → Named → Locals → Option (Result Locals)
name_at none v l = some (ok (set_map (insert_unique_unchecked v l.kwargs) l))
name_at (some i) v l = store i (single v.value) l and_then λ m. some (ok (set_lowest_name (min m.lowest_name i) m))

-- 714-730; the test of 714 only spares an empty loop
abbrev pub name_each : ParametersSpec → List Named → Locals → Option (Result Locals)
name_each spec [] l = some (ok l)
name_each spec (v ∷ vs) l = name_at (get spec.names v.name.bytes) v l and_then name_each spec vs

-- ---- the star and the repeats

-- 733-745
abbrev pub take_star : ParametersSpec → Star → Locals → Option (Result Locals)
take_star spec no_star l = some (ok l)
take_star spec (iterable vs) l = take_each spec vs l
take_star spec not_iterable l = some (err ArgsArrayIsNotIterable)

-- 748-753
unfoldable pub test_repeats : ParametersSpec → Locals → Option (Result Locals)
test_repeats spec l =
    cond (ltb l.lowest_name l.next_position)
    (next (read_at spec.param_names l.lowest_name) (λ name. some (err (RepeatedArg name.bytes))))
    (some (ok l))

-- ---- the double star

-- 775-780: a repeat is looked at when the slot is overwritten, or the map inserted into, already
abbrev pub unless_repeat : Bool → Named → Locals → Option (Result Locals)
unless_repeat repeat v after = cond repeat (some (err (RepeatedArg v.name.bytes))) (some (ok after))

-- 763-780, by what the map of names gives
abbrev pub entry_at : Option ℕ → Named → Locals → Option (Result Locals)
-- 767
entry_at none v l = unless_repeat (insert_repeats v l.kwargs) v (set_map (insert v l.kwargs) l)
-- 769-772
entry_at (some i) v l = next (read_at l.slots i) (λ slot. store i (single v.value) l and_then unless_repeat (is_some slot) v)

-- 760-782
abbrev pub entry_one : ParametersSpec → Key → Value → Locals → Option (Result Locals)
entry_one spec (number n) v l = some (err ArgsValueIsNotString)
entry_one spec (word s) v l = entry_at (get spec.names s.bytes) (record { name = s; value = v }) l

-- 759-783
abbrev pub entry_each : ParametersSpec → List Entry → Locals → Option (Result Locals)
entry_each spec [] l = some (ok l)
entry_each spec (e ∷ es) l = entry_one spec e.key e.value l and_then entry_each spec es

-- 756-787
abbrev pub take_double : ParametersSpec → Double → Locals → Option (Result Locals)
take_double spec no_double l = some (ok l)
take_double spec (dictionary es) l = entry_each spec es l
take_double spec not_dictionary l = some (err KwArgsIsNotDict)
