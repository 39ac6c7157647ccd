-- The collector does not panic over a list whose indices lie inside, whatever the call: statement by statement it ends as the total one of
-- TotalCollect does, and there stay a slot for each parameter at least and a `next_position` that is within the positional parameters.
-- Assumes nothing.
use mathlib.Core.Path.{◌≡◌, refl, ap, ◌∙◌}
use mathlib.Core.Bool.{Bool, true, false, cond}
use mathlib.Core.List.{List, [], ◌∷◌, ◌++◌}
use mathlib.Core.Option.{Option, none, some}
use Prim.Native.Nat.{ℕ, zero, suc, ◌+◌, ◌-◌, min, ◌≤◌, ◌<◌}
use native.Mathlib.Omega.{arith}
use borrow.Author.Tests.{ltb-true, leb-true, le-leb}
use lib.Dec.{ltb, leb, eqb}
use lib.ListN.{length, get_or, replicate, length-set, length-replicate}
use Rattle.rules.specs.Value.{Value}
use Rattle.rules.specs.CallRecord.{Call, Named, Entry, Key, word, number, Star, no_star, iterable, not_iterable, Double, no_double, dictionary, not_dictionary}
use Rattle.rules.specs.Parameters.{ParameterKind, required, optional, defaulted, args, kwargs}
use Rattle.original.specs.Spec.{is_some, ParametersSpec, get}
use Rattle.original.specs.Builder.{next}
use Rattle.original.specs.Slices.{read_at}
use Rattle.original.specs.Locals.{Held, single, tuple, RepeatedArg, ExtraPositionalArg, Result, ok, err, ◌and_then◌, alloc, insert_repeats, insert, Locals, set_next_position, set_lowest_name, set_star_args, set_map, set_slots, store}
use Rattle.original.specs.Arguments.{zip_slots, take_one, take_each, take_positionals, name_at, name_each, take_star, test_repeats, unless_repeat, entry_at, entry_one, entry_each, take_double}
use Rattle.original.specs.Collect.{missing_at, settle_empty, settle_one, settle_each, settle, set_args, set_kwargs, start_locals, collect_slow, is_short, collect_inline}
use Rattle.original.proofs.TotalCollect.{no_text, no_kind, ◌total_then◌, stored}
use Rattle.original.proofs.TotalCollect as total
use Rattle.original.proofs.LawsInside.{read_inside, store_inside, Below, Inside}

-- ---- ends alike

-- what holds of the value where there is one
abbrev OfValue : {X : Type 0} → (X → Type 0) → Result X → Type 0
OfValue P (ok x) = P x
OfValue P (err e) = Unit

-- a statement ends without a panic as its total form does, and P holds of what it goes on with
record Alike {X : Type 0} (P : X → Type 0) (ran : Option (Result X)) (form : Result X) : Type 0 where
  same : ran ≡ some form
  kept : OfValue P form

then_alike : {X Y : Type 0} {P : X → Type 0} {Q : Y → Type 0} {ran : Option (Result X)} {form : Result X} (f : X → Option (Result Y)) (g : X → Result Y)
    → ((x : X) → P x → Alike Q (f x) (g x)) → Alike P ran form → Alike Q (ran and_then f) (form total_then g)
then_alike {form = ok x} f g later a = record { same = ap (λ o. o and_then f) a.same ∙ (later x a.kept).same; kept = (later x a.kept).kept }
then_alike {form = err e} f g later a = record { same = ap (λ o. o and_then f) a.same; kept = tt }

-- ---- the arguments

-- the locals between two statements
record Ready (spec : ParametersSpec) (l : Locals) : Type 0 where
  long : length spec.param_kinds ≤ length l.slots
  short : l.next_position ≤ spec.num_positional

zip_length : (vs : List Value) (ss : List (Option Held)) → length (zip_slots vs ss) ≡ length ss
zip_length [] ss = refl
zip_length (v ∷ vs) [] = refl
zip_length (v ∷ vs) (s ∷ ss) = ap suc (zip_length vs ss)

module _ (spec : ParametersSpec) (inside : Inside spec) where
  store_alike : (i : ℕ) (x : Held) (l : Locals) → Ready spec l → i < length spec.param_kinds → Alike (Ready spec) (store i x l) (ok (stored i x l))
  store_alike i x l r h =
      record {
        same = ap (λ o. next o (λ after. some (ok (set_slots after l)))) (store_inside l.slots i (some x) (omega (arith, r.long)));
        kept = record { long = omega (arith, r.long, length-set l.slots i (some x)); short = r.short };
      }

  one_alike : (v : Value) (l : Locals) → Ready spec l → Alike (Ready spec) (take_one spec v l) (ok (total.take_one spec v l))
  unfolding take_one total.take_one
  one_alike v l r = go (ltb l.next_position spec.num_positional) refl
    where
      go : (b : Bool) → ltb l.next_position spec.num_positional ≡ b
          → Alike (Ready spec)
          (cond b (store l.next_position (single v) l and_then λ m. some (ok (set_next_position (suc l.next_position) m))) (some (ok (set_star_args (l.star_args ++ (v ∷ [])) l))))
          (ok (cond b (set_next_position (suc l.next_position) (stored l.next_position (single v) l)) (set_star_args (l.star_args ++ (v ∷ [])) l)))
      go true e =
          let below : l.next_position < spec.num_positional = ltb-true l.next_position spec.num_positional e in
          let at : Alike (Ready spec) (store l.next_position (single v) l) (ok (stored l.next_position (single v) l)) = store_alike l.next_position (single v) l r (omega (arith, below, inside.positional_below)) in
          record {
            same = ap (λ o. o and_then λ m. some (ok (set_next_position (suc l.next_position) m))) at.same;
            kept = record { long = at.kept.long; short = below };
          }
      go false e = record { same = refl; kept = record { long = r.long; short = r.short } }

  each_alike : (vs : List Value) (l : Locals) → Ready spec l → Alike (Ready spec) (take_each spec vs l) (ok (total.take_each spec vs l))
  each_alike [] l r = record { same = refl; kept = r }
  each_alike (v ∷ vs) l r =
      then_alike (take_each spec vs) (λ m. ok (total.take_each spec vs m)) (each_alike vs) (one_alike v l r)

  positionals_alike : (vs : List Value) (l : Locals) → Ready spec l → Alike (Ready spec) (take_positionals spec vs l) (ok (total.take_positionals spec vs l))
  unfolding take_positionals total.take_positionals
  positionals_alike vs l r = go (leb (length vs) spec.num_positional) refl
    where
      go : (b : Bool) → leb (length vs) spec.num_positional ≡ b
          → Alike (Ready spec)
          (cond b (some (ok (set_next_position (length vs) (set_slots (zip_slots vs l.slots) l)))) (take_each spec vs l))
          (ok (cond b (set_next_position (length vs) (set_slots (zip_slots vs l.slots) l)) (total.take_each spec vs l)))
      go true e = record { same = refl; kept = record { long = omega (arith, r.long, zip_length vs l.slots); short = leb-true (length vs) spec.num_positional e } }
      go false e = each_alike vs l r

  name_alike : (o : Option ℕ) → Below (length spec.param_kinds) o → (v : Named) (l : Locals) → Ready spec l → Alike (Ready spec) (name_at o v l) (ok (total.name_at o v l))
  name_alike none h v l r = record { same = refl; kept = record { long = r.long; short = r.short } }
  name_alike (some i) h v l r =
      then_alike (λ m. some (ok (set_lowest_name (min m.lowest_name i) m))) (λ m. ok (set_lowest_name (min m.lowest_name i) m))
      (λ m s. record { same = refl; kept = record { long = s.long; short = s.short } }) (store_alike i (single v.value) l r h)

  names_alike : (vs : List Named) (l : Locals) → Ready spec l → Alike (Ready spec) (name_each spec vs l) (ok (total.name_each spec vs l))
  names_alike [] l r = record { same = refl; kept = r }
  names_alike (v ∷ vs) l r =
      then_alike (name_each spec vs) (λ m. ok (total.name_each spec vs m)) (names_alike vs)
      (name_alike (get spec.names v.name.bytes) (inside.found_below v.name.bytes) v l r)

  star_alike : (x : Star) (l : Locals) → Ready spec l → Alike (Ready spec) (take_star spec x l) (total.take_star spec x l)
  star_alike no_star l r = record { same = refl; kept = r }
  star_alike (iterable vs) l r = each_alike vs l r
  star_alike not_iterable l r = record { same = refl; kept = tt }

  tested_alike : (l : Locals) → Ready spec l → Alike (Ready spec) (test_repeats spec l) (total.test_repeats spec l)
  unfolding test_repeats total.test_repeats
  tested_alike l r = go (ltb l.lowest_name l.next_position) refl
    where
      go : (b : Bool) → ltb l.lowest_name l.next_position ≡ b
          → Alike (Ready spec)
          (cond b (next (read_at spec.param_names l.lowest_name) (λ name. some (err (RepeatedArg name.bytes)))) (some (ok l)))
          (cond b (err (RepeatedArg (get_or spec.param_names l.lowest_name no_text).bytes)) (ok l))
      go true e =
          record {
            same =
                ap (λ o. next o (λ name. some (err (RepeatedArg name.bytes))))
                (read_inside spec.param_names l.lowest_name no_text (omega (arith, ltb-true l.lowest_name l.next_position e, r.short, inside.positional_below, inside.all_named)));
            kept = tt;
          }
      go false e = record { same = refl; kept = r }

  -- ---- the double star

  unless_alike : (b : Bool) (v : Named) (l : Locals) → Ready spec l → Alike (Ready spec) (unless_repeat b v l) (cond b (err (RepeatedArg v.name.bytes)) (ok l))
  unless_alike true v l r = record { same = refl; kept = tt }
  unless_alike false v l r = record { same = refl; kept = r }

  entry_alike : (o : Option ℕ) → Below (length spec.param_kinds) o → (v : Named) (l : Locals) → Ready spec l → Alike (Ready spec) (entry_at o v l) (total.entry_at o v l)
  unfolding total.entry_at
  entry_alike none h v l r = unless_alike (insert_repeats v l.kwargs) v (set_map (insert v l.kwargs) l) (record { long = r.long; short = r.short })
  entry_alike (some i) h v l r =
      record {
        same = ap (λ o. next o (λ slot. store i (single v.value) l and_then unless_repeat (is_some slot) v)) (read_inside l.slots i none (omega (arith, r.long))) ∙ after.same;
        kept = after.kept;
      }
    where
      repeat : Bool
      repeat = is_some (get_or l.slots i none)

      after : Alike (Ready spec) (store i (single v.value) l and_then unless_repeat repeat v) (cond repeat (err (RepeatedArg v.name.bytes)) (ok (stored i (single v.value) l)))
      after =
          then_alike (unless_repeat repeat v) (λ m. cond repeat (err (RepeatedArg v.name.bytes)) (ok m)) (unless_alike repeat v) (store_alike i (single v.value) l r h)

  key_alike : (k : Key) (v : Value) (l : Locals) → Ready spec l → Alike (Ready spec) (entry_one spec k v l) (total.entry_one spec k v l)
  key_alike (number n) v l r = record { same = refl; kept = tt }
  key_alike (word s) v l r = entry_alike (get spec.names s.bytes) (inside.found_below s.bytes) (record { name = s; value = v }) l r

  entries_alike : (es : List Entry) (l : Locals) → Ready spec l → Alike (Ready spec) (entry_each spec es l) (total.entry_each spec es l)
  entries_alike [] l r = record { same = refl; kept = r }
  entries_alike (e ∷ es) l r =
      then_alike (entry_each spec es) (total.entry_each spec es) (entries_alike es) (key_alike e.key e.value l r)

  double_alike : (x : Double) (l : Locals) → Ready spec l → Alike (Ready spec) (take_double spec x l) (total.take_double spec x l)
  double_alike no_double l r = record { same = refl; kept = r }
  double_alike (dictionary es) l r = entries_alike es l r
  double_alike not_dictionary l r = record { same = refl; kept = tt }

  -- ---- defaults, *args and **kwargs

  abbrev Long : List (Option Held) → Type 0
  Long slots = length spec.param_kinds ≤ length slots

  empty_alike : (index : ℕ) → index < length spec.param_kinds → (k : ParameterKind) (slots : List (Option Held)) → Long slots → Alike Long (settle_empty spec index k slots) (total.settle_empty spec index k slots)
  empty_alike index h required slots long =
      record {
        same = ap (λ o. next o (λ name. some (err (missing_at spec index name.bytes)))) (read_inside spec.param_names index no_text (omega (arith, inside.all_named)));
        kept = tt;
      }
  empty_alike index h (defaulted x) slots long =
      record {
        same = ap (λ o. next o (λ after. some (ok after))) (store_inside slots index (some (single x)) (omega arith));
        kept = omega (arith, length-set slots index (some (single x)));
      }
  empty_alike index h optional slots long = record { same = refl; kept = long }
  empty_alike index h args slots long = record { same = refl; kept = long }
  empty_alike index h kwargs slots long = record { same = refl; kept = long }

  slot_alike : (index : ℕ) → index < length spec.param_kinds → (slots : List (Option Held)) → Long slots → Alike Long (settle_one spec index slots) (total.settle_one spec index slots)
  unfolding settle_one total.settle_one
  slot_alike index h slots long =
      record {
        same =
            ap (λ o. next o (λ slot. next (read_at spec.param_kinds index) (λ def. cond (is_some slot) (some (ok slots)) (settle_empty spec index def slots)))) (read_inside slots index none (omega arith))
            ∙ ap (λ o. next o (λ def. cond (is_some (get_or slots index none)) (some (ok slots)) (settle_empty spec index def slots))) (read_inside spec.param_kinds index no_kind h)
            ∙ settled.same;
        kept = settled.kept;
      }
    where
      kind : ParameterKind
      kind = get_or spec.param_kinds index no_kind

      go : (b : Bool) → Alike Long (cond b (some (ok slots)) (settle_empty spec index kind slots)) (cond b (ok slots) (total.settle_empty spec index kind slots))
      go true = record { same = refl; kept = long }
      go false = empty_alike index h kind slots long

      settled : Alike Long (cond (is_some (get_or slots index none)) (some (ok slots)) (settle_empty spec index kind slots)) (cond (is_some (get_or slots index none)) (ok slots) (total.settle_empty spec index kind slots))
      settled = go (is_some (get_or slots index none))

  slots_alike : (count index : ℕ) → index + count ≤ length spec.param_kinds → (slots : List (Option Held)) → Long slots → Alike Long (settle_each spec index count slots) (total.settle_each spec index count slots)
  slots_alike zero index h slots long = record { same = refl; kept = long }
  slots_alike (suc count) index h slots long =
      then_alike (settle_each spec (suc index) count) (total.settle_each spec (suc index) count) (slots_alike count (suc index) (omega arith)) (slot_alike index (omega arith) slots long)

  settle_alike : (l : Locals) → Ready spec l → Alike (Ready spec) (settle spec l) (total.settle spec l)
  unfolding settle total.settle
  settle_alike l r =
      then_alike (λ after. some (ok (set_slots after l))) (λ after. ok (set_slots after l))
      (λ after long. record { same = refl; kept = record { long = long; short = r.short } })
      (slots_alike (length spec.param_kinds - l.next_position) l.next_position (omega (arith, r.short, inside.positional_below)) l.slots r.long)

  args_alike : (o : Option ℕ) → Below (length spec.param_kinds) o → (l : Locals) → Ready spec l → Alike (Ready spec) (set_args o l) (total.set_args o l)
  args_alike (some i) h l r = store_alike i (tuple l.star_args) l r h
  args_alike none h l r = go (eqb (length l.star_args) 0)
    where
      go : (b : Bool) → Alike (Ready spec) (cond b (some (ok l)) (some (err (ExtraPositionalArg (length l.star_args))))) (cond b (ok l) (err (ExtraPositionalArg (length l.star_args))))
      go true = record { same = refl; kept = r }
      go false = record { same = refl; kept = tt }

  kwargs_same : (o : Option ℕ) → Below (length spec.param_kinds) o → (l : Locals) → Ready spec l → set_kwargs o l ≡ some (total.set_kwargs o l)
  kwargs_same (some i) h l r = ap (λ o. o and_then λ m. some (ok m.slots)) (store_alike i (alloc l.kwargs) l r h).same
  kwargs_same none h l r = refl

  -- ---- whole

  with_kwargs : {ran : Option (Result Locals)} {form : Result Locals} → Alike (Ready spec) ran form → (ran and_then set_kwargs spec.kwargs) ≡ some (form total_then total.set_kwargs spec.kwargs)
  with_kwargs {form = ok l} a = ap (λ o. o and_then set_kwargs spec.kwargs) a.same ∙ kwargs_same spec.kwargs inside.kwargs_below l a.kept
  with_kwargs {form = err e} a = ap (λ o. o and_then set_kwargs spec.kwargs) a.same

  slow_same : (c : Call) (slots : List (Option Held)) → Long slots → collect_slow spec c slots ≡ some (total.collect_slow spec c slots)
  unfolding collect_slow total.collect_slow start_locals
  slow_same c slots long =
      rw (le-leb (length spec.param_kinds) (length slots) long)
      (with_kwargs
      (then_alike (set_args spec.args) (total.set_args spec.args) (args_alike spec.args inside.args_below)
      (then_alike (settle spec) (total.settle spec) settle_alike
      (then_alike (take_double spec c.double) (total.take_double spec c.double) (double_alike c.double)
      (then_alike (test_repeats spec) (total.test_repeats spec) tested_alike
      (then_alike (take_star spec c.star) (total.take_star spec c.star) (star_alike c.star)
      (then_alike (name_each spec c.named) (λ l. ok (total.name_each spec c.named l)) (names_alike c.named)
      (positionals_alike c.positionals (start_locals slots) (record { long = long; short = omega arith })))))))))

  -- of every call
  pub collect_total : (c : Call) → collect_inline spec c ≡ some (total.collect_inline spec c)
  unfolding collect_inline total.collect_inline
  collect_total c = go (is_short spec c)
    where
      slots : List (Option Held)
      slots = replicate (length spec.param_kinds) none

      slow : collect_slow spec c slots ≡ some (total.collect_slow spec c slots)
      slow = slow_same c slots (omega (arith, length-replicate {A = Option Held} (length spec.param_kinds) none))

      go : (b : Bool)
          → cond b (some (ok (zip_slots c.positionals slots))) (collect_slow spec c slots)
          ≡ some (cond b (ok (zip_slots c.positionals slots)) (total.collect_slow spec c slots))
      go true = refl
      go false = slow
