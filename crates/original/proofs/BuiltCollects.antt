-- The list that the Rust's builder finishes, asked by the Rust's collector, brings no panic about and ends as `spec_of` ends in the total
-- collector of TotalCollect, of which all here speaks but the last law. The two lists differ in the names of *args and
-- **kwargs alone, and the collector reads two names: that of the lowest parameter that a written name has found (spec.rs 748-753), and that
-- of a required parameter that is missing (806).
-- Assumes nothing.
use mathlib.Core.Path.{◌≡◌, refl, sym, ap, subst, ◌∙◌}
use mathlib.Core.Bool.{Bool, true, false, cond}
use mathlib.Core.List.{List, [], ◌∷◌, ◌++◌, map}
use mathlib.Core.Option.{Option, none, some}
use Prim.Native.Nat.{ℕ, zero, suc, min, ◌≤◌, ◌<◌, ◌-◌}
use native.Mathlib.Omega.{arith}
use borrow.Author.Tests.{eq-eqb, leb-true, leb-false}
use lib.Dec.{ltb, leb}
use lib.ListN.{length, get_or, set, replicate, length-map, get_or-eq_default}
use Rattle.rules.specs.Text.{Text, same_bytes}
use Rattle.rules.specs.Value.{Value}
use Rattle.rules.specs.Answer.{fine}
use Rattle.rules.specs.CallRecord.{Call, Named, Star, no_star, iterable, not_iterable, Double, no_double, dictionary, not_dictionary, Entry, Key, word, number}
use Rattle.rules.specs.Parameters.{Parameter, ParameterKind, required, optional, defaulted, args, kwargs, plain, takes_name, nameable, positional_count, positional_only_count}
use Rattle.rules.specs.Lookup.{names}
use Rattle.rules.specs.Passed.{names_apart}
use Rattle.rules.specs.ParameterQuestions.{ask_parameters, list_of}
use Rattle.rules.proofs.LawsListing.{and_left}
use Rattle.rules.proofs.LawsParameters.{list_names_apart}
use Rattle.original.specs.Spec.{is_some, ParametersSpec, spec_of, get, symbols_from}
use Rattle.original.specs.Locals.{Held, single, RepeatedArg, MissingPositionalOnly, MissingNamedOnly, Missing, Result, ok, err, usize_max, Locals}
use Rattle.original.specs.Arguments.{zip_slots}
use Rattle.original.specs.Collect.{missing_at, start_locals, is_short}
use Rattle.original.specs.Collect as Rust
use Rattle.original.specs.Builder.{name_in_rust, finished_of}
use Rattle.original.proofs.TotalCollect.{no_text, no_kind, ◌total_then◌, take_one, take_each, take_positionals, name_at, name_each, take_star, test_repeats, entry_one, entry_each, take_double, settle_empty, settle_one, settle_each, settle, set_args, set_kwargs, collect_slow, collect_inline}
use Rattle.original.proofs.LawsSpec.{no_parameter, is_index, get_at, get_within}
use Rattle.original.proofs.LawsSettled.{get_d_map_in}
use Rattle.original.proofs.LawsInside.{finished_inside}
use Rattle.original.proofs.LawsTotal.{collect_total}
use Rattle.original.proofs.LawsBuilder.{plain_name}
use Rattle.original.proofs.LawsBuilt.{list_few}

-- a plain parameter, or none, at an index of some kinds
abbrev PlainAt : List Parameter → ℕ → Type 0
PlainAt qs k = plain (get_or (map (λ q. q.kind) qs) k no_kind) ≡ true

-- has the same name in both lists
same_name : (qs : List Parameter) (k : ℕ) → PlainAt qs k → get_or (map name_in_rust qs) k no_text ≡ get_or (map (λ q. q.name) qs) k no_text
same_name [] k p = refl
same_name (q ∷ qs) zero p = plain_name q p
same_name (q ∷ qs) (suc k) p = same_name qs k p

-- past the end there is none
plain_outside : (qs : List Parameter) (k : ℕ) → length qs ≤ k → PlainAt qs k
unfolding no_kind
plain_outside qs k h = ap plain (get_or-eq_default (map (λ q. q.kind) qs) optional (omega (arith, length-map qs (λ q. q.kind))))

-- what the map of names finds is a plain parameter's
plain_found : (qs : List Parameter) → names_apart [] qs ≡ true → (b : List ℕ) (k : ℕ) → get (symbols_from 0 qs) b ≡ some k → PlainAt qs k
unfolding names nameable
plain_found qs apart b k e = ap plain (get_d_map_in (λ q. q.kind) qs k no_kind no_parameter inside) ∙ and_left (plain q.kind) (takes_name q.style) (and_left (nameable q) (same_bytes b q.name.bytes) named)
  where
    q : Parameter
    q = get_or qs k no_parameter

    inside : k < length qs
    inside = get_within qs b k e

    named : names b q ≡ true
    named = get_at qs b apart k no_parameter inside ∙ ap (is_index k) e ∙ eq-eqb k k refl

-- ---- the lowest name that was written

-- either way the same
either : (b : Bool) (x y : Locals) (n : ℕ) → x.lowest_name ≡ n → y.lowest_name ≡ n → (cond b x y).lowest_name ≡ n
either true x y n e f = e
either false x y n e f = f

-- positionals and items leave it
lowest_one : (spec : ParametersSpec) (v : Value) (l : Locals) → (take_one spec v l).lowest_name ≡ l.lowest_name
unfolding take_one
lowest_one spec v l = either (ltb l.next_position spec.num_positional) filled surplus l.lowest_name refl refl
  where
    filled : Locals
    filled = record { slots = set l.slots l.next_position (some (single v)); star_args = l.star_args; kwargs = l.kwargs; next_position = suc l.next_position; lowest_name = l.lowest_name }

    surplus : Locals
    surplus = record { slots = l.slots; star_args = l.star_args ++ (v ∷ []); kwargs = l.kwargs; next_position = l.next_position; lowest_name = l.lowest_name }

lowest_each : (spec : ParametersSpec) (vs : List Value) (l : Locals) → (take_each spec vs l).lowest_name ≡ l.lowest_name
lowest_each spec [] l = refl
lowest_each spec (v ∷ vs) l = lowest_each spec vs (take_one spec v l) ∙ lowest_one spec v l

-- the locals after as many positionals as there are places
abbrev zipped : List Value → Locals → Locals
zipped vs l = record { slots = zip_slots vs l.slots; star_args = l.star_args; kwargs = l.kwargs; next_position = length vs; lowest_name = l.lowest_name }

lowest_positionals : (spec : ParametersSpec) (vs : List Value) (l : Locals) → (take_positionals spec vs l).lowest_name ≡ l.lowest_name
unfolding take_positionals
lowest_positionals spec vs l = either (leb (length vs) spec.num_positional) (zipped vs l) (take_each spec vs l) l.lowest_name refl (lowest_each spec vs l)

module _ (qs : List Parameter) where
  -- ---- the arguments

  same_one : (v : Value) (l : Locals) → take_one (finished_of qs) v l ≡ take_one (spec_of qs) v l
  unfolding take_one finished_of
  same_one v l = refl

  same_each : (vs : List Value) (l : Locals) → take_each (finished_of qs) vs l ≡ take_each (spec_of qs) vs l
  same_each [] l = refl
  same_each (v ∷ vs) l = ap (take_each (finished_of qs) vs) (same_one v l) ∙ same_each vs (take_one (spec_of qs) v l)

  same_positionals : (vs : List Value) (l : Locals) → take_positionals (finished_of qs) vs l ≡ take_positionals (spec_of qs) vs l
  unfolding take_positionals finished_of
  same_positionals vs l = ap (λ (m : Locals). cond (leb (length vs) (spec_of qs).num_positional) (zipped vs l) m) (same_each vs l)

  same_named : (vs : List Named) (l : Locals) → name_each (finished_of qs) vs l ≡ name_each (spec_of qs) vs l
  unfolding finished_of
  same_named [] l = refl
  same_named (v ∷ vs) l = same_named vs (name_at (get (spec_of qs).names v.name.bytes) v l)

  same_entry : (k : Key) (v : Value) (l : Locals) → entry_one (finished_of qs) k v l ≡ entry_one (spec_of qs) k v l
  unfolding finished_of
  same_entry (word s) v l = refl
  same_entry (number n) v l = refl

  same_entries : (es : List Entry) (l : Locals) → entry_each (finished_of qs) es l ≡ entry_each (spec_of qs) es l
  same_entries [] l = refl
  same_entries (e ∷ es) l = ap (λ r. r total_then entry_each (finished_of qs) es) (same_entry e.key e.value l) ∙ go (entry_one (spec_of qs) e.key e.value l) (same_entries es)
    where
      go : (r : Result Locals) → ((m : Locals) → entry_each (finished_of qs) es m ≡ entry_each (spec_of qs) es m) → (r total_then entry_each (finished_of qs) es) ≡ (r total_then entry_each (spec_of qs) es)
      go (ok m) later = later m
      go (err x) later = refl

  same_double : (x : Double) (l : Locals) → take_double (finished_of qs) x l ≡ take_double (spec_of qs) x l
  same_double no_double l = refl
  same_double (dictionary es) l = same_entries es l
  same_double not_dictionary l = refl

  -- ---- what is missing

  same_missing : (k : ℕ) → PlainAt qs k → missing_at (finished_of qs) k (get_or (finished_of qs).param_names k no_text).bytes ≡ missing_at (spec_of qs) k (get_or (spec_of qs).param_names k no_text).bytes
  unfolding missing_at finished_of spec_of
  same_missing k p =
      ap (λ (t : Text). cond (ltb k (positional_only_count qs)) (MissingPositionalOnly t.bytes) (cond (leb (positional_count qs) k) (MissingNamedOnly t.bytes) (Missing t.bytes))) (same_name qs k p)

  same_empty : (k : ℕ) (slots : List (Option Held)) (x : ParameterKind) → (x ≡ required → PlainAt qs k) → settle_empty (finished_of qs) k x slots ≡ settle_empty (spec_of qs) k x slots
  same_empty k slots required p = ap {B = Result (List (Option Held))} err (same_missing k (p refl))
  same_empty k slots optional p = refl
  same_empty k slots (defaulted v) p = refl
  same_empty k slots args p = refl
  same_empty k slots kwargs p = refl

  same_settled : (k : ℕ) (slots : List (Option Held)) → settle_one (finished_of qs) k slots ≡ settle_one (spec_of qs) k slots
  unfolding settle_one finished_of spec_of
  same_settled k slots = ap (λ r. cond (is_some (get_or slots k none)) (ok slots) r) (same_empty k slots (get_or (map (λ q. q.kind) qs) k no_kind) (λ e. ap plain e))

  same_settle : (k count : ℕ) (slots : List (Option Held)) → settle_each (finished_of qs) k count slots ≡ settle_each (spec_of qs) k count slots
  same_settle k zero slots = refl
  same_settle k (suc count) slots = ap (λ r. r total_then settle_each (finished_of qs) (suc k) count) (same_settled k slots) ∙ go (settle_one (spec_of qs) k slots) (same_settle (suc k) count)
    where
      go : (r : Result (List (Option Held))) → ((s : List (Option Held)) → settle_each (finished_of qs) (suc k) count s ≡ settle_each (spec_of qs) (suc k) count s)
          → (r total_then settle_each (finished_of qs) (suc k) count) ≡ (r total_then settle_each (spec_of qs) (suc k) count)
      go (ok s) later = later s
      go (err x) later = refl

  same_settle_all : (l : Locals) → settle (finished_of qs) l ≡ settle (spec_of qs) l
  unfolding settle finished_of
  same_settle_all l = ap (λ (r : Result (List (Option Held))). r total_then kept) (same_settle l.next_position (length (spec_of qs).param_kinds - l.next_position) l.slots)
    where
      kept : List (Option Held) → Result Locals
      kept after = ok (record { slots = after; star_args = l.star_args; kwargs = l.kwargs; next_position = l.next_position; lowest_name = l.lowest_name })

module _ (qs : List Parameter) (apart : names_apart [] qs ≡ true) where
  lowest_plain : (m k : ℕ) → PlainAt qs m → PlainAt qs k → PlainAt qs (min m k)
  lowest_plain m k p r = go (leb m k) refl
    where
      go : (b : Bool) → leb m k ≡ b → PlainAt qs (min m k)
      go true e = subst (PlainAt qs) (sym least) p
        where
          least : min m k ≡ m
          least = omega (arith, leb-true m k e)
      go false e = subst (PlainAt qs) (sym least) r
        where
          least : min m k ≡ k
          least = omega (arith, leb-false m k e)

  -- written names keep it at a plain parameter
  named_plain : (vs : List Named) (l : Locals) → PlainAt qs l.lowest_name → PlainAt qs (name_each (spec_of qs) vs l).lowest_name
  unfolding spec_of
  named_plain [] l p = p
  named_plain (v ∷ vs) l p = named_plain vs (name_at (get (symbols_from 0 qs) v.name.bytes) v l) (go (get (symbols_from 0 qs) v.name.bytes) (plain_found qs apart v.name.bytes))
    where
      go : (o : Option ℕ) → ((k : ℕ) → o ≡ some k → PlainAt qs k) → PlainAt qs (name_at o v l).lowest_name
      go none f = p
      go (some k) f = lowest_plain l.lowest_name k p (f k refl)

  -- so the repeat that is reported has the same name in both lists
  same_tested : (l : Locals) → PlainAt qs l.lowest_name → test_repeats (finished_of qs) l ≡ test_repeats (spec_of qs) l
  unfolding test_repeats finished_of spec_of
  same_tested l p = ap (λ (t : Text). cond (ltb l.lowest_name l.next_position) (err (RepeatedArg t.bytes)) (ok l)) (same_name qs l.lowest_name p)

  same_repeats : (x : Star) (l : Locals) → PlainAt qs l.lowest_name → (take_star (finished_of qs) x l total_then test_repeats (finished_of qs)) ≡ (take_star (spec_of qs) x l total_then test_repeats (spec_of qs))
  same_repeats no_star l p = same_tested l p
  same_repeats (iterable vs) l p =
      ap (test_repeats (finished_of qs)) (same_each qs vs l) ∙ same_tested (take_each (spec_of qs) vs l) (subst (PlainAt qs) (sym (lowest_each (spec_of qs) vs l)) p)
  same_repeats not_iterable l p = refl

  -- ---- whole

  same_locals : (c : Call) (slots : List (Option Held)) → name_each (finished_of qs) c.named (take_positionals (finished_of qs) c.positionals (start_locals slots)) ≡ name_each (spec_of qs) c.named (take_positionals (spec_of qs) c.positionals (start_locals slots))
  same_locals c slots =
      ap (name_each (finished_of qs) c.named) (same_positionals qs c.positionals (start_locals slots)) ∙ same_named qs c.named (take_positionals (spec_of qs) c.positionals (start_locals slots))

  start_plain : length qs ≤ usize_max → (c : Call) (slots : List (Option Held)) → PlainAt qs (name_each (spec_of qs) c.named (take_positionals (spec_of qs) c.positionals (start_locals slots))).lowest_name
  unfolding start_locals
  start_plain few c slots =
      named_plain c.named (take_positionals (spec_of qs) c.positionals (start_locals slots))
      (subst (PlainAt qs) (sym (lowest_positionals (spec_of qs) c.positionals (start_locals slots))) (plain_outside qs usize_max few))

  -- what comes after the repeats reads no name but of what is missing
  same_rest : (c : Call) (r : Result Locals)
      → (r total_then take_double (finished_of qs) c.double total_then settle (finished_of qs) total_then set_args (finished_of qs).args total_then set_kwargs (finished_of qs).kwargs)
      ≡ (r total_then take_double (spec_of qs) c.double total_then settle (spec_of qs) total_then set_args (spec_of qs).args total_then set_kwargs (spec_of qs).kwargs)
  unfolding finished_of
  same_rest c (err e) = refl
  same_rest c (ok l) =
      ap (λ (r : Result Locals). r total_then settle (finished_of qs) total_then set_args (spec_of qs).args total_then set_kwargs (spec_of qs).kwargs) (same_double qs c.double l)
      ∙ go (take_double (spec_of qs) c.double l)
    where
      go : (r : Result Locals) → (r total_then settle (finished_of qs) total_then set_args (spec_of qs).args total_then set_kwargs (spec_of qs).kwargs) ≡ (r total_then settle (spec_of qs) total_then set_args (spec_of qs).args total_then set_kwargs (spec_of qs).kwargs)
      go (err e) = refl
      go (ok m) = ap (λ (r : Result Locals). r total_then set_args (spec_of qs).args total_then set_kwargs (spec_of qs).kwargs) (same_settle_all qs m)

  same_slow : length qs ≤ usize_max → (c : Call) (slots : List (Option Held)) → collect_slow (finished_of qs) c slots ≡ collect_slow (spec_of qs) c slots
  unfolding collect_slow
  same_slow few c slots = ap (λ (r : Result Locals). (r total_then take_double (finished_of qs) c.double total_then settle (finished_of qs) total_then set_args (finished_of qs).args total_then set_kwargs (finished_of qs).kwargs)) repeats ∙ same_rest c (take_star (spec_of qs) c.star l total_then test_repeats (spec_of qs))
    where
      l : Locals
      l = name_each (spec_of qs) c.named (take_positionals (spec_of qs) c.positionals (start_locals slots))

      repeats : (take_star (finished_of qs) c.star (name_each (finished_of qs) c.named (take_positionals (finished_of qs) c.positionals (start_locals slots))) total_then test_repeats (finished_of qs)) ≡ (take_star (spec_of qs) c.star l total_then test_repeats (spec_of qs))
      repeats = ap (λ (m : Locals). take_star (finished_of qs) c.star m total_then test_repeats (finished_of qs)) (same_locals c slots) ∙ same_repeats c.star l (start_plain few c slots)

  same_inline : length qs ≤ usize_max → (c : Call) → collect_inline (finished_of qs) c ≡ collect_inline (spec_of qs) c
  unfolding collect_inline is_short finished_of
  same_inline few c = ap (λ r. cond (is_short (spec_of qs) c) (ok (zip_slots c.positionals slots)) r) (same_slow few c slots)
    where
      slots : List (Option Held)
      slots = replicate (length (spec_of qs).param_kinds) none

-- of a list that passes 1 to 7, with a limit that a `usize` can count, and any call: the Rust does not panic, and ends as the total collector does
pub collect_built : (A : ℕ) (cells area : List ℕ) → A ≤ usize_max → ask_parameters A cells area ≡ fine → (c : Call) → Rust.collect_inline (finished_of (list_of cells area)) c ≡ some (collect_inline (spec_of (list_of cells area)) c)
collect_built A cells area small passes c =
    collect_total (finished_of (list_of cells area)) (finished_inside (list_of cells area)) c
    ∙ ap some (same_inline (list_of cells area) (list_names_apart A cells area passes) (omega (arith, list_few A cells area passes)) c)
