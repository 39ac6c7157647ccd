-- Laws of the Rust's builder, one call at a time: the state after some parameters is the one that 01's style, counts and indices of them say, a
-- call panics exactly where 5 or 7 refuses its step, and the asserts beside the test of the style add nothing to it.
-- Assumes nothing.
use mathlib.Core.Path.{◌≡◌, refl, sym, ap, ◌∙◌}
use mathlib.Core.Bool.{Bool, true, false, cond, not, ◌&&◌, false≢true}
use mathlib.Core.List.{List, [], ◌∷◌, ◌++◌, map, append-nil}
use mathlib.Core.Option.{Option, none, some}
use Prim.Native.Nat.{ℕ, zero, suc, ◌+◌, ◌-◌, ◌<◌}
use native.Mathlib.Nat.{zero-add}
use native.Mathlib.Omega.{arith}
use borrow.Author.Tests.{lt-ltb}
use lib.ListN.{length, length-append, length-map}
use Rattle.rules.specs.Listing.{tally, first_from}
use Rattle.rules.specs.Text.{text_in, bytes_at, same_bytes}
use Rattle.rules.specs.Value.{Value}
use Rattle.rules.specs.Parameters.{Style, pos_only, pos_or_named, named_only, no_more, comes_before, ParameterKind, required, optional, defaulted, args, kwargs, plain, takes_position, takes_name, is_args, is_kwargs, Parameter, positional, positional_only, nameable, positional_count, positional_only_count, args_index, kwargs_index, Act, adds, slash, bare_star, unknown_code, act_of, may_stand, next_style, added}
use Rattle.rules.specs.Lookup.{known}
use Rattle.rules.specs.ParameterQuestions.{name_is_new}
use Rattle.rules.proofs.LawsListing.{map_append, tally_append}
use Rattle.original.specs.Spec.{is_some, is_none, Symbol, get, symbols_from}
use Rattle.original.specs.Builder.{assert, to_u32, put_in, CurrentParameterStyle, PosOnly, PosOrNamed, NamedOnly, NoMore, Param, Builder, push, set_style, last_is_args, is_args_or_kWargs, add, kwargs as kwargs_call, call, name_in_rust}
use Rattle.original.proofs.LawsSpec.{get_known}

-- ---- one more element

module _ {X : Type 0} (f : X → Bool) where
  tally_more : (xs : List X) (x : X) (b : Bool) → f x ≡ b → tally f (xs ++ (x ∷ [])) ≡ cond b (suc (tally f xs)) (tally f xs)
  tally_more xs x b e = tally_append f xs (x ∷ []) ∙ ap (λ c. tally f xs + cond c 1 0) e ∙ go b
    where
      go : (c : Bool) → tally f xs + cond c 1 0 ≡ cond c (suc (tally f xs)) (tally f xs)
      go true = omega arith
      go false = omega arith

  -- the index of the first stays where the new one is no such, and is the new one's where there was none
  first_same : (i : ℕ) (xs : List X) (x : X) → f x ≡ false → first_from f i (xs ++ (x ∷ [])) ≡ first_from f i xs
  first_same i [] x e = ap (λ c. cond c (some i) none) e
  first_same i (y ∷ ys) x e = ap (λ o. cond (f y) (some i) o) (first_same (suc i) ys x e)

  first_new : (i : ℕ) (xs : List X) (x : X) → f x ≡ true → is_none (first_from f i xs) ≡ true → first_from f i (xs ++ (x ∷ [])) ≡ some (i + length xs)
  first_new i [] x e n = ap (λ c. cond c (some i) none) e ∙ ap {B = Option ℕ} some (omega arith)
  first_new i (y ∷ ys) x e n = go (f y) n (first_new (suc i) ys x e)
    where
      go : (c : Bool) → is_none (cond c (some i) (first_from f (suc i) ys)) ≡ true
          → (is_none (first_from f (suc i) ys) ≡ true → first_from f (suc i) (ys ++ (x ∷ [])) ≡ some (suc i + length ys))
          → cond c (some i) (first_from f (suc i) (ys ++ (x ∷ []))) ≡ some (i + suc (length ys))
      go true p ih = absurd (false≢true p)
      go false p ih = ih p ∙ ap {B = Option ℕ} some (omega arith)

-- the names of one more parameter, which comes with its name or without
symbols_more : (i : ℕ) (qs : List Parameter) (q : Parameter) (b : Bool) → nameable q ≡ b
    → symbols_from i (qs ++ (q ∷ [])) ≡ symbols_from i qs ++ cond b (record { bytes = q.name.bytes; index = i + length qs } ∷ []) []
symbols_more i [] q b e =
    ap (λ c. cond {A = List Symbol} c (record { bytes = q.name.bytes; index = i } ∷ []) []) e
    ∙ ap (λ n. cond {A = List Symbol} b (record { bytes = q.name.bytes; index = n } ∷ []) []) (omega arith)
symbols_more i (p ∷ ps) q b e = go (nameable p) (symbols_more (suc i) ps q b e)
  where
    more : ℕ → List Symbol
    more n = cond b (record { bytes = q.name.bytes; index = n } ∷ []) []

    go : (c : Bool) → symbols_from (suc i) (ps ++ (q ∷ [])) ≡ symbols_from (suc i) ps ++ more (suc i + length ps)
        → cond c (record { bytes = p.name.bytes; index = i } ∷ symbols_from (suc i) (ps ++ (q ∷ []))) (symbols_from (suc i) (ps ++ (q ∷ []))) ≡ cond c (record { bytes = p.name.bytes; index = i } ∷ symbols_from (suc i) ps) (symbols_from (suc i) ps) ++ more (i + suc (length ps))
    go true ih = ap {B = List Symbol} (λ ss. record { bytes = p.name.bytes; index = i } ∷ ss) (ih ∙ ap (λ n. symbols_from (suc i) ps ++ more n) (omega arith))
    go false ih = ih ∙ ap (λ n. symbols_from (suc i) ps ++ more n) (omega arith)

-- a name that is not in the map comes last
put_new : (ss : List Symbol) (key : List ℕ) (value : ℕ) → is_none (get ss key) ≡ true → put_in ss key value ≡ ss ++ (record { bytes = key; index = value } ∷ [])
put_new [] key value e = refl
put_new (s ∷ ss) key value e = go (same_bytes key s.bytes) e (put_new ss key value)
  where
    go : (c : Bool) → is_none (cond c (some s.index) (get ss key)) ≡ true
        → (is_none (get ss key) ≡ true → put_in ss key value ≡ ss ++ (record { bytes = key; index = value } ∷ []))
        → cond c (record { bytes = s.bytes; index = value } ∷ ss) (s ∷ put_in ss key value) ≡ s ∷ ss ++ (record { bytes = key; index = value } ∷ [])
    go true p ih = absurd (false≢true p)
    go false p ih = ap {B = List Symbol} (λ r. s ∷ r) (ih p)

-- ---- the state after some parameters

abbrev pub param_of : Parameter → Param
param_of q = record { name = name_in_rust q; kind = q.kind }

-- 01's styles in the Rust, by name
abbrev pub style_in_rust : Style → CurrentParameterStyle
style_in_rust pos_only = PosOnly
style_in_rust pos_or_named = PosOrNamed
style_in_rust named_only = NamedOnly
style_in_rust no_more = NoMore

abbrev pub state_of : List Parameter → Style → Builder
state_of qs s =
    record {
      params = map param_of qs;
      names = symbols_from 0 qs;
      positional_only = positional_only_count qs;
      positional = positional_count qs;
      current_style = style_in_rust s;
      args = args_index qs;
      kwargs = kwargs_index qs;
    }

-- what the style says of the parameters so far: **kwargs is there exactly under the last style, *args only under the last two, and up to
-- there all are positional, under the first style positional-only
pub record Stands (s : Style) (qs : List Parameter) : Type 0 where
  pub no_kwargs : is_none (kwargs_index qs) ≡ comes_before s no_more
  pub no_args : comes_before s named_only ≡ true → is_none (args_index qs) ≡ true
  pub all_positional : takes_position s ≡ true → positional_count qs ≡ length qs
  pub all_positional_only : comes_before s pos_or_named ≡ true → positional_only_count qs ≡ length qs

-- one more parameter, field by field
state_more : (qs : List Parameter) (q : Parameter) (s : Style) {p : List Param} {n : List Symbol} {o c : ℕ} {a k : Option ℕ}
    → p ≡ map param_of qs ++ (param_of q ∷ [])
    → n ≡ symbols_from 0 (qs ++ (q ∷ [])) → o ≡ positional_only_count (qs ++ (q ∷ [])) → c ≡ positional_count (qs ++ (q ∷ []))
    → a ≡ args_index (qs ++ (q ∷ [])) → k ≡ kwargs_index (qs ++ (q ∷ []))
    → ◌≡◌ {A = Builder} (record { params = p; names = n; positional_only = o; positional = c; current_style = style_in_rust s; args = a; kwargs = k }) (state_of (qs ++ (q ∷ [])) s)
state_more qs q s e₁ e₂ e₃ e₄ e₅ e₆ = cc (map_append param_of qs (q ∷ []))

-- the parameter that a step adds
abbrev new : List ℕ → ℕ → Style → ParameterKind → Parameter
new area name s k = record { kind = k; style = s; name = text_in area name }

-- ---- one more plain parameter

-- it has its own name in the Rust
pub plain_name : (q : Parameter) → plain q.kind ≡ true → name_in_rust q ≡ q.name
plain_name q p = go q.kind p
  where
    go : (k : ParameterKind) → plain k ≡ true → name_in_rust (record { kind = k; style = q.style; name = q.name }) ≡ q.name
    go required e = refl
    go optional e = refl
    go (defaulted v) e = refl
    go args e = absurd (false≢true e)
    go kwargs e = absurd (false≢true e)

module _ (area : List ℕ) (qs : List Parameter) (name : ℕ) (s : Style) (k : ParameterKind) (p : plain k ≡ true) where
  plain_args : is_args k ≡ false
  plain_args = go k p
    where
      go : (k' : ParameterKind) → plain k' ≡ true → is_args k' ≡ false
      go required e = refl
      go optional e = refl
      go (defaulted v) e = refl
      go args e = absurd (false≢true e)
      go kwargs e = absurd (false≢true e)

  plain_kwargs : is_kwargs k ≡ false
  plain_kwargs = go k p
    where
      go : (k' : ParameterKind) → plain k' ≡ true → is_kwargs k' ≡ false
      go required e = refl
      go optional e = refl
      go (defaulted v) e = refl
      go args e = absurd (false≢true e)
      go kwargs e = absurd (false≢true e)

  args_same : args_index (qs ++ (new area name s k ∷ [])) ≡ args_index qs
  unfolding args_index
  args_same = first_same (λ q. is_args q.kind) 0 qs (new area name s k) plain_args

  kwargs_same : kwargs_index (qs ++ (new area name s k ∷ [])) ≡ kwargs_index qs
  unfolding kwargs_index
  kwargs_same = first_same (λ q. is_kwargs q.kind) 0 qs (new area name s k) plain_kwargs

  names_more : symbols_from 0 (qs ++ (new area name s k ∷ [])) ≡ symbols_from 0 qs ++ cond (takes_name s) (record { bytes = bytes_at area name; index = length qs } ∷ []) []
  unfolding nameable text_in
  names_more =
      symbols_more 0 qs (new area name s k) (takes_name s) (ap (λ b. b && takes_name s) p)
      ∙ ap (λ n. symbols_from 0 qs ++ cond (takes_name s) (record { bytes = bytes_at area name; index = n } ∷ []) []) (zero-add (length qs))

  positional_more : positional_count (qs ++ (new area name s k ∷ [])) ≡ cond (takes_position s) (suc (positional_count qs)) (positional_count qs)
  unfolding positional_count positional
  positional_more = tally_more positional qs (new area name s k) (takes_position s) (ap (λ b. b && takes_position s) p)

  positional_only_more : positional_only_count (qs ++ (new area name s k ∷ [])) ≡ cond (comes_before s pos_or_named) (suc (positional_only_count qs)) (positional_only_count qs)
  unfolding positional_only_count positional_only
  positional_only_more = tally_more positional_only qs (new area name s k) (comes_before s pos_or_named) (ap (λ b. b && comes_before s pos_or_named) p)

-- ---- add

pub to_u32_lem : (n : ℕ) → n < 4294967296 → to_u32 n ≡ some n
unfolding to_u32
to_u32_lem n h = rw (lt-ltb n 4294967296 h)

none_some : {X : Type 0} (o : Option X) → is_none o ≡ not (is_some o)
none_some none = refl
none_some (some x) = refl

-- the assertion on the kind (166-171) lets pass what 01 calls plain
not_starred : (k : ParameterKind) → not (is_args_or_kWargs k) ≡ plain k
not_starred required = refl
not_starred optional = refl
not_starred (defaulted v) = refl
not_starred args = refl
not_starred kwargs = refl

module _ (area : List ℕ) (qs : List Parameter) (name : ℕ) (k : ParameterKind) (p : plain k ≡ true) (short : length qs < 4294967296) where
  -- a call of `add` panics exactly where 5 or 7 refuses, and else adds the parameter
  abbrev AddsAs : Style → Type 0
  AddsAs s = add (text_in area name) k (state_of qs s) ≡ cond (comes_before s no_more && name_is_new area s qs (adds k) name) (some (state_of (qs ++ (new area name s k ∷ [])) s)) none

  length_params : length (map param_of qs) ≡ length qs
  length_params = length-map qs param_of

  pushed : (s : Style) → map param_of qs ++ (record { name = text_in area name; kind = k } ∷ []) ≡ map param_of qs ++ (param_of (new area name s k) ∷ [])
  pushed s = ap (λ t. map param_of qs ++ (record { name = t; kind = k } ∷ [])) (sym (plain_name (new area name s k) p))

  index_u32 : to_u32 (length (map param_of qs)) ≡ some (length (map param_of qs))
  index_u32 = to_u32_lem (length (map param_of qs)) (omega (arith, length_params))

  -- `insert` answers an old value exactly where the name is known
  old_none : is_none (get (symbols_from 0 qs) (bytes_at area name)) ≡ not (known qs (bytes_at area name))
  old_none = none_some (get (symbols_from 0 qs) (bytes_at area name)) ∙ ap not (get_known qs (bytes_at area name))

  named : (s : Style) → takes_name s ≡ true → known qs (bytes_at area name) ≡ false → put_in (symbols_from 0 qs) (bytes_at area name) (length (map param_of qs)) ≡ symbols_from 0 (qs ++ (new area name s k ∷ []))
  named s t e =
      put_new (symbols_from 0 qs) (bytes_at area name) (length (map param_of qs)) (old_none ∙ ap not e)
      ∙ ap (λ n. symbols_from 0 qs ++ (record { bytes = bytes_at area name; index = n } ∷ [])) length_params
      ∙ ap (λ b. symbols_from 0 qs ++ cond b (record { bytes = bytes_at area name; index = length qs } ∷ []) []) (sym t)
      ∙ sym (names_more area qs name s k p)

  unnamed : (s : Style) → takes_name s ≡ false → symbols_from 0 qs ≡ symbols_from 0 (qs ++ (new area name s k ∷ []))
  unnamed s t =
      sym (append-nil (symbols_from 0 qs))
      ∙ ap (λ b. symbols_from 0 qs ++ cond b (record { bytes = bytes_at area name; index = length qs } ∷ []) []) (sym t)
      ∙ sym (names_more area qs name s k p)

  counted : (s : Style) → takes_position s ≡ true → Stands s qs → suc (length (map param_of qs)) ≡ positional_count (qs ++ (new area name s k ∷ []))
  counted s t st =
      ap suc (length_params ∙ sym (st.all_positional t))
      ∙ ap (λ b. cond b (suc (positional_count qs)) (positional_count qs)) (sym t)
      ∙ sym (positional_more area qs name s k p)

  counted_only : (s : Style) → comes_before s pos_or_named ≡ true → Stands s qs → suc (length (map param_of qs)) ≡ positional_only_count (qs ++ (new area name s k ∷ []))
  counted_only s t st =
      ap suc (length_params ∙ sym (st.all_positional_only t))
      ∙ ap (λ b. cond b (suc (positional_only_count qs)) (positional_only_count qs)) (sym t)
      ∙ sym (positional_only_more area qs name s k p)

  args_kept : (s : Style) → args_index qs ≡ args_index (qs ++ (new area name s k ∷ []))
  args_kept s = sym (args_same area qs name s k p)

  kwargs_kept : (s : Style) → kwargs_index qs ≡ kwargs_index (qs ++ (new area name s k ∷ []))
  kwargs_kept s = sym (kwargs_same area qs name s k p)

  add_step : (s : Style) → Stands s qs → AddsAs s
  unfolding comes_before text_in
  add_step pos_only st =
      rw (not_starred k, p, st.no_kwargs, st.no_args refl)
      (ap {B = Option Builder} some
      (state_more qs (new area name pos_only k) pos_only
      (pushed pos_only) (unnamed pos_only refl) (counted_only pos_only refl st) (counted pos_only refl st) (args_kept pos_only) (kwargs_kept pos_only)))
  add_step pos_or_named st = go (known qs (bytes_at area name)) refl
    where
      go : (c : Bool) → known qs (bytes_at area name) ≡ c → AddsAs pos_or_named
      go true e = rw (not_starred k, p, st.no_kwargs, index_u32, old_none, e)
      go false e =
          rw (not_starred k, p, st.no_kwargs, index_u32, old_none, e, st.no_args refl)
          (ap {B = Option Builder} some
          (state_more qs (new area name pos_or_named k) pos_or_named
          (pushed pos_or_named) (named pos_or_named refl e) (sym (positional_only_more area qs name pos_or_named k p)) (counted pos_or_named refl st) (args_kept pos_or_named) (kwargs_kept pos_or_named)))
  add_step named_only st = go (known qs (bytes_at area name)) refl
    where
      and_no : (b : Bool) → (b && false) ≡ false
      and_no true = refl
      and_no false = refl

      go : (c : Bool) → known qs (bytes_at area name) ≡ c → AddsAs named_only
      go true e = rw (not_starred k, p, st.no_kwargs, index_u32, old_none, e)
      go false e =
          rw (not_starred k, p, st.no_kwargs, index_u32, old_none, e, and_no (is_none (args_index qs)))
          (ap {B = Option Builder} some
          (state_more qs (new area name named_only k) named_only
          (pushed named_only) (named named_only refl e) (sym (positional_only_more area qs name named_only k p)) (sym (positional_more area qs name named_only k p)) (args_kept named_only) (kwargs_kept named_only)))
  add_step no_more st = rw (not_starred k, p)

-- ---- *args and **kwargs

module _ (area : List ℕ) (qs : List Parameter) (name : ℕ) (s : Style) (k : ParameterKind) (p : plain k ≡ false) where
  names_kept : symbols_from 0 qs ≡ symbols_from 0 (qs ++ (new area name s k ∷ []))
  unfolding nameable
  names_kept = sym (symbols_more 0 qs (new area name s k) false (ap (λ b. b && takes_name s) p) ∙ append-nil (symbols_from 0 qs))

  positional_kept : positional_count qs ≡ positional_count (qs ++ (new area name s k ∷ []))
  unfolding positional_count positional
  positional_kept = sym (tally_more positional qs (new area name s k) false (ap (λ b. b && takes_position s) p))

  positional_only_kept : positional_only_count qs ≡ positional_only_count (qs ++ (new area name s k ∷ []))
  unfolding positional_only_count positional_only
  positional_only_kept = sym (tally_more positional_only qs (new area name s k) false (ap (λ b. b && comes_before s pos_or_named) p))

last_index : (ps : List Param) (x : Param) → length (ps ++ (x ∷ [])) - 1 ≡ length ps
last_index ps x = rw (length-append ps (x ∷ [])) (omega arith)

assert_none : (b : Bool) → assert {X = Builder} b none ≡ none
assert_none true = refl
assert_none false = refl

module _ (area : List ℕ) (qs : List Parameter) (name : ℕ) where
  -- a call panics exactly where 5 or 7 refuses its step, and else gives the state with what the step adds
  abbrev pub TakesAs : Style → ℕ → Value → Type 0
  TakesAs s code v =
      call code (text_in area name) v (state_of qs s)
      ≡ cond (may_stand s (act_of code v) && name_is_new area s qs (act_of code v) name) (some (state_of (qs ++ added area s (act_of code v) name) (next_style s (act_of code v)))) none

  args_new : (s : Style) → is_none (args_index qs) ≡ true → args_index (qs ++ (new area name s args ∷ [])) ≡ some (length qs)
  unfolding args_index
  args_new s e = first_new (λ q. is_args q.kind) 0 qs (new area name s args) refl e ∙ ap {B = Option ℕ} some (zero-add (length qs))

  kwargs_new : (s : Style) → is_none (kwargs_index qs) ≡ true → kwargs_index (qs ++ (new area name s kwargs ∷ [])) ≡ some (length qs)
  unfolding kwargs_index
  kwargs_new s e = first_new (λ q. is_kwargs q.kind) 0 qs (new area name s kwargs) refl e ∙ ap {B = Option ℕ} some (zero-add (length qs))

  no_args_new : (s : Style) → args_index (qs ++ (new area name s kwargs ∷ [])) ≡ args_index qs
  unfolding args_index
  no_args_new s = first_same (λ q. is_args q.kind) 0 qs (new area name s kwargs) refl

  no_kwargs_new : (s : Style) → kwargs_index (qs ++ (new area name s args ∷ [])) ≡ kwargs_index qs
  unfolding kwargs_index
  no_kwargs_new s = first_same (λ q. is_kwargs q.kind) 0 qs (new area name s args) refl

  last : (x : Param) → some (length (map param_of qs ++ (x ∷ [])) - 1) ≡ some (length qs)
  last x = ap {B = Option ℕ} some (last_index (map param_of qs) x ∙ length-map qs param_of)

  args_taken : (s : Style) → is_none (args_index qs) ≡ true
      → set_style NamedOnly (last_is_args (push (param_of (new area name s args)) (state_of qs s))) ≡ state_of (qs ++ (new area name s args ∷ [])) named_only
  args_taken s e =
      state_more qs (new area name s args) named_only refl
      (names_kept area qs name s args refl) (positional_only_kept area qs name s args refl) (positional_kept area qs name s args refl)
      (last (param_of (new area name s args)) ∙ sym (args_new s e)) (sym (no_kwargs_new s))

  args_step : (s : Style) (v : Value) → Stands s qs → TakesAs s 6 v
  unfolding comes_before
  args_step pos_only v st = rw (st.no_args refl, st.no_kwargs) (ap {B = Option Builder} some (args_taken pos_only (st.no_args refl)))
  args_step pos_or_named v st = rw (st.no_args refl, st.no_kwargs) (ap {B = Option Builder} some (args_taken pos_or_named (st.no_args refl)))
  args_step named_only v st = assert_none (is_none (args_index qs))
  args_step no_more v st = assert_none (is_none (args_index qs))

  kwargs_step : (s : Style) (v : Value) → Stands s qs → TakesAs s 7 v
  kwargs_step s v st = go (comes_before s no_more) st.no_kwargs
    where
      go : (c : Bool) → is_none (kwargs_index qs) ≡ c
          → kwargs_call (state_of qs s) ≡ cond (c && true) (some (state_of (qs ++ (new area name s kwargs ∷ [])) no_more)) none
      go true e =
          rw e
          (ap {B = Option Builder} some
          (state_more qs (new area name s kwargs) no_more refl
          (names_kept area qs name s kwargs refl) (positional_only_kept area qs name s kwargs refl) (positional_kept area qs name s kwargs refl)
          (sym (no_args_new s)) (last (param_of (new area name s kwargs)) ∙ sym (kwargs_new s e))))
      go false e = rw e

  -- ---- the marks

  slash_step : (s : Style) (v : Value) → TakesAs s 4 v
  unfolding comes_before
  slash_step pos_only v = rw (append-nil qs)
  slash_step pos_or_named v = refl
  slash_step named_only v = refl
  slash_step no_more v = refl

  star_step : (s : Style) (v : Value) → Stands s qs → TakesAs s 5 v
  unfolding comes_before
  star_step pos_only v st = rw (st.no_args refl, st.no_kwargs, append-nil qs)
  star_step pos_or_named v st = rw (st.no_args refl, st.no_kwargs, append-nil qs)
  star_step named_only v st = assert_none (is_none (args_index qs))
  star_step no_more v st = assert_none (is_none (args_index qs))

  -- ---- any step

  pub call_step : length qs < 4294967296 → (s : Style) (code : ℕ) (v : Value) → Stands s qs → TakesAs s code v
  call_step short s zero v st = refl
  call_step short s (suc zero) v st = add_step area qs name required refl short s st
  call_step short s (suc (suc zero)) v st = add_step area qs name optional refl short s st
  call_step short s (suc (suc (suc zero))) v st = add_step area qs name (defaulted v) refl short s st
  call_step short s (suc (suc (suc (suc zero)))) v st = slash_step s v
  call_step short s (suc (suc (suc (suc (suc zero))))) v st = star_step s v st
  call_step short s (suc (suc (suc (suc (suc (suc zero)))))) v st = args_step s v st
  call_step short s (suc (suc (suc (suc (suc (suc (suc zero))))))) v st = kwargs_step s v st
  call_step short s (suc (suc (suc (suc (suc (suc (suc (suc n)))))))) v st = refl

-- ---- what the style says stays true

module _ (area : List ℕ) (qs : List Parameter) (name : ℕ) where
  -- a plain parameter changes no style, and is counted as the style says
  plain_stands : (s : Style) (k : ParameterKind) → plain k ≡ true → Stands s qs → Stands s (qs ++ (new area name s k ∷ []))
  plain_stands s k p st =
      record {
        no_kwargs = ap is_none (kwargs_same area qs name s k p) ∙ st.no_kwargs;
        no_args = λ h. ap is_none (args_same area qs name s k p) ∙ st.no_args h;
        all_positional = λ h. positional_more area qs name s k p ∙ ap (λ b. cond b (suc (positional_count qs)) (positional_count qs)) h ∙ ap suc (st.all_positional h) ∙ longer;
        all_positional_only = λ h. positional_only_more area qs name s k p ∙ ap (λ b. cond b (suc (positional_only_count qs)) (positional_only_count qs)) h ∙ ap suc (st.all_positional_only h) ∙ longer;
      }
    where
      longer : suc (length qs) ≡ length (qs ++ (new area name s k ∷ []))
      longer = rw (length-append qs (new area name s k ∷ [])) (omega arith)

  -- under the last two styles nothing more is positional
  named_stands : (qs' : List Parameter) → is_none (kwargs_index qs') ≡ true → Stands named_only qs'
  unfolding comes_before
  named_stands qs' e =
      record { no_kwargs = e; no_args = λ h. absurd (false≢true h); all_positional = λ h. absurd (false≢true h); all_positional_only = λ h. absurd (false≢true h) }

  closed_stands : (qs' : List Parameter) → is_none (kwargs_index qs') ≡ false → Stands no_more qs'
  unfolding comes_before
  closed_stands qs' e =
      record { no_kwargs = e; no_args = λ h. absurd (false≢true h); all_positional = λ h. absurd (false≢true h); all_positional_only = λ h. absurd (false≢true h) }

  args_stands : (s : Style) → comes_before s named_only ≡ true → Stands s qs → is_none (kwargs_index qs) ≡ true
  unfolding comes_before
  args_stands pos_only h st = st.no_kwargs
  args_stands pos_or_named h st = st.no_kwargs
  args_stands named_only h st = absurd (false≢true h)
  args_stands no_more h st = absurd (false≢true h)

  slash_stands : (s : Style) → comes_before s pos_or_named ≡ true → Stands s qs → Stands pos_or_named qs
  unfolding comes_before
  slash_stands pos_only h st =
      record { no_kwargs = st.no_kwargs; no_args = st.no_args; all_positional = st.all_positional; all_positional_only = λ x. absurd (false≢true x) }
  slash_stands pos_or_named h st = absurd (false≢true h)
  slash_stands named_only h st = absurd (false≢true h)
  slash_stands no_more h st = absurd (false≢true h)

  pub stands_after : (s : Style) (a : Act) → may_stand s a ≡ true → Stands s qs → Stands (next_style s a) (qs ++ added area s a name)
  stands_after s (adds required) h st = plain_stands s required refl st
  stands_after s (adds optional) h st = plain_stands s optional refl st
  stands_after s (adds (defaulted v)) h st = plain_stands s (defaulted v) refl st
  stands_after s (adds args) h st = named_stands (qs ++ (new area name s args ∷ [])) (ap is_none (no_kwargs_new area qs name s) ∙ args_stands s h st)
  stands_after s (adds kwargs) h st = closed_stands (qs ++ (new area name s kwargs ∷ [])) (ap is_none (kwargs_new area qs name s (st.no_kwargs ∙ h)))
  stands_after s slash h st = rw (append-nil qs) (slash_stands s h st)
  stands_after s bare_star h st = rw (append-nil qs) (named_stands qs (args_stands s h st))
  stands_after s unknown_code h st = absurd (false≢true h)
