-- Reworked from starlark 0.14.2, src/eval/runtime/params/spec.rs (ParametersSpecBuilder) and src/collections/symbol/map.rs (insert), Apache-2.0.
-- `ParametersSpecBuilder` (spec.rs 112-360), statement by statement: the methods by which a parameter list is put together, and the list that
-- is finished. A method that takes `&mut self` hands back the next state. The function's name, which only messages show, is left out.
-- A panic, where an `assert!` fails or a number does not fit 32 bits, is none: there is no next state then. Names that are no UTF-8, which
-- the Rust can't be given, are taken as bytes like the others.
use Rattle.std.specs.Prelude.{◌≡◌, Bool, true, false, cond, not, ◌&&◌, List, [], ◌∷◌, ◌++◌, map, ◌⊎◌, ℕ, zero, suc, ◌-◌, ltb, leb, eqb, length}
use Rattle.std.proofs.Math.Option.{Option, none, some}
use Rattle.rules.specs.Text.{Text, text_in, same_bytes}
use Rattle.rules.specs.Value.{Value}
use Rattle.rules.specs.Answer.{Answer, fine, refuse, ◌then◌, ask, Detail}
use Rattle.rules.specs.ParameterRecord.{Step, read_parameters}
use Rattle.rules.specs.Parameters.{ParameterKind, Parameter, pos_only}
use Rattle.rules.specs.Parameters as kind
use Rattle.rules.specs.ParameterQuestions.{whole_steps, codes_known, names_inside, defaults_right, ask_steps, ask_parameters, list_of}
use Rattle.original.specs.Spec.{is_some, is_none, Symbol, get, ParametersSpec, spec_of}

-- ---- panics

-- what comes after a step that may panic
abbrev pub next : {X Y : Type 0} → Option X → (X → Option Y) → Option Y
next none rest = none
next (some x) rest = rest x

-- `assert!(test)` and what comes after it
abbrev pub assert : {X : Type 0} → Bool → Option X → Option X
assert true rest = rest
assert false rest = none

-- `n.try_into().unwrap()` where a u32 is wanted
unfoldable pub to_u32 : ℕ → Option ℕ
to_u32 n = cond (ltb n 4294967296) (some n) none

-- the same inside an Option (spec.rs 337, 338)
abbrev pub index_to_u32 : Option ℕ → Option (Option ℕ)
index_to_u32 none = some none
index_to_u32 (some i) = next (to_u32 i) (λ k. some (some k))

-- ---- the map of names: `SymbolMap::insert` (map.rs 76-85)

-- the map after it: the value of a name that is there is replaced, another name comes with its value
abbrev pub put_in : List Symbol → List ℕ → ℕ → List Symbol
put_in [] key value = record { bytes = key; index = value } ∷ []
put_in (s ∷ ss) key value =
    cond (same_bytes key s.bytes) (record { bytes = s.bytes; index = value } ∷ ss) (s ∷ put_in ss key value)

-- the old value of the name, if it was there, and the map after
pub record Inserted : Type 0 where
  pub old : Option ℕ
  pub map : List Symbol

abbrev pub insert : List Symbol → List ℕ → ℕ → Inserted
insert names key value = record { old = get names key; map = put_in names key value }

-- ---- the styles

-- 112-122
pub data CurrentParameterStyle : Type 0 where
  PosOnly : CurrentParameterStyle
  PosOrNamed : CurrentParameterStyle
  NamedOnly : CurrentParameterStyle
  NoMore : CurrentParameterStyle

-- which of the variants a style is: 112 derives `PartialEq` and `PartialOrd`, which compare by their order
abbrev pub variant : CurrentParameterStyle → ℕ
variant PosOnly = 0
variant PosOrNamed = 1
variant NamedOnly = 2
variant NoMore = 3

-- `s == t` and `s < t`
abbrev pub is_style : CurrentParameterStyle → CurrentParameterStyle → Bool
is_style s t = eqb (variant s) (variant t)

abbrev pub is_below : CurrentParameterStyle → CurrentParameterStyle → Bool
is_below s t = ltb (variant s) (variant t)

-- ---- the state

-- an entry of `params`; the name's payload is 01's, and no method looks at it
pub record Param : Type 0 where
  pub name : Text
  pub kind : ParameterKind

-- 125-139
pub record Builder : Type 0 where
  pub params : List Param
  pub names : List Symbol
  pub positional_only : ℕ
  pub positional : ℕ
  pub current_style : CurrentParameterStyle
  pub args : Option ℕ
  pub kwargs : Option ℕ

-- 346-360; the capacity is a hint
unfoldable pub with_capacity : Builder
with_capacity =
    record { params = []; names = []; positional_only = 0; positional = 0; current_style = PosOnly; args = none; kwargs = none }

-- `self.params.push(p)`
abbrev pub push : Param → Builder → Builder
push p self =
    record {
      params = self.params ++ (p ∷ []);
      names = self.names;
      positional_only = self.positional_only;
      positional = self.positional;
      current_style = self.current_style;
      args = self.args;
      kwargs = self.kwargs;
    }

-- `self.names` is another map
abbrev pub set_names : List Symbol → Builder → Builder
set_names names self =
    record {
      params = self.params;
      names = names;
      positional_only = self.positional_only;
      positional = self.positional;
      current_style = self.current_style;
      args = self.args;
      kwargs = self.kwargs;
    }

-- `self.positional = n`
abbrev pub set_positional : ℕ → Builder → Builder
set_positional n self =
    record {
      params = self.params;
      names = self.names;
      positional_only = self.positional_only;
      positional = n;
      current_style = self.current_style;
      args = self.args;
      kwargs = self.kwargs;
    }

-- `self.positional_only = n`
abbrev pub set_positional_only : ℕ → Builder → Builder
set_positional_only n self =
    record {
      params = self.params;
      names = self.names;
      positional_only = n;
      positional = self.positional;
      current_style = self.current_style;
      args = self.args;
      kwargs = self.kwargs;
    }

-- `self.current_style = s`
abbrev pub set_style : CurrentParameterStyle → Builder → Builder
set_style s self =
    record {
      params = self.params;
      names = self.names;
      positional_only = self.positional_only;
      positional = self.positional;
      current_style = s;
      args = self.args;
      kwargs = self.kwargs;
    }

-- `self.args = Some(i)`
abbrev pub set_args : ℕ → Builder → Builder
set_args i self =
    record {
      params = self.params;
      names = self.names;
      positional_only = self.positional_only;
      positional = self.positional;
      current_style = self.current_style;
      args = some i;
      kwargs = self.kwargs;
    }

-- `self.kwargs = Some(i)`
abbrev pub set_kwargs : ℕ → Builder → Builder
set_kwargs i self =
    record {
      params = self.params;
      names = self.names;
      positional_only = self.positional_only;
      positional = self.positional;
      current_style = self.current_style;
      args = self.args;
      kwargs = some i;
    }

-- ---- the methods

-- 189-192: only a parameter that is not positional-only gets into the map of names
abbrev pub add_name : Text → ℕ → Builder → Option Builder
add_name name i self =
    -- 189
    cond (not (is_style self.current_style PosOnly))
    -- 190
    (next (to_u32 i) (λ index.
    -- 191
    assert (is_none (insert self.names name.bytes index).old)
    (some (set_names (insert self.names name.bytes index).map self))))
    (some self)

-- 193-200: what the parameter at index i does to the counts
abbrev pub count_position : ℕ → Builder → Builder
count_position i self =
    -- 193
    cond (is_none self.args && not (is_style self.current_style NamedOnly))
    -- 196-199
    (cond (is_style self.current_style PosOnly) (set_positional_only (suc i) (set_positional (suc i) self)) (set_positional (suc i) self))
    self

-- `matches!(val, ParameterKind::Args | ParameterKind::KWargs)` (167)
abbrev pub is_args_or_kWargs : ParameterKind → Bool
is_args_or_kWargs kind.required = false
is_args_or_kWargs kind.optional = false
is_args_or_kWargs (kind.defaulted val) = false
is_args_or_kWargs kind.args = true
is_args_or_kWargs kind.kwargs = true

-- 165-201
abbrev pub add : Text → ParameterKind → Builder → Option Builder
add name val self =
    -- 166-171
    assert (not (is_args_or_kWargs val))
    -- 174-179
    (assert (is_below self.current_style NoMore)
    -- 180-185
    (assert (is_none self.kwargs)
    -- 187-192
    (next (add_name name (length self.params) (push (record { name = name; kind = val }) self))
    -- 193-200
    (λ self'. some (count_position (length self.params) self')))))

-- 206-208
abbrev pub required : Text → Builder → Option Builder
required name self = add name kind.required self

-- 213-215
abbrev pub optional : Text → Builder → Option Builder
optional name self = add name kind.optional self

-- 220-222
abbrev pub defaulted : Text → Value → Builder → Option Builder
defaulted name val self = add name (kind.defaulted val) self

-- the two names that the Rust itself writes (255, 306); they stand in no area
abbrev pub star_args : Text
star_args = record { payload = 0; bytes = 42 ∷ 97 ∷ 114 ∷ 103 ∷ 115 ∷ [] }

abbrev pub star_star_kwargs : Text
star_star_kwargs = record { payload = 0; bytes = 42 ∷ 42 ∷ 107 ∷ 119 ∷ 97 ∷ 114 ∷ 103 ∷ 115 ∷ [] }

-- `self.args = Some(self.params.len() - 1)` and `self.kwargs = ..`, after a push
abbrev pub last_is_args : Builder → Builder
last_is_args self = set_args (length self.params - 1) self

abbrev pub last_is_kwargs : Builder → Builder
last_is_kwargs self = set_kwargs (length self.params - 1) self

-- 239-258
abbrev pub args : Builder → Option Builder
args self =
    -- 240-244
    assert (is_none self.args)
    -- 245-249
    (assert (is_below self.current_style NamedOnly)
    -- 250-254
    (assert (is_none self.kwargs)
    -- 255-257
    (some (set_style NamedOnly (last_is_args (push (record { name = star_args; kind = kind.args }) self))))))

-- 261-269
abbrev pub no_more_positional_only_args : Builder → Option Builder
no_more_positional_only_args self =
    -- 262-267
    assert (is_style self.current_style PosOnly)
    -- 268
    (some (set_style PosOrNamed self))

-- 277-290
abbrev pub no_more_positional_args : Builder → Option Builder
no_more_positional_args self =
    -- 278
    assert (is_none self.args)
    -- 279-283
    (assert (is_below self.current_style NamedOnly)
    -- 284-288
    (assert (is_none self.kwargs)
    -- 289
    (some (set_style NamedOnly self))))

-- 299-309
abbrev pub kwargs : Builder → Option Builder
kwargs self =
    -- 300-304
    assert (is_none self.kwargs)
    -- 305-308
    (some (last_is_kwargs (set_style NoMore (push (record { name = star_star_kwargs; kind = kind.kwargs }) self))))

-- 312-341
abbrev pub finish : Builder → Option ParametersSpec
finish self =
    -- 324
    next (to_u32 self.positional_only) (λ positional_only.
    -- 325
    next (to_u32 self.positional) (λ positional.
    -- 326
    assert (leb positional_only positional)
    -- 337
    (next (index_to_u32 self.args) (λ args_index.
    -- 338
    next (index_to_u32 self.kwargs) (λ kwargs_index.
    -- 327-340
    some
    (record {
      param_kinds = map (λ p. p.kind) self.params;
      param_names = map (λ p. p.name) self.params;
      names = self.names;
      num_positional_only = positional_only;
      num_positional = positional;
      args = args_index;
      kwargs = kwargs_index;
    }))))))

-- ---- a record's steps as calls of the methods

-- the method by the code from 1 to 7, with the step's name and default; another code names no method, and nothing is built
abbrev pub call : ℕ → Text → Value → Builder → Option Builder
call zero name val self = none
call (suc zero) name val self = required name self
call (suc (suc zero)) name val self = optional name self
call (suc (suc (suc zero))) name val self = defaulted name val self
call (suc (suc (suc (suc zero)))) name val self = no_more_positional_only_args self
call (suc (suc (suc (suc (suc zero))))) name val self = no_more_positional_args self
call (suc (suc (suc (suc (suc (suc zero)))))) name val self = args self
call (suc (suc (suc (suc (suc (suc (suc zero))))))) name val self = kwargs self
call (suc (suc (suc (suc (suc (suc (suc (suc n)))))))) name val self = none

unfoldable pub take_step : List ℕ → Builder → Step → Option Builder
take_step area self t = call t.code (text_in area t.name) t.default self

abbrev pub take_steps : List ℕ → Builder → List Step → Option Builder
take_steps area self [] = some self
take_steps area self (t ∷ ts) = next (take_step area self t) (λ self'. take_steps area self' ts)

-- the list that the Rust's builder makes of a parameter record over its area, where it doesn't panic
unfoldable pub built : List ℕ → List ℕ → Option ParametersSpec
built cells area = next (take_steps area with_capacity (read_parameters cells).steps) finish

-- ---- what holds of it

-- a parameter's name in the Rust: *args and **kwargs have the two names above there, and none in 01. The printed list shows these two, and
-- nothing reads them in a call
abbrev pub name_in_rust : Parameter → Text
name_in_rust q = named q.kind
  where
    named : ParameterKind → Text
    named kind.required = q.name
    named kind.optional = q.name
    named (kind.defaulted v) = q.name
    named kind.args = star_args
    named kind.kwargs = star_star_kwargs

-- `spec_of`, field by field, but for those two names
unfoldable pub finished_of : List Parameter → ParametersSpec
finished_of qs =
    record {
      param_kinds = (spec_of qs).param_kinds;
      param_names = map name_in_rust qs;
      names = (spec_of qs).names;
      num_positional_only = (spec_of qs).num_positional_only;
      num_positional = (spec_of qs).num_positional;
      args = (spec_of qs).args;
      kwargs = (spec_of qs).kwargs;
    }

-- questions 1 to 4, each of the whole record
unfoldable pub ask_whole : List ℕ → List ℕ → Answer
ask_whole cells area =
    ask 1 (whole_steps 64 cells)
    then ask 2 (codes_known (read_parameters cells).steps)
    then ask 3 (names_inside area (read_parameters cells))
    then ask 4 (defaults_right area (read_parameters cells).steps)

abbrev pub unless_refused : Answer → ParametersSpec → Option ParametersSpec
unless_refused fine spec = some spec
unless_refused (refuse n d) spec = none

-- what the Rust builds of a parameter record
pub record BuiltOriginal (cells area : List ℕ) : Type 0 where
  -- a record that passes 1 to 7 makes nothing panic, and its list is the one that 01's definitions give
  pub finishes : ask_parameters 64 cells area ≡ fine → built cells area ≡ some (finished_of (list_of cells area))
  -- a step that may not stand where it does, or whose name is not new, is a panic
  pub panics_at_5 : (d : Detail) → ask_parameters 64 cells area ≡ refuse 5 d → built cells area ≡ none
  pub panics_at_7 : (d : Detail) → ask_parameters 64 cells area ≡ refuse 7 d → built cells area ≡ none
  -- what line 326 asserts, which was 01's question 8, holds in every state that the steps of a record lead to, so nothing is asked for it (02, §8)
  pub asserted_326
      : whole_steps 64 cells ≡ true
      → (self : Builder) → take_steps area with_capacity (read_parameters cells).steps ≡ some self
      → leb self.positional_only self.positional ≡ true
  -- the Rust knows no bound for the parameters: with room for one parameter a step, where 6 is never the refusal, 5 and 7 decide alone
  pub without_6 : whole_steps 64 cells ≡ true → built cells area ≡ unless_refused (ask_steps 66 area pos_only [] (read_parameters cells).steps) (finished_of (list_of cells area))
  -- so what 01 refuses past 4 and the Rust builds has too many parameters. Not all that 6 refuses is built, since the Rust may still panic
  -- at that step or a later one: `too_many_built` and `too_many_panics` of specs/BuilderExamples.antt
  pub otherwise_6 : ask_whole cells area ≡ fine → is_some (built cells area) ≡ true → (ask_parameters 64 cells area ≡ fine) ⊎ (ask_parameters 64 cells area ≡ refuse 6 Detail.none)
