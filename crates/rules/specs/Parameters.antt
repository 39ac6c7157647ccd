-- The parameter list (01, parameter list): what each step does to the style, which parameters the steps add.
-- The style starts as PosOnly, unlike in Python (function definitions) and Starlark, where a list without / is not positional-only.
-- 01's own terms defined here: style, positional-only, positional, nameable.
use Rattle.std.specs.Prelude.{Bool, true, false, ◌&&◌, List, [], ◌∷◌, ◌++◌, ℕ, zero, suc, ltb}
use Rattle.std.proofs.Math.Option.{Option}
use Rattle.rules.specs.Listing.{tally, any, first_from}
use Rattle.rules.specs.Text.{Text, text_in}
use Rattle.rules.specs.Value.{Value}
use Rattle.rules.specs.ParameterRecord.{Step, ParameterRecord}

-- how the next parameter may be filled; the styles follow each other in this order
pub data Style : Type 0 where
  pos_only : Style
  pos_or_named : Style
  named_only : Style
  no_more : Style

abbrev pub rank : Style → ℕ
rank pos_only = 0
rank pos_or_named = 1
rank named_only = 2
rank no_more = 3

unfoldable pub comes_before : Style → Style → Bool
comes_before s t = ltb (rank s) (rank t)

-- what a parameter needs: the Rust's ParameterKind
pub data ParameterKind : Type 0 where
  required : ParameterKind
  optional : ParameterKind
  defaulted : Value → ParameterKind
  args : ParameterKind
  kwargs : ParameterKind

-- what a step does by its code: it adds a parameter (1 required, 2 optional, 3 defaulted, 6 *args, 7 **kwargs) or is a mark (4 /, 5 *)
pub data Act : Type 0 where
  adds : ParameterKind → Act
  slash : Act
  bare_star : Act
  unknown_code : Act

abbrev pub act_of : ℕ → Value → Act
act_of zero v = unknown_code
act_of (suc zero) v = adds required
act_of (suc (suc zero)) v = adds optional
act_of (suc (suc (suc zero))) v = adds (defaulted v)
act_of (suc (suc (suc (suc zero)))) v = slash
act_of (suc (suc (suc (suc (suc zero))))) v = bare_star
act_of (suc (suc (suc (suc (suc (suc zero)))))) v = adds args
act_of (suc (suc (suc (suc (suc (suc (suc zero))))))) v = adds kwargs
act_of (suc (suc (suc (suc (suc (suc (suc (suc n)))))))) v = unknown_code

unfoldable pub act : Step → Act
act s = act_of s.code s.default

-- which steps may stand under a style: / under the first alone, * and *args under the first two, the others under all but the last
abbrev pub may_stand : Style → Act → Bool
may_stand s (adds required) = comes_before s no_more
may_stand s (adds optional) = comes_before s no_more
may_stand s (adds (defaulted v)) = comes_before s no_more
may_stand s (adds args) = comes_before s named_only
may_stand s (adds kwargs) = comes_before s no_more
may_stand s slash = comes_before s pos_or_named
may_stand s bare_star = comes_before s named_only
may_stand s unknown_code = false

-- the style after a step: only the marks, *args and **kwargs change it
abbrev pub next_style : Style → Act → Style
next_style s (adds required) = s
next_style s (adds optional) = s
next_style s (adds (defaulted v)) = s
next_style s (adds args) = named_only
next_style s (adds kwargs) = no_more
next_style s slash = pos_or_named
next_style s bare_star = named_only
next_style s unknown_code = s

-- a parameter: what it needs, the style under which it was added, its name in the spec area (none for *args and **kwargs)
pub record Parameter : Type 0 where
  pub kind : ParameterKind
  pub style : Style
  pub name : Text

-- is it of codes 1 to 3?
abbrev pub plain : ParameterKind → Bool
plain required = true
plain optional = true
plain (defaulted v) = true
plain args = false
plain kwargs = false

abbrev pub is_required : ParameterKind → Bool
is_required required = true
is_required optional = false
is_required (defaulted v) = false
is_required args = false
is_required kwargs = false

abbrev pub takes_position : Style → Bool
takes_position pos_only = true
takes_position pos_or_named = true
takes_position named_only = false
takes_position no_more = false

abbrev pub takes_name : Style → Bool
takes_name pos_only = false
takes_name pos_or_named = true
takes_name named_only = true
takes_name no_more = false

-- a plain parameter is filled by position, by name or either way, as the style says under which it was added (Python's reference, function
-- definitions: those before / by position only, those after * by keyword only)
unfoldable pub positional : Parameter → Bool
positional q = plain q.kind && takes_position q.style

unfoldable pub nameable : Parameter → Bool
nameable q = plain q.kind && takes_name q.style

unfoldable pub positional_only : Parameter → Bool
positional_only q = plain q.kind && comes_before q.style pos_or_named

abbrev pub is_args : ParameterKind → Bool
is_args required = false
is_args optional = false
is_args (defaulted v) = false
is_args args = true
is_args kwargs = false

abbrev pub is_kwargs : ParameterKind → Bool
is_kwargs required = false
is_kwargs optional = false
is_kwargs (defaulted v) = false
is_kwargs args = false
is_kwargs kwargs = true

-- ---- the list

-- the parameter that a step adds, if it adds one: *args and **kwargs have an index too, the marks have none
abbrev pub added : List ℕ → Style → Act → ℕ → List Parameter
added area s (adds k) name = record { kind = k; style = s; name = text_in area name } ∷ []
added area s slash name = []
added area s bare_star name = []
added area s unknown_code name = []

-- the parameters that some steps add, from a style on
abbrev pub added_from : List ℕ → Style → List Step → List Parameter
added_from area s [] = []
added_from area s (t ∷ ts) = added area s (act t) t.name ++ added_from area (next_style s (act t)) ts

unfoldable pub parameters_of : List ℕ → ParameterRecord → List Parameter
parameters_of area r = added_from area pos_only r.steps

-- ---- `DefParamIndices`, of a finished list

unfoldable pub positional_only_count : List Parameter → ℕ
positional_only_count qs = tally positional_only qs

unfoldable pub positional_count : List Parameter → ℕ
positional_count qs = tally positional qs

-- the index of *args, and of **kwargs, where there is one
unfoldable pub args_index : List Parameter → Option ℕ
args_index qs = first_from (λ q. is_args q.kind) 0 qs

unfoldable pub kwargs_index : List Parameter → Option ℕ
kwargs_index qs = first_from (λ q. is_kwargs q.kind) 0 qs

unfoldable pub has_args : List Parameter → Bool
has_args qs = any (λ q. is_args q.kind) qs

unfoldable pub has_kwargs : List Parameter → Bool
has_kwargs qs = any (λ q. is_kwargs q.kind) qs
