-- The printed list (01, printed list; the Rust's `parameters_str` and `iter_fmt_param_spec`): the items of a parameter list, in the order in
-- which they are printed, joined by a comma and a blank. Bytes are numbers here, so each text is given beside them.
use Rattle.std.specs.Prelude.{Bool, cond, not, ◌&&◌, List, [], ◌∷◌, ◌++◌, map, ℕ, ◌*◌, leb, eqb, length}
use Rattle.rules.specs.Listing.{keep}
use Rattle.rules.specs.Answer.{◌then◌, ask}
use Rattle.rules.specs.Parameters.{Parameter, ParameterKind, required, optional, defaulted, args, kwargs, positional, nameable, positional_only, has_args, has_kwargs}
use Rattle.rules.specs.ParameterQuestions.{ask_parameters, list_of}
use Rattle.rules.specs.Accessors.{Access, access_of}

-- `*`
unfoldable pub asterisk : ℕ
asterisk = 42

-- a name without `**` in front, if it has that, and without `*` in front, if it has that
abbrev pub without_double : List ℕ → List ℕ
without_double [] = []
without_double (a ∷ []) = a ∷ []
without_double (a ∷ b ∷ bytes) = cond (eqb a asterisk && eqb b asterisk) bytes (a ∷ b ∷ bytes)

abbrev pub without_single : List ℕ → List ℕ
without_single [] = []
without_single (a ∷ bytes) = cond (eqb a asterisk) bytes (a ∷ bytes)

-- a name as it is printed: first the two are taken off, then the one
unfoldable pub printed_name : List ℕ → List ℕ
printed_name bytes = without_single (without_double bytes)

-- ` = ...` behind the name of a parameter that may be left out
abbrev pub mark : ParameterKind → List ℕ
mark required = []
mark optional = 32 ∷ 61 ∷ 32 ∷ 46 ∷ 46 ∷ 46 ∷ []
mark (defaulted v) = 32 ∷ 61 ∷ 32 ∷ 46 ∷ 46 ∷ 46 ∷ []
mark args = []
mark kwargs = []

unfoldable pub item : Parameter → List ℕ
item q = printed_name q.name.bytes ++ mark q.kind

-- the three sorts of plain parameters
unfoldable pub either_way : Parameter → Bool
either_way q = positional q && nameable q

unfoldable pub name_only : Parameter → Bool
name_only q = not (positional q) && nameable q

unfoldable pub items_of : (Parameter → Bool) → List Parameter → List (List ℕ)
items_of test qs = map item (keep test qs)

-- something that is printed where there are items of a sort
abbrev pub if_any : List (List ℕ) → List (List ℕ) → List (List ℕ)
if_any [] xs = []
if_any (i ∷ is) xs = xs

-- `/` behind the positional-only items, if there are any
unfoldable pub slash_item : List Parameter → List (List ℕ)
slash_item qs = if_any (items_of positional_only qs) ((47 ∷ []) ∷ [])

-- `*args`, or else `*` where items stand that are given by name alone
unfoldable pub star_item : List Parameter → List (List ℕ)
star_item qs = cond (has_args qs) ((42 ∷ 97 ∷ 114 ∷ 103 ∷ 115 ∷ []) ∷ []) (if_any (items_of name_only qs) ((42 ∷ []) ∷ []))

-- `**kwargs`
unfoldable pub kwargs_item : List Parameter → List (List ℕ)
kwargs_item qs = cond (has_kwargs qs) ((42 ∷ 42 ∷ 107 ∷ 119 ∷ 97 ∷ 114 ∷ 103 ∷ 115 ∷ []) ∷ []) []

-- `, `
unfoldable pub comma : List ℕ
comma = 44 ∷ 32 ∷ []

abbrev pub join : List ℕ → List (List ℕ) → List ℕ
join between [] = []
join between (x ∷ []) = x
join between (x ∷ y ∷ ys) = x ++ (between ++ join between (y ∷ ys))

-- the printed list: positional-only items and `/`, items given either way, `*args` or `*`, items given by name alone, `**kwargs`
unfoldable pub printed : List Parameter → List ℕ
printed qs =
    join comma
    (items_of positional_only qs ++ (slash_item qs ++ (items_of either_way qs ++ (star_item qs ++ (items_of name_only qs ++ kwargs_item qs)))))

-- how many bytes the output has at the least: 128 for each parameter that a list may have (8,192)
unfoldable pub printed_least : ℕ → ℕ
printed_least A = 128 * A

-- `parameters_str` asks 1 to 7 and then 29: the output has that many bytes. It answers the length of the printed list
unfoldable pub parameters_str : ℕ → List ℕ → List ℕ → List ℕ → Access
parameters_str A cells area out =
    access_of (ask_parameters A cells area then ask 29 (leb (printed_least A) (length out))) (length (printed (list_of cells area)))
