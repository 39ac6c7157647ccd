-- Questions 1 to 7 (01, the questions, parameter record). A is the number of parameters that a list may have.
-- 1 to 4 are each put to the whole record, 5 to 7 step by step. At the end nothing is asked: number 8 is retired (02, §8; Counts, Retired).
use Rattle.std.specs.Prelude.{Bool, true, false, not, ◌&&◌, ◌||◌, List, [], ◌∷◌, ◌++◌, ℕ, ◌+◌, leb, ltb, eqb, length}
use Rattle.rules.specs.Listing.{all}
use Rattle.rules.specs.Text.{is_text, bytes_at}
use Rattle.rules.specs.Value.{Value, well_formed_default}
use Rattle.rules.specs.Answer.{Answer, fine, ◌then◌, ask}
use Rattle.rules.specs.ParameterRecord.{Step, ParameterRecord, step_count, parameter_length, read_parameters}
use Rattle.rules.specs.Parameters.{Style, pos_only, required, optional, defaulted, args, kwargs, Act, adds, slash, bare_star, unknown_code, act, may_stand, next_style, Parameter, plain, takes_name, added, parameters_of}
use Rattle.rules.specs.Lookup.{known}

-- 1: the function's name and whole steps, at most A + 2 of them (01: 66), since two marks may stand beside the parameters
unfoldable pub whole_steps : ℕ → List ℕ → Bool
whole_steps A cells = eqb (length cells) (parameter_length (step_count cells)) && leb (step_count cells) (A + 2)

abbrev pub is_code : Act → Bool
is_code (adds k) = true
is_code slash = true
is_code bare_star = true
is_code unknown_code = false

-- 2: every step has a code of 01's table
unfoldable pub codes_known : List Step → Bool
codes_known ts = all (λ t. is_code (act t)) ts

-- does a step have a name? Those of codes 1 to 3 do
abbrev pub has_name : Act → Bool
has_name (adds k) = plain k
has_name slash = false
has_name bare_star = false
has_name unknown_code = false

unfoldable pub step_name : List ℕ → Step → Bool
step_name area t = not (has_name (act t)) || is_text 1 area t.name

-- 3: the names, the function's and those of the steps that have one, are texts of 1 to 64 bytes inside the spec area
unfoldable pub names_inside : List ℕ → ParameterRecord → Bool
names_inside area r = is_text 1 area r.function && all (step_name area) r.steps

unfoldable pub is_zero : Value → Bool
is_zero v = eqb v.kind 0 && eqb v.payload 0

-- a well-formed default where the step has one; 0 in every cell that its code has no use for
abbrev pub uses_right : List ℕ → Act → ℕ → Value → Bool
uses_right area (adds required) name v = is_zero v
uses_right area (adds optional) name v = is_zero v
uses_right area (adds (defaulted w)) name v = well_formed_default area v
uses_right area (adds args) name v = eqb name 0 && is_zero v
uses_right area (adds kwargs) name v = eqb name 0 && is_zero v
uses_right area slash name v = eqb name 0 && is_zero v
uses_right area bare_star name v = eqb name 0 && is_zero v
uses_right area unknown_code name v = true

-- 4: that holds of every step
unfoldable pub defaults_right : List ℕ → List Step → Bool
defaults_right area ts = all (λ t. uses_right area (act t) t.name t.default) ts

-- 6: a step that adds a parameter finds room for it; a mark takes none
abbrev pub has_room : ℕ → List Parameter → Act → Bool
has_room A before (adds k) = ltb (length before) A
has_room A before slash = true
has_room A before bare_star = true
has_room A before unknown_code = true

-- 7: a parameter that can be named has a name that none before it can be named by; positional-only names are not asked
abbrev pub name_is_new : List ℕ → Style → List Parameter → Act → ℕ → Bool
name_is_new area s before (adds k) name = not (plain k && takes_name s) || not (known before (bytes_at area name))
name_is_new area s before slash name = true
name_is_new area s before bare_star name = true
name_is_new area s before unknown_code name = true

-- 5 to 7 of one step: it may stand under the style, there is room, its name is new
unfoldable pub ask_step : ℕ → List ℕ → Style → List Parameter → Step → Answer
ask_step A area s before t =
    ask 5 (may_stand s (act t)) then ask 6 (has_room A before (act t)) then ask 7 (name_is_new area s before (act t) t.name)

abbrev pub ask_steps : ℕ → List ℕ → Style → List Parameter → List Step → Answer
ask_steps A area s before [] = fine
ask_steps A area s before (t ∷ ts) =
    ask_step A area s before t then ask_steps A area (next_style s (act t)) (before ++ added area s (act t) t.name) ts

-- the list that a parameter record describes
unfoldable pub list_of : List ℕ → List ℕ → List Parameter
list_of cells area = parameters_of area (read_parameters cells)

-- questions 1 to 7 of a parameter record, in their order
unfoldable pub ask_parameters : ℕ → List ℕ → List ℕ → Answer
ask_parameters A cells area =
    let r : ParameterRecord = read_parameters cells in
    ask 1 (whole_steps A cells)
    then ask 2 (codes_known r.steps)
    then ask 3 (names_inside area r)
    then ask 4 (defaults_right area r.steps)
    then ask_steps A area pos_only [] r.steps
