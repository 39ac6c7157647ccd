-- A prepared list: what a parameter record describes, laid out in lent cells so that many calls can be bound against it without reading the
-- record again. The cells come back from outside and may hold anything, so they are asked before they are believed: `is_prepared` says of any
-- cells whether they are what preparing some record over this spec area writes (`prepared_is` and `prepared_only` of proofs/).
-- Nothing of this is 01's: the layout, and 100 as the number for cells that are no prepared list, are the library's own.
use Rattle.std.specs.Prelude.{Bool, true, false, cond, ◌&&◌, List, [], ◌∷◌, map, ℕ, ◌+◌, ◌*◌, eqb, leb, ltb, length, drop, get_or}
use Rattle.rules.specs.Cells.{read_each, write_each}
use Rattle.rules.specs.Text.{bytes_at, is_text}
use Rattle.rules.specs.Value.{Value, no_value, read_value}
use Rattle.rules.specs.Answer.{none}
use Rattle.rules.specs.ParameterRecord.{Step}
use Rattle.rules.specs.Parameters.{Parameter, ParameterKind, required, optional, defaulted, args, kwargs, Act, adds, slash, bare_star, unknown_code, act, may_stand, next_style, rank}
use Rattle.rules.specs.ParameterQuestions.{step_name, uses_right, list_of}
use Rattle.rules.specs.Passed.{names_apart}
use Rattle.rules.specs.Collection.{Outcome, refused}
use Rattle.cells.specs.Text.{key_of}
use Rattle.builder.specs.Params.{style_for, parameter_of}
use Rattle.collector.specs.Collect.{bound_to}

-- one parameter: the step that adds it, the number of the style under which it was added, and its name's key
pub record Row : Type 0 where
  pub step : Step
  pub style : ℕ
  pub key : ℕ

unfoldable pub row_width : ℕ
row_width = 6

unfoldable pub row_cells : Row → List ℕ
row_cells r = r.step.code ∷ r.style ∷ r.step.name ∷ r.step.default.kind ∷ r.step.default.payload ∷ r.key ∷ []

unfoldable pub read_row : List ℕ → Row
read_row cells =
    record {
      step = record { code = get_or cells 0 0; name = get_or cells 2 0; default = read_value (drop 3 cells) };
      style = get_or cells 1 0;
      key = get_or cells 5 0;
    }

-- ---- what preparing writes

abbrev pub code_of : ParameterKind → ℕ
code_of required = 1
code_of optional = 2
code_of (defaulted v) = 3
code_of args = 6
code_of kwargs = 7

abbrev pub default_of : ParameterKind → Value
default_of required = no_value
default_of optional = no_value
default_of (defaulted v) = v
default_of args = no_value
default_of kwargs = no_value

unfoldable pub row_of : Parameter → Row
row_of q =
    record {
      step = record { code = code_of q.kind; name = q.name.payload; default = default_of q.kind };
      style = rank q.style;
      key = key_of q.name.bytes;
    }

-- two cells before the rows: how many there are, and the function's name
unfoldable pub front_width : ℕ
front_width = 2

unfoldable pub prepared_length : ℕ → ℕ
prepared_length count = front_width + row_width * count

unfoldable pub prepared_cells : ℕ → List Parameter → List ℕ
prepared_cells function qs = length qs ∷ function ∷ write_each row_cells (map row_of qs)

-- the cells that a record's list is prepared as
unfoldable pub prepared_from : List ℕ → List ℕ → List ℕ
prepared_from spec_cells area = prepared_cells (get_or spec_cells 0 0) (list_of spec_cells area)

-- ---- which cells are a prepared list

unfoldable pub rows_in : List ℕ → List Row
rows_in cells = read_each row_width read_row (get_or cells 0 0) (drop front_width cells)

unfoldable pub parameter_of_row : List ℕ → Row → Parameter
parameter_of_row area r = parameter_of area r.step.code r.style r.step.name r.step.default

-- the list that the cells spell
unfoldable pub list_in : List ℕ → List ℕ → List Parameter
list_in area cells = map (parameter_of_row area) (rows_in cells)

abbrev pub adds_one : Act → Bool
adds_one (adds k) = true
adds_one slash = false
adds_one bare_star = false
adds_one unknown_code = false

-- a row by itself: its step adds a parameter and may stand under its style, which is one that a parameter can have; its name, default and
-- unused cells are as 3 and 4 ask; its key is its name's
unfoldable pub row_right : List ℕ → Row → Bool
row_right area r =
    adds_one (act r.step)
    && ltb r.style 3
    && may_stand (style_for r.style) (act r.step)
    && step_name area r.step
    && uses_right area (act r.step) r.step.name r.step.default
    && eqb r.key (key_of (bytes_at area r.step.name))

-- the rows from a style on: each stands under no earlier style than the one that the row before it leads to
abbrev pub rows_right : List ℕ → ℕ → List Row → Bool
rows_right area least [] = true
rows_right area least (r ∷ rs) =
    leb least r.style && row_right area r && rows_right area (rank (next_style (style_for r.style) (act r.step))) rs

-- at most 64 rows, all of them there, a name for the function, the rows in their order, and no nameable name twice
unfoldable pub is_prepared : List ℕ → List ℕ → Bool
is_prepared area cells =
    leb (get_or cells 0 0) 64
    && leb (prepared_length (get_or cells 0 0)) (length cells)
    && is_text 1 area (get_or cells 1 0)
    && rows_right area 0 (rows_in cells)
    && names_apart [] (list_in area cells)

-- how a call record ends against cells that are handed over as a prepared list: refused by 100 where they are none, and otherwise bound
-- against the list that they spell
unfoldable pub bound_prepared : List ℕ → List ℕ → List ℕ → List ℕ → List ℕ → Outcome
bound_prepared area cells call_cells call_bytes board =
    cond (is_prepared area cells) (bound_to (list_in area cells) call_cells call_bytes board) (refused 100 none)
