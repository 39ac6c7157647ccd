-- What preparing a record writes is a prepared list, in this order: the row that a step is laid out as; the rows and the list that are read
-- back from the cells; the rows of steps that pass are right; so the cells of a record that passes 1 to 7 are a prepared list of what it
-- describes (`prepared_is`, `prepared_list`), and a call ends against them as against the record (`prepared_collects`).
-- That nothing else is one stands in LawsPreparedOnly. Assumes nothing.
use mathlib.Core.Path.{◌≡◌, refl, sym, ap, ap₂, ◌∙◌}
use mathlib.Core.Bool.{Bool, true, ◌&&◌, false≢true}
use mathlib.Core.List.{List, [], ◌∷◌, ◌++◌, map}
use Prim.Native.Nat.{ℕ, zero, suc, ◌*◌, ◌≤◌}
use native.Mathlib.Omega.{arith}
use lib.Dec.{eqb, leb, ltb}
use lib.ListN.{length, drop, get_or, length-map}
use borrow.Author.Tests.{eqb-true, eq-eqb, ltb-true, le-leb}
use Rattle.rules.specs.Cells.{read_each, write_each, over}
use Rattle.rules.specs.Listing.{all}
use Rattle.rules.specs.Text.{bytes_at, text_in, is_text}
use Rattle.rules.specs.Value.{Value, no_value, read_value}
use Rattle.rules.specs.Answer.{Answer, fine, ◌then◌, ask}
use Rattle.rules.specs.ParameterRecord.{Step, read_parameters}
use Rattle.rules.specs.Parameters.{Style, pos_only, pos_or_named, named_only, no_more, ParameterKind, required, optional, defaulted, args, kwargs, Act, adds, slash, bare_star, unknown_code, act_of, act, comes_before, may_stand, next_style, rank, Parameter, added, added_from, parameters_of}
use Rattle.rules.specs.ParameterQuestions.{step_name, names_inside, is_zero, uses_right, defaults_right, has_room, name_is_new, ask_step, ask_steps, list_of, ask_parameters}
use Rattle.rules.specs.CallQuestions.{ask_call, ask_board}
use Rattle.rules.specs.Binding.{ask_binding}
use Rattle.rules.specs.Collection.{call_of, ask_records, collection}
use Rattle.rules.proofs.LawsListing.{and_left, and_right, and_both, map_map}
use Rattle.rules.proofs.LawsAnswer.{then_left, then_right, then_assoc, ask_true}
use Rattle.rules.proofs.LawsRecord.{length_write_each, read_each_write_each}
use Rattle.rules.proofs.LawsParameters.{names_fine, defaults_fine, steps_fine, list_names_apart}
use Rattle.rules.proofs.LawsPrinted.{list_few}
use Rattle.cells.proofs.LawsOut.{over_length}
use Rattle.builder.specs.Params.{style_for, kind_for, parameter_of}
use Rattle.builder.proofs.LawsParams.{style_for_rank}
use Rattle.collector.specs.Collect.{bound_to}
use Rattle.cells.specs.Text.{key_of}
use Rattle.prepared.specs.Prepared.{Row, row_width, row_cells, read_row, code_of, default_of, row_of, front_width, prepared_length, prepared_cells, prepared_from, rows_in, parameter_of_row, list_in, adds_one, row_right, rows_right, is_prepared, bound_prepared}

-- ---- a step and its row

zero_value : (v : Value) → is_zero v ≡ true → no_value ≡ v
unfolding is_zero no_value
zero_value v e =
    ap₂ {C = Value} (λ k p. record { kind = k; payload = p })
    (sym (eqb-true v.kind 0 (and_left (eqb v.kind 0) (eqb v.payload 0) e)))
    (sym (eqb-true v.payload 0 (and_right (eqb v.kind 0) (eqb v.payload 0) e)))

-- a step that adds a parameter is known by what the parameter needs and its name, where its unused cells are 0
module _ (area : List ℕ) (name : ℕ) where
  step_back
      : (code : ℕ) (v : Value) → adds_one (act_of code v) ≡ true → uses_right area (act_of code v) name v ≡ true
      → ◌≡◌ {A = Step} (record { code = code_of (kind_for (act_of code v)); name = name; default = default_of (kind_for (act_of code v)) }) (record { code = code; name = name; default = v })
  step_back zero v a u = absurd (false≢true a)
  step_back (suc zero) v a u = ap {B = Step} (λ d. record { code = 1; name = name; default = d }) (zero_value v u)
  step_back (suc (suc zero)) v a u = ap {B = Step} (λ d. record { code = 2; name = name; default = d }) (zero_value v u)
  step_back (suc (suc (suc zero))) v a u = refl
  step_back (suc (suc (suc (suc zero)))) v a u = absurd (false≢true a)
  step_back (suc (suc (suc (suc (suc zero))))) v a u = absurd (false≢true a)
  step_back (suc (suc (suc (suc (suc (suc zero)))))) v a u =
      ap {B = Step} (λ d. record { code = 6; name = name; default = d }) (zero_value v (and_right (eqb name 0) (is_zero v) u))
  step_back (suc (suc (suc (suc (suc (suc (suc zero))))))) v a u =
      ap {B = Step} (λ d. record { code = 7; name = name; default = d }) (zero_value v (and_right (eqb name 0) (is_zero v) u))
  step_back (suc (suc (suc (suc (suc (suc (suc (suc n)))))))) v a u = absurd (false≢true a)

-- the row of a step under the style of a number
abbrev pub row_for : List ℕ → ℕ → Step → Row
row_for area style t = record { step = t; style = style; key = key_of (bytes_at area t.name) }

-- the parameter that a step adds under a style is laid out as the step, the style's number and the name's key
pub row_of_step
    : (area : List ℕ) (s : Style) (t : Step) → adds_one (act t) ≡ true → uses_right area (act t) t.name t.default ≡ true
    → row_of (record { kind = kind_for (act t); style = s; name = text_in area t.name }) ≡ row_for area (rank s) t
unfolding row_of text_in act
row_of_step area s t a u =
    ap {B = Row} (λ x. record { step = x; style = rank s; key = key_of (bytes_at area t.name) }) (step_back area t.name t.code t.default a u)

-- ---- what is read back

pub row_cells_wide : (r : Row) → length (row_cells r) ≡ row_width
unfolding row_cells row_width
row_cells_wide r = refl

read_row_row_cells : (r : Row) (rest : List ℕ) → read_row (row_cells r ++ rest) ≡ r
unfolding read_row row_cells read_value
read_row_row_cells r rest = refl

pub length_prepared : (function : ℕ) (qs : List Parameter) → length (prepared_cells function qs) ≡ prepared_length (length qs)
unfolding prepared_cells prepared_length front_width
length_prepared function qs =
    omega (arith, length_write_each row_width read_row row_cells row_cells_wide (map row_of qs), ap (λ n. row_width * n) (length-map qs row_of))

pub count_prepared : (function : ℕ) (qs : List Parameter) (out : List ℕ) → get_or (over (prepared_cells function qs) out) 0 0 ≡ length qs
unfolding over prepared_cells
count_prepared function qs out = refl

pub function_prepared : (function : ℕ) (qs : List Parameter) (out : List ℕ) → get_or (over (prepared_cells function qs) out) 1 0 ≡ function
unfolding over prepared_cells
function_prepared function qs out = refl

pub rows_prepared : (function : ℕ) (qs : List Parameter) (out : List ℕ) → rows_in (over (prepared_cells function qs) out) ≡ map row_of qs
unfolding rows_in over prepared_cells front_width
rows_prepared function qs out =
    ap (λ n. read_each row_width read_row n (write_each row_cells (map row_of qs) ++ drop (length (prepared_cells function qs)) out)) (sym (length-map qs row_of))
    ∙ read_each_write_each row_width read_row row_cells row_cells_wide read_row_row_cells (map row_of qs) (drop (length (prepared_cells function qs)) out)

kind_back : (k : ParameterKind) → kind_for (act_of (code_of k) (default_of k)) ≡ k
kind_back required = refl
kind_back optional = refl
kind_back (defaulted v) = refl
kind_back args = refl
kind_back kwargs = refl

parameter_back
    : (area : List ℕ) (k : ParameterKind) (s : Style) (name : ℕ)
    → parameter_of_row area (row_of (record { kind = k; style = s; name = text_in area name })) ≡ record { kind = k; style = s; name = text_in area name }
unfolding parameter_of_row parameter_of row_of text_in
parameter_back area k s name =
    ap₂ {C = Parameter} (λ x y. record { kind = x; style = y; name = record { payload = name; bytes = bytes_at area name } }) (kind_back k) (style_for_rank s)

list_back : (area : List ℕ) (s : Style) (ts : List Step) → map (λ q. parameter_of_row area (row_of q)) (added_from area s ts) ≡ added_from area s ts
list_back area s [] = refl
list_back area s (t ∷ ts) = go (act t) (list_back area (next_style s (act t)) ts)
  where
    go : (a : Act) → map (λ q. parameter_of_row area (row_of q)) (added_from area (next_style s a) ts) ≡ added_from area (next_style s a) ts
        → map (λ q. parameter_of_row area (row_of q)) (added area s a t.name ++ added_from area (next_style s a) ts) ≡ added area s a t.name ++ added_from area (next_style s a) ts
    go (adds k) e = ap₂ {C = List Parameter} (λ q qs. q ∷ qs) (parameter_back area k s t.name) e
    go slash e = e
    go bare_star e = e
    go unknown_code e = e

-- ---- the rows of steps that pass

-- a step that adds a parameter may stand under no style but the first three, and no step that may stand leads to an earlier style
pub stands_below : (s : Style) (a : Act) → adds_one a ≡ true → may_stand s a ≡ true → ltb (rank s) 3 ≡ true
unfolding comes_before
stands_below pos_only a e m = refl
stands_below pos_or_named a e m = refl
stands_below named_only a e m = refl
stands_below no_more (adds required) e m = absurd (false≢true m)
stands_below no_more (adds optional) e m = absurd (false≢true m)
stands_below no_more (adds (defaulted v)) e m = absurd (false≢true m)
stands_below no_more (adds args) e m = absurd (false≢true m)
stands_below no_more (adds kwargs) e m = absurd (false≢true m)
stands_below no_more slash e m = absurd (false≢true m)
stands_below no_more bare_star e m = absurd (false≢true m)
stands_below no_more unknown_code e m = absurd (false≢true m)

pub rank_next : (s : Style) (a : Act) → may_stand s a ≡ true → rank s ≤ rank (next_style s a)
unfolding comes_before
rank_next s (adds required) m = omega arith
rank_next s (adds optional) m = omega arith
rank_next s (adds (defaulted v)) m = omega arith
rank_next s (adds args) m = omega (arith, ltb-true (rank s) 2 m)
rank_next s (adds kwargs) m = omega (arith, ltb-true (rank s) 3 m)
rank_next s slash m = omega (arith, ltb-true (rank s) 1 m)
rank_next s bare_star m = omega (arith, ltb-true (rank s) 2 m)
rank_next s unknown_code m = absurd (false≢true m)

module _ (area : List ℕ) (s : Style) (t : Step) where
  row_right_lem
      : adds_one (act t) ≡ true → may_stand s (act t) ≡ true → step_name area t ≡ true → uses_right area (act t) t.name t.default ≡ true
      → row_right area (row_for area (rank s) t) ≡ true
  unfolding row_right
  row_right_lem a m n u =
      rw (a, stands_below s (act t) a m, style_for_rank s, m, n, u) (eq-eqb (key_of (bytes_at area t.name)) (key_of (bytes_at area t.name)) refl)

-- one row more at the front
rows_cons
    : (area : List ℕ) (s : Style) (t : Step) (k : ParameterKind) (least : ℕ) (rest : List Row)
    → act t ≡ adds k → least ≤ rank s → may_stand s (act t) ≡ true → step_name area t ≡ true → uses_right area (act t) t.name t.default ≡ true
    → rows_right area (rank (next_style s (adds k))) rest ≡ true
    → rows_right area least (row_of (record { kind = k; style = s; name = text_in area t.name }) ∷ rest) ≡ true
rows_cons area s t k least rest e h m n u r =
    rw same
    (and_both (leb least (rank s) && row_right area (row_for area (rank s) t)) (rows_right area (rank (next_style (style_for (rank s)) (act t))) rest)
    (and_both (leb least (rank s)) (row_right area (row_for area (rank s) t)) (le-leb least (rank s) h) (row_right_lem area s t (ap adds_one e) m n u))
    (rw (style_for_rank s, e) r))
  where
    same : row_of (record { kind = k; style = s; name = text_in area t.name }) ≡ row_for area (rank s) t
    same = ap (λ x. row_of (record { kind = kind_for x; style = s; name = text_in area t.name })) (sym e) ∙ row_of_step area s t (ap adds_one e) u

step_stands : (A : ℕ) (area : List ℕ) (s : Style) (before : List Parameter) (t : Step) → ask_step A area s before t ≡ fine → may_stand s (act t) ≡ true
unfolding ask_step
step_stands A area s before t f =
    ask_true 5 (may_stand s (act t))
    (then_left (ask 5 (may_stand s (act t))) (ask 6 (has_room A before (act t)) then ask 7 (name_is_new area s before (act t) t.name)) f)

module _ (A : ℕ) (area : List ℕ) where
  -- each row stands under no earlier style than the steps before it lead to
  rows_right_lem
      : (s : Style) (before : List Parameter) (ts : List Step) (least : ℕ) → least ≤ rank s
      → ask_steps A area s before ts ≡ fine → all (step_name area) ts ≡ true → defaults_right area ts ≡ true
      → rows_right area least (map row_of (added_from area s ts)) ≡ true
  unfolding defaults_right
  rows_right_lem s before [] least h f n d = refl
  rows_right_lem s before (t ∷ ts) least h f n d =
      go (act t) refl stands
      (λ l b. rows_right_lem (next_style s (act t)) (before ++ added area s (act t) t.name) ts l b
      (then_right (ask_step A area s before t) later f) (and_right (step_name area t) (all (step_name area) ts) n) (and_right uses (defaults_right area ts) d))
    where
      later : Answer
      later = ask_steps A area (next_style s (act t)) (before ++ added area s (act t) t.name) ts

      uses : Bool
      uses = uses_right area (act t) t.name t.default

      stands : may_stand s (act t) ≡ true
      stands = step_stands A area s before t (then_left (ask_step A area s before t) later f)

      go : (a : Act) → act t ≡ a → may_stand s a ≡ true
          → ((l : ℕ) → l ≤ rank (next_style s a) → rows_right area l (map row_of (added_from area (next_style s a) ts)) ≡ true)
          → rows_right area least (map row_of (added area s a t.name ++ added_from area (next_style s a) ts)) ≡ true
      go (adds k) e m ih =
          rows_cons area s t k least (map row_of (added_from area (next_style s (adds k)) ts)) e h stands
          (and_left (step_name area t) (all (step_name area) ts) n) (and_left uses (defaults_right area ts) d)
          (ih (rank (next_style s (adds k))) (omega arith))
      go slash e m ih = ih least (omega (arith, rank_next s slash m))
      go bare_star e m ih = ih least (omega (arith, rank_next s bare_star m))
      go unknown_code e m ih = absurd (false≢true m)

-- ---- of a record that passes

module _ (spec area : List ℕ) (passes : ask_parameters 64 spec area ≡ fine) where
  function_right : is_text 1 area (get_or spec 0 0) ≡ true
  unfolding names_inside read_parameters
  function_right = and_left (is_text 1 area (read_parameters spec).function) (all (step_name area) (read_parameters spec).steps) (names_fine 64 spec area passes)

  listed_right : rows_right area 0 (map row_of (list_of spec area)) ≡ true
  unfolding list_of parameters_of names_inside
  listed_right =
      rows_right_lem 64 area pos_only [] (read_parameters spec).steps 0 (omega arith) (steps_fine 64 spec area passes)
      (and_right (is_text 1 area (read_parameters spec).function) (all (step_name area) (read_parameters spec).steps) (names_fine 64 spec area passes))
      (defaults_fine 64 spec area passes)

-- the cells that a record is prepared as spell the list that it describes
pub prepared_list : (spec area out : List ℕ) → list_in area (over (prepared_from spec area) out) ≡ list_of spec area
unfolding list_in prepared_from list_of parameters_of
prepared_list spec area out =
    ap (map (parameter_of_row area)) (rows_prepared (get_or spec 0 0) (list_of spec area) out)
    ∙ map_map row_of (parameter_of_row area) (list_of spec area)
    ∙ list_back area pos_only (read_parameters spec).steps

module _ (spec area out : List ℕ) (passes : ask_parameters 64 spec area ≡ fine) where
  -- 386 cells are room enough for every list
  pub prepared_room : 386 ≤ length out → prepared_length (length (list_of spec area)) ≤ length out
  unfolding prepared_length front_width row_width
  prepared_room h = omega (arith, list_few 64 spec area passes)

  module _ (room : prepared_length (length (list_of spec area)) ≤ length out) where
    abbrev cells : List ℕ
    cells = over (prepared_from spec area) out

    abbrev qs : List Parameter
    qs = list_of spec area

    room_kept : length cells ≡ length out
    unfolding prepared_from
    room_kept = over_length (prepared_from spec area) out (rw (length_prepared (get_or spec 0 0) qs) room)

    -- where a record passes 1 to 7 and its list has room, what preparing it leaves in the lent cells is a prepared list
    pub prepared_is : is_prepared area (over (prepared_from spec area) out) ≡ true
    unfolding is_prepared prepared_from
    prepared_is =
        rw (
          prepared_list spec area out,
          room_kept,
          rows_prepared (get_or spec 0 0) qs out,
          count_prepared (get_or spec 0 0) qs out,
          function_prepared (get_or spec 0 0) qs out,
          le-leb (length qs) 64 (list_few 64 spec area passes),
          le-leb (prepared_length (length qs)) (length out) room,
          function_right spec area passes,
          listed_right spec area passes,
        )
        (list_names_apart 64 spec area passes)

    -- and a call ends against those cells as it ends against the record
    pub prepared_collects
        : (call_cells call_bytes board : List ℕ)
        → bound_prepared area (over (prepared_from spec area) out) call_cells call_bytes board ≡ collection 64 64 spec area call_cells call_bytes board
    unfolding bound_prepared bound_to collection ask_records
    prepared_collects call_cells call_bytes board =
        rw (
          prepared_is,
          prepared_list spec area out,
          passes,
          then_assoc (ask_call 64 call_cells call_bytes) (ask_board 64 64 board) (ask_binding qs (call_of call_cells call_bytes)),
        )
