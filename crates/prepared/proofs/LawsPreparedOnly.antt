-- Only what preparing writes is a prepared list, in this order: rows written where they were read; the record that such cells come from
-- passes 1 to 7 and is prepared as them (`prepared_only`). So `is_prepared` says exactly that there is such a record (`prepared_by`), and a
-- call ends against the cells as against it (`prepared_bound`).
-- That what preparing writes is a prepared list stands in LawsPrepared. Assumes nothing.
use mathlib.Core.Path.{◌≡◌, refl, ap, subst}
use mathlib.Core.Bool.{Bool, true, ◌&&◌, false≢true}
use mathlib.Core.List.{List, [], ◌∷◌}
use Prim.Native.Nat.{ℕ, zero, suc, ◌+◌, ◌*◌, ◌≤◌}
use native.Mathlib.Omega.{arith}
use lib.Dec.{eqb, leb}
use lib.ListN.{length, drop, get_or, length-append, length-drop, length-map}
use borrow.Author.Tests.{leb-true, le-leb, eq-eqb}
use Rattle.rules.specs.Cells.{read_each, write_each, over}
use Rattle.rules.specs.Listing.{all}
use Rattle.rules.specs.Text.{is_text}
use Rattle.rules.specs.Value.{no_value, read_value}
use Rattle.rules.specs.Answer.{fine}
use Rattle.rules.specs.ParameterRecord.{Step, ParameterRecord, step_width, step_cells, read_step, parameter_length, step_count, read_parameters, encode_parameters}
use Rattle.rules.specs.Parameters.{pos_only, Act, adds, slash, bare_star, unknown_code, act, parameters_of}
use Rattle.rules.specs.ParameterQuestions.{whole_steps, is_code, codes_known, step_name, names_inside, is_zero, uses_right, defaults_right, ask_steps, list_of, ask_parameters}
use Rattle.rules.specs.Passed.{names_apart}
use Rattle.rules.specs.Collection.{collection}
use Rattle.rules.proofs.LawsListing.{and_left, and_right, and_both}
use Rattle.rules.proofs.LawsRecord.{length_write_each, step_cells_wide, read_parameters_encode_parameters}
use Rattle.prepared.specs.Prepared.{Row, row_width, row_cells, read_row, front_width, prepared_length, prepared_cells, prepared_from, rows_in, parameter_of_row, list_in, adds_one, rows_right, is_prepared, bound_prepared}
use Rattle.prepared.proofs.LawsPrepared.{length_prepared, prepared_is, prepared_collects}
use Rattle.prepared.proofs.LawsRowSteps.{rows_back, steps_from, steps_few, Steps-all, steps_add, steps_asked}

-- ---- the cells written again

length_read_each : {X : Type 0} (width : ℕ) (read : List ℕ → X) (n : ℕ) (cells : List ℕ) → length (read_each width read n cells) ≡ n
length_read_each width read zero cells = refl
length_read_each width read (suc n) cells = ap suc (length_read_each width read n (drop width cells))

-- rows that are there, written where they were read
rows_over : (n : ℕ) (cells : List ℕ) → 6 * n ≤ length cells → over (write_each row_cells (read_each 6 read_row n cells)) cells ≡ cells
unfolding over row_cells read_row read_value
rows_over zero cells h = refl
rows_over (suc n) [] h = absurd (omega arith)
rows_over (suc n) (a ∷ []) h = absurd (omega arith)
rows_over (suc n) (a ∷ b ∷ []) h = absurd (omega arith)
rows_over (suc n) (a ∷ b ∷ c ∷ []) h = absurd (omega arith)
rows_over (suc n) (a ∷ b ∷ c ∷ d ∷ []) h = absurd (omega arith)
rows_over (suc n) (a ∷ b ∷ c ∷ d ∷ e ∷ []) h = absurd (omega arith)
rows_over (suc n) (a ∷ b ∷ c ∷ d ∷ e ∷ f ∷ cells) h =
    ap {B = List ℕ} (λ rest. a ∷ b ∷ c ∷ d ∷ e ∷ f ∷ rest) (rows_over n cells (omega arith))

cells_over : (cells : List ℕ) → prepared_length (get_or cells 0 0) ≤ length cells → over (get_or cells 0 0 ∷ get_or cells 1 0 ∷ write_each row_cells (rows_in cells)) cells ≡ cells
unfolding over prepared_length front_width row_width rows_in
cells_over [] h = absurd (omega arith)
cells_over (a ∷ []) h = absurd (omega arith)
cells_over (a ∷ b ∷ cells) h = ap {B = List ℕ} (λ rest. a ∷ b ∷ rest) (rows_over a cells (omega arith))

-- ---- cells that are a prepared list

-- a record that passes 1 to 7 and is prepared as what the cells hold
pub record PreparedBy (area cells : List ℕ) : Type 0 where
  pub spec : List ℕ
  pub passes : ask_parameters 64 spec area ≡ fine
  pub written : over (prepared_from spec area) cells ≡ cells

-- what the five tests of the cells say
record Tests (area cells : List ℕ) : Type 0 where
  few : get_or cells 0 0 ≤ 64
  long : prepared_length (get_or cells 0 0) ≤ length cells
  named : is_text 1 area (get_or cells 1 0) ≡ true
  rows : rows_right area 0 (rows_in cells) ≡ true
  apart : names_apart [] (list_in area cells) ≡ true

tests_of : (area cells : List ℕ) → is_prepared area cells ≡ true → Tests area cells
unfolding is_prepared
tests_of area cells e =
    record {
      few = leb-true (get_or cells 0 0) 64 (and_left a b to_b);
      long = leb-true (prepared_length (get_or cells 0 0)) (length cells) (and_right a b to_b);
      named = and_right (a && b) c to_c;
      rows = and_right (a && b && c) d to_d;
      apart = and_right (a && b && c && d) (names_apart [] (list_in area cells)) e;
    }
  where
    a : Bool
    a = leb (get_or cells 0 0) 64

    b : Bool
    b = leb (prepared_length (get_or cells 0 0)) (length cells)

    c : Bool
    c = is_text 1 area (get_or cells 1 0)

    d : Bool
    d = rows_right area 0 (rows_in cells)

    to_d : (a && b && c && d) ≡ true
    to_d = and_left (a && b && c && d) (names_apart [] (list_in area cells)) e

    to_c : (a && b && c) ≡ true
    to_c = and_left (a && b && c) d to_d

    to_b : (a && b) ≡ true
    to_b = and_left (a && b) c to_c

-- the record that such cells come from: their function's name, and the steps that lead to their rows
unfoldable pub record_for : List ℕ → ParameterRecord
record_for cells = record { function = get_or cells 1 0; steps = steps_from pos_only (rows_in cells) }

unfoldable pub spec_for : List ℕ → List ℕ
spec_for cells = encode_parameters (record_for cells)

-- whole steps, as many as were written
module _ (r : ParameterRecord) where
  count_encoded : step_count (encode_parameters r) ≡ length r.steps
  unfolding step_count encode_parameters step_width
  count_encoded = rw (length_write_each 4 read_step step_cells step_cells_wide r.steps) (omega arith)

  encoded_whole : length r.steps ≤ 66 → whole_steps 64 (encode_parameters r) ≡ true
  unfolding whole_steps parameter_length encode_parameters step_width
  encoded_whole h =
      rw count_encoded
      (and_both (eqb (suc (length (write_each step_cells r.steps))) (1 + 4 * length r.steps)) (leb (length r.steps) 66)
      (eq-eqb (suc (length (write_each step_cells r.steps))) (1 + 4 * length r.steps) (omega (arith, length_write_each 4 read_step step_cells step_cells_wide r.steps)))
      (le-leb (length r.steps) 66 h))

module _ (area cells : List ℕ) (h : Tests area cells) where
  abbrev rows : List Row
  rows = rows_in cells

  abbrev steps : List Step
  steps = steps_from pos_only rows

  read_back : read_parameters (spec_for cells) ≡ record_for cells
  unfolding spec_for
  read_back = read_parameters_encode_parameters (record_for cells)

  count_rows : length rows ≡ get_or cells 0 0
  unfolding rows_in
  count_rows = length_read_each row_width read_row (get_or cells 0 0) (drop front_width cells)

  list_same : list_of (spec_for cells) area ≡ list_in area cells
  unfolding list_of parameters_of list_in record_for
  list_same = rw read_back (steps_add area pos_only rows h.rows)

  whole : whole_steps 64 (spec_for cells) ≡ true
  unfolding spec_for record_for
  whole = encoded_whole (record_for cells) (omega (arith, steps_few area pos_only rows h.rows, count_rows, h.few))

  codes : codes_known steps ≡ true
  unfolding codes_known act
  codes = Steps-all area (λ t. is_code (act t)) refl refl (λ r x. known_code (act r.step) x.adding) pos_only rows h.rows
    where
      known_code : (a : Act) → adds_one a ≡ true → is_code a ≡ true
      known_code (adds k) e = refl
      known_code slash e = absurd (false≢true e)
      known_code bare_star e = absurd (false≢true e)
      known_code unknown_code e = absurd (false≢true e)

  names : names_inside area (record_for cells) ≡ true
  unfolding names_inside record_for step_name act
  names =
      and_both (is_text 1 area (get_or cells 1 0)) (all (step_name area) steps) h.named
      (Steps-all area (step_name area) refl refl (λ r x. x.named) pos_only rows h.rows)

  defaults : defaults_right area steps ≡ true
  unfolding defaults_right act is_zero no_value
  defaults = Steps-all area (λ t. uses_right area (act t) t.name t.default) refl refl (λ r x. x.uses) pos_only rows h.rows

  asked : ask_steps 64 area pos_only [] steps ≡ fine
  unfolding list_in
  asked = steps_asked area pos_only [] rows h.rows (omega (arith, count_rows, h.few)) h.apart

  spec_passes : ask_parameters 64 (spec_for cells) area ≡ fine
  unfolding ask_parameters record_for
  spec_passes = rw (read_back, whole, codes, names, defaults, asked)

  function_same : get_or (spec_for cells) 0 0 ≡ get_or cells 1 0
  unfolding spec_for encode_parameters record_for
  function_same = refl

  cells_same : prepared_from (spec_for cells) area ≡ get_or cells 0 0 ∷ get_or cells 1 0 ∷ write_each row_cells rows
  unfolding prepared_from prepared_cells list_in
  cells_same = rw (list_same, function_same, rows_back area 0 rows h.rows, length-map rows (parameter_of_row area), count_rows)

  spec_written : over (prepared_from (spec_for cells) area) cells ≡ cells
  spec_written = rw cells_same (cells_over cells h.long)

-- cells that pass for a prepared list are what preparing some record that passes 1 to 7 leaves in them
pub prepared_only : (area cells : List ℕ) → is_prepared area cells ≡ true → PreparedBy area cells
prepared_only area cells e =
    let h : Tests area cells = tests_of area cells e in
    record { spec = spec_for cells; passes = spec_passes area cells h; written = spec_written area cells h }

-- ---- such cells, from their record

-- cells that something was written over without a change had room for it
over_room : (done cells : List ℕ) → over done cells ≡ cells → length done ≤ length cells
unfolding over
over_room done cells e = omega (arith, simp (length-append, length-drop) at (ap length e))

module _ (area cells : List ℕ) (p : PreparedBy area cells) where
  by_room : prepared_length (length (list_of p.spec area)) ≤ length cells
  unfolding prepared_from
  by_room = rw (← length_prepared (get_or p.spec 0 0) (list_of p.spec area)) (over_room (prepared_from p.spec area) cells p.written)

  -- they pass for a prepared list
  pub prepared_by : is_prepared area cells ≡ true
  prepared_by = subst (λ c. is_prepared area c ≡ true) p.written (prepared_is p.spec area cells p.passes by_room)

  -- and a call ends against them as it ends against the record
  pub prepared_bound : (call_cells call_bytes board : List ℕ) → bound_prepared area cells call_cells call_bytes board ≡ collection 64 64 p.spec area call_cells call_bytes board
  prepared_bound call_cells call_bytes board =
      subst (λ c. bound_prepared area c call_cells call_bytes board ≡ collection 64 64 p.spec area call_cells call_bytes board) p.written
      (prepared_collects p.spec area cells p.passes by_room call_cells call_bytes board)
