-- Laws of the parameter record, in this order: its steps by consuming the cells are its steps by index; a step's cells; what
-- questions 2 to 4 say of a step; what reading says of a test; a test of all the steps, by index; question 3. Assumes nothing.
use Rattle.std.specs.Prelude.{Some, None, is_some}
use Rattle.std.specs.List.{list_all, range_with_len}
use mathlib.Core.Path.{◌≡◌, refl, sym, ap}
use mathlib.Core.Bool.{Bool, true, false, cond, ◌&&◌}
use mathlib.Core.List.{List, ◌∷◌}
use Prim.Native.Nat.{ℕ, zero, suc, ◌+◌, ◌*◌, ◌<◌, ◌≤◌}
use native.Mathlib.Nat.{add-zero}
use native.Mathlib.Numerals.{add-one}
use native.Mathlib.Omega.{arith}
use lib.Dec.{eqb}
use lib.ListN.{drop, get_or}
use lib.Seq.{drop-drop, get_or-drop}
use Rattle.rules.specs.Cells.{read_each}
use Rattle.rules.specs.Listing.{all}
use Rattle.rules.specs.Text.{is_text}
use Rattle.rules.specs.Value.{read_value, well_formed_default}
use Rattle.rules.specs.ParameterRecord.{Step as RecordStep, read_step, step_width, step_count, read_parameters}
use Rattle.rules.specs.Parameters.{act}
use Rattle.rules.specs.ParameterQuestions.{is_code, step_name, names_inside, uses_right, is_zero}
use Rattle.builder.specs.declared.params.Step.{Step}
use Rattle.cells.specs.Listed.{listed}
use Rattle.builder.specs.Params.{step_of}
use Rattle.builder.specs.Record.{step_at}
use Rattle.builder.proofs.LawsCodes.{code_0, code_8, is_code_7, has_name_3, has_name_4, uses_right_2, uses_right_7}

read_each_listed : (cells : List ℕ) (i n : ℕ) → read_each 4 read_step n (drop (1 + 4 * i) cells) ≡ listed (step_at cells) i n
unfolding step_at
read_each_listed cells i zero = refl
read_each_listed cells i (suc n) =
    let e : 1 + 4 * i + 4 ≡ 1 + 4 * suc i = omega arith in
    ap (λ (ts : List RecordStep). read_step (drop (1 + 4 * i) cells) ∷ ts)
    (rw (drop-drop, e) (read_each_listed cells (suc i) n))

pub steps_listed : (cells : List ℕ) → (read_parameters cells).steps ≡ listed (step_at cells) 0 (step_count cells)
unfolding read_parameters step_width
steps_listed cells = read_each_listed cells 0 (step_count cells)

pub step_at_cells
    : (cells : List ℕ) (i : ℕ)
    → step_at cells i
    ≡ record {
      code = get_or cells (1 + 4 * i) 0;
      name = get_or cells (1 + 4 * i + 1) 0;
      default = record { kind = get_or cells (1 + 4 * i + 2) 0; payload = get_or cells (1 + 4 * i + 3) 0 };
    }
unfolding step_at read_step read_value
step_at_cells cells i =
    let f : 1 + 4 * i + 2 + 1 ≡ 1 + 4 * i + 3 = omega arith in
    simp (drop-drop, get_or-drop, add-zero, f)

-- ---- a step

module _ (s : Step) where
  pub is_code_in : 1 ≤ s.code → s.code < 8 → is_code (act (step_of s)) ≡ true
  unfolding act step_of
  is_code_in l u = is_code_7 (step_of s).default s.code l u

  pub is_code_below : s.code < 1 → is_code (act (step_of s)) ≡ false
  unfolding act step_of
  is_code_below u = rw (code_0 (step_of s).default s.code u)

  pub is_code_above : 8 ≤ s.code → is_code (act (step_of s)) ≡ false
  unfolding act step_of
  is_code_above l = rw (code_8 s.code (step_of s).default l)

  pub step_name_in : (area : List ℕ) → 1 ≤ s.code → s.code < 4 → step_name area (step_of s) ≡ is_text 1 area s.name
  unfolding step_name act step_of
  step_name_in area l u = rw (has_name_3 (step_of s).default s.code l u)

  pub step_name_below : (area : List ℕ) → s.code < 1 → step_name area (step_of s) ≡ true
  unfolding step_name act step_of
  step_name_below area u = rw (code_0 (step_of s).default s.code u)

  pub step_name_above : (area : List ℕ) → 4 ≤ s.code → step_name area (step_of s) ≡ true
  unfolding step_name act step_of
  step_name_above area l = rw (has_name_4 (step_of s).default s.code l)

  -- question 4 of the step
  abbrev uses : List ℕ → Bool
  uses area = uses_right area (act (step_of s)) s.name (step_of s).default

  pub uses_2 : (area : List ℕ) → 1 ≤ s.code → s.code < 3 → uses area ≡ is_zero (step_of s).default
  unfolding act step_of
  uses_2 area l u = uses_right_2 (step_of s).default area s.name s.code l u

  pub uses_3 : (area : List ℕ) → s.code ≡ 3 → uses area ≡ well_formed_default area (step_of s).default
  unfolding act step_of
  uses_3 area e = rw e

  pub uses_7 : (area : List ℕ) → 4 ≤ s.code → s.code < 8 → uses area ≡ eqb s.name 0 && is_zero (step_of s).default
  unfolding act step_of
  uses_7 area l u = uses_right_7 (step_of s).default area s.name s.code l u

  pub uses_below : (area : List ℕ) → s.code < 1 → uses area ≡ true
  unfolding act step_of
  uses_below area u = rw (code_0 (step_of s).default s.code u)

  pub uses_above : (area : List ℕ) → 8 ≤ s.code → uses area ≡ true
  unfolding act step_of
  uses_above area l = rw (code_8 s.code (step_of s).default l)

-- reading answers something where the test holds
pub some_where : {X : Type 0} (b : Bool) (x : X) → is_some (cond b (Some x) None) ≡ b
some_where true x = refl
some_where false x = refl

-- ---- a test of all the steps, put to each index

module _ (test : RecordStep → Bool) (cells : List ℕ) where
  all_listed : (i n : ℕ) → list_all (λ k. test (step_at cells k)) (range_with_len i n) ≡ all test (listed (step_at cells) i n)
  all_listed i zero = refl
  all_listed i (suc n) = rw (add-one, all_listed (suc i) n)

  pub all_steps : list_all (λ k. test (step_at cells k)) (range_with_len 0 (step_count cells)) ≡ all test (read_parameters cells).steps
  all_steps = rw steps_listed (all_listed 0 (step_count cells))

-- question 3 begins with the function's name, of which r says whether it is one
module _ (area cells : List ℕ) {x : ℕ} (ex : x ≡ get_or cells 0 0) {r : Bool} (er : r ≡ is_text 1 area x) where
  pub function_not : r ≡ false → false ≡ names_inside area (read_parameters cells)
  unfolding names_inside read_parameters
  function_not n = sym (rw (← ex, ← er, n))

  pub function_named : r ≡ true → names_inside area (read_parameters cells) ≡ all (step_name area) (read_parameters cells).steps
  unfolding names_inside read_parameters
  function_named n = rw (← ex, ← er, n)
