-- The Rust's builder finishes the list that 01's definitions give, and panics where 5 or 7 refuses.
-- Assumes nothing.
use mathlib.Core.Path.{◌≡◌, refl, sym, ap, ◌∙◌}
use mathlib.Core.Bool.{Bool, true, false, cond, ◌&&◌, false≢true}
use mathlib.Core.List.{List, [], ◌∷◌, ◌++◌, append_assoc, append-nil}
use mathlib.Core.Logic.{◌⊎◌, inl, inr, ⊎_elim}
use mathlib.Core.Option.{Option, none, some}
use Prim.Native.Nat.{ℕ, zero, suc, ◌+◌, ◌≤◌, ◌<◌}
use native.Mathlib.Omega.{arith}
use borrow.Author.Tests.{lt-ltb, leb-true, le-leb}
use lib.Dec.{leb, eqb}
use lib.ListN.{length, length-append, drop}
use Rattle.rules.specs.Listing.{first_from}
use Rattle.rules.specs.Cells.{read_each}
use Rattle.rules.specs.Answer.{Answer, fine, refuse, ◌then◌, ask, Detail}
use Rattle.rules.specs.ParameterRecord.{Step, step_width, read_step, parameter_length, step_count, read_parameters}
use Rattle.rules.specs.Parameters.{Style, pos_only, comes_before, is_args, is_kwargs, Parameter, positional_count, positional_only_count, args_index, kwargs_index, Act, adds, slash, bare_star, unknown_code, act, may_stand, next_style, added, added_from, parameters_of}
use Rattle.rules.specs.ParameterQuestions.{whole_steps, codes_known, names_inside, defaults_right, has_room, name_is_new, ask_step, ask_steps, list_of, ask_parameters}
use Rattle.rules.proofs.LawsListing.{and_left, and_right, map_map}
use Rattle.rules.proofs.LawsAnswer.{then_left, ask_true, fine_refuse}
use Rattle.rules.proofs.LawsCounts.{step_counts}
use Rattle.rules.proofs.LawsParameters.{steps_fine}
use Rattle.original.specs.Spec.{is_some, ParametersSpec, spec_of}
use Rattle.original.specs.Builder.{next, index_to_u32, Builder, with_capacity, finish, take_step, take_steps, built, finished_of, ask_whole, unless_refused, BuiltOriginal}
use Rattle.original.proofs.LawsSpec.{positional_within}
use Rattle.original.proofs.LawsBuilder.{to_u32_lem, param_of, state_of, Stands, call_step, stands_after}

-- ---- the steps

module _ (area : List ℕ) where
  -- 5 and 7 asked of a step, and of every step in turn; 6 is not asked
  abbrev fits : Style → List Parameter → Step → Bool
  fits s before t = may_stand s (act t) && name_is_new area s before (act t) t.name

  abbrev all_fit : Style → List Parameter → List Step → Bool
  all_fit s before [] = true
  all_fit s before (t ∷ ts) = fits s before t && all_fit (next_style s (act t)) (before ++ added area s (act t) t.name) ts

  abbrev style_after : Style → List Step → Style
  style_after s [] = s
  style_after s (t ∷ ts) = style_after (next_style s (act t)) ts

  -- a step adds one parameter at most
  added_one : (s : Style) (a : Act) (name : ℕ) → length (added area s a name) ≤ 1
  added_one s (adds k) name = omega arith
  added_one s slash name = omega arith
  added_one s bare_star name = omega arith
  added_one s unknown_code name = omega arith

  added_after : (before : List Parameter) (s : Style) (a : Act) (name : ℕ) → length (before ++ added area s a name) ≤ suc (length before)
  added_after before s a name = rw (length-append before (added area s a name)) (omega (arith, added_one s a name))

  added_all : (s : Style) (ts : List Step) → length (added_from area s ts) ≤ length ts
  added_all s [] = omega arith
  added_all s (t ∷ ts) =
      rw (length-append (added area s (act t) t.name) (added_from area (next_style s (act t)) ts))
      (omega (arith, added_one s (act t) t.name, added_all (next_style s (act t)) ts))

  -- the steps panic exactly where one of them doesn't fit, and else leave the state of all the parameters
  take_all : (s : Style) (before : List Parameter) (ts : List Step) → Stands s before → length before + length ts < 4294967296
      → take_steps area (state_of before s) ts ≡ cond (all_fit s before ts) (some (state_of (before ++ added_from area s ts) (style_after s ts))) none
  unfolding take_step act
  take_all s before [] st short = rw (append-nil before)
  take_all s before (t ∷ ts) st short =
      ap (λ o. next o (λ self. take_steps area self ts)) (call_step area before t.name (omega arith) s t.code t.default st)
      ∙ go (fits s before t) refl (take_all (next_style s (act t)) (before ++ added area s (act t) t.name) ts)
    where
      after : List Parameter
      after = before ++ added area s (act t) t.name

      rest : List Parameter
      rest = added_from area (next_style s (act t)) ts

      go : (c : Bool) → fits s before t ≡ c
          → (Stands (next_style s (act t)) after → length after + length ts < 4294967296
          → take_steps area (state_of after (next_style s (act t))) ts ≡ cond (all_fit (next_style s (act t)) after ts) (some (state_of (after ++ rest) (style_after (next_style s (act t)) ts))) none)
          → next (cond c (some (state_of after (next_style s (act t)))) none) (λ self. take_steps area self ts)
          ≡ cond (c && all_fit (next_style s (act t)) after ts) (some (state_of (before ++ (added area s (act t) t.name ++ rest)) (style_after (next_style s (act t)) ts))) none
      go true e ih =
          ih (stands_after area before t.name s (act t) (and_left (may_stand s (act t)) (name_is_new area s before (act t) t.name) e) st) (omega (arith, added_after before s (act t) t.name))
          ∙ ap (λ qs. cond (all_fit (next_style s (act t)) after ts) (some (state_of qs (style_after (next_style s (act t)) ts))) none) (append_assoc before (added area s (act t) t.name) rest)
      go false e ih = refl

-- ---- finish

first_within : {X : Type 0} (f : X → Bool) (i : ℕ) (xs : List X) (k : ℕ) → first_from f i xs ≡ some k → k < i + length xs
first_within f i [] k e = let z : ◌≡◌ {A = ℕ} 0 1 = cc in absurd (omega arith)
first_within f i (x ∷ xs) k e = go (f x) e (first_within f (suc i) xs k)
  where
    go : (c : Bool) → cond c (some i) (first_from f (suc i) xs) ≡ some k → (first_from f (suc i) xs ≡ some k → k < suc i + length xs) → k < i + suc (length xs)
    go true p ih = let same : i ≡ k = cc in omega arith
    go false p ih = let below : k < suc i + length xs = ih p in omega arith

-- an index of a list that is short enough fits 32 bits
index_fits : {X : Type 0} (f : X → Bool) (xs : List X) → length xs < 4294967296 → index_to_u32 (first_from f 0 xs) ≡ some (first_from f 0 xs)
index_fits f xs short = go (first_from f 0 xs) refl
  where
    go : (o : Option ℕ) → first_from f 0 xs ≡ o → index_to_u32 o ≡ some o
    go none e = refl
    go (some k) e =
        let within : k < 0 + length xs = first_within f 0 xs k e in
        let small : k < 4294967296 = omega arith in
        rw (to_u32_lem k small)

module _ (qs : List Parameter) (short : length qs < 4294967296) where
  args_fits : index_to_u32 (args_index qs) ≡ some (args_index qs)
  unfolding args_index
  args_fits = index_fits (λ q. is_args q.kind) qs short

  kwargs_fits : index_to_u32 (kwargs_index qs) ≡ some (kwargs_index qs)
  unfolding kwargs_index
  kwargs_fits = index_fits (λ q. is_kwargs q.kind) qs short

  -- no number of `finish` panics, nor its assert where no more parameters are positional-only than positional
  finish_state : (s : Style) → positional_only_count qs ≤ positional_count qs → finish (state_of qs s) ≡ some (finished_of qs)
  unfolding finished_of spec_of
  finish_state s some-only =
      let some_positional : positional_count qs ≤ length qs = positional_within qs in
      rw (
        to_u32_lem (positional_only_count qs) (omega arith),
        to_u32_lem (positional_count qs) (omega arith),
        le-leb (positional_only_count qs) (positional_count qs) some-only,
        args_fits,
        kwargs_fits,
        map_map param_of (λ p. p.kind) qs,
        map_map param_of (λ p. p.name) qs,
      )

-- ---- the questions

module _ (A : ℕ) (area : List ℕ) where
  -- steps that pass 5 to 7 fit
  fine_fit : (s : Style) (before : List Parameter) (ts : List Step) → ask_steps A area s before ts ≡ fine → all_fit area s before ts ≡ true
  unfolding ask_step
  fine_fit s before [] e = refl
  fine_fit s before (t ∷ ts) e =
      go (may_stand s (act t)) (has_room A before (act t)) (name_is_new area s before (act t) t.name) (ask_steps A area (next_style s (act t)) (before ++ added area s (act t) t.name) ts) e
      (fine_fit (next_style s (act t)) (before ++ added area s (act t) t.name) ts)
    where
      go : (m r n : Bool) (later : Answer) {f : Bool} → ((ask 5 m then ask 6 r then ask 7 n) then later) ≡ fine → (later ≡ fine → f ≡ true) → (m && n && f) ≡ true
      go true true true later e₁ ih = ih e₁
      go true true false later e₁ ih = fine_refuse (sym e₁)
      go true false n later e₁ ih = fine_refuse (sym e₁)
      go false r n later e₁ ih = fine_refuse (sym e₁)

  -- where they fit, 6 alone may still refuse
  fit_asked : (s : Style) (before : List Parameter) (ts : List Step) → all_fit area s before ts ≡ true → (ask_steps A area s before ts ≡ fine) ⊎ (ask_steps A area s before ts ≡ refuse 6 Detail.none)
  unfolding ask_step
  fit_asked s before [] e = inl refl
  fit_asked s before (t ∷ ts) e =
      go (may_stand s (act t)) (has_room A before (act t)) (name_is_new area s before (act t) t.name) (ask_steps A area (next_style s (act t)) (before ++ added area s (act t) t.name) ts) (all_fit area (next_style s (act t)) (before ++ added area s (act t) t.name) ts) e
      (fit_asked (next_style s (act t)) (before ++ added area s (act t) t.name) ts)
    where
      go : (m r n : Bool) (later : Answer) (f : Bool) → (m && n && f) ≡ true → (f ≡ true → (later ≡ fine) ⊎ (later ≡ refuse 6 Detail.none))
          → (((ask 5 m then ask 6 r then ask 7 n) then later) ≡ fine) ⊎ (((ask 5 m then ask 6 r then ask 7 n) then later) ≡ refuse 6 Detail.none)
      go true true true later f e₁ ih = ih e₁
      go true false true later f e₁ ih = inr refl
      go true r false later f e₁ ih = absurd (false≢true e₁)
      go false r n later f e₁ ih = absurd (false≢true e₁)

  -- with room for every step 6 never refuses, and what is left is the fit
  room_asked : (spec : ParametersSpec) (s : Style) (before : List Parameter) (ts : List Step) → length before + length ts ≤ A
      → unless_refused (ask_steps A area s before ts) spec ≡ cond (all_fit area s before ts) (some spec) none
  unfolding ask_step
  room_asked spec s before [] room = refl
  room_asked spec s before (t ∷ ts) room =
      go (may_stand s (act t)) (has_room A before (act t)) (name_is_new area s before (act t) t.name) (ask_steps A area (next_style s (act t)) (before ++ added area s (act t) t.name) ts) (all_fit area (next_style s (act t)) (before ++ added area s (act t) t.name) ts)
      (has_room_lem (act t))
      (room_asked spec (next_style s (act t)) (before ++ added area s (act t) t.name) ts (omega (arith, added_after area before s (act t) t.name)))
    where
      has_room_lem : (a : Act) → has_room A before a ≡ true
      has_room_lem (adds k) = lt-ltb (length before) A (omega arith)
      has_room_lem slash = refl
      has_room_lem bare_star = refl
      has_room_lem unknown_code = refl

      go : (m r n : Bool) (later : Answer) (f : Bool) → r ≡ true → unless_refused later spec ≡ cond f (some spec) none
          → unless_refused ((ask 5 m then ask 6 r then ask 7 n) then later) spec ≡ cond (m && n && f) (some spec) none
      go true true true later f e₁ ih = ih
      go true true false later f e₁ ih = refl
      go true false n later f e₁ ih = absurd (false≢true e₁)
      go false r n later f e₁ ih = refl

-- ---- of a record

each_length : {X : Type 0} (width : ℕ) (read : List ℕ → X) (count : ℕ) (cells : List ℕ) → length (read_each width read count cells) ≡ count
each_length width read zero cells = refl
each_length width read (suc count) cells = ap suc (each_length width read count (drop width cells))

-- a refusal past the first four is that of the steps
refused_steps : (w c i r : Bool) (a : Answer) (n : ℕ) (d : Detail) → 4 < n
    → (ask 1 w then ask 2 c then ask 3 i then ask 4 r then a) ≡ refuse n d → (w ≡ true) × (a ≡ refuse n d)
refused_steps true true true true a n d h p = (refl, p)
refused_steps true true true false a n d h p = let same : 4 ≡ n = cc in absurd (omega arith)
refused_steps true true false r a n d h p = let same : 3 ≡ n = cc in absurd (omega arith)
refused_steps true false i r a n d h p = let same : 2 ≡ n = cc in absurd (omega arith)
refused_steps false c i r a n d h p = let same : 1 ≡ n = cc in absurd (omega arith)

-- where those four pass, the answer is that of the steps
passed_steps : (w c i r : Bool) (a : Answer) → (ask 1 w then ask 2 c then ask 3 i then ask 4 r) ≡ fine
    → (w ≡ true) × ((ask 1 w then ask 2 c then ask 3 i then ask 4 r then a) ≡ a)
passed_steps true true true true a p = (refl, refl)
passed_steps true true true false a p = fine_refuse (sym p)
passed_steps true true false r a p = fine_refuse (sym p)
passed_steps true false i r a p = fine_refuse (sym p)
passed_steps false c i r a p = fine_refuse (sym p)

-- nothing is there yet
start : with_capacity ≡ state_of [] pos_only
unfolding with_capacity positional_only_count positional_count args_index kwargs_index
start = refl

start_stands : Stands pos_only []
unfolding positional_only_count positional_count args_index kwargs_index comes_before
start_stands = record { no_kwargs = refl; no_args = λ h. refl; all_positional = λ h. refl; all_positional_only = λ h. refl }

module _ (cells area : List ℕ) where
  abbrev steps : List Step
  steps = (read_parameters cells).steps

  abbrev spec : ParametersSpec
  spec = finished_of (list_of cells area)

  steps_short : whole_steps 64 cells ≡ true → length steps ≤ 66
  unfolding whole_steps read_parameters
  steps_short w =
      rw (each_length step_width read_step (step_count cells) (drop 1 cells))
      (leb-true (step_count cells) 66 (and_right (eqb (length cells) (parameter_length (step_count cells))) (leb (step_count cells) 66) w))

  -- the run panics exactly where a step doesn't fit
  run_fit : whole_steps 64 cells ≡ true
      → take_steps area with_capacity steps ≡ cond (all_fit area pos_only [] steps) (some (state_of (added_from area pos_only steps) (style_after area pos_only steps))) none
  run_fit w =
      let short : length steps ≤ 66 = steps_short w in
      ap (λ b. take_steps area b steps) start ∙ take_all area pos_only [] steps start_stands (omega arith)

  -- so its state passes what line 326 asserts
  asserted_326 : whole_steps 64 cells ≡ true → (self : Builder) → take_steps area with_capacity steps ≡ some self → leb self.positional_only self.positional ≡ true
  asserted_326 w self e = go (all_fit area pos_only [] steps) (sym (run_fit w) ∙ e)
    where
      go : (c : Bool) → cond c (some (state_of (added_from area pos_only steps) (style_after area pos_only steps))) none ≡ some self → leb self.positional_only self.positional ≡ true
      go true f =
          let is : state_of (added_from area pos_only steps) (style_after area pos_only steps) ≡ self = cc in
          rw (← is) (le-leb (positional_only_count (added_from area pos_only steps)) (positional_count (added_from area pos_only steps)) ((step_counts area).only_within steps))
      go false f = let z : ◌≡◌ {A = ℕ} 0 1 = cc in absurd (omega arith)

  -- and `finish` never panics
  built_fit : whole_steps 64 cells ≡ true → built cells area ≡ cond (all_fit area pos_only [] steps) (some spec) none
  unfolding built list_of parameters_of
  built_fit w =
      let short : length steps ≤ 66 = steps_short w in
      ap (λ o. next o finish) (run_fit w) ∙ go (all_fit area pos_only [] steps) (omega (arith, added_all area pos_only steps))
    where
      go : (c : Bool) → length (added_from area pos_only steps) < 4294967296
          → next (cond c (some (state_of (added_from area pos_only steps) (style_after area pos_only steps))) none) finish ≡ cond c (some (finished_of (added_from area pos_only steps))) none
      go true h = finish_state (added_from area pos_only steps) h (style_after area pos_only steps) ((step_counts area).only_within steps)
      go false h = refl

  -- the steps of a record that is refused past the first four
  from_steps : (n : ℕ) (d : Detail) → 4 < n → ask_parameters 64 cells area ≡ refuse n d → (whole_steps 64 cells ≡ true) × (ask_steps 64 area pos_only [] steps ≡ refuse n d)
  unfolding ask_parameters
  from_steps n d h p =
      refused_steps (whole_steps 64 cells) (codes_known steps) (names_inside area (read_parameters cells)) (defaults_right area steps) (ask_steps 64 area pos_only [] steps) n d h p

  panics : (n : ℕ) (d : Detail) → 4 < n → (6 ≡ n → ⊥) → ask_parameters 64 cells area ≡ refuse n d → built cells area ≡ none
  panics n d h six p =
      let r : (whole_steps 64 cells ≡ true) × (ask_steps 64 area pos_only [] steps ≡ refuse n d) = from_steps n d h p in
      built_fit r.0 ∙ go (all_fit area pos_only [] steps) (fit_asked 64 area pos_only [] steps) r.1
    where
      go : (c : Bool) → (c ≡ true → (ask_steps 64 area pos_only [] steps ≡ fine) ⊎ (ask_steps 64 area pos_only [] steps ≡ refuse 6 Detail.none)) → ask_steps 64 area pos_only [] steps ≡ refuse n d → cond c (some spec) none ≡ none
      go true f e = ⊎_elim (λ (x : ask_steps 64 area pos_only [] steps ≡ fine). fine_refuse (sym x ∙ e)) (λ (x : ask_steps 64 area pos_only [] steps ≡ refuse 6 Detail.none). let same : 6 ≡ n = cc in absurd (six same)) (f refl)
      go false f e = refl

  finishes : ask_parameters 64 cells area ≡ fine → built cells area ≡ some spec
  unfolding ask_parameters
  finishes p =
      built_fit (ask_true 1 (whole_steps 64 cells) (then_left (ask 1 (whole_steps 64 cells)) (ask 2 (codes_known steps) then ask 3 (names_inside area (read_parameters cells)) then ask 4 (defaults_right area steps) then ask_steps 64 area pos_only [] steps) p))
      ∙ ap (λ c. cond c (some spec) none) (fine_fit 64 area pos_only [] steps (steps_fine 64 cells area p))

  without_6 : whole_steps 64 cells ≡ true → built cells area ≡ unless_refused (ask_steps 66 area pos_only [] steps) spec
  without_6 w =
      let short : length steps ≤ 66 = steps_short w in
      built_fit w ∙ sym (room_asked 66 area spec pos_only [] steps (omega arith))

  otherwise_6 : ask_whole cells area ≡ fine → is_some (built cells area) ≡ true → (ask_parameters 64 cells area ≡ fine) ⊎ (ask_parameters 64 cells area ≡ refuse 6 Detail.none)
  unfolding ask_whole ask_parameters
  otherwise_6 p b =
      ⊎_elim (λ (x : ask_steps 64 area pos_only [] steps ≡ fine). inl (r.1 ∙ x)) (λ (x : ask_steps 64 area pos_only [] steps ≡ refuse 6 Detail.none). inr (r.1 ∙ x))
      (fit_asked 64 area pos_only [] steps (go (all_fit area pos_only [] steps) (sym (ap is_some (built_fit r.0)) ∙ b)))
    where
      r : (whole_steps 64 cells ≡ true) × (ask_parameters 64 cells area ≡ ask_steps 64 area pos_only [] steps)
      r = passed_steps (whole_steps 64 cells) (codes_known steps) (names_inside area (read_parameters cells)) (defaults_right area steps) (ask_steps 64 area pos_only [] steps) p

      go : (c : Bool) → is_some (cond c (some spec) none) ≡ true → c ≡ true
      go true e = refl
      go false e = e

-- `ParametersSpecBuilder` of any record and area
pub builder_original : (cells area : List ℕ) → BuiltOriginal cells area
builder_original cells area =
    record {
      finishes = finishes cells area;
      panics_at_5 = λ d e. panics cells area 5 d (omega arith) (λ x. absurd (omega arith)) e;
      panics_at_7 = λ d e. panics cells area 7 d (omega arith) (λ x. absurd (omega arith)) e;
      asserted_326 = asserted_326 cells area;
      without_6 = without_6 cells area;
      otherwise_6 = otherwise_6 cells area;
    }
