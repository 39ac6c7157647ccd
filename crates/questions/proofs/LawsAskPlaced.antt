-- 20 to 24 as the code asks them are 20 to 24.
-- Assumes nothing.
use mathlib.Core.Path.{◌≡◌, refl, sym, ap, ap₂, ◌∙◌}
use mathlib.Core.Bool.{Bool, true, false, cond}
use mathlib.Core.List.{List, [], ◌∷◌, map}
use mathlib.Core.Option.{Option, none, some}
use Prim.Native.Nat.{ℕ, zero, suc, ◌+◌, ◌-◌, min, ◌≤◌, ◌<◌}
use native.Mathlib.Omega.{arith}
use borrow.Author.Tests.{lt-ltb, le-ltb}
use lib.ListN.{length, take, get_or}
use Rattle.rules.specs.Text.{text_in}
use Rattle.rules.specs.Value.{Value, no_value, read_value}
use Rattle.rules.specs.Answer.{Answer, fine, refuse, ◌then◌, Detail, name, count, count_and_name, spec_area, call_area, part_of}
use Rattle.rules.specs.CallRecord.{Head, Named, named_in, read_pair}
use Rattle.rules.specs.Parameters.{Parameter, positional_count, has_args, has_kwargs}
use Rattle.rules.specs.Placement.{place, star_remainder, named_remainder}
use Rattle.rules.specs.Binding.{missing, ask_required, ask_star_remainder, ask_named_remainder, ask_placed}
use Rattle.cells.specs.Record.{pair_at}
use Rattle.builder.specs.Spec.{index_of}
use Rattle.builder.specs.Params.{style_for, parameter_of, parameter_at, parameters_in}
use Rattle.builder.specs.declared.spec.ParametersSpec.{ParametersSpec}
use Rattle.answers.specs.Answer.{place_of, answer_in}
use Rattle.findings.specs.Resolved.{named_at, Resolved}
use Rattle.findings.specs.Resolve.{Prepared, with_count}
use Rattle.findings.specs.Found.{first_missing}
use Rattle.calls.specs.Values.{positional_at}
use Rattle.questions.specs.Judge.{lost_to, missing_as, first_of, refused_at, required_as, surplus_as, unknown_as, placed_as, judged_answer}
use Rattle.std.specs.Prelude.{Result, Ok, Err}
use Rattle.answers.specs.declared.answer.Refusal.{Refusal}
use Rattle.answers.specs.declared.answer.Refusal.TheVariants.{ExtraPositionalArg, ExtraNamedArg}
use Rattle.findings.proofs.LawsAsked.{is_some, missing_at}
use Rattle.findings.proofs.LawsKinds.{args_found, kwargs_found}
use Rattle.slots.proofs.LawsPlaced.{parameter, required_found}
use Rattle.slots.proofs.LawsWritten.{star_length, remainder_length}

-- ---- 23 and 24

star_asked : (o : Option ℕ) (vs : List Value) (total room : ℕ) → length vs ≡ total - room → ask_star_remainder (is_some o) vs ≡ cond (lost_to total room o) (refuse 23 (count (total - room))) fine
star_asked (some k) vs total room e = refl
star_asked none [] total room e = ap (λ b. cond b (refuse 23 (count (total - room))) fine) (sym (le-ltb room total (omega arith)))
star_asked none (v ∷ vs) total room e = ap (λ n. refuse 23 (count n)) e ∙ ap (λ b. cond b (refuse 23 (count (total - room))) fine) (sym (lt-ltb room total (omega arith)))

named_asked : (o : Option ℕ) (vs : List Named) (n payload : ℕ) → length vs ≡ n → ((v : Named) (ws : List Named) → vs ≡ v ∷ ws → v.name.payload ≡ payload)
    → ask_named_remainder (is_some o) vs ≡ cond (lost_to n 0 o) (refuse 24 (count_and_name n (place_of call_area payload))) fine
unfolding part_of
named_asked (some k) vs n payload e f = refl
named_asked none [] n payload e f = ap (λ b. cond b (refuse 24 (count_and_name n (place_of call_area payload))) fine) (sym (le-ltb 0 n (omega arith)))
named_asked none (v ∷ vs) n payload e f =
    ap₂ (λ m p. refuse 24 (count_and_name m (place_of call_area p))) e (f v vs refl) ∙ ap (λ b. cond b (refuse 24 (count_and_name n (place_of call_area payload))) fine) (sym (lt-ltb 0 n (omega arith)))

-- ---- 20 to 22

missing_style : (style payload : ℕ) → answer_in (Err (missing_as style payload)) ≡ refuse (missing (style_for style)) (name (place_of spec_area payload))
missing_style zero payload = refl
missing_style (suc zero) payload = refl
missing_style (suc (suc zero)) payload = refl
missing_style (suc (suc (suc n))) payload = refl

missing_asked : (spec : List ℕ) (l : ParametersSpec) (list : Prepared spec l) (o : Option ℕ) (rest : Result Unit Refusal) (kept : ℕ) (after : Answer) → judged_answer (with_count rest kept) ≡ after
    → judged_answer (with_count (first_of (refused_at o (λ i. missing_as (get_or l.params.styles i 0) (get_or l.params.names i 0))) rest) kept) ≡ (missing_at (parameter spec l list) o then after)
unfolding parameter_at parameter_of part_of text_in
missing_asked spec l list none rest kept after e = e
missing_asked spec l list (some i) rest kept after e = missing_style (get_or l.params.styles i 0) (get_or l.params.names i 0)

-- ---- the first name of the remainder

first_payload : List Named → ℕ
first_payload [] = 0
first_payload (v ∷ vs) = v.name.payload

first_of_lem : (area cells : List ℕ) (n : ℕ) (ys : List ℕ) (v : Named) (ws : List Named) → v ∷ ws ≡ map (named_at area cells) (take n ys) → v.name.payload ≡ (pair_at cells (get_or ys 0 0)).payload
unfolding first_payload named_at named_in text_in read_pair read_value pair_at
first_of_lem area cells zero ys v ws e = let z : suc (length ws) ≡ 0 = ap length e in absurd (omega arith)
first_of_lem area cells (suc n) [] v ws e = let z : suc (length ws) ≡ 0 = ap length e in absurd (omega arith)
first_of_lem area cells (suc n) (y ∷ ys) v ws e = ap first_payload e

-- ---- a refusal by a test, and what comes after it

lost_asked : (b : Bool) (x : Refusal) (n : ℕ) (d : Detail) (rest : Result Unit Refusal) (kept : ℕ) (after : Answer) → answer_in (Err x) ≡ refuse n d → judged_answer (with_count rest kept) ≡ after
    → judged_answer (with_count (first_of (cond b (Err x) (Ok tt)) rest) kept) ≡ (cond b (refuse n d) fine then after)
lost_asked true x n d rest kept after e f = e
lost_asked false x n d rest kept after e f = f

-- nothing comes after it
last_asked : (b : Bool) (x : Refusal) (n : ℕ) (d : Detail) (kept : ℕ) → answer_in (Err x) ≡ refuse n d → judged_answer (with_count (cond b (Err x) (Ok tt)) kept) ≡ cond b (refuse n d) fine
last_asked true x n d kept e = e
last_asked false x n d kept e = refl

module _ (spec : List ℕ) (l : ParametersSpec) (list : Prepared spec l) (cells area : List ℕ) (P : List Value) (N : List Named) (sources rest : List ℕ) (kept next : ℕ)
    (upto : next ≡ min (length P) (positional_count (parameters_in spec l.params))) (r : Resolved (parameters_in spec l.params) cells area N sources rest kept) (few : kept ≤ 128) (h : Head)
    (values : (k : ℕ) → k < length P → get_or P k no_value ≡ positional_at cells h k) (long : length P ≡ h.p + h.s) where
  abbrev qs : List Parameter
  qs = parameters_in spec l.params

  first_name : (v : Named) (ws : List Named) → named_remainder qs N ≡ v ∷ ws → v.name.payload ≡ (pair_at cells (get_or rest 0 0)).payload
  first_name v ws e = first_of_lem area cells kept rest v ws (sym e ∙ r.rest_is)

  -- 23, the last
  surplus_asked : judged_answer (with_count (surplus_as l.indices h) kept) ≡ ask_star_remainder (has_args qs) (star_remainder qs P)
  unfolding surplus_as
  surplus_asked =
      let surplus : ℕ = h.p + h.s - l.indices.num_positional in
      last_asked (lost_to (h.p + h.s) l.indices.num_positional (index_of l.indices.args)) (ExtraPositionalArg surplus) 23 (count surplus) kept refl
      ∙ sym
      (ap (λ b. ask_star_remainder b (star_remainder qs P)) (args_found qs ∙ ap is_some (sym list.is_list.args))
      ∙ star_asked (index_of l.indices.args) (star_remainder qs P) (h.p + h.s) l.indices.num_positional (star_length spec l list cells area P N sources rest kept next upto r few h values long))

  -- 24, the first
  unknown_asked
      : ask_named_remainder (has_kwargs qs) (named_remainder qs N)
      ≡ cond (lost_to kept 0 (index_of l.indices.kwargs)) (refuse 24 (count_and_name kept (place_of call_area (pair_at cells (get_or rest 0 0)).payload))) fine
  unknown_asked =
      ap (λ b. ask_named_remainder b (named_remainder qs N)) (kwargs_found qs ∙ ap is_some (sym list.is_list.kwargs))
      ∙ named_asked (index_of l.indices.kwargs) (named_remainder qs N) kept (pair_at cells (get_or rest 0 0)).payload (remainder_length qs cells area N sources rest kept r few) first_name

  pub placed_asked : judged_answer (with_count (placed_as l cells h next sources rest kept) kept) ≡ ask_placed qs P N
  unfolding placed_as required_as unknown_as ask_placed place
  placed_asked =
      let key : ℕ = (pair_at cells (get_or rest 0 0)).payload in
      let surplus : Result Unit Refusal = surplus_as l.indices h in
      let required : Result Unit Refusal = refused_at (first_missing l.params.codes sources next (l.params.len - next)) (λ i. missing_as (get_or l.params.styles i 0) (get_or l.params.names i 0)) in
      lost_asked (lost_to kept 0 (index_of l.indices.kwargs)) (ExtraNamedArg kept key) 24 (count_and_name kept (place_of call_area key)) (first_of required surplus) kept _ refl
      (missing_asked spec l list (first_missing l.params.codes sources next (l.params.len - next)) surplus kept (ask_star_remainder (has_args qs) (star_remainder qs P)) surplus_asked
      ∙ ap (λ a. a then ask_star_remainder (has_args qs) (star_remainder qs P))
      (sym (required_found spec l list cells area P N sources rest kept next upto r h values (length (star_remainder qs P)) (length (named_remainder qs N)))))
      ∙ ap (λ a. a then ask_required qs (place qs P N) then ask_star_remainder (has_args qs) (star_remainder qs P)) (sym unknown_asked)
