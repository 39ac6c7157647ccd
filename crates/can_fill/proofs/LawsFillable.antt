-- Laws of can-fill of two records: what passing 1 to 11 gives, the written names as the code reads them, and the answer by its parts, which
-- forgets nothing of what it tells.
-- `h` is the head that was read.
-- Assumes nothing.
use mathlib.Core.Path.{◌≡◌, refl, sym, ap, ◌∙◌}
use mathlib.Core.Bool.{Bool, true}
use mathlib.Core.List.{List, map}
use Prim.Native.Nat.{ℕ, ◌+◌, ◌*◌, ◌<◌}
use native.Mathlib.Omega.{arith}
use lib.ListN.{drop}
use Rattle.rules.specs.Cells.{read_each}
use Rattle.rules.specs.Text.{inside}
use Rattle.rules.specs.Answer.{fine, refuse, Detail}
use Rattle.rules.specs.CallRecord.{Head, pair_width, read_head, read_pair, read_call, named_in}
use Rattle.rules.specs.CallQuestions.{ask_form}
use Rattle.rules.specs.ParameterQuestions.{ask_parameters, list_of}
use Rattle.rules.specs.CanFill.{can_fill, Filling, refused_filling, answered, fillable}
use Rattle.cells.specs.Record.{pair_at}
use Rattle.builder.specs.Params.{parameters_in}
use Rattle.builder.specs.declared.spec.ParametersSpec.{ParametersSpec}
use Rattle.calls.specs.Head.{named_from}
use Rattle.calls.proofs.LawsEach.{each_map}
use Rattle.calls.proofs.LawsNamed.{name_inside_lem}
use Rattle.calls.proofs.LawsCall.{call_named, lengths_few, form_lengths}
use Rattle.findings.specs.Resolved.{named_at}
use Rattle.findings.proofs.LawsRecord.{pairs_listed, positionals_are, name_formed}
use Rattle.findings.specs.Resolve.{Prepared}
use Rattle.can_fill.specs.CanFill.{filling_in, written_in, FillReady}
use Rattle.std.specs.Prelude.{Result, Ok, Err}
use Rattle.answers.proofs.LawsTold.{question_at, question_back}
use Rattle.cells.specs.declared.question.Question.{Question}

module _ (cells area : List ℕ) (h : Head) (read : h ≡ read_head cells) where
  written_are : map (λ p. (named_in area p).name.bytes) (read_call cells).named ≡ written_in area cells h
  unfolding pair_width named_at
  written_are =
      ap (map (λ p. (named_in area p).name.bytes)) (call_named cells h read)
      ∙ each_map pair_width read_pair (λ p. (named_in area p).name.bytes) h.n (drop (named_from h) cells)
      ∙ ap (λ n. read_each 4 (λ l. (named_in area (read_pair l)).name.bytes) h.n (drop n cells)) from_first
      ∙ pairs_listed (λ l. (named_in area (read_pair l)).name.bytes) cells (named_from h) 0 h.n
    where
      from_first : named_from h ≡ named_from h + 4 * 0
      from_first = omega arith

  module _ (passed : ask_form 64 cells area ≡ fine) where
    names_inside : (k : ℕ) → k < h.n → inside area (pair_at cells (named_from h + 4 * k)).payload ≡ true
    names_inside k below = name_inside_lem area (pair_at cells (named_from h + 4 * k)) (name_formed cells area h read passed k below)

    pub fill_ready : (spec : List ℕ) (l : ParametersSpec) → Prepared spec l → FillReady spec l cells area h
    fill_ready spec l list = record { list = list; few = lengths_few cells h read 64 (form_lengths 64 cells area passed); names_inside = names_inside }

-- ---- the outcome of two records

module _ (cells area spec_cells spec : List ℕ) where
  pub fillable_record : (n : ℕ) (d : Detail) → ask_parameters 64 spec_cells spec ≡ refuse n d → fillable 64 64 spec_cells spec cells area ≡ refused_filling n d
  unfolding fillable
  fillable_record n d e = rw e

  module _ (listed-fine : ask_parameters 64 spec_cells spec ≡ fine) where
    pub fillable_call : (n : ℕ) (d : Detail) → ask_form 64 cells area ≡ refuse n d → fillable 64 64 spec_cells spec cells area ≡ refused_filling n d
    unfolding fillable
    fillable_call n d e = rw (listed-fine, e)

    pub fillable_answered : (h : Head) → h ≡ read_head cells → ask_form 64 cells area ≡ fine → (l : ParametersSpec) → parameters_in spec l.params ≡ list_of spec_cells spec
        → fillable 64 64 spec_cells spec cells area ≡ answered (can_fill (parameters_in spec l.params) h.p (written_in area cells h))
    unfolding fillable
    fillable_answered h read passed l is = rw (listed-fine, passed, positionals_are cells area h read, written_are cells area h read, is)

-- ---- one answer

-- the answer read back: every number has one case
abbrev answer_from : Filling → Result Bool Question
answer_from (refused_filling n d) = Err (question_at n)
answer_from (answered b) = Ok b

told_back : (r : Result Bool Question) → answer_from (filling_in r) ≡ r
told_back (Err q) = ap Err (question_back q)
told_back (Ok b) = refl

-- two answers that tell the same are the same
pub filling_one : (r r' : Result Bool Question) → filling_in r ≡ filling_in r' → r ≡ r'
filling_one r r' e = sym (told_back r) ∙ ap answer_from e ∙ told_back r'
