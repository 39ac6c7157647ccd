-- Laws of building a list: what the steps have left to ask and to add from step i on, at the start, after a step that is taken, at one that
-- is refused and at the end; then questions 1 to 7 one after the other. Assumes nothing.
use mathlib.Core.Path.{◌≡◌, refl, sym, ap, ◌∙◌}
use mathlib.Core.Bool.{true, false}
use Rattle.std.specs.Prelude.{Result, Ok, Err, is_err}
use Rattle.std.specs.Borrow.{Bor}
use mathlib.Core.List.{List, [], ◌++◌, append_assoc, append-nil}
use Prim.Native.Nat.{ℕ, ◌+◌, ◌-◌, ◌<◌, ◌≤◌}
use native.Mathlib.Nat.{sub-zero}
use Rattle.rules.specs.Answer.{◌then◌}
use Rattle.rules.specs.ParameterRecord.{Step as RecordStep, step_count, read_parameters}
use Rattle.rules.specs.Parameters.{pos_only, act, next_style, added, added_from, parameters_of}
use Rattle.rules.specs.ParameterQuestions.{whole_steps, codes_known, names_inside, defaults_right, ask_steps, list_of, ask_parameters}
use Rattle.cells.specs.declared.question.Question.{Question}
use Rattle.cells.specs.declared.question.Question.TheVariants.{PartialStep, UnknownCode, NameOutside, WrongDefault}
use Rattle.builder.specs.declared.spec.ParametersSpecBuilder.{ParametersSpecBuilder}
use Rattle.builder.specs.declared.spec.Stepped.{Stepped}
use Rattle.cells.specs.Listed.{listed}
use Rattle.builder.specs.Record.{step_at}
use Rattle.cells.specs.Question.{answer_of, refused}
use Rattle.builder.specs.Spec.{Built, Empty, Stepping, style_in, list_in, finished}
use Rattle.builder.specs.Build.{Taking, IsList, Building}
use Rattle.rules.proofs.LawsCounts.{step_counts}
use Rattle.cells.proofs.LawsListed.{listed_next, listed_end}
use Rattle.builder.proofs.LawsRecord.{steps_listed}

-- ---- the steps, one after the other

-- what a step's answer is, from whether it is an error
pub stopped : (r : Result Unit Question) → is_err r ≡ true → (q : Question) × (r ≡ Err q)
stopped (Ok x) e = cc
stopped (Err q) e = (q, refl)

pub passed : (r : Result Unit Question) → is_err r ≡ false → r ≡ Ok tt
passed (Ok x) e = refl
passed (Err q) e = cc

-- from step i on, in the state b: as many questions and parameters as of the whole record
pub record Left (cells area : List ℕ) (m : ℕ) (b : ParametersSpecBuilder) (i : ℕ) : Type 0 where
  pub asks
      : ask_steps 64 area pos_only [] (read_parameters cells).steps
      ≡ ask_steps 64 area (style_in b) (list_in area b) (listed (step_at cells) i (m - i))
  pub list
      : list_of cells area
      ≡ list_in area b ++ added_from area (style_in b) (listed (step_at cells) i (m - i))
  pub built : Built area b

module _ (cells area : List ℕ) (m : ℕ) where
  pub left_start : (b : ParametersSpecBuilder) → m ≡ step_count cells → Empty b → Left cells area m b 0
  unfolding list_of parameters_of
  left_start b e h =
      record {
        asks = rw (h.style, h.list area, sub-zero, e, steps_listed);
        list = rw (h.style, h.list area, sub-zero, e, steps_listed);
        built = h.built area;
      }

  pub left_end : (r : Stepped) (i : ℕ) → r.answer ≡ Ok tt → Left cells area m r.builder i → m ≤ i → Taking cells area r
  left_end r i a left h =
      record {
        answer = ap answer_of a ∙ sym (left.asks ∙ rw (listed_end (step_at cells) i m h));
        list = λ e. sym (left.list ∙ rw (listed_end (step_at cells) i m h) (append-nil (list_in area r.builder)));
        built = left.built;
      }

  module _
      (b : ParametersSpecBuilder) (i : ℕ) (left : Left cells area m b i) (h : i < m)
      (t : RecordStep) (e : t ≡ step_at cells i) (r : Stepped) (s : Stepping area b t r) where
    -- the questions and the parameters of step i and of those after it
    asks_next
        : ask_steps 64 area pos_only [] (read_parameters cells).steps
        ≡ answer_of r.answer
        then ask_steps 64 area (next_style (style_in b) (act t))
        (list_in area b ++ added area (style_in b) (act t) t.name)
        (listed (step_at cells) (i + 1) (m - (i + 1)))
    asks_next = left.asks ∙ rw (listed_next (step_at cells) i m h, ← e, ← s.answer)

    pub left_stop : (q : Question) → r.answer ≡ Err q → Taking cells area r
    left_stop q a =
        record {
          answer = rw a (sym (asks_next ∙ rw a));
          list = λ f. cc;
          built = s.built left.built;
        }

    pub left_next : r.answer ≡ Ok tt → Left cells area m r.builder (i + 1)
    left_next a =
        record {
          asks = asks_next ∙ rw (a, ← s.style a, ← s.list a);
          list = left.list ∙ rw (listed_next (step_at cells) i m h, ← e, ← s.style a, s.list a, append_assoc);
          built = s.built left.built;
        }

-- ---- questions 1 to 7

module _ (cells area : List ℕ) where
  pub none_built : (q : Question) → refused q ≡ ask_parameters 64 cells area → Building cells area (Err q)
  none_built q e = record { answer = e; fine = λ l f. cc; within = λ l f. cc; in_area = λ l f. cc }

  pub ask_1 : whole_steps 64 cells ≡ false → refused PartialStep ≡ ask_parameters 64 cells area
  unfolding ask_parameters
  ask_1 e = sym (rw e)

  module _ (one : whole_steps 64 cells ≡ true) where
    pub ask_2 : codes_known (read_parameters cells).steps ≡ false → refused UnknownCode ≡ ask_parameters 64 cells area
    unfolding ask_parameters
    ask_2 e = sym (rw (one, e))

    module _ (two : codes_known (read_parameters cells).steps ≡ true) where
      pub ask_3 : names_inside area (read_parameters cells) ≡ false → refused NameOutside ≡ ask_parameters 64 cells area
      unfolding ask_parameters
      ask_3 e = sym (rw (one, two, e))

      module _ (three : names_inside area (read_parameters cells) ≡ true) where
        pub ask_4 : defaults_right area (read_parameters cells).steps ≡ false → refused WrongDefault ≡ ask_parameters 64 cells area
        unfolding ask_parameters
        ask_4 e = sym (rw (one, two, three, e))

        module _ (four : defaults_right area (read_parameters cells).steps ≡ true) (t : Stepped) (taking : Taking cells area t) where
          pub ask_5 : (q : Question) → t.answer ≡ Err q → refused q ≡ ask_parameters 64 cells area
          unfolding ask_parameters
          ask_5 q e = sym (rw (one, two, three, four, ← taking.answer, e))

          -- the list of the last state, of which nothing more is asked: that its counts agree is the law of all step lists
          pub all_passed : (lent : Bor (List ℕ)) → lent.now ≡ area → t.answer ≡ Ok tt → Building cells area (Ok (finished lent t.builder))
          unfolding ask_parameters list_of parameters_of
          all_passed lent same e =
              record {
                answer = sym (rw (one, two, three, four, ← taking.answer, e));
                fine = λ l f. let is : l ≡ finished lent t.builder = cc in rw (is, ← taking.list e) is_list;
                within = λ l f.
                    let is : l ≡ finished lent t.builder = cc in
                    rw (is, taking.built.positional_only, taking.built.positional, taking.list e) ((step_counts area).only_within (read_parameters cells).steps);
                in_area = λ l f. let is : l ≡ finished lent t.builder = cc in rw is same;
              }
            where
              is_list : IsList area (finished lent t.builder) (list_in area t.builder)
              is_list =
                  record {
                    room = taking.built.room;
                    parameters = refl;
                    positional_only = taking.built.positional_only;
                    positional = taking.built.positional;
                    args = taking.built.args;
                    kwargs = taking.built.kwargs;
                  }
