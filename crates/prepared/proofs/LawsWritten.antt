-- Laws of writing a prepared list, in this order: the row of what the columns keep; a loop that writes the rows; how preparing ends.
-- Assumes nothing.
use mathlib.Core.Path.{◌≡◌, refl, sym, ap, ◌∙◌}
use mathlib.Core.List.{List, [], ◌∷◌}
use Rattle.std.specs.Prelude.{Ok, Err}
use Prim.Native.Nat.{ℕ, zero, suc, min, ◌+◌, ◌*◌, ◌<◌, ◌≤◌}
use native.Mathlib.Nat.{zero-add}
use native.Mathlib.Omega.{arith}
use lib.ListN.{length, get_or}
use borrow.Author.Tests.{le-leb, lt-leb}
use Rattle.rules.specs.Cells.{write_each, over}
use Rattle.rules.specs.Text.{text_in, bytes_at}
use Rattle.rules.specs.Value.{Value, no_value}
use Rattle.rules.specs.Answer.{fine}
use Rattle.rules.specs.Parameters.{act_of, rank}
use Rattle.rules.specs.ParameterQuestions.{ask_parameters, list_of}
use Rattle.rules.proofs.LawsRecord.{length_write_each}
use Rattle.cells.specs.Question.{refused}
use Rattle.cells.specs.declared.question.Question.{Question}
use Rattle.cells.specs.Out.{stored}
use Rattle.cells.specs.Listed.{listed}
use Rattle.cells.proofs.LawsListed.{length_listed}
use Rattle.cells.proofs.LawsOut.{stored_none, stored_first, stored_stored}
use Rattle.cells.proofs.LawsWrite.{written_more}
use Rattle.builder.specs.Params.{style_for, kind_for, parameter_of, parameter_at, parameters_in}
use Rattle.builder.specs.declared.params.Parameters.{Parameters}
use Rattle.builder.proofs.LawsCodes.{code_3, code_4, code_0}
use Rattle.cells.specs.Text.{key_of}
use Rattle.prepared.specs.Prepared.{Row, row_cells, row_of, code_of, prepared_cells, prepared_from, prepared_length, front_width, row_width}
use Rattle.prepared.specs.Written.{code_as, default_as}
use Rattle.prepared.specs.Bind.{Preparing}
use Rattle.prepared.specs.declared.Unprepared.TheVariants.{List as of_list, NoRoom}
use Rattle.prepared.proofs.LawsRows.{map_listed}

-- ---- a row

module _ (code : ℕ) where
  pub code_as_3 : 1 ≤ code → code < 4 → code ≡ code_as code
  unfolding code_as
  code_as_3 l u = code_3 (λ n. n ≡ code_of (kind_for (act_of n no_value))) refl refl refl code l u

  pub code_as_6 : code ≡ 6 → 6 ≡ code_as code
  unfolding code_as
  code_as_6 e = rw e

  pub code_as_0 : code < 1 → 7 ≡ code_as code
  unfolding code_as
  code_as_0 u = rw (code_0 no_value code u)

  pub code_as_4 : 4 ≤ code → (code ≡ 6 → ⊥) → 7 ≡ code_as code
  unfolding code_as
  code_as_4 l six =
      code_4 no_value (λ n. (n ≡ 6 → ⊥) → 7 ≡ code_of (kind_for (act_of n no_value)))
      (λ a. refl) (λ a. refl) (λ a. absurd (a refl)) (λ a. refl) (λ n e a. rw e) code l six

code_any : (code : ℕ) (v w : Value) → code_of (kind_for (act_of code v)) ≡ code_of (kind_for (act_of code w))
code_any zero v w = refl
code_any (suc zero) v w = refl
code_any (suc (suc zero)) v w = refl
code_any (suc (suc (suc zero))) v w = refl
code_any (suc (suc (suc (suc zero)))) v w = refl
code_any (suc (suc (suc (suc (suc zero))))) v w = refl
code_any (suc (suc (suc (suc (suc (suc zero)))))) v w = refl
code_any (suc (suc (suc (suc (suc (suc (suc zero))))))) v w = refl
code_any (suc (suc (suc (suc (suc (suc (suc (suc n)))))))) v w = refl

pub default_3 : (code : ℕ) (v : Value) → code ≡ 3 → v ≡ default_as code v
unfolding default_as
default_3 code v e = rw e

pub default_none : (code : ℕ) (v : Value) → (code ≡ 3 → ⊥) → no_value ≡ default_as code v
unfolding default_as
default_none zero v n = refl
default_none (suc zero) v n = refl
default_none (suc (suc zero)) v n = refl
default_none (suc (suc (suc zero))) v n = absurd (n refl)
default_none (suc (suc (suc (suc zero)))) v n = refl
default_none (suc (suc (suc (suc (suc zero))))) v n = refl
default_none (suc (suc (suc (suc (suc (suc zero)))))) v n = refl
default_none (suc (suc (suc (suc (suc (suc (suc zero))))))) v n = refl
default_none (suc (suc (suc (suc (suc (suc (suc (suc k)))))))) v n = refl

pub least_style : (style : ℕ) → min style 3 ≡ rank (style_for style)
least_style zero = refl
least_style (suc zero) = refl
least_style (suc (suc zero)) = refl
least_style (suc (suc (suc n))) = omega arith

pub row_for
    : (area : List ℕ) (code style name : ℕ) (v : Value) (c s k : ℕ) (d : Value)
    → c ≡ code_as code
    → s ≡ rank (style_for style)
    → d ≡ default_as code v
    → k ≡ key_of (bytes_at area name)
    → record { step = record { code = c; name = name; default = d }; style = s; key = k } ≡ row_of (parameter_of area code style name v)
unfolding row_of parameter_of text_in code_as default_as
row_for area code style name v c s k d ec es ed ek = rw (ec, es, ed, ek, code_any code no_value v)

-- ---- its cells

pub row_cells_six : (r : Row) → length (row_cells r) ≡ 6
unfolding row_cells
row_cells_six r = refl

-- ---- the rows, one after the other behind the front

pub record Writing (area : List ℕ) (p : Parameters) (before after : List ℕ) (i : ℕ) : Type 0 where
  pub inside : i ≤ p.len
  pub room : 2 + 6 * p.len ≤ length before
  pub same : length after ≡ length before
  pub cells : after ≡ stored before 2 (write_each row_cells (listed (λ k. row_of (parameter_at area p k)) 0 i))

pub writing_none : (area : List ℕ) (p : Parameters) (before : List ℕ) → 2 + 6 * p.len ≤ length before → Writing area p before before 0
writing_none area p before h = record { inside = omega arith; room = h; same = refl; cells = sym (stored_none before 2 (omega arith)) }

pub writing_next
    : (area : List ℕ) (p : Parameters) (before after next : List ℕ) (i : ℕ) (r : Row) → Writing area p before after i → i < p.len
    → r ≡ row_of (parameter_at area p i)
    → length next ≡ length after
    → next ≡ stored after (2 + 6 * i) (row_cells r)
    → Writing area p before next (i + 1)
writing_next area p before after next i r w h er el en =
    record {
      inside = omega arith;
      room = w.room;
      same = el ∙ w.same;
      cells =
          en
          ∙ ap (λ l. stored l (2 + 6 * i) (row_cells r)) w.cells
          ∙ ap (λ x. stored (stored before 2 (write_each row_cells (listed (λ k. row_of (parameter_at area p k)) 0 i))) (2 + 6 * i) (row_cells x)) (er ∙ ap (λ k. row_of (parameter_at area p k)) (sym (zero-add i)))
          ∙ written_more 6 row_cells row_cells_six (λ k. row_of (parameter_at area p k)) 0 i 2 before (omega (arith, w.room));
    }

module _ (area : List ℕ) (p : Parameters) where
  abbrev rows : List Row
  rows = listed (λ k. row_of (parameter_at area p k)) 0 p.len

  rows_of : (function : ℕ) → p.len ∷ function ∷ write_each row_cells rows ≡ prepared_cells function (parameters_in area p)
  unfolding prepared_cells parameters_in
  rows_of function =
      sym (rw (length_listed (parameter_at area p) 0 p.len, map_listed row_of (parameter_at area p) 0 p.len))

  rows_length : length (write_each row_cells rows) ≡ 6 * p.len
  rows_length = length_write_each 6 (λ cells. row_of (parameter_at area p 0)) row_cells row_cells_six rows ∙ ap (λ n. 6 * n) (length_listed (λ k. row_of (parameter_at area p k)) 0 p.len)

  pub writing_end
      : (function : ℕ) (out before after : List ℕ) (i : ℕ) → Writing area p before after i → p.len ≤ i → 2 + 6 * p.len ≤ length out
      → before ≡ stored out 0 (p.len ∷ function ∷ [])
      → after ≡ over (prepared_cells function (parameters_in area p)) out
  writing_end function out before after i w h room e =
      let whole : i ≡ p.len = omega (arith, w.inside) in
      rw whole at w.cells
      ∙ ap (λ l. stored l 2 (write_each row_cells rows)) e
      ∙ stored_stored out (p.len ∷ function ∷ []) (write_each row_cells rows) 0 2 refl (omega (arith, rows_length))
      ∙ stored_first out (p.len ∷ function ∷ write_each row_cells rows) (omega (arith, rows_length))
      ∙ ap (λ l. over l out) (rows_of function)

-- ---- how preparing ends

count_of : (area : List ℕ) (p : Parameters) → length (parameters_in area p) ≡ p.len
unfolding parameters_in
count_of area p = length_listed (parameter_at area p) 0 p.len

module _ (spec_cells area out : List ℕ) where
  pub preparing_refused : (q : Question) → ask_parameters 64 spec_cells area ≡ refused q → Preparing spec_cells area out out (Err (of_list q))
  preparing_refused q e = record { answer = rw e; cells = rw e }

  pub preparing_short : ask_parameters 64 spec_cells area ≡ fine → length out < 386 → Preparing spec_cells area out out (Err NoRoom)
  unfolding prepared_length front_width row_width
  preparing_short e h = record { answer = rw (e, lt-leb 386 (length out) h); cells = rw (e, lt-leb 386 (length out) h) }

  pub preparing_written
      : (after : List ℕ) (p : Parameters) → ask_parameters 64 spec_cells area ≡ fine → 386 ≤ length out → parameters_in area p ≡ list_of spec_cells area
      → after ≡ over (prepared_cells (get_or spec_cells 0 0) (parameters_in area p)) out
      → Preparing spec_cells area out after (Ok (2 + 6 * p.len))
  unfolding prepared_from prepared_length front_width row_width
  preparing_written after p e h ep ea =
      record {
        answer = rw (e, le-leb 386 (length out) h, ← ep, count);
        cells = rw (e, le-leb 386 (length out) h, ← ep) ea;
      }
    where
      count : length (parameters_in area p) ≡ p.len
      count = count_of area p
