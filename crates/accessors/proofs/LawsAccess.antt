-- Laws of an accessor's answer (01, accessors), in this order: an answer by what the questions answered, with its output; 9 to 14 as one
-- answer, put together and taken apart; 15 and 17 by the kinds in the head; and the answers of `len`. `h` is the head that was read.
-- Assumes nothing.
use mathlib.Core.Path.{◌≡◌, refl, sym, ap, subst, ◌∙◌}
use mathlib.Core.Bool.{true, not, ◌||◌}
use mathlib.Core.List.{List}
use Prim.Native.Nat.{ℕ, ◌+◌, ◌≤◌, ◌<◌}
use native.Mathlib.Omega.{arith}
use borrow.Author.Tests.{eq-eqb, ne_eqb, le-leb, lt-leb, leb-true}
use lib.Dec.{leb, eqb}
use lib.ListN.{length}
use Rattle.std.specs.Prelude.{Ok, Err}
use Rattle.rules.specs.Cells.{over}
use Rattle.rules.specs.Answer.{Answer, fine, refuse, none, ◌then◌, ask}
use Rattle.rules.specs.CallRecord.{Head, read_head}
use Rattle.rules.specs.Board.{board_least_64}
use Rattle.rules.specs.CallQuestions.{ask_call, ask_board}
use Rattle.rules.specs.Binding.{star_passes, double_passes}
use Rattle.rules.specs.Collection.{call_of}
use Rattle.rules.specs.Accessors.{denied, gives, access_of, ask_writing, len}
use Rattle.rules.proofs.LawsAnswer.{then_left, then_right, ask_true}
use Rattle.rules.proofs.LawsNumbers.{number_in, refuses_in, then_by, number_by, wider_in, call_in_lem, board_in}
use Rattle.calls.proofs.LawsNamed.{passed_star, passed_double}
use Rattle.accessors.specs.Answer.{error_number, error_detail, record_numbered, numbered, Accessing}
use Rattle.accessors.specs.declared.answer.FunctionError.{FunctionError}

-- ---- an answer, and the output

module _ (asked : Answer) (k : ℕ) (written before : List ℕ) where
  -- a refusal leaves the output as it was
  pub accessing_denied : (e : FunctionError) → asked ≡ refuse (error_number e) (error_detail e) → numbered e ≡ true → Accessing (access_of asked k) written before before (Err e)
  accessing_denied e is n = subst (λ x. Accessing (access_of x k) written before before (Err e)) (sym is) (record { answering = record { answer = refl; numbered = n }; output = refl })

  pub accessing_gives : (j : ℕ) (after : List ℕ) → asked ≡ fine → j ≡ k → after ≡ over written before → Accessing (access_of asked k) written before after (Ok j)
  accessing_gives j after e s o = subst (λ x. Accessing (access_of x k) written before after (Ok j)) (sym e) (record { answering = record { answer = ap gives s; numbered = refl }; output = o })

-- ---- 9 to 14

-- what 9 to 13 refuse with
pub call_numbered : (cells area : List ℕ) (n : ℕ) → ask_call 64 cells area ≡ refuse n none → record_numbered n ≡ true
call_numbered cells area n e =
    ap (λ b. b || eqb n 25) (number_by (number_in 9 14) (ask_call 64 cells area) n none (wider_in 9 13 9 14 (ask_call 64 cells area) (omega arith) (omega arith) (call_in_lem 64 cells area)) e)

module _ (cells area out : List ℕ) where
  -- and what 9 to 14 do
  writing_in : refuses_in 9 14 (ask_writing 64 64 cells area out) ≡ true
  unfolding ask_writing
  writing_in =
      then_by (number_in 9 14) (ask_call 64 cells area) (ask_board 64 64 out) (wider_in 9 13 9 14 (ask_call 64 cells area) (omega arith) (omega arith) (call_in_lem 64 cells area))
      (wider_in 14 14 9 14 (ask_board 64 64 out) (omega arith) (omega arith) (board_in 64 64 out))

  pub writing_numbered : (n : ℕ) → ask_writing 64 64 cells area out ≡ refuse n none → record_numbered n ≡ true
  writing_numbered n e = ap (λ b. b || eqb n 25) (number_by (number_in 9 14) (ask_writing 64 64 cells area out) n none writing_in e)

  output_asked : ask_board 64 64 out ≡ ask 14 (leb 896 (length out))
  unfolding ask_board
  output_asked = ap (λ n. ask 14 (leb n (length out))) board_least_64

  pub writing_refused : (n : ℕ) → ask_call 64 cells area ≡ refuse n none → ask_writing 64 64 cells area out ≡ refuse n none
  unfolding ask_writing
  writing_refused n e = ap (λ a. a then ask_board 64 64 out) e

  pub writing_short : ask_call 64 cells area ≡ fine → length out < 896 → ask_writing 64 64 cells area out ≡ refuse 14 none
  unfolding ask_writing
  writing_short e low = ap (λ a. a then ask_board 64 64 out) e ∙ output_asked ∙ ap (ask 14) (lt-leb 896 (length out) low)

  pub writing_fine : ask_call 64 cells area ≡ fine → 896 ≤ length out → ask_writing 64 64 cells area out ≡ fine
  unfolding ask_writing
  writing_fine e long = ap (λ a. a then ask_board 64 64 out) e ∙ output_asked ∙ ap (ask 14) (le-leb 896 (length out) long)

  module _ (e : ask_writing 64 64 cells area out ≡ fine) where
    pub writing_call : ask_call 64 cells area ≡ fine
    unfolding ask_writing
    writing_call = then_left (ask_call 64 cells area) (ask_board 64 64 out) e

    pub writing_long : 896 ≤ length out
    unfolding ask_writing
    writing_long = leb-true 896 (length out) (ask_true 14 (leb 896 (length out)) (sym output_asked ∙ then_right (ask_call 64 cells area) (ask_board 64 64 out) e))

-- ---- 15 and 17

module _ (area cells : List ℕ) (h : Head) (read : h ≡ read_head cells) (passed : ask_call 64 cells area ≡ fine) where
  pub star_refused : h.star_kind ≡ 2 → ask 15 (star_passes (call_of cells area).star) ≡ refuse 15 none
  star_refused e = ap (ask 15) (passed_star area cells h read passed ∙ ap not (eq-eqb h.star_kind 2 e))

  pub star_fine : (h.star_kind ≡ 2 → ⊥) → ask 15 (star_passes (call_of cells area).star) ≡ fine
  star_fine e = ap (ask 15) (passed_star area cells h read passed ∙ ap not (ne_eqb h.star_kind 2 e))

  pub double_refused : h.double_kind ≡ 2 → ask 17 (double_passes (call_of cells area).double) ≡ refuse 17 none
  double_refused e = ap (ask 17) (passed_double area cells h read passed ∙ ap not (eq-eqb h.double_kind 2 e))

  pub double_fine : (h.double_kind ≡ 2 → ⊥) → ask 17 (double_passes (call_of cells area).double) ≡ fine
  double_fine e = ap (ask 17) (passed_double area cells h read passed ∙ ap not (ne_eqb h.double_kind 2 e))

  -- ---- `len`

  pub len_star : h.star_kind ≡ 2 → denied 15 none ≡ len 64 cells area
  unfolding len
  len_star e = rw (passed, star_refused e)

  pub len_double : (h.star_kind ≡ 2 → ⊥) → h.double_kind ≡ 2 → denied 17 none ≡ len 64 cells area
  unfolding len
  len_double s e = rw (passed, star_fine s, double_refused e)

  pub len_gives : (h.star_kind ≡ 2 → ⊥) → (h.double_kind ≡ 2 → ⊥) → gives (h.p + h.s + (h.n + h.d)) ≡ len 64 cells area
  unfolding len
  len_gives s e = ap gives in_order ∙ rw (passed, star_fine s, double_fine e, read)
    where
      in_order : h.p + h.s + (h.n + h.d) ≡ h.p + h.n + h.s + h.d
      in_order = omega arith

pub len_refused : (cells area : List ℕ) (n : ℕ) → ask_call 64 cells area ≡ refuse n none → denied n none ≡ len 64 cells area
unfolding len
len_refused cells area n e = rw e
