-- Laws of the accessors that write positionals (01, accessors): `positions` and `optional`, by what each question answered. In this order:
-- the values that are missing, and their cells filled; what P takes of the output; `positions`; 26; and `optional`.
-- `h` is the head that was read. Assumes nothing.
use mathlib.Core.Path.{◌≡◌, refl, sym, ap, ap₂, ◌∙◌}
use mathlib.Core.Bool.{cond, ◌&&◌}
use mathlib.Core.List.{List, ◌++◌, append_assoc}
use Prim.Native.Nat.{ℕ, zero, suc, ◌+◌, ◌-◌, ◌*◌, ◌≤◌, ◌<◌}
use native.Mathlib.Omega.{arith}
use borrow.Author.Tests.{le-leb, lt-leb}
use lib.Dec.{leb}
use lib.ListN.{length, take, drop, replicate, length-append, length-drop, length-replicate}
use lib.Seq.{length-take-le, drop-drop}
use Rattle.std.specs.Prelude.{Ok, Err}
use Rattle.rules.specs.Cells.{write_each, over}
use Rattle.rules.specs.Value.{Value, value_cells, no_value}
use Rattle.rules.specs.Answer.{Answer, fine, refuse, none, bounds, ◌then◌, ask}
use Rattle.rules.specs.CallRecord.{Head, read_head, positionals_of}
use Rattle.rules.specs.CallQuestions.{ask_call}
use Rattle.rules.specs.Binding.{star_passes}
use Rattle.rules.specs.Collection.{call_of}
use Rattle.rules.specs.Accessors.{ask_writing, positions, positions_cells, ask_number, optional, optional_cells}
use Rattle.rules.proofs.LawsListing.{and_no_left, and_no_right, and_both}
use Rattle.rules.proofs.LawsRecord.{length_write_each}
use Rattle.cells.specs.Question.{number_of, refused}
use Rattle.cells.specs.declared.question.Question.{Question}
use Rattle.cells.specs.declared.question.Question.TheVariants.{LargeNumbers}
use Rattle.cells.specs.Out.{stored}
use Rattle.cells.proofs.LawsOut.{stored_stored, stored_first}
use Rattle.cells.proofs.LawsWrite.{value_cells_two, write_each_append}
use Rattle.calls.specs.Values.{values_in}
use Rattle.calls.proofs.LawsNamed.{passed_few, P-length, P-listed}
use Rattle.accessors.specs.Answer.{Accessing}
use Rattle.accessors.specs.declared.answer.FunctionError.TheVariants.{Record, ArgsArrayIsNotIterable, WrongNumberOfArgs}
use Rattle.accessors.proofs.LawsAccess.{accessing_denied, accessing_gives, writing_numbered, writing_call, writing_long, star_refused, star_fine}

-- ---- values that are missing

values_wide : (vs : List Value) → length (write_each value_cells vs) ≡ 2 * length vs
values_wide vs = length_write_each 2 (λ cells. no_value) value_cells value_cells_two vs

replicate_length : (count : ℕ) → length (replicate count no_value) ≡ count
replicate_length zero = refl
replicate_length (suc count) = ap suc (replicate_length count)

-- their cells are all 0
missing_cells : (count : ℕ) → write_each value_cells (replicate count no_value) ≡ replicate (2 * count) 0
unfolding value_cells no_value
missing_cells zero = refl
missing_cells (suc count) =
    let next : 2 * suc count ≡ suc (suc (2 * count)) = omega arith in
    rw (next, missing_cells count)

-- stored where the values before them end, by filling the cells there
pub missing_filled : (cells filled : List ℕ) (from to : ℕ) → from ≤ to → 2 * to ≤ length cells
    → filled ≡ replicate (length (take (2 * to - 2 * from) (drop (2 * from) cells))) 0
    → take (2 * from) cells ++ (filled ++ drop (2 * to - 2 * from) (drop (2 * from) cells)) ≡ stored cells (2 * from) (write_each value_cells (replicate (to - from) no_value))
unfolding stored
missing_filled cells filled from to h fits e =
    let long : length (take (2 * to - 2 * from) (drop (2 * from) cells)) ≡ 2 * to - 2 * from = length-take-le (2 * to - 2 * from) (drop (2 * from) cells) (rw length-drop (omega arith)) in
    let many : 2 * (to - from) ≡ 2 * to - 2 * from = omega arith in
    let end : 2 * from + (2 * to - 2 * from) ≡ 2 * to = omega arith in
    rw (e, long, missing_cells (to - from), many, length-replicate, drop-drop, end, le-leb (2 * to) (length cells) fits)
    (sym (append_assoc (take (2 * from) cells) (replicate (2 * to - 2 * from) 0) (drop (2 * to) cells)))

-- ---- a record and an output that pass 9 to 14

module _ (cells area out : List ℕ) where
  abbrev P : List Value
  P = positionals_of (call_of cells area)

  pub positions_refused : (q : Question) → ask_writing 64 64 cells area out ≡ refused q → Accessing (positions 64 64 cells area out) (positions_cells cells area) out out (Err (Record q))
  unfolding positions
  positions_refused q e =
      accessing_denied (ask_writing 64 64 cells area out then ask 15 (star_passes (call_of cells area).star)) (length P) (positions_cells cells area) out (Record q)
      (ap (λ a. a then ask 15 (star_passes (call_of cells area).star)) e) (writing_numbered cells area out (number_of q) e)

  module _ (h : Head) (read : h ≡ read_head cells) (passed : ask_writing 64 64 cells area out ≡ fine) where
    call : ask_call 64 cells area ≡ fine
    call = writing_call cells area out passed

    -- what P takes of the output, and that it fits
    pub values_few : h.p + h.s ≤ 128
    values_few = omega (arith, (passed_few area cells h read call).few_p, (passed_few area cells h read call).few_s)

    pub values_room : 0 + 2 * (h.p + h.s) ≤ length out
    values_room = omega (arith, values_few, writing_long cells area out passed)

    pub positions_star : h.star_kind ≡ 2 → Accessing (positions 64 64 cells area out) (positions_cells cells area) out out (Err ArgsArrayIsNotIterable)
    unfolding positions
    positions_star e =
        accessing_denied (ask_writing 64 64 cells area out then ask 15 (star_passes (call_of cells area).star)) (length P) (positions_cells cells area) out ArgsArrayIsNotIterable
        (ap₂ ◌then◌ passed (star_refused area cells h read call e)) refl

    pub positions_written : (h.star_kind ≡ 2 → ⊥) → (after : List ℕ) → after ≡ stored out 0 (write_each value_cells (values_in cells h 0 (h.p + h.s)))
        → Accessing (positions 64 64 cells area out) (positions_cells cells area) out after (Ok (h.p + h.s))
    unfolding positions positions_cells
    positions_written s after so =
        accessing_gives (ask_writing 64 64 cells area out then ask 15 (star_passes (call_of cells area).star)) (length P) (positions_cells cells area) out (h.p + h.s) after
        (ap₂ ◌then◌ passed (star_fine area cells h read call s)) (sym (P-length area cells h read call))
        (so ∙ ap (λ vs. stored out 0 (write_each value_cells vs)) (sym (P-listed area cells h read call)) ∙ stored_first out (write_each value_cells P) fits)
      where
        fits : length (write_each value_cells P) ≤ length out
        fits = omega (arith, values_wide P, P-length area cells h read call, values_room)

-- ---- 26

module _ (required more got : ℕ) where
  pub number_few : got < required → ask_number required more got ≡ refuse 26 (bounds required (required + more) got)
  unfolding ask_number
  number_few low =
      ap (λ b. cond b fine (refuse 26 (bounds required (required + more) got))) (and_no_left (leb required got) (leb got (required + more)) (lt-leb required got low))

  pub number_many : required + more < got → ask_number required more got ≡ refuse 26 (bounds required (required + more) got)
  unfolding ask_number
  number_many high =
      ap (λ b. cond b fine (refuse 26 (bounds required (required + more) got))) (and_no_right (leb required got) (leb got (required + more)) (lt-leb got (required + more) high))

  pub number_fine : required ≤ got → got ≤ required + more → ask_number required more got ≡ fine
  unfolding ask_number
  number_fine low high =
      ap (λ b. cond b fine (refuse 26 (bounds required (required + more) got))) (and_both (leb required got) (leb got (required + more)) (le-leb required got low) (le-leb got (required + more) high))

-- ---- `optional`

module _ (required more : ℕ) (cells area out : List ℕ) where
  -- its questions, by what each answered
  abbrev asking : Answer → Answer → Answer → Answer → Answer
  asking numbers writing star number = numbers then writing then star then number

  abbrev asks : Answer
  asks =
      asking (ask 25 (leb required 64 && leb more 64)) (ask_writing 64 64 cells area out) (ask 15 (star_passes (call_of cells area).star))
      (ask_number required more (length (positionals_of (call_of cells area))))

  pub optional_required : 64 < required → Accessing (optional 64 64 required more cells area out) (optional_cells required more cells area) out out (Err (Record LargeNumbers))
  unfolding optional
  optional_required e =
      accessing_denied asks (length (positionals_of (call_of cells area))) (optional_cells required more cells area) out (Record LargeNumbers)
      (ap (λ b. asking (ask 25 b) (ask_writing 64 64 cells area out) (ask 15 (star_passes (call_of cells area).star)) (ask_number required more (length (positionals_of (call_of cells area)))))
      (and_no_left (leb required 64) (leb more 64) (lt-leb required 64 e))) refl

  pub optional_more : 64 < more → Accessing (optional 64 64 required more cells area out) (optional_cells required more cells area) out out (Err (Record LargeNumbers))
  unfolding optional
  optional_more e =
      accessing_denied asks (length (positionals_of (call_of cells area))) (optional_cells required more cells area) out (Record LargeNumbers)
      (ap (λ b. asking (ask 25 b) (ask_writing 64 64 cells area out) (ask 15 (star_passes (call_of cells area).star)) (ask_number required more (length (positionals_of (call_of cells area)))))
      (and_no_right (leb required 64) (leb more 64) (lt-leb more 64 e))) refl

  module _ (few-required : required ≤ 64) (few_more : more ≤ 64) where
    numbers_fine : ask 25 (leb required 64 && leb more 64) ≡ fine
    numbers_fine = ap (ask 25) (and_both (leb required 64) (leb more 64) (le-leb required 64 few-required) (le-leb more 64 few_more))

    -- once 25 passed, the others in turn
    after_numbers : (writing star number : Answer) → ask_writing 64 64 cells area out ≡ writing → ask 15 (star_passes (call_of cells area).star) ≡ star
        → ask_number required more (length (positionals_of (call_of cells area))) ≡ number → asks ≡ (writing then star then number)
    after_numbers writing star number w s n =
        ap (λ a. asking a (ask_writing 64 64 cells area out) (ask 15 (star_passes (call_of cells area).star)) (ask_number required more (length (positionals_of (call_of cells area))))) numbers_fine
        ∙ ap (λ a. a then ask 15 (star_passes (call_of cells area).star) then ask_number required more (length (positionals_of (call_of cells area)))) w
        ∙ ap₂ (λ a b. writing then a then b) s n

    pub optional_refused : (q : Question) → ask_writing 64 64 cells area out ≡ refused q → Accessing (optional 64 64 required more cells area out) (optional_cells required more cells area) out out (Err (Record q))
    unfolding optional
    optional_refused q e =
        accessing_denied asks (length (positionals_of (call_of cells area))) (optional_cells required more cells area) out (Record q)
        (after_numbers (refused q) (ask 15 (star_passes (call_of cells area).star)) (ask_number required more (length (positionals_of (call_of cells area)))) e refl refl) (writing_numbered cells area out (number_of q) e)

    module _ (h : Head) (read : h ≡ read_head cells) (passed : ask_writing 64 64 cells area out ≡ fine) where
      pub optional_star : h.star_kind ≡ 2 → Accessing (optional 64 64 required more cells area out) (optional_cells required more cells area) out out (Err ArgsArrayIsNotIterable)
      unfolding optional
      optional_star e =
          accessing_denied asks (length (positionals_of (call_of cells area))) (optional_cells required more cells area) out ArgsArrayIsNotIterable
          (after_numbers fine (refuse 15 none) (ask_number required more (length (positionals_of (call_of cells area)))) passed (star_refused area cells h read (writing_call cells area out passed) e) refl) refl

      number_by_length : (a : Answer) → ask_number required more (h.p + h.s) ≡ a → ask_number required more (length (positionals_of (call_of cells area))) ≡ a
      number_by_length a e = ap (ask_number required more) (P-length area cells h read (writing_call cells area out passed)) ∙ e

      module _ (star : h.star_kind ≡ 2 → ⊥) where
        pub optional_number : ask_number required more (h.p + h.s) ≡ refuse 26 (bounds required (required + more) (h.p + h.s))
            → Accessing (optional 64 64 required more cells area out) (optional_cells required more cells area) out out (Err (WrongNumberOfArgs required (required + more) (h.p + h.s)))
        unfolding optional
        optional_number e =
            accessing_denied asks (length (positionals_of (call_of cells area))) (optional_cells required more cells area) out (WrongNumberOfArgs required (required + more) (h.p + h.s))
            (after_numbers fine fine (refuse 26 (bounds required (required + more) (h.p + h.s))) passed (star_fine area cells h read (writing_call cells area out passed) star) (number_by_length (refuse 26 (bounds required (required + more) (h.p + h.s))) e)) refl

        module _ (low : required ≤ h.p + h.s) (high : h.p + h.s ≤ required + more) where
          -- both runs fit
          pub missing_room : (2 * (h.p + h.s) ≤ length out) × (2 * (required + more) ≤ length out)
          missing_room = (omega (arith, writing_long cells area out passed), omega (arith, writing_long cells area out passed))

          abbrev values : List Value
          values = values_in cells h 0 (h.p + h.s)

          abbrev missing : List Value
          missing = replicate (required + more - (h.p + h.s)) no_value

          values_length : length values ≡ h.p + h.s
          values_length = ap length (sym (P-listed area cells h read (writing_call cells area out passed))) ∙ P-length area cells h read (writing_call cells area out passed)

          written_cells : optional_cells required more cells area ≡ write_each value_cells values ++ write_each value_cells missing
          unfolding optional_cells
          written_cells =
              ap₂ (λ vs n. write_each value_cells (vs ++ replicate (required + more - n) no_value)) (P-listed area cells h read (writing_call cells area out passed)) (P-length area cells h read (writing_call cells area out passed))
              ∙ write_each_append value_cells values missing

          pub optional_written : (between after : List ℕ) → between ≡ stored out 0 (write_each value_cells values) → after ≡ stored between (2 * (h.p + h.s)) (write_each value_cells missing)
              → Accessing (optional 64 64 required more cells area out) (optional_cells required more cells area) out after (Ok (h.p + h.s))
          unfolding optional
          optional_written between after b a =
              accessing_gives asks (length (positionals_of (call_of cells area))) (optional_cells required more cells area) out (h.p + h.s) after
              (after_numbers fine fine fine passed (star_fine area cells h read (writing_call cells area out passed) star) (number_by_length fine (number_fine required more (h.p + h.s) low high)))
              (sym (P-length area cells h read (writing_call cells area out passed)))
              (a
              ∙ ap (λ l. stored l (2 * (h.p + h.s)) (write_each value_cells missing)) b
              ∙ stored_stored out (write_each value_cells values) (write_each value_cells missing) 0 (2 * (h.p + h.s)) next (room (values_wide missing) (replicate_length (required + more - (h.p + h.s))))
              ∙ stored_first out (write_each value_cells values ++ write_each value_cells missing) (whole (length-append (write_each value_cells values) (write_each value_cells missing)) (values_wide missing) (replicate_length (required + more - (h.p + h.s))))
              ∙ ap (λ l. over l out) (sym written_cells))
            where
              next : 2 * (h.p + h.s) ≡ 0 + length (write_each value_cells values)
              next = omega (arith, values_wide values, values_length)

              room : length (write_each value_cells missing) ≡ 2 * length missing → length missing ≡ required + more - (h.p + h.s) → 2 * (h.p + h.s) + length (write_each value_cells missing) ≤ length out
              room w l = omega (arith, missing_room)

              whole : length (write_each value_cells values ++ write_each value_cells missing) ≡ length (write_each value_cells values) + length (write_each value_cells missing)
                  → length (write_each value_cells missing) ≡ 2 * length missing → length missing ≡ required + more - (h.p + h.s)
                  → length (write_each value_cells values ++ write_each value_cells missing) ≤ length out
              whole s w l = omega (arith, missing_room, next)
