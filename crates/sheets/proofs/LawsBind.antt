-- `bind` as a function into a lent output (01, sheets and the program bind): any text fits 40,960 bytes (`bind_fits`), so where there are so many
-- the whole text is written. Then an input that was read into a buffer: one that is longer than the buffer has the text of what was read, since
-- both are too long (`read_text`). Assumes nothing.
use mathlib.Core.Path.{◌≡◌, refl, sym, ap, ◌∙◌}
use mathlib.Core.Bool.{Bool, true, false, cond}
use mathlib.Core.List.{List}
use Prim.Native.Nat.{ℕ, ◌≤◌, ◌<◌}
use native.Mathlib.Omega.{arith}
use lib.Dec.{leb}
use lib.ListN.{length, take}
use lib.Seq.{length-take-le, take_all, take-append_seam}
use borrow.Author.Tests.{leb-true, leb-false, le-leb, lt-leb}
use Rattle.rules.specs.Cells.{over}
use Rattle.rules.specs.ParameterRecord.{encode_parameters}
use Rattle.rules.specs.CallRecord.{encode_call}
use Rattle.rules.specs.SheetValue.{decimal}
use Rattle.rules.specs.SheetInput.{Verdict, right, bad, input_most, judge_input}
use Rattle.rules.specs.SheetRecords.{sheets_in}
use Rattle.rules.specs.SheetOutput.{refusal_text, sheets_text, verdict_text, bind_text, output_least, no_room, wrote, bound, bound_left}
use Rattle.rules.proofs.LawsDigits.{decimal_length}
use Rattle.rules.proofs.LawsSheetOutput.{refusal_length}
use Rattle.cells.specs.Out.{Put}
use Rattle.cells.proofs.LawsOut.{over_length, stored_first, put_same}
use Rattle.sheet_judge.specs.Judged.{verdict_of}
use Rattle.sheet_judge.specs.declared.Places.{Places}
use Rattle.sheet_judge.specs.declared.BadLine.{BadLine}
use Rattle.sheets.specs.Bind.{Binding, ReadRoom, TextOfRead}
use Rattle.sheets.specs.declared.NoRoom.{NoRoom}
use Rattle.std.specs.Prelude.{Result, Ok, Err, IsOk}
use Rattle.sheets.proofs.LawsRecords.{records_fit}
use Rattle.sheets.proofs.LawsPlaces.{sheets_records}

-- any input's text finds room
verdict_fits : (input : List ℕ) (v : Verdict) → length (verdict_text 64 64 input v) ≤ 40960
verdict_fits input (bad n at) = omega (arith, refusal_length n (decimal at), decimal_length at)
verdict_fits input right =
    omega (
      arith,
      ap length (sheets_records (sheets_in input)),
      records_fit (encode_parameters (sheets_in input).parameters) (sheets_in input).spec_area (encode_call (sheets_in input).call) (sheets_in input).call_area,
    )

pub bind_fits : (input : List ℕ) → length (bind_text 64 64 input) ≤ output_least
unfolding bind_text output_least
bind_fits input = verdict_fits input (judge_input 64 64 input)

-- ---- what is answered

module _ (input out : List ℕ) where
  pub binding_none : length out < 40960 → (e : NoRoom) → Binding input out out (Err e)
  unfolding bound bound_left output_least
  binding_none h e =
      let low = lt-leb 40960 (length out) h in
      record {
        answer = sym (ap (λ b. cond b (wrote (length (bind_text 64 64 input))) no_room) low);
        output = sym (ap (λ b. cond b (over (bind_text 64 64 input) out) out) low);
      }

  binding_put : 40960 ≤ length out → (after : List ℕ) (n : ℕ) → Put (bind_text 64 64 input) 0 out after n → Binding input out after (Ok n)
  unfolding bound bound_left output_least
  binding_put h after n put =
      let enough = le-leb 40960 (length out) h in
      let ends : n ≡ length (bind_text 64 64 input) = omega (arith, put.ends) in
      record {
        answer = ap wrote ends ∙ sym (ap (λ b. cond b (wrote (length (bind_text 64 64 input))) no_room) enough);
        output = put.held ∙ stored_first out (bind_text 64 64 input) (omega (arith, bind_fits input)) ∙ sym (ap (λ b. cond b (over (bind_text 64 64 input) out) out) enough);
      }

  module _ (h : 40960 ≤ length out) (judged : Result Places BadLine) (verdict : verdict_of judged ≡ judge_input 64 64 input) (after : List ℕ) (n : ℕ) where
    pub binding_bad : (line : BadLine) → judged ≡ Err line → Put (refusal_text 30 (decimal line.0)) 0 out after n → Binding input out after (Ok n)
    unfolding bind_text
    binding_bad line e put =
        binding_put h after n (put_same (refusal_text 30 (decimal line.0)) (bind_text 64 64 input) (ap (verdict_text 64 64 input) (ap verdict_of (sym e) ∙ verdict)) put)

    pub binding_right : (p : Places) → judged ≡ Ok p → Put (sheets_text 64 64 (sheets_in input)) 0 out after n → Binding input out after (Ok n)
    unfolding bind_text
    binding_right p e put =
        binding_put h after n (put_same (sheets_text 64 64 (sheets_in input)) (bind_text 64 64 input) (ap (verdict_text 64 64 input) (ap verdict_of (sym e) ∙ verdict)) put)

-- ---- what an answer says where there is room

module _ (input out : List ℕ) (h : output_least ≤ length out) (after : List ℕ) where
  pub binding_some : (r : Result ℕ NoRoom) → Binding input out after r → IsOk r
  unfolding bound
  binding_some (Ok n) b = refl
  binding_some (Err short) b =
      let e = b.answer ∙ ap (λ x. cond x (wrote (length (bind_text 64 64 input))) no_room) (le-leb output_least (length out) h) in
      let z : ◌≡◌ {A = ℕ} 0 1 = cc in
      absurd (omega arith)

  module _ (n : ℕ) (b : Binding input out after (Ok n)) where
    answer_length : n ≡ length (bind_text 64 64 input)
    unfolding bound
    answer_length =
        let e = b.answer ∙ ap (λ x. cond x (wrote (length (bind_text 64 64 input))) no_room) (le-leb output_least (length out) h) in
        cc

    output_held : after ≡ over (bind_text 64 64 input) out
    unfolding bound_left
    output_held = b.output ∙ ap (λ x. cond x (over (bind_text 64 64 input) out) out) (le-leb output_least (length out) h)

    pub binding_within : n ≤ length after
    binding_within = omega (arith, answer_length, bind_fits input, ap length output_held, over_length (bind_text 64 64 input) out (omega (arith, bind_fits input)))

    pub binding_text : take n after ≡ bind_text 64 64 input
    unfolding over
    binding_text = rw (answer_length, output_held) (take-append_seam (bind_text 64 64 input) _)

-- ---- an input that was read

-- one that is too long is refused by 30, with 0 for its line
too_long : (input : List ℕ) → input_most < length input → bind_text 64 64 input ≡ refusal_text 30 (decimal 0)
unfolding bind_text judge_input
too_long input h = rw (lt-leb (length input) input_most h)

module _ (buffer : List ℕ) (n : ℕ) (out : List ℕ) (room : ReadRoom buffer n out) where
  -- what was read of an input has the input's text
  read_same : (input : List ℕ) → take (length buffer) input ≡ take n buffer → bind_text 64 64 (take n buffer) ≡ bind_text 64 64 input
  read_same input e = go (leb (length input) (length buffer)) refl
    where
      go : (b : Bool) → leb (length input) (length buffer) ≡ b → bind_text 64 64 (take n buffer) ≡ bind_text 64 64 input
      go true h = ap (bind_text 64 64) (sym e ∙ take_all (length buffer) input (leb-true (length input) (length buffer) h))
      go false h =
          let longer : length buffer < length input = leb-false (length input) (length buffer) h in
          let whole : length (take n buffer) ≡ length buffer = ap length (sym e) ∙ length-take-le (length buffer) input (omega arith) in
          too_long (take n buffer) (omega (arith, room.input)) ∙ sym (too_long input (omega (arith, room.input)))

  pub read_text : (after : List ℕ) (len : ℕ) → Binding (take n buffer) out after (Ok len) → TextOfRead buffer n (take len after)
  read_text after len b input e = binding_text (take n buffer) out room.output after len b ∙ read_same input e
