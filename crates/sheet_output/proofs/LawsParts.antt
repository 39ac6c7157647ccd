-- Lines that a loop writes one behind the other (01, sheets): the room behind them, one more of them; and how long the lines of a board are.
-- Assumes nothing.
use mathlib.Core.Path.{◌≡◌, refl, sym, ap}
use mathlib.Core.List.{List, [], ◌∷◌, ◌++◌}
use Prim.Native.Nat.{ℕ, zero, suc, ◌+◌, ◌*◌, ◌≤◌, ◌<◌}
use native.Mathlib.Nat.{mul-suc, mul-le-mul_left}
use native.Mathlib.Numerals.{add-one}
use native.Mathlib.Omega.{arith}
use lib.ListN.{length, get_or, length-append}
use Rattle.rules.specs.Value.{Value}
use Rattle.rules.specs.SheetValue.{decimal}
use Rattle.rules.proofs.LawsDigits.{decimal_length}
use Rattle.rules.proofs.LawsSheetOutput.{line_length}
use Rattle.cells.specs.Out.{Wrote}
use Rattle.cells.specs.declared.out.Cursor.{Cursor}
use Rattle.cells.specs.Record.{pair_at}
use Rattle.cells.proofs.LawsOut.{wrote_none, wrote_same, wrote_room, wrote_both}
use Rattle.builder.specs.declared.params.Parameters.{Parameters}
use Rattle.sheet_output.specs.Line.{shown_name, shown_value, name_for, shown_for}
use Rattle.sheet_output.specs.declared.parts.Sort.{Sort}
use Rattle.sheet_output.specs.declared.parts.Sort.TheVariants.{Star, Named}
use Rattle.sheet_output.specs.Parts.{lines_to, slot_line, slot_line_at, star_line, star_line_at, named_line, named_line_at, element_line, element_most, remainder_text, remainder_most}
use Rattle.sheet_output.specs.declared.parts.Remainder.{Remainder}
use Rattle.sheet_output.proofs.LawsLine.{shown_name_length, shown_value_length, name_for_length, shown_for_length}

-- ---- lines of at most `w` bytes

pub lines_none : (f : ℕ → List ℕ) (output : Cursor) → output.at ≤ length output.out.now → Wrote (lines_to f 0) output output
lines_none f output h = wrote_none [] output refl (omega arith)

module _ (f : ℕ → List ℕ) (w : ℕ) (short : (k : ℕ) → length (f k) ≤ w) where
  pub lines_length : (k : ℕ) → length (lines_to f k) ≤ w * k
  lines_length zero = omega arith
  lines_length (suc k) =
      let rest : length (lines_to f k) ≤ w * k = lines_length k in
      let more : w * suc k ≡ w * k + w = mul-suc w k in
      omega (arith, length-append (lines_to f k) (f k), short k)

  -- what is left behind the first k
  pub lines_room : (k n : ℕ) (output next : Cursor) → output.at + w * k + n ≤ length output.out.now → Wrote (lines_to f k) output next → next.at + n ≤ length next.out.now
  lines_room k n output next h p = wrote_room _ _ _ p n (omega (arith, h, lines_length k))

  pub lines_more : (k : ℕ) (output next end : Cursor) → output.at + w * k + w ≤ length output.out.now
      → Wrote (lines_to f k) output next → Wrote (f k) next end → Wrote (lines_to f (k + 1)) output end
  lines_more k output next end h p q =
      wrote_same (lines_to f k ++ f k) (lines_to f (k + 1)) (ap (lines_to f) (sym (add-one k)))
      (wrote_both _ _ _ p _ _ (omega (arith, h, lines_length k, short k)) q)

-- ---- the lines of a board

module _ (spec call : List ℕ) where
  slot_line_length : (i code name : ℕ) (v : Value) → length (slot_line spec call i code name v) ≤ 152
  unfolding slot_line
  slot_line_length i code name v =
      omega (
        arith,
        line_length (decimal i) (name_for code (shown_name spec name)) (shown_for spec call code v),
        decimal_length i,
        name_for_length code (shown_name spec name) (shown_name_length spec name),
        shown_for_length spec call code v,
      )

  pub slot_short : (p : Parameters) (board : List ℕ) (i : ℕ) → length (slot_line_at spec call p board i) ≤ 152
  unfolding slot_line_at
  slot_short p board i = slot_line_length i (get_or p.codes i 0) (get_or p.names i 0) (pair_at board (2 * i))

  star_short : (board : List ℕ) (from k : ℕ) → length (star_line_at spec call board from k) ≤ 72
  unfolding star_line_at star_line
  star_short board from k =
      let v : Value = pair_at board (from + 2 * k) in
      omega (arith, line_length (115 ∷ 116 ∷ 97 ∷ 114 ∷ []) [] (shown_value spec call v), shown_value_length spec call v)

  named_short : (board : List ℕ) (from k : ℕ) → length (named_line_at spec call board from k) ≤ 137
  unfolding named_line_at named_line
  named_short board from k =
      let key : Value = pair_at board (from + 4 * k) in
      let v : Value = pair_at board (from + 4 * k + 2) in
      omega (
        arith,
        line_length (110 ∷ 97 ∷ 109 ∷ 101 ∷ 100 ∷ []) (shown_name call key.payload) (shown_value spec call v),
        shown_name_length call key.payload,
        shown_value_length spec call v,
      )

  pub element_short : (sort : Sort) (board : List ℕ) (from k : ℕ) → length (element_line sort spec call board from k) ≤ element_most sort
  element_short Star board from k = star_short board from k
  element_short Named board from k = named_short board from k

  -- a remainder's lines
  pub remainder_length : (board : List ℕ) (r : Remainder) → length (remainder_text spec call board r) ≤ remainder_most r
  remainder_length board r =
      lines_length (element_line r.sort spec call board r.from) (element_most r.sort) (element_short r.sort board r.from) r.count

-- one more line of at most `w` bytes
pub line_more : (w k count : ℕ) → k < count → w * k + w ≤ w * count
line_more w k count h =
    let next : suc k ≤ count = omega arith in
    omega (arith, mul-suc w k, mul-le-mul_left w next)
