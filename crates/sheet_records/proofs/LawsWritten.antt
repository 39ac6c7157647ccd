-- The two records as their functions write them (01, sheets). First any record that was written, and what its front holds; then of either
-- record what is left after every part of it, that each part finds room, and the record and its area as a whole.
-- Assumes nothing.
use mathlib.Core.Path.{◌≡◌, refl, sym, ap, ap₂, subst, ◌∙◌}
use mathlib.Core.Bool.{true, false}
use mathlib.Core.List.{List, [], ◌∷◌, ◌++◌}
use Prim.Native.Nat.{ℕ, ◌+◌, ◌≤◌}
use native.Mathlib.Omega.{arith}
use lib.ListN.{length, take, drop, set, length-append}
use lib.Seq.{take-append_seam}
use Rattle.rules.specs.Cells.{over}
use Rattle.rules.specs.Text.{payload_of}
use Rattle.rules.specs.ParameterRecord.{encode_parameters}
use Rattle.rules.specs.CallRecord.{encode_call}
use Rattle.rules.specs.SheetLines.{lines_in, Columns, Row}
use Rattle.rules.specs.SheetRows.{unknown_part}
use Rattle.rules.specs.SheetRecords.{area_of, step_texts, parameter_record, call_texts, call_record}
use Rattle.cells.specs.Out.{stored, Put}
use Rattle.cells.proofs.LawsOut.{over_length, put_same}
use Rattle.sheet_records.specs.Rows.{rows_from, all_rows, RowsAhead}
use Rattle.sheet_records.specs.Text.{row_texts}
use Rattle.sheet_records.specs.Run.{run_from}
use Rattle.sheet_records.specs.Call.{parts_from}
use Rattle.sheet_records.specs.Written.{ParametersReady, CallReady, RecordWritten}
use Rattle.calls.specs.Head.{head_of, head_cells}
use Rattle.calls.specs.declared.head.Head.{Head}
use Rattle.sheet_records.specs.declared.Written.{Written}
use Rattle.sheet_records.proofs.LawsLeft.{Left, left_start, left_next, put_over, put_first}
use Rattle.sheet_records.proofs.LawsFit.{area_room}
use Rattle.sheet_records.proofs.LawsRows.{rows_length, rows_all}
use Rattle.sheet_records.proofs.LawsSteps.{steps_length, parameter_cells, step_area}
use Rattle.sheet_records.proofs.LawsCall.{call_cells, parts_length, call_area}

-- cells and bytes that were stored from 0 on
record_written : {xs ys cells held area filled : List ℕ} {n b : ℕ} → length xs ≤ length cells → length ys ≤ length area → Put xs 0 cells held n → Put ys 0 area filled b
    → RecordWritten xs ys cells held area filled (record { cells = n; bytes = b })
record_written {xs} {ys} {cells} {held} {area} {filled} {n} {b} h k p q =
    record {
      cells_held = put_over h p;
      area_held = put_over k q;
      cells_count = omega (arith, p.ends);
      bytes_count = omega (arith, q.ends);
      cells_within = omega (arith, p.ends, ap length (put_over h p), over_length xs cells h);
      bytes_within = omega (arith, q.ends, ap length (put_over k q), over_length ys area k);
    }

-- the cells of the record and the bytes of its area, taken off the front
module _ {xs ys cells held area filled : List ℕ} {r : Written} (w : RecordWritten xs ys cells held area filled r) where
  pub written_cells : take r.cells held ≡ xs
  unfolding over
  written_cells = ap₂ (λ (n : ℕ) (l : List ℕ). take n l) w.cells_count w.cells_held ∙ take-append_seam xs (drop (length xs) cells)

  pub written_area : take r.bytes filled ≡ ys
  unfolding over
  written_area = ap₂ (λ (n : ℕ) (l : List ℕ). take n l) w.bytes_count w.area_held ∙ take-append_seam ys (drop (length ys) area)

-- ---- a parameter record

-- the row of `def` was read, and `steps` are behind it
module _ {input : List ℕ} {c : Columns} {from rows : ℕ} {cells area : List ℕ} (ready : ParametersReady input c from rows cells area) (def : Row) (steps : List Row) (read : rows_from input c from rows ≡ def ∷ steps) where
  -- their texts end where those of the whole sheet do
  pub texts_room : (text : ℕ) → text ≡ length (row_texts false def) → text + length (area_of (row_texts false) steps) ≤ 16384
  texts_room text e =
      omega (arith, ap (λ rs. length (area_of (row_texts false) rs)) read, length-append (row_texts false def) (area_of (row_texts false) steps), area_room false input c from rows ready.ahead)

  parameter_runs : encode_parameters (parameter_record (rows_from input c from rows))
      ≡ (payload_of 0 (length def.name) ∷ []) ++ run_from false unknown_part (length (row_texts false def)) steps
  parameter_runs = parameter_cells unknown_part (rows_from input c from rows) steps def read

  parameter_room : length (encode_parameters (parameter_record (rows_from input c from rows))) ≤ length cells
  parameter_room =
      omega
      (arith, ap length parameter_runs, steps_length unknown_part (length (row_texts false def)) steps, ap length read, rows_length input c from rows ready.ahead, ready.few_rows, ready.cells_room)

  module _ (text payload : ℕ) (is_text : text ≡ length (row_texts false def)) (is-payload : payload ≡ payload_of 0 (length def.name)) where
    steps_left : Left (encode_parameters (parameter_record (rows_from input c from rows))) 0 cells (run_from false unknown_part text steps) 1 (set cells 0 payload)
    steps_left =
        left_next (payload ∷ []) (run_from false unknown_part text steps) (encode_parameters (parameter_record (rows_from input c from rows)))
        (parameter_runs ∙ ap₂ (λ (p t : ℕ). (p ∷ []) ++ run_from false unknown_part t steps) (sym is-payload) (sym is_text))
        (left_start (encode_parameters (parameter_record (rows_from input c from rows))) 0 cells (omega (arith, parameter_room)))
        (set cells 0 payload) 1 (put_first payload cells (omega (arith, ready.cells_room)))

    pub steps_room : 1 + length (run_from false unknown_part text steps) ≤ length (set cells 0 payload)
    steps_room = steps_left.room

    pub parameters_written : (held filled : List ℕ) (n b : ℕ)
        → Put (run_from false unknown_part text steps) 1 (set cells 0 payload) held n
        → Put (area_of (row_texts false) (rows_from input c from rows)) 0 area filled b
        → RecordWritten (encode_parameters (parameter_record (rows_from input c from rows))) (area_of step_texts (rows_from input c from rows)) cells held area filled (record { cells = n; bytes = b })
    parameters_written held filled n b p q =
        let same = step_area (rows_from input c from rows) in
        record_written parameter_room (omega (arith, sym (ap length same), area_room false input c from rows ready.ahead, ready.area_room)) (steps_left.finish held n p)
        (put_same (area_of (row_texts false) (rows_from input c from rows)) (area_of step_texts (rows_from input c from rows)) same q)

-- ---- a call record

-- the lines were counted
module _ {input : List ℕ} {c : Columns} {from : ℕ} {k : Head} {cells area : List ℕ} (ready : CallReady input c from k cells area) (count : ℕ) (counted : count ≡ length (lines_in (drop from input))) where
  pub call_ahead : RowsAhead input c from count
  call_ahead = subst (RowsAhead input c from) (sym counted) ready.ahead

  all_runs : encode_call (call_record (all_rows input c from)) ≡ head_cells (head_of k) ++ parts_from (rows_from input c from count) 0 4
  all_runs = call_cells (all_rows input c from) k ready.counts ∙ ap (λ rs. head_cells (head_of k) ++ parts_from rs 0 4) (sym (rows_all input c from count counted))

  call_room : length (encode_call (call_record (all_rows input c from))) ≤ length cells
  call_room = omega (arith, ap length (call_cells (all_rows input c from) k ready.counts), parts_length (all_rows input c from) k ready.counts, ready.cells_room)

  -- what is left behind the head
  module _ (one : List ℕ) (head : one ≡ stored cells 0 (head_cells (head_of k))) where
    left_parts : Left (encode_call (call_record (all_rows input c from))) 0 cells (parts_from (rows_from input c from count) 0 4) 6 one
    left_parts =
        left_next (head_cells (head_of k)) (parts_from (rows_from input c from count) 0 4) (encode_call (call_record (all_rows input c from))) all_runs
        (left_start (encode_call (call_record (all_rows input c from))) 0 cells (omega (arith, call_room))) one 6 (record { held = head; ends = refl })

    pub parts_room : 6 + length (parts_from (rows_from input c from count) 0 4) ≤ length one
    parts_room = left_parts.room

    pub call_written : (held filled : List ℕ) (n b : ℕ)
        → Put (parts_from (rows_from input c from count) 0 4) 6 one held n
        → Put (area_of (row_texts true) (rows_from input c from count)) 0 area filled b
        → RecordWritten (encode_call (call_record (all_rows input c from))) (area_of call_texts (all_rows input c from)) cells held area filled (record { cells = n; bytes = b })
    call_written held filled n b p q =
        let same = call_area (rows_from input c from count) ∙ ap (area_of call_texts) (rows_all input c from count counted) in
        record_written call_room (omega (arith, sym (ap length same), area_room true input c from count call_ahead, ready.area_room)) (left_parts.finish held n p)
        (put_same (area_of (row_texts true) (rows_from input c from count)) (area_of call_texts (all_rows input c from)) same q)
