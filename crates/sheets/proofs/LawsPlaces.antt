-- The two sheets of a well-formed input (01, sheets): their rows are what writing a record asks for, and the records written are those of the input.
-- Assumes nothing.
use mathlib.Core.Path.{◌≡◌, sym, ap, ap₂, subst, ◌∙◌}
use mathlib.Core.List.{List}
use Prim.Native.Nat.{ℕ, ◌≤◌}
use native.Mathlib.Omega.{arith}
use lib.ListN.{length, take, drop, replicate}
use Rattle.rules.specs.ParameterRecord.{encode_parameters}
use Rattle.rules.specs.CallRecord.{encode_call, call_in, positionals_of, named_of}
use Rattle.rules.specs.Parameters.{parameters_of}
use Rattle.rules.specs.ParameterQuestions.{list_of}
use Rattle.rules.specs.Board.{board_least_64}
use Rattle.rules.specs.Collection.{call_of, collection}
use Rattle.rules.specs.SheetLines.{Columns, lines_in}
use Rattle.rules.specs.SheetRecords.{Sheets, sheets_in}
use Rattle.rules.specs.SheetInput.{rows_of, parameter_lines, call_lines}
use Rattle.rules.specs.SheetOutput.{sheets_text, outcome_text}
use Rattle.rules.proofs.LawsListing.{all_take}
use Rattle.rules.proofs.LawsRecord.{read_parameters_encode_parameters, read_call_encode_call}
use Rattle.cells.specs.Out.{Put}
use Rattle.cells.proofs.LawsOut.{put_same}
use Rattle.sheet_lines.specs.Header.{columns_of}
use Rattle.sheet_lines.specs.declared.header.Columns as code
use Rattle.sheet_judge.specs.Counts.{counts_of}
use Rattle.sheet_judge.specs.Judged.{three_in, HeaderOf, PlacesAre}
use Rattle.sheet_judge.specs.declared.Places.{Places}
use Rattle.sheet_records.specs.Rows.{rows_from, all_rows}
use Rattle.sheet_records.specs.Call.{CountsOf}
use Rattle.sheet_records.specs.Written.{ParametersReady, CallReady, RecordWritten, ParametersWritten, CallWritten}
use Rattle.sheet_records.specs.declared.Written.{Written}
use Rattle.sheet_records.proofs.LawsColumns.{columns_apart}
use Rattle.sheet_records.proofs.LawsWritten.{written_cells, written_area}
use Rattle.sheets.specs.Bind.{records_text}
use Rattle.sheets.specs.Read.{RecordsWritten}
use Rattle.sheets.specs.declared.records.Records.{Records}

-- a name stands elsewhere than its value
columns_differ : (c : code.Columns) → HeaderOf c → (columns_of c).name ≡ (columns_of c).value → ⊥
columns_differ c h e =
    columns_apart h.line h.told (sym (ap (λ (x : Columns). x.name) h.columns) ∙ e ∙ ap (λ (x : Columns). x.value) h.columns)

module _ (input : List ℕ) (p : Places) (are : PlacesAre input p) where
  -- ---- the parameter sheet

  pub parameters_ready : (cells area : List ℕ) → 265 ≤ length cells → 16384 ≤ length area → ParametersReady input (columns_of p.parameters) p.parameter_rows p.rows cells area
  parameters_ready cells area h k =
      record {
        ahead = record {
          apart = columns_differ p.parameters are.parameters_header;
          short = are.short;
          start = are.parameters_within;
          enough = are.parameters_enough;
          cells = are.parameters_three;
        };
        some_row = are.parameters_some;
        few_rows = are.parameters_most;
        cells_room = h;
        area_room = k;
      }

  parameters_rows : rows_from input (columns_of p.parameters) p.parameter_rows p.rows ≡ rows_of (parameter_lines input)
  unfolding rows_from
  parameters_rows = sym are.parameters_are

  -- ---- the call sheet

  call_rows : all_rows input (columns_of p.call) p.call_rows ≡ rows_of (call_lines input)
  unfolding all_rows
  call_rows = sym are.call_are

  counts_of_lem : CountsOf (rows_of (call_lines input)) p.counts
  unfolding counts_of
  counts_of_lem =
      record {
        positionals = ap (λ k. k.p) are.counts_are;
        named = ap (λ k. k.n) are.counts_are;
        star = ap (λ k. k.star_kind) are.counts_are;
        items = ap (λ k. k.s) are.counts_are;
        double = ap (λ k. k.double_kind) are.counts_are;
        entries = ap (λ k. k.d) are.counts_are;
        few_positionals = are.counts_few.few_p;
        few_named = are.counts_few.few_n;
        few_items = are.counts_few.few_s;
        few_entries = are.counts_few.few_d;
      }

  pub call_ready : (cells area : List ℕ) → 774 ≤ length cells → 16384 ≤ length area → CallReady input (columns_of p.call) p.call_rows p.counts cells area
  call_ready cells area h k =
      record {
        ahead = record {
          apart = columns_differ p.call are.call_header;
          short = are.short;
          start = are.call_within;
          enough = omega arith;
          cells = all_take three_in (length (lines_in (drop p.call_rows input))) (lines_in (drop p.call_rows input)) are.call_three;
        };
        counts = subst (λ rows. CountsOf rows p.counts) (sym call_rows) counts_of_lem;
        cells_room = h;
        area_room = k;
      }

  -- ---- the records

  pub parameters_written : {cells held area filled : List ℕ} {r : Written}
      → ParametersWritten (rows_from input (columns_of p.parameters) p.parameter_rows p.rows) cells held area filled r
      → RecordWritten (encode_parameters (sheets_in input).parameters) (sheets_in input).spec_area cells held area filled r
  unfolding sheets_in
  parameters_written {cells} {held} {area} {filled} {r} w = subst (λ rows. ParametersWritten rows cells held area filled r) parameters_rows w

  pub call_written : {cells held area filled : List ℕ} {r : Written}
      → CallWritten (all_rows input (columns_of p.call) p.call_rows) cells held area filled r
      → RecordWritten (encode_call (sheets_in input).call) (sheets_in input).call_area cells held area filled r
  unfolding sheets_in
  call_written {cells} {held} {area} {filled} {r} w = subst (λ rows. CallWritten rows cells held area filled r) call_rows w

-- ---- both

-- records that are encoded are read back
pub sheets_records : (s : Sheets) → sheets_text 64 64 s ≡ records_text (encode_parameters s.parameters) s.spec_area (encode_call s.call) s.call_area
unfolding sheets_text records_text list_of call_of
sheets_records s =
    let spec : List ℕ = s.spec_area in
    let call : List ℕ = s.call_area in
    ap (λ n. outcome_text spec call (parameters_of spec s.parameters) (positionals_of (call_in call s.call)) (named_of (call_in call s.call)) (collection 64 64 (encode_parameters s.parameters) spec (encode_call s.call) call (replicate n 0))) board_least_64
    ∙ ap (λ r. outcome_text spec call (parameters_of spec r) (positionals_of (call_in call s.call)) (named_of (call_in call s.call)) (collection 64 64 (encode_parameters s.parameters) spec (encode_call s.call) call (replicate 896 0))) (sym (read_parameters_encode_parameters s.parameters))
    ∙ ap (λ r. outcome_text spec call (list_of (encode_parameters s.parameters) spec) (positionals_of (call_in call r)) (named_of (call_in call r)) (collection 64 64 (encode_parameters s.parameters) spec (encode_call s.call) call (replicate 896 0))) (sym (read_call_encode_call s.call))

-- with both records written, the text of what the outputs hold is that of the input's sheets
pub records_put : {input spec_cells spec call_cells call spec_cells' spec' call_cells' call' : List ℕ} {r : Records}
    → RecordsWritten input spec_cells spec call_cells call spec_cells' spec' call_cells' call' r
    → {out after : List ℕ} {n : ℕ}
    → Put (records_text (take r.spec.cells spec_cells') (take r.spec.bytes spec') (take r.call.cells call_cells') (take r.call.bytes call')) 0 out after n
    → Put (sheets_text 64 64 (sheets_in input)) 0 out after n
records_put {input} {spec_cells} {spec} {call_cells} {call} {spec_cells'} {spec'} {call_cells'} {call'} {r} w =
    let call_cells₁ : List ℕ = take r.call.cells call_cells' in
    let call₁ : List ℕ = take r.call.bytes call' in
    put_same (records_text (take r.spec.cells spec_cells') (take r.spec.bytes spec') call_cells₁ call₁) (sheets_text 64 64 (sheets_in input))
    (ap₂ (λ cs bs. records_text cs bs call_cells₁ call₁) (written_cells w.parameters) (written_area w.parameters)
    ∙ ap₂ (records_text (encode_parameters (sheets_in input).parameters) (sheets_in input).spec_area) (written_cells w.arguments) (written_area w.arguments)
    ∙ sym (sheets_records (sheets_in input)))
