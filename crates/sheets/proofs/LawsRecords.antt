-- The text of two records (01, sheets): that of a call against their list, that of a list which is refused, how long it is, and what is put where
-- the answer and the board are printed. Assumes nothing.
use mathlib.Core.Path.{◌≡◌, sym, ap, ap₂, subst, ◌∙◌}
use mathlib.Core.List.{List, []}
use Prim.Native.Nat.{ℕ, ◌≤◌}
use lib.ListN.{length, replicate}
use Rattle.rules.specs.Answer.{Answer, fine, ◌then◌}
use Rattle.rules.specs.Value.{Value}
use Rattle.rules.specs.CallRecord.{Named, positionals_of, named_of}
use Rattle.rules.specs.Parameters.{Parameter}
use Rattle.rules.specs.ParameterQuestions.{ask_parameters, list_of}
use Rattle.rules.specs.Binding.{ask_binding}
use Rattle.rules.specs.Collection.{outcome_of, call_of, ask_records, collection}
use Rattle.rules.specs.SheetOutput.{refusal_text, outcome_text}
use Rattle.cells.specs.Out.{Put}
use Rattle.cells.proofs.LawsOut.{put_same}
use Rattle.builder.specs.Params.{parameters_in}
use Rattle.builder.specs.Build.{IsList}
use Rattle.builder.specs.declared.spec.ParametersSpec.{ParametersSpec}
use Rattle.answers.specs.Answer.{told}
use Rattle.std.specs.Prelude.{Result}
use Rattle.cells.specs.declared.question.Question.{Question}
use Rattle.cells.specs.Question.{number_of, refused}
use Rattle.answers.specs.declared.answer.Counts.{Counts}
use Rattle.answers.specs.declared.answer.Refusal.{Refusal}
use Rattle.collector.specs.Collect.{Ends, bound_to}
use Rattle.collector.proofs.LawsEnds.{collection_refused, collection_bound}
use Rattle.sheet_output.specs.Outcome.{OutcomeRoom, OutcomeReady}
use Rattle.sheet_output.proofs.LawsPassed.{collected_fits, collected_ready, collected_room}
use Rattle.sheets.specs.Bind.{bound_text, records_text, ListReady}

abbrev zeros : List ℕ
zeros = replicate 896 0

-- ---- against a list

module _ (spec_cells spec cells call : List ℕ) (l : ParametersSpec) (passes : ask_parameters 64 spec_cells spec ≡ fine) (list : parameters_in spec l.params ≡ list_of spec_cells spec) where
  pub bound_records : bound_text (parameters_in spec l.params) spec cells call ≡ records_text spec_cells spec cells call
  unfolding bound_text records_text
  bound_records =
      ap₂ (λ qs o. outcome_text spec call qs (positionals_of (call_of cells call)) (named_of (call_of cells call)) o) list
      (collection_bound spec_cells spec cells call zeros (parameters_in spec l.params) passes list)

-- a list that is refused
pub refused_records : (spec_cells spec cells call : List ℕ) (q : Question) → ask_parameters 64 spec_cells spec ≡ refused q → records_text spec_cells spec cells call ≡ refusal_text (number_of q) []
unfolding records_text
refused_records spec_cells spec cells call q e =
    ap (outcome_text spec call (list_of spec_cells spec) (positionals_of (call_of cells call)) (named_of (call_of cells call))) (sym (collection_refused spec_cells spec cells call zeros q e).answer)

-- the answer and the board of a call against a list, printed
module _ (spec : List ℕ) (l : ParametersSpec) (ready : ListReady spec l) (cells call board : List ℕ) (r : Result Counts Refusal) (ends : Ends (bound_to (parameters_in spec l.params) cells call zeros) zeros board r) where
  is_list : ask_parameters 64 ready.cells spec ≡ fine → IsList spec l (list_of ready.cells spec)
  is_list e = subst (IsList spec l) ready.list ready.prepared.is_list

  told_collection : told r board ≡ collection 64 64 ready.cells spec cells call zeros
  told_collection = ends.answer ∙ collection_bound ready.cells spec cells call zeros (parameters_in spec l.params) ready.passes ready.list

  pub printed_room : (out : List ℕ) → 40960 ≤ length out → OutcomeRoom l r out
  printed_room out h = collected_room ready.cells spec cells call zeros l is_list board r told_collection out h

  pub printed_put : (out after : List ℕ) (n : ℕ)
      → ((qs : List Parameter) (P : List Value) (N : List Named) (asked : Answer) (before : List ℕ) → OutcomeReady spec call l board r qs P N asked before → Put (outcome_text spec call qs P N (outcome_of asked qs P N before)) 0 out after n)
      → Put (bound_text (parameters_in spec l.params) spec cells call) 0 out after n
  unfolding records_text collection
  printed_put out after n put =
      put_same (records_text ready.cells spec cells call) (bound_text (parameters_in spec l.params) spec cells call) (sym (bound_records ready.cells spec cells call l ready.passes ready.list))
      (put (list_of ready.cells spec) (positionals_of (call_of cells call)) (named_of (call_of cells call))
      (ask_records 64 64 ready.cells spec cells call zeros then ask_binding (list_of ready.cells spec) (call_of cells call)) zeros
      (collected_ready ready.cells spec cells call zeros l is_list board r told_collection))

-- ---- how long it is

pub records_fit : (spec_cells spec cells call : List ℕ) → length (records_text spec_cells spec cells call) ≤ 40960
unfolding records_text
records_fit spec_cells spec cells call = collected_fits spec_cells spec cells call zeros
