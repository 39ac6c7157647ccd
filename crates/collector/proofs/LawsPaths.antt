-- The short path and the general one agree wherever the short one applies (`paths_agree`). Before it: an outcome is told by one answer.
-- Assumes nothing.
use mathlib.Core.Path.{◌≡◌, refl, sym, subst, ◌∙◌}
use mathlib.Core.List.{List}
use Prim.Native.Nat.{ℕ, ◌+◌, min}
use lib.ListN.{replicate}
use Rattle.std.specs.Prelude.{Result}
use Rattle.rules.specs.Answer.{fine}
use Rattle.rules.specs.CallRecord.{Head, read_head}
use Rattle.rules.specs.CallQuestions.{ask_form}
use Rattle.rules.specs.Collection.{Outcome, call_of}
use Rattle.builder.specs.Params.{parameters_in}
use Rattle.builder.specs.declared.spec.ParametersSpec.{ParametersSpec}
use Rattle.answers.specs.declared.answer.Counts.{Counts}
use Rattle.answers.specs.declared.answer.Refusal.{Refusal}
use Rattle.answers.proofs.LawsTold.{told_one}
use Rattle.calls.specs.Head.{named_from}
use Rattle.calls.proofs.LawsCall.{keys_form}
use Rattle.findings.specs.Resolved.{Resolved}
use Rattle.findings.specs.Resolve.{pairs_from}
use Rattle.findings.specs.EntriesDone.{written_names}
use Rattle.questions.specs.Questions.{CallReady}
use Rattle.collector.specs.Collect.{Ends}
use Rattle.collector.specs.Paths.{Short, PathsAgree}
use Rattle.collector.proofs.LawsReady.{call_ready, inline_ready, none_resolved}
use Rattle.collector.proofs.LawsEnds.{short_call, short_unnamed, short_passed}

-- an outcome over a board is told by one answer, and leaves one board
ends_one : (o : Outcome) (before after after' : List ℕ) (r r' : Result Counts Refusal) → Ends o before after r → Ends o before after' r' → (r ≡ r') × (after ≡ after')
ends_one o before after after' r r' e e' = (told_one r r' after after' (e.answer ∙ sym e'.answer), e.board ∙ sym e'.board)

module _ (spec : List ℕ) (l : ParametersSpec) (cells area board : List ℕ) (short : Short spec l cells area board) where
  abbrev h : Head
  h = read_head cells

  abbrev next : ℕ
  next = min (h.p + h.s) l.indices.num_positional

  form : ask_form 64 cells area ≡ fine
  form = keys_form 64 cells area short.passed

  ready : CallReady spec l cells area h next (call_of cells area)
  ready = call_ready cells area h refl form spec l short.list next refl

  names : Resolved (parameters_in spec l.params) cells area (written_names area cells h) (replicate 64 0) (replicate 128 0) 0
  names =
      subst (λ n. Resolved (parameters_in spec l.params) cells area (pairs_from area cells (named_from h) n) (replicate 64 0) (replicate 128 0) 0)
      (sym (short_unnamed l.indices.num_positional l.params.len h short.applies)) (none_resolved spec l cells area short.list)

  pub paths_agree : PathsAgree spec l cells area board
  paths_agree =
      record {
        passed = short_passed cells area h refl short.passed l.indices.num_positional l.params.len short.applies;
        inline = inline_ready cells area h refl form board short.long;
        slow = record { call = ready; names = names; long = short.long };
        alike = λ r r' after after' e e'.
            ends_one _ board after after' r r' (e (parameters_in spec l.params) (call_of cells area) (short_call spec l cells area h refl next ready short.applies)) e';
      }
