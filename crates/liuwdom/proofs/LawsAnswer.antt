-- From what was told to what an exported function says: the answer of the code is that of a definition, so their cells are the same. One law
-- for all of them, whatever kind of answer it is (`says`), and lookup's two ends (`lookup_refused`, `lookup_found`).
-- Assumes nothing.
use mathlib.Core.Path.{◌≡◌, sym, ap, ◌∙◌}
use mathlib.Core.List.{List}
use Prim.Native.Nat.{ℕ}
use Rattle.std.specs.Prelude.{Option, Result, Ok, Err}
use lib.ListN.{get_or}
use Rattle.rules.specs.Answer.{none}
use Rattle.rules.specs.Collection.{Outcome, board_left}
use Rattle.rules.specs.Accessors.{Access, left_by}
use Rattle.rules.specs.Reader.{Read}
use Rattle.rules.specs.Lookup.{find}
use Rattle.rules.specs.ParameterRecord.{encode_parameters}
use Rattle.rules.specs.ParameterQuestions.{list_of}
use Rattle.rules.specs.CallRecord.{encode_call}
use Rattle.rules.specs.SheetRecords.{sheets_in}
use Rattle.cells.specs.Question.{number_of}
use Rattle.cells.specs.declared.question.Question.{Question}
use Rattle.builder.specs.declared.spec.ParametersSpec.{ParametersSpec}
use Rattle.builder.specs.Build.{asked_of, Building}
use Rattle.answers.specs.Answer.{told as told_of}
use Rattle.answers.specs.declared.answer.Counts.{Counts}
use Rattle.answers.specs.declared.answer.Refusal.{Refusal}
use Rattle.accessors.specs.Answer.{access_in, Accessing}
use Rattle.accessors.specs.declared.answer.FunctionError.{FunctionError}
use Rattle.collector.specs.Collect.{Ends}
use Rattle.prepared.specs.Bind.{told_by, EndsBound}
use Rattle.prepared.specs.declared.PreparedRefusal.{PreparedRefusal}
use Rattle.lookup.specs.Lookup.{finding_of, find_in}
use Rattle.lookup.proofs.LawsBuilt.{lookup_built}
use Rattle.sheets.specs.Read as sheets
use Rattle.sheets.specs.Read.{reading, reading_of, SheetsReading}
use Rattle.sheets.specs.declared.records.Records.{Records}
use Rattle.sheets.specs.declared.Unread.{Unread}
use Rattle.liuwdom.specs.Answer.{Says, refusal_answer, outcome_answer, access_answer, finding_answer, looked_up, lookup_answer, read_answer, reading_answer}

-- cells that are told of one answer are those of another that it is equal to
pub says
    : {A : Type 0} (cells : A → List ℕ) {x y : A} {told after : List ℕ} {r : ℕ}
    → x ≡ y → told ≡ cells x → Says told after r → Says (cells y) after r
says cells e t s =
    let same = t ∙ ap cells e in
    record { answer = s.answer ∙ same; number = s.number ∙ ap (λ l. get_or l 0 0) same }

-- ---- each kind of answer, from the promise of the function that is called

-- an accessor that writes
pub accessing_says
    : {access : Access} {written before left : List ℕ} {a : Result ℕ FunctionError} {told after : List ℕ} {r : ℕ}
    → Accessing access written before left a → told ≡ access_answer (access_in a) → Says told after r
    → Says (access_answer access) after r × (left ≡ left_by access written before)
accessing_says did t s = (says access_answer did.answering.answer t s, did.output)

-- collection, whose cells are told whatever the board
pub ends_says
    : {outcome : Outcome} {before left : List ℕ} {a : Result Counts Refusal} {told after : List ℕ} {r : ℕ}
    → Ends outcome before left a → ((board : List ℕ) → told ≡ outcome_answer (told_of a board)) → Says told after r
    → Says (outcome_answer outcome) after r × (left ≡ board_left outcome before)
ends_says {outcome} {before} {left} did t s = (says outcome_answer did.answer (t left) s, did.board)

-- the same against cells that are handed over as a prepared list
pub bound_says
    : {outcome : Outcome} {before left : List ℕ} {a : Result Counts PreparedRefusal} {told after : List ℕ} {r : ℕ}
    → EndsBound outcome before left a → ((board : List ℕ) → told ≡ outcome_answer (told_by a board)) → Says told after r
    → Says (outcome_answer outcome) after r × (left ≡ board_left outcome before)
bound_says {outcome} {before} {left} did t s = (says outcome_answer did.answer (t left) s, did.board)

-- sheets that are read into four outputs
pub reading_says
    : {input spec_cells spec call_cells call spec_cells' spec' call_cells' call' : List ℕ} {a : Result Records Unread} {told after : List ℕ} {r : ℕ}
    → SheetsReading input spec_cells spec call_cells call spec_cells' spec' call_cells' call' a → told ≡ reading_answer (reading_of a) → Says told after r
    → Says (reading_answer (reading input spec_cells spec call_cells call)) after r
    × ((spec_cells' ≡ sheets.left_by (reading input spec_cells spec call_cells call) (encode_parameters (sheets_in input).parameters) spec_cells)
    × ((spec' ≡ sheets.left_by (reading input spec_cells spec call_cells call) (sheets_in input).spec_area spec)
    × ((call_cells' ≡ sheets.left_by (reading input spec_cells spec call_cells call) (encode_call (sheets_in input).call) call_cells)
    × (call' ≡ sheets.left_by (reading input spec_cells spec call_cells call) (sheets_in input).call_area call))))
reading_says did t s =
    (says reading_answer did.answer t s, (rw did.answer at did.parameters, (rw did.answer at did.spec_area, (rw did.answer at did.arguments, rw did.answer at did.call_area))))

-- a read and the position after it, both told
pub read_says
    : {x y : Read} {m n : ℕ} {told after : List ℕ} {r : ℕ}
    → x ≡ y → m ≡ n → told ≡ read_answer x m → Says told after r → Says (read_answer y n) after r
read_says {x} {y} {m} {n} e f t s = says (λ read. read_answer read n) e (t ∙ ap (read_answer x) f) s

-- ---- lookup

module _ (spec_cells spec bytes : List ℕ) (built : Result ParametersSpec Question) (b : Building spec_cells spec built) {told after : List ℕ} {r : ℕ} (s : Says told after r) where
  pub lookup_refused : (q : Question) → built ≡ Err q → told ≡ refusal_answer (number_of q) none → Says (lookup_answer spec_cells spec bytes) after r
  unfolding lookup_answer
  lookup_refused q e t =
      says (λ a. looked_up a (find (list_of spec_cells spec) bytes)) (sym (ap asked_of e) ∙ b.answer) t s

  pub lookup_found
      : (l : ParametersSpec) (f : Option ℕ) → built ≡ Ok l → f ≡ find_in l.area.now l.params bytes → told ≡ finding_answer (finding_of f)
      → Says (lookup_answer spec_cells spec bytes) after r
  unfolding lookup_answer
  lookup_found l f e is t =
      says (λ a. looked_up a (find (list_of spec_cells spec) bytes)) (sym (ap asked_of e) ∙ b.answer)
      (t ∙ ap finding_answer (ap finding_of (is ∙ ap (λ area. find_in area l.params bytes) (b.in_area l e)) ∙ lookup_built spec_cells spec bytes built b l e))
      s
