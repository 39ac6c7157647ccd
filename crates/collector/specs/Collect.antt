-- What collection promises, from a call that passed its questions up to raw records, and when the short path is taken.
use Rattle.std.specs.Prelude.{◌≡◌, Bool, true, ◌&&◌, List, [], ℕ, ◌+◌, ◌*◌, ◌≤◌, Result, eqb, length}
use Rattle.rules.specs.Answer.{fine, ◌then◌}
use Rattle.rules.specs.CallRecord.{Head, read_head, Call, no_star, no_double, positionals_of, named_of}
use Rattle.rules.specs.Parameters.{Parameter, positional_count}
use Rattle.rules.specs.CallQuestions.{ask_call, ask_board}
use Rattle.rules.specs.Binding.{ask_binding}
use Rattle.rules.specs.Collection.{Outcome, outcome_of, board_left, call_of}
use Rattle.builder.specs.declared.spec.ParametersSpec.{ParametersSpec}
use Rattle.answers.specs.Answer.{is_numbered, told}
use Rattle.calls.specs.Values.{values_in}
use Rattle.builder.specs.Params.{parameters_in}
use Rattle.calls.specs.Keys.{ask_keys}
use Rattle.findings.specs.Resolved.{Resolved}
use Rattle.findings.specs.Resolve.{Prepared}
use Rattle.findings.specs.EntriesDone.{written_names}
use Rattle.questions.specs.Questions.{CallReady}
use Rattle.answers.specs.declared.answer.Counts.{Counts}
use Rattle.answers.specs.declared.answer.Refusal.{Refusal}
use Rattle.calls.specs.Head.{Few}

-- an answer, with the board before and after it, is an outcome of `rules`: number and detail, or the counts, in the one answer that tells them;
-- and every cell of the board
pub record Ends (outcome : Outcome) (before after : List ℕ) (r : Result Counts Refusal) : Type 0 where
  pub answer : told r after ≡ outcome
  pub numbered : is_numbered r ≡ true
  pub board : after ≡ board_left outcome before

-- how a call that passed 9 to 14 ends against a list: 15 to 24, and then placement
abbrev pub binding_of : List Parameter → Call → List ℕ → Outcome
binding_of qs c board = outcome_of (ask_binding qs c) qs (positionals_of c) (named_of c) board

-- how a call record ends against a list: 9 to 14, and then the same
unfoldable pub bound_to : List Parameter → List ℕ → List ℕ → List ℕ → Outcome
bound_to qs cells area board =
    let c : Call = call_of cells area in
    outcome_of (ask_call 64 cells area then ask_board 64 64 board then ask_binding qs c) qs (positionals_of c) (named_of c) board

-- the short path applies: as many values as there are parameters, all of them positional, and nothing else given
abbrev pub is_short : (positional len : ℕ) → Head → Bool
is_short positional len h =
    eqb h.p positional && (eqb positional len && (eqb h.n 0 && (eqb h.star_kind 0 && eqb h.double_kind 0)))

-- a call that the short path is for, its values standing in a record
pub record ShortCall (qs : List Parameter) (c : Call) (cells : List ℕ) (h : Head) : Type 0 where
  pub all_positional : positional_count qs ≡ length qs
  pub as_many : h.p ≡ length qs
  pub values : c.positionals ≡ values_in cells h 0 h.p
  pub unnamed : c.named ≡ []
  pub no_star : c.star ≡ no_star
  pub no_double : c.double ≡ no_double

-- what the short path needs of a record and its head: few values, which are all there, and a board that passes 14
pub record InlineReady (cells : List ℕ) (h : Head) (board : List ℕ) : Type 0 where
  pub few : Few 64 h
  pub within : 6 + 2 * h.p ≤ length cells
  pub long : 896 ≤ length board

-- what it promises: each call that it is for has ended as it does against its list
abbrev pub InlineEnds : (cells : List ℕ) → Head → (before after : List ℕ) → Result Counts Refusal → Type 0
InlineEnds cells h before after r = (qs : List Parameter) (c : Call) → ShortCall qs c cells h → Ends (binding_of qs c before) before after r

-- a prepared list, and a record that passes 9 to 12
pub record OpenReady (spec : List ℕ) (l : ParametersSpec) (cells area : List ℕ) (h : Head) : Type 0 where
  pub list : Prepared spec l
  pub read : h ≡ read_head cells
  pub passed : ask_keys 64 cells area ≡ fine

-- a call against a prepared list, its written names resolved, and a board that passes 14
pub record SlowReady (spec : List ℕ) (l : ParametersSpec) (cells area : List ℕ) (h : Head) (next : ℕ) (sources rest : List ℕ) (before : ℕ) (board : List ℕ) : Type 0 where
  pub call : CallReady spec l cells area h next (call_of cells area)
  pub names : Resolved (parameters_in spec l.params) cells area (written_names area cells h) sources rest before
  pub long : 896 ≤ length board

-- and what the general path then promises: the call has ended as it does against the list
abbrev pub SlowEnds : (spec : List ℕ) → ParametersSpec → (cells area before after : List ℕ) → Result Counts Refusal → Type 0
SlowEnds spec l cells area before after r = Ends (binding_of (parameters_in spec l.params) (call_of cells area) before) before after r
