-- Collection, whole (01, the questions; cells, texts and records, board): all of 1 to 24, from raw cells, areas and the board to an outcome and
-- what the board then holds. A refusal writes nothing.
use Rattle.std.specs.Prelude.{List, ℕ}
use Rattle.rules.specs.Value.{Value}
use Rattle.rules.specs.Answer.{Answer, fine, refuse, ◌then◌, Detail}
use Rattle.rules.specs.CallRecord.{Call, Named, read_call, call_in, positionals_of, named_of}
use Rattle.rules.specs.Parameters.{Parameter}
use Rattle.rules.specs.ParameterQuestions.{ask_parameters, list_of}
use Rattle.rules.specs.CallQuestions.{ask_call, ask_board}
use Rattle.rules.specs.Binding.{ask_binding}
use Rattle.rules.specs.Placement.{Counts, counts_of}
use Rattle.rules.specs.Board.{board_after}

-- refused, with number and detail; or accepted, with the four counts and the board as it then is
pub data Outcome : Type 0 where
  refused : ℕ → Detail → Outcome
  accepted : Counts → List ℕ → Outcome

-- what the board holds after an outcome: a refusal leaves it as it was
abbrev pub board_left : Outcome → List ℕ → List ℕ
board_left (refused n d) board = board
board_left (accepted c after) board = after

-- the outcome when the questions have answered: P and N placed over the board where nothing is refused
abbrev pub outcome_of : Answer → List Parameter → List Value → List Named → List ℕ → Outcome
outcome_of (refuse n d) qs P N board = refused n d
outcome_of fine qs P N board = accepted (counts_of qs P N) (board_after qs P N board)

-- the call that a call record describes
unfoldable pub call_of : List ℕ → List ℕ → Call
call_of cells area = call_in area (read_call cells)

-- 1 to 14: what is asked of the two records and the board before anything is bound
unfoldable pub ask_records : ℕ → ℕ → List ℕ → List ℕ → List ℕ → List ℕ → List ℕ → Answer
ask_records A B spec_cells spec_bytes call_cells call_bytes board =
    ask_parameters A spec_cells spec_bytes then ask_call B call_cells call_bytes then ask_board A B board

-- collection of a call record against a parameter record, each over its area, into a board
unfoldable pub collection : ℕ → ℕ → List ℕ → List ℕ → List ℕ → List ℕ → List ℕ → Outcome
collection A B spec_cells spec_bytes call_cells call_bytes board =
    let qs : List Parameter = list_of spec_cells spec_bytes in
    let c : Call = call_of call_cells call_bytes in
    outcome_of (ask_records A B spec_cells spec_bytes call_cells call_bytes board then ask_binding qs c) qs (positionals_of c) (named_of c) board
