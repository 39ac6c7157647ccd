-- What binding two sheets promises (01, sheets and the program bind): the text of any input in a lent output, of an input that was read into a
-- buffer, and the texts that are put on the way there, of two records and of a call against a list.
use Rattle.std.specs.Prelude.{Result, Ok, Err, ◌≡◌, List, ℕ, ◌≤◌, ◌<◌, length, take, replicate}
use Rattle.rules.specs.Answer.{fine}
use Rattle.rules.specs.CallRecord.{positionals_of, named_of}
use Rattle.rules.specs.Parameters.{Parameter}
use Rattle.rules.specs.ParameterQuestions.{ask_parameters, list_of}
use Rattle.rules.specs.Collection.{call_of, collection}
use Rattle.rules.specs.SheetInput.{input_most}
use Rattle.rules.specs.SheetOutput as rules
use Rattle.builder.specs.Params.{parameters_in}
use Rattle.builder.specs.declared.spec.ParametersSpec.{ParametersSpec}
use Rattle.findings.specs.Resolve.{Prepared}
use Rattle.collector.specs.Collect.{bound_to}
use Rattle.sheets.specs.declared.NoRoom.{NoRoom}

-- a call record against a list, over a board of zeros
unfoldable pub bound_text : List Parameter → List ℕ → List ℕ → List ℕ → List ℕ
bound_text qs spec cells call =
    rules.outcome_text spec call qs (positionals_of (call_of cells call)) (named_of (call_of cells call)) (bound_to qs cells call (replicate 896 0))

-- a call record against a parameter record, over a board of zeros
unfoldable pub records_text : List ℕ → List ℕ → List ℕ → List ℕ → List ℕ
records_text spec_cells spec cells call =
    rules.outcome_text spec call (list_of spec_cells spec) (positionals_of (call_of cells call)) (named_of (call_of cells call))
    (collection 64 64 spec_cells spec cells call (replicate 896 0))

-- a list to bind against, which a parameter record describes that passes 1 to 7
pub record ListReady (spec : List ℕ) (l : ParametersSpec) : Type 0 where
  pub prepared : Prepared spec l
  pub cells : List ℕ
  pub passes : ask_parameters 64 cells spec ≡ fine
  pub list : parameters_in spec l.params ≡ list_of cells spec

abbrev pub bound_of : Result ℕ NoRoom → rules.Bound
bound_of (Ok n) = rules.wrote n
bound_of (Err _) = rules.no_room

-- what is answered, and what the output then holds
pub record Binding (input before after : List ℕ) (r : Result ℕ NoRoom) : Type 0 where
  pub answer : bound_of r ≡ rules.bound 64 64 input before
  pub output : after ≡ rules.bound_left 64 64 input before

-- ---- an input that was read

-- `n` bytes read into a buffer, and an output: the buffer has a byte more than the longest input that is taken, so that a longer one shows, and
-- the output has room for any text
pub record ReadRoom (buffer : List ℕ) (n : ℕ) (out : List ℕ) : Type 0 where
  pub input : input_most < length buffer
  pub read : n ≤ length buffer
  pub output : rules.output_least ≤ length out

-- the text of the whole input, whichever it is whose front, as far as the buffer goes, was read
abbrev pub TextOfRead : List ℕ → ℕ → List ℕ → Type 0
TextOfRead buffer n text = (input : List ℕ) → take (length buffer) input ≡ take n buffer → text ≡ rules.bind_text 64 64 input
