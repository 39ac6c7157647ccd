-- The short path and the general one (01, short path): wherever the first applies the second does too, and both end alike.
use Rattle.std.specs.Prelude.{◌≡◌, true, List, ℕ, ◌+◌, min, ◌≤◌, Result, length, replicate}
use Rattle.rules.specs.Answer.{fine}
use Rattle.rules.specs.CallRecord.{read_head}
use Rattle.rules.specs.CallQuestions.{ask_call}
use Rattle.builder.specs.declared.spec.ParametersSpec.{ParametersSpec}
use Rattle.calls.specs.Keys.{ask_keys}
use Rattle.findings.specs.Resolve.{Prepared}
use Rattle.answers.specs.declared.answer.Counts.{Counts}
use Rattle.answers.specs.declared.answer.Refusal.{Refusal}
use Rattle.collector.specs.Collect.{is_short, InlineReady, InlineEnds, SlowReady, SlowEnds}

-- a record that passes 9 to 12, which the short path is for against a prepared list, and a board that passes 14
pub record Short (spec : List ℕ) (l : ParametersSpec) (cells area board : List ℕ) : Type 0 where
  pub list : Prepared spec l
  pub passed : ask_keys 64 cells area ≡ fine
  pub applies : is_short l.indices.num_positional l.params.len (read_head cells) ≡ true
  pub long : 896 ≤ length board

-- what holds of both paths there
pub record PathsAgree (spec : List ℕ) (l : ParametersSpec) (cells area board : List ℕ) : Type 0 where
  -- 13, which the short path doesn't ask, refuses nothing
  pub passed : ask_call 64 cells area ≡ fine
  -- the short path has what it requires
  pub inline : InlineReady cells (read_head cells) board
  -- and so has the general one, as it is called: `next` is the least of the number of positionals and that of positional parameters, and both
  -- arrays are zeros, since there is no name to resolve
  pub slow
      : SlowReady spec l cells area (read_head cells) (min ((read_head cells).p + (read_head cells).s) l.indices.num_positional) (replicate 64 0) (replicate 128 0)
      0 board
  -- and what each of them promises are the same answer and the same board
  pub alike
      : (r r' : Result Counts Refusal) (after after' : List ℕ) → InlineEnds cells (read_head cells) board after r → SlowEnds spec l cells area board after' r'
      → (r ≡ r') × (after ≡ after')
