-- Number 8 is retired (02, §8). At the end of building 01 asks with it whether the positional-only count is at most the positional one, and
-- that holds of every list of steps (Counts). So nothing was ever refused by 8; no list, record or sheet ends in it, and no question takes the
-- number again. The proof is `eight_retired` of proofs/Retired.
use Rattle.std.specs.Prelude.{◌≡◌, List, ℕ, leb}
use Rattle.rules.specs.Answer.{Detail, refuse, ◌then◌, ask}
use Rattle.rules.specs.Parameters.{positional_only_count, positional_count}
use Rattle.rules.specs.ParameterQuestions.{list_of, ask_parameters}
use Rattle.rules.specs.Collection.{refused, collection}
use Rattle.rules.specs.CanFill.{refused_filling, fillable}
use Rattle.rules.specs.Accessors.{denied, names_map, positions, len, no_named_args, optional}
use Rattle.rules.specs.Printed.{parameters_str}
use Rattle.rules.specs.SheetInput.{bad, judge_input}
use Rattle.rules.specs.SheetRecords.{sheets_in}
use Rattle.rules.specs.SheetOutput.{sheets_outcome}

pub record EightRetired (A B : ℕ) : Type 0 where
  -- asked where 01 asks it, after 1 to 7, it would change no answer
  pub needless
      : (cells area : List ℕ)
      → (ask_parameters A cells area then ask 8 (leb (positional_only_count (list_of cells area)) (positional_count (list_of cells area))))
      ≡ ask_parameters A cells area
  -- a parameter list, built and printed
  pub built : (cells area : List ℕ) (d : Detail) → ask_parameters A cells area ≡ refuse 8 d → ⊥
  pub printed : (cells area out : List ℕ) (d : Detail) → parameters_str A cells area out ≡ denied 8 d → ⊥
  -- a call record, collected and checked against a list
  pub collected
      : (spec_cells spec call_cells call board : List ℕ) (d : Detail)
      → collection A B spec_cells spec call_cells call board ≡ refused 8 d → ⊥
  pub filled
      : (spec_cells spec call_cells call : List ℕ) (d : Detail)
      → fillable A B spec_cells spec call_cells call ≡ refused_filling 8 d → ⊥
  -- and read by itself
  pub names : (cells area out : List ℕ) (d : Detail) → names_map A B cells area out ≡ denied 8 d → ⊥
  pub values : (cells area out : List ℕ) (d : Detail) → positions A B cells area out ≡ denied 8 d → ⊥
  pub length : (cells area : List ℕ) (d : Detail) → len B cells area ≡ denied 8 d → ⊥
  pub unnamed : (cells area : List ℕ) (d : Detail) → no_named_args B cells area ≡ denied 8 d → ⊥
  pub chosen
      : (required more : ℕ) (cells area out : List ℕ) (d : Detail)
      → optional A B required more cells area out ≡ denied 8 d → ⊥
  -- a sheet: its lines, and the call that it describes
  pub judged : (input : List ℕ) (at : ℕ) → judge_input A B input ≡ bad 8 at → ⊥
  pub bound : (input : List ℕ) (d : Detail) → sheets_outcome A B (sheets_in input) ≡ refused 8 d → ⊥
