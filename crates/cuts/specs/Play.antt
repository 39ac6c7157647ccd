-- Demand 3 about what the code returns (01, demand 3): when a cut of P and N is played, and what then holds of its ending and of what can-fill
-- foretells. Cut, Domain, ending, merge and Placed are those of `rules`, at 64 parameters and 64 arguments.
use Rattle.std.specs.Prelude.{◌≡◌, Bool, true, false, ◌&&◌, List, map, ℕ, ◌/◌, ◌%◌, ◌≤◌, Option, None, Some, Result, leb, eqb, length}
use Rattle.rules.specs.Listing.{all}
use Rattle.rules.specs.Text.{differ}
use Rattle.rules.specs.Value.{Value, well_formed_argument}
use Rattle.rules.specs.Answer.{Answer, fine, refuse, Detail}
use Rattle.rules.specs.CallRecord.{Pair, named_in}
use Rattle.rules.specs.ParameterQuestions.{ask_parameters, list_of}
use Rattle.rules.specs.CallQuestions.{well_formed_pair, ask_call}
use Rattle.rules.specs.Binding.{ask_placed, ask_binding, texts_of}
use Rattle.rules.specs.Placement.{Counts}
use Rattle.rules.specs.Collection.{Outcome, refused, accepted, board_left, call_of, collection}
use Rattle.rules.specs.CanFill.{answered, fillable}
use Rattle.rules.specs.Demand3.{Cut, merge, is_accepted, Domain, cut_cells, ending, Placed}
use Rattle.answers.specs.Answer.{is_numbered, told}
use Rattle.can_fill.specs.CanFill.{filling_in}
use Rattle.collector.specs.Collect.{Ends}
use Rattle.cells.specs.declared.question.Question.{Question}
use Rattle.cuts.specs.Record.{values_of, pairs_of}
use Rattle.cuts.specs.declared.Trial.{Trial}

-- ---- when a cut is played

abbrev pub passes : Answer → Bool
passes fine = true
passes (refuse n d) = false

-- cells that are whole values and whole pairs, at most 64 of each, and a cut within them
abbrev pub sizes_right : ℕ → ℕ → Cut → Bool
sizes_right values pairs c =
    eqb (values % 2) 0 && (eqb (pairs % 4) 0 && (leb (values / 2) 64 && (leb (pairs / 4) 64 && (leb c.at_p (values / 2) && leb c.at_n (pairs / 4)))))

-- the list passes 1 to 7, the values and pairs are well formed, no name stands twice, and the board passes 14
unfoldable pub passing : List ℕ → List ℕ → List Value → List Pair → List ℕ → ℕ → Bool
passing spec_cells spec_bytes P N call_bytes room =
    passes (ask_parameters 64 spec_cells spec_bytes)
    && ((all (well_formed_argument call_bytes) P && (all (well_formed_pair call_bytes) N && differ (texts_of (map (named_in call_bytes) N)))) && leb 896 room)

-- both: demand 3 speaks of these cells, bytes and board, and the cut is one of P and N
unfoldable pub in_domain : List ℕ → List ℕ → List ℕ → List ℕ → List ℕ → Cut → List ℕ → Bool
in_domain spec_cells spec_bytes positionals named call_bytes c board =
    sizes_right (length positionals) (length named) c && passing spec_cells spec_bytes (values_of positionals) (pairs_of named) call_bytes (length board)

-- ---- what is played

module _ (spec_cells spec_bytes call_bytes : List ℕ) (P : List Value) (N : List Pair) (c : Cut) (before after : List ℕ) where
  -- o is what collection told of the cut, f what can-fill answered of P and N written out whole
  pub record Demanded (o : Outcome) (f : Result Bool Question) : Type 0 where
    -- demand 3 speaks here
    pub domain : Domain 64 64 spec_cells spec_bytes call_bytes P N before
    -- what was returned is how this cut's call record ends
    pub this_cut : o ≡ ending 64 64 spec_cells spec_bytes call_bytes P N before c
    -- the board is left as that ending leaves it: as it was on a refusal
    pub board : after ≡ board_left o before
    -- every other cut of the same values ends like it, repeats counting as one
    pub alike : (e : Cut) → merge o ≡ merge (ending 64 64 spec_cells spec_bytes call_bytes P N before e)
    -- a refusal is the first "no" of 15 to 24 on this cut's record
    pub first_no : (n : ℕ) (d : Detail) → o ≡ refused n d → ask_binding (list_of spec_cells spec_bytes) (call_of (cut_cells 64 64 spec_cells spec_bytes call_bytes P N before c) call_bytes) ≡ refuse n d
    -- and, from 20 on, it can be read off P and N alone
    pub from_placed : (n : ℕ) (d : Detail) → 20 ≤ n → o ≡ refused n d → ask_placed (list_of spec_cells spec_bytes) P (map (named_in call_bytes) N) ≡ refuse n d
    -- can-fill said yes if the call was accepted, and no if it was refused
    pub foretold : filling_in f ≡ answered (is_accepted o)
    -- an accepted call has placed every value of P and N, and filled each required slot
    pub placed : (counts : Counts) (cells : List ℕ) → o ≡ accepted counts cells → Placed 64 64 spec_cells spec_bytes call_bytes P N before counts cells

-- P and N are what `positionals` and `named` hold
pub record Playing (spec_cells spec_bytes positionals named call_bytes : List ℕ) (c : Cut) (before after : List ℕ) (r : Option Trial) : Type 0 where
  -- `None` is answered only where demand 3 does not speak, or where the cut is none of P and N
  pub outside : r ≡ None → in_domain spec_cells spec_bytes positionals named call_bytes c before ≡ false
  -- and then nothing is written
  pub untouched : r ≡ None → after ≡ before
  -- what is played lies inside
  pub inside : (t : Trial) → r ≡ Some t → in_domain spec_cells spec_bytes positionals named call_bytes c before ≡ true
  -- it is told in the one answer that tells it
  pub numbered : (t : Trial) → r ≡ Some t → is_numbered t.collected ≡ true
  -- and all of demand 3 holds of what is returned
  pub ended : (t : Trial) → r ≡ Some t → Demanded spec_cells spec_bytes call_bytes (values_of positionals) (pairs_of named) c before after (told t.collected after) t.foretold

-- ---- what the inner functions promise

-- the same questions, put to the record of P and N written out whole
abbrev pub records_pass : List ℕ → List ℕ → List ℕ → List ℕ → ℕ → Bool
records_pass spec_cells spec_bytes whole call_bytes room =
    passes (ask_parameters 64 spec_cells spec_bytes) && (passes (ask_call 64 whole call_bytes) && leb 896 room)

-- what is promised of two records, whatever they hold
pub record Tried (spec_cells spec_bytes whole cells call_bytes before after : List ℕ) (r : Option Trial) : Type 0 where
  pub outside : r ≡ None → records_pass spec_cells spec_bytes whole call_bytes (length before) ≡ false
  pub untouched : r ≡ None → after ≡ before
  pub passed : (t : Trial) → r ≡ Some t → records_pass spec_cells spec_bytes whole call_bytes (length before) ≡ true
  pub collected : (t : Trial) → r ≡ Some t → Ends (collection 64 64 spec_cells spec_bytes cells call_bytes before) before after t.collected
  pub filling : (t : Trial) → r ≡ Some t → filling_in t.foretold ≡ fillable 64 64 spec_cells spec_bytes whole call_bytes
