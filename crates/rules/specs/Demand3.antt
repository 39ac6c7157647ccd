-- Demand 3, stated: however the values P and the named values N of a call are cut into written arguments and a * list and ** dictionary
-- for the rests, the calls end alike, can-fill foretells how, and an accepted call places P and N. The proof is `demand_3` of proofs/, and
-- `every_cut_told` of it is that of the last statement, about calls with a name that can't be placed.
use Rattle.std.specs.Prelude.{◌≡◌, Bool, true, false, cond, not, ◌&&◌, ◌||◌, List, [], ◌∷◌, map, ℕ, ◌+◌, ◌≤◌, eqb, length, take, drop}
use Rattle.rules.specs.Listing.{all, any}
use Rattle.rules.specs.Text.{differ}
use Rattle.rules.specs.Value.{Value, well_formed_argument}
use Rattle.rules.specs.Answer.{fine, refuse, Detail, none}
use Rattle.rules.specs.CallRecord.{Pair, CallRecord, Named, encode_call, named_in}
use Rattle.rules.specs.Parameters.{Parameter, is_required, has_kwargs}
use Rattle.rules.specs.Lookup.{known}
use Rattle.rules.specs.ParameterQuestions.{ask_parameters, list_of}
use Rattle.rules.specs.Placement.{Slot, is_unfilled, Counts, place, named_remainder, counts_of}
use Rattle.rules.specs.Board.{board_least, board_after}
use Rattle.rules.specs.CallQuestions.{well_formed_pair}
use Rattle.rules.specs.Binding.{names_filled, ask_placed, ask_binding, texts_of}
use Rattle.rules.specs.Collection.{Outcome, refused, accepted, call_of, ask_records, collection}
use Rattle.rules.specs.UnknownFirst.{Tells}
use Rattle.rules.specs.CanFill.{answered, fillable}

-- a cut: how many of P and of N are written out, and whether a rest that is empty is given all the same
pub record Cut : Type 0 where
  pub at_p : ℕ
  pub at_n : ℕ
  pub list_given : Bool
  pub dictionary_given : Bool

-- the kind of a star whose contents are a rest: a list or dictionary; an empty one may be omitted
abbrev pub rest_kind : {X : Type 0} → Bool → List X → ℕ
rest_kind given [] = cond given 1 0
rest_kind given (x ∷ xs) = 1

-- the call record of a cut: the fronts of P and N written out, the rests behind the stars
unfoldable pub cut_record : List Value → List Pair → Cut → CallRecord
cut_record P N c =
    record {
      positionals = take c.at_p P;
      named = take c.at_n N;
      star_kind = rest_kind c.list_given (drop c.at_p P);
      items = drop c.at_p P;
      double_kind = rest_kind c.dictionary_given (drop c.at_n N);
      entries = drop c.at_n N;
    }

-- P and N written out whole, without stars
unfoldable pub whole_record : List Value → List Pair → CallRecord
whole_record P N = record { positionals = P; named = N; star_kind = 0; items = []; double_kind = 0; entries = [] }

-- 16 and 19 count as one, names aside; every other outcome stays as it is
abbrev pub merge : Outcome → Outcome
merge (refused n d) = cond (eqb n 16 || eqb n 19) (refused 16 none) (refused n d)
merge (accepted counts after) = accepted counts after

abbrev pub is_accepted : Outcome → Bool
is_accepted (refused n d) = false
is_accepted (accepted counts after) = true

-- no required parameter's slot is empty
abbrev pub required_filled : List Parameter → List Slot → Bool
required_filled [] ss = true
required_filled (q ∷ qs) [] = not (is_required q.kind) && required_filled qs []
required_filled (q ∷ qs) (s ∷ ss) = not (is_required q.kind && is_unfilled s) && required_filled qs ss

module _ (A B : ℕ) (spec_cells spec_bytes call_bytes : List ℕ) (P : List Value) (N : List Pair) (board : List ℕ) where
  -- where demand 3 speaks: a list that passes 1 to 7, at most B well-formed values and B well-formed pairs (a pair's name has 1 to 64
  -- bytes), no name twice, a board that passes 14
  pub record Domain : Type 0 where
    pub list_passes : ask_parameters A spec_cells spec_bytes ≡ fine
    pub values_formed : all (well_formed_argument call_bytes) P ≡ true
    pub pairs_formed : all (well_formed_pair call_bytes) N ≡ true
    pub no_name_twice : differ (texts_of (map (named_in call_bytes) N)) ≡ true
    pub few_values : length P ≤ B
    pub few_names : length N ≤ B
    pub room : board_least A B ≤ length board

  -- the parameters, and N as named values with their bytes
  abbrev pub parameters : List Parameter
  parameters = list_of spec_cells spec_bytes

  abbrev pub named : List Named
  named = map (named_in call_bytes) N

  -- the cells of a cut's call record, and how its collection ends
  abbrev pub cut_cells : Cut → List ℕ
  cut_cells c = encode_call (cut_record P N c)

  abbrev pub ending : Cut → Outcome
  ending c = collection A B spec_cells spec_bytes (cut_cells c) call_bytes board

  -- what holds where one of the calls is accepted
  pub record Placed (counts : Counts) (after : List ℕ) : Type 0 where
    pub counts_placed : counts ≡ counts_of parameters P named
    pub board_placed : after ≡ board_after parameters P named board
    pub required_filled : required_filled parameters (place parameters P named) ≡ true
    pub none_lost : length P + length N ≡ counts.taken + counts.star + counts.named

  pub record Demand3 : Type 0 where
    -- any two cuts end alike: number, detail, counts and board, repeats counting as one
    pub alike : (c e : Cut) → merge (ending c) ≡ merge (ending e)
    -- 1 to 14 pass for every cut
    pub records_pass : (c : Cut) → ask_records A B spec_cells spec_bytes (cut_cells c) call_bytes board ≡ fine
    -- a refused cut's number and detail are the first refusal of 15 to 24 on its own record
    pub first_no : (c : Cut) (n : ℕ) (d : Detail) → ending c ≡ refused n d → ask_binding parameters (call_of (cut_cells c) call_bytes) ≡ refuse n d
    -- and, from 20 on, they are read off P and N alone
    pub from_placed : (c : Cut) (n : ℕ) (d : Detail) → 20 ≤ n → ending c ≡ refused n d → ask_placed parameters P named ≡ refuse n d
    -- can-fill on P and N written out whole answers, and says yes exactly where a cut is accepted
    pub foretold : (c : Cut) → fillable A B spec_cells spec_bytes (encode_call (whole_record P N)) call_bytes ≡ answered (is_accepted (ending c))
    -- an accepted cut's counts and board are those of placement, no required slot is empty, no value is lost
    pub placed : (c : Cut) (counts : Counts) (after : List ℕ) → ending c ≡ accepted counts after → Placed counts after

  -- 02, §4: a name of N that is none of the list's, no **kwargs, and no name of N that is that of a slot filled from P
  pub record Unplaceable : Type 0 where
    pub unplaceable : any (λ v. not (known parameters v.name.bytes)) named ≡ true
    pub no_kwargs : has_kwargs parameters ≡ false
    pub no_repeat : any (λ v. names_filled P 0 parameters v.name.bytes) named ≡ false

  -- then every cut ends in the same 24: the count of such names and the first of them are read off N alone
  abbrev pub EveryCutTold : Type 0
  EveryCutTold = (c : Cut) → Tells (named_remainder parameters named) (ending c)
