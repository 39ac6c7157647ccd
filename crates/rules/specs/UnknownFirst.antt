-- What it changes that 24 is asked directly after the entries (02, §4). 01's own order, which is the Rust's, asks after missing parameters and
-- surplus values first, so that somebody who types strat= is told that start is missing. That order stands here, to be compared with. The proof
-- is `unknown_first` of proofs/LawsUnknownFirst.
use Rattle.std.specs.Prelude.{◌≡◌, Bool, true, false, not, ◌&&◌, List, [], ◌∷◌, ℕ, leb, length}
use Rattle.rules.specs.Value.{Value}
use Rattle.rules.specs.Answer.{Answer, ◌then◌, count_and_name, part_of, call_area}
use Rattle.rules.specs.CallRecord.{Call, Named, positionals_of, named_of}
use Rattle.rules.specs.Parameters.{Parameter, has_args, has_kwargs}
use Rattle.rules.specs.ParameterQuestions.{list_of}
use Rattle.rules.specs.Placement.{place, star_remainder, named_remainder}
use Rattle.rules.specs.Binding.{ask_given, ask_required, ask_star_remainder, ask_named_remainder}
use Rattle.rules.specs.Collection.{Outcome, refused, accepted, outcome_of, call_of, ask_records, collection}

-- ---- 01's own order

-- 20 to 24: what is missing, then what is left over
unfoldable pub placed_missing_first : List Parameter → List Value → List Named → Answer
placed_missing_first qs P N =
    ask_required qs (place qs P N)
    then ask_star_remainder (has_args qs) (star_remainder qs P)
    then ask_named_remainder (has_kwargs qs) (named_remainder qs N)

-- 15 to 24, and all of 1 to 24
unfoldable pub binding_missing_first : List Parameter → Call → Answer
binding_missing_first qs c = ask_given qs c (placed_missing_first qs (positionals_of c) (named_of c))

unfoldable pub collection_missing_first : ℕ → ℕ → List ℕ → List ℕ → List ℕ → List ℕ → List ℕ → Outcome
collection_missing_first A B spec_cells spec_bytes call_cells call_bytes board =
    let qs : List Parameter = list_of spec_cells spec_bytes in
    let c : Call = call_of call_cells call_bytes in
    outcome_of (ask_records A B spec_cells spec_bytes call_cells call_bytes board then binding_missing_first qs c) qs (positionals_of c) (named_of c) board

-- ---- what has changed

abbrev pub some_name : List Named → Bool
some_name [] = false
some_name (v ∷ vs) = true

-- 20, 21, 22 or 23
abbrev pub missing_or_surplus : Outcome → Bool
missing_or_surplus (refused n d) = leb 20 n && leb n 23
missing_or_surplus (accepted counts after) = false

-- an outcome of 01's order hides an unknown name: the named remainder is not empty, there is no **kwargs, and the number is one of these
abbrev pub hides : List Parameter → List Named → Outcome → Bool
hides qs unknown o = not (has_kwargs qs) && some_name unknown && missing_or_surplus o

-- an outcome that tells the unknown names: 24, with their count and the first of them
abbrev pub Tells : List Named → Outcome → Type 0
Tells [] o = ⊥
Tells (v ∷ vs) o = o ≡ refused 24 (count_and_name (length (v ∷ vs)) (part_of call_area v.name))

module _ (A B : ℕ) (spec_cells spec_bytes call_cells call_bytes board : List ℕ) where
  abbrev pub unknown : List Named
  unknown = named_remainder (list_of spec_cells spec_bytes) (named_of (call_of call_cells call_bytes))

  abbrev pub now : Outcome
  now = collection A B spec_cells spec_bytes call_cells call_bytes board

  abbrev pub before : Outcome
  before = collection_missing_first A B spec_cells spec_bytes call_cells call_bytes board

  -- of every two records and board. Those that 1 to 19 refuse are among them: their number is below 20, so they end as before
  pub record UnknownFirst : Type 0 where
    -- where a name was hidden the outcome differs, and tells the unknown names
    pub differs : hides (list_of spec_cells spec_bytes) unknown before ≡ true → now ≡ before → ⊥
    pub told : hides (list_of spec_cells spec_bytes) unknown before ≡ true → Tells unknown now
    -- and nowhere else
    pub stays : hides (list_of spec_cells spec_bytes) unknown before ≡ false → now ≡ before
