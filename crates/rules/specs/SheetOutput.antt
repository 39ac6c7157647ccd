-- What `bind` prints (01, sheets): the slots of an accepted call, its remainders and two counts; or a refusal, alone. Every line ends with byte 10.
use Rattle.std.specs.Prelude.{cond, List, [], ◌∷◌, ◌++◌, ℕ, suc, leb, length, take, drop, replicate}
use Rattle.rules.specs.Cells.{over}
use Rattle.rules.specs.Value.{Value}
use Rattle.rules.specs.Answer.{Detail, none, name, count, count_and_name, bounds, Area, spec_area, call_area}
use Rattle.rules.specs.ParameterRecord.{encode_parameters}
use Rattle.rules.specs.CallRecord.{Call, Named, encode_call, call_in, positionals_of, named_of}
use Rattle.rules.specs.Parameters.{Parameter, ParameterKind, required, optional, defaulted, args, kwargs, parameters_of}
use Rattle.rules.specs.Placement.{Slot, empty, taken, from_default, star_count, named_count, Counts, place, star_remainder, named_remainder}
use Rattle.rules.specs.Board.{board_least}
use Rattle.rules.specs.Collection.{Outcome, refused, accepted, collection}
use Rattle.rules.specs.SheetValue.{decimal, print_value}
use Rattle.rules.specs.SheetInput.{Verdict, right, bad, judge_input}
use Rattle.rules.specs.SheetRecords.{Sheets, sheets_in}

-- three cells as a line
unfoldable pub line : List ℕ → List ℕ → List ℕ → List ℕ
line a b c = a ++ (44 ∷ (b ++ (44 ∷ (c ++ (10 ∷ [])))))

-- a parameter's name; `*args` and `**kwargs` have none of their own
abbrev pub slot_name : ParameterKind → List ℕ → List ℕ
slot_name required bytes = bytes
slot_name optional bytes = bytes
slot_name (defaulted v) bytes = bytes
slot_name args bytes = 42 ∷ 97 ∷ 114 ∷ 103 ∷ 115 ∷ []
slot_name kwargs bytes = 42 ∷ 42 ∷ 107 ∷ 119 ∷ 97 ∷ 114 ∷ 103 ∷ 115 ∷ []

-- what a slot holds: nothing for an empty one, a remainder's count for `*args` and `**kwargs`
abbrev pub slot_text : List ℕ → List ℕ → Slot → List ℕ
slot_text spec call empty = []
slot_text spec call (taken v) = print_value spec call v
slot_text spec call (from_default v) = print_value spec call v
slot_text spec call (star_count n) = decimal n
slot_text spec call (named_count n) = decimal n

-- a line for each slot, from index i on: index, name and value
abbrev pub slot_lines : List ℕ → List ℕ → ℕ → List Parameter → List Slot → List ℕ
slot_lines spec call i [] ss = []
slot_lines spec call i (q ∷ qs) [] = []
slot_lines spec call i (q ∷ qs) (s ∷ ss) =
    line (decimal i) (slot_name q.kind q.name.bytes) (slot_text spec call s) ++ slot_lines spec call (suc i) qs ss

-- `star` and a value of the star remainder
abbrev pub star_lines : List ℕ → List ℕ → List Value → List ℕ
star_lines spec call [] = []
star_lines spec call (v ∷ vs) = line (115 ∷ 116 ∷ 97 ∷ 114 ∷ []) [] (print_value spec call v) ++ star_lines spec call vs

-- `named`, and a name and value of the named remainder
abbrev pub named_lines : List ℕ → List ℕ → List Named → List ℕ
named_lines spec call [] = []
named_lines spec call (v ∷ vs) =
    line (110 ∷ 97 ∷ 109 ∷ 101 ∷ 100 ∷ []) v.name.bytes (print_value spec call v.value) ++ named_lines spec call vs

-- an accepted call: `slot,name,value`, the slots, the star remainder before the named one, and `taken` and `defaulted` with their counts
unfoldable pub accepted_text : List ℕ → List ℕ → List Parameter → List Value → List Named → Counts → List ℕ
accepted_text spec call qs P N c =
    line (115 ∷ 108 ∷ 111 ∷ 116 ∷ []) (110 ∷ 97 ∷ 109 ∷ 101 ∷ []) (118 ∷ 97 ∷ 108 ∷ 117 ∷ 101 ∷ [])
    ++ (slot_lines spec call 0 qs (place qs P N)
    ++ (star_lines spec call (star_remainder qs P)
    ++ (named_lines spec call (named_remainder qs N)
    ++ (line (116 ∷ 97 ∷ 107 ∷ 101 ∷ 110 ∷ []) (decimal c.taken) []
    ++ line (100 ∷ 101 ∷ 102 ∷ 97 ∷ 117 ∷ 108 ∷ 116 ∷ 101 ∷ 100 ∷ []) (decimal c.defaulted) []))))

abbrev pub part_text : List ℕ → List ℕ → Area → ℕ → ℕ → List ℕ
part_text spec call spec_area start size = take size (drop start spec)
part_text spec call call_area start size = take size (drop start call)

-- a detail: a name, where there is one; otherwise a count; otherwise nothing
abbrev pub detail_text : List ℕ → List ℕ → Detail → List ℕ
detail_text spec call none = []
detail_text spec call (name p) = part_text spec call p.area p.start p.size
detail_text spec call (count n) = decimal n
detail_text spec call (count_and_name n p) = part_text spec call p.area p.start p.size
detail_text spec call (bounds a b c) = []

-- `refused`, the number and the detail
unfoldable pub refusal_text : ℕ → List ℕ → List ℕ
refusal_text n detail = line (114 ∷ 101 ∷ 102 ∷ 117 ∷ 115 ∷ 101 ∷ 100 ∷ []) (decimal n) detail

abbrev pub outcome_text : List ℕ → List ℕ → List Parameter → List Value → List Named → Outcome → List ℕ
outcome_text spec call qs P N (refused n d) = refusal_text n (detail_text spec call d)
outcome_text spec call qs P N (accepted c board) = accepted_text spec call qs P N c

-- how the call of two records ends, over a board of zeros that is long enough
abbrev pub sheets_outcome : ℕ → ℕ → Sheets → Outcome
sheets_outcome A B s =
    collection A B (encode_parameters s.parameters) s.spec_area (encode_call s.call) s.call_area (replicate (board_least A B) 0)

-- that, printed
unfoldable pub sheets_text : ℕ → ℕ → Sheets → List ℕ
sheets_text A B s =
    let qs : List Parameter = parameters_of s.spec_area s.parameters in
    let c : Call = call_in s.call_area s.call in
    outcome_text s.spec_area s.call_area qs (positionals_of c) (named_of c) (sheets_outcome A B s)

-- a bad line is refused by its number, with the line as detail
abbrev pub verdict_text : ℕ → ℕ → List ℕ → Verdict → List ℕ
verdict_text A B input (bad n at) = refusal_text n (decimal at)
verdict_text A B input right = sheets_text A B (sheets_in input)

-- what `bind` prints for an input
unfoldable pub bind_text : ℕ → ℕ → List ℕ → List ℕ
bind_text A B input = verdict_text A B input (judge_input A B input)

-- ---- `bind` as a function into a lent output

-- how many bytes are room for any answer; 01 names no such number
unfoldable pub output_least : ℕ
output_least = 40960

-- it answers how many bytes it wrote, or that there is no room
pub data Bound : Type 0 where
  no_room : Bound
  wrote : ℕ → Bound

unfoldable pub bound : ℕ → ℕ → List ℕ → List ℕ → Bound
bound A B input out = cond (leb output_least (length out)) (wrote (length (bind_text A B input))) no_room

-- what the output then holds: the text, and the bytes behind it as they were; without room nothing is written
unfoldable pub bound_left : ℕ → ℕ → List ℕ → List ℕ → List ℕ
bound_left A B input out = cond (leb output_least (length out)) (over (bind_text A B input) out) out
