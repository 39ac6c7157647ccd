-- How the Rust's collector ends where 01's questions 15 to 24, in 01's own order, answer so: its result, read off the answer, the placement and
-- the remainders.
use Rattle.std.specs.Prelude.{Bool, false, cond, ◌&&◌, ◌||◌, List, [], ◌∷◌, map, ℕ, eqb, length, take, drop}
use Rattle.std.proofs.Math.Option.{Option, none, some}
use Rattle.rules.specs.Text.{same_bytes}
use Rattle.rules.specs.Value.{Value}
use Rattle.rules.specs.Answer.{Answer, fine, refuse, Detail, name, count, count_and_name, bounds, none as no_detail, Area, spec_area, call_area, Part}
use Rattle.rules.specs.CallRecord.{Call, Named, positionals_of, named_of}
use Rattle.rules.specs.Parameters.{Parameter}
use Rattle.rules.specs.Placement.{Slot, empty, taken, from_default, star_count, named_count, place, star_remainder, named_remainder}
use Rattle.rules.specs.UnknownFirst.{binding_missing_first}
use Rattle.original.specs.Locals.{Held, single, tuple, dict, FunctionError, ArgsArrayIsNotIterable, RepeatedArg, KwArgsIsNotDict, ArgsValueIsNotString, MissingPositionalOnly, MissingNamedOnly, Missing, ExtraPositionalArg, ExtraNamedArg, Result, ok, err}

-- the bytes of a part, in the area that it names
abbrev pub area_bytes : List ℕ → List ℕ → Area → List ℕ
area_bytes spec_bytes call_bytes spec_area = spec_bytes
area_bytes spec_bytes call_bytes call_area = call_bytes

unfoldable pub part_bytes : List ℕ → List ℕ → Part → List ℕ
part_bytes spec_bytes call_bytes p = take p.size (drop p.start (area_bytes spec_bytes call_bytes p.area))

-- what a slot of 01 is in the Rust: a count of a remainder is the remainder itself
abbrev pub held_in : List Value → List Named → Slot → Option Held
held_in stars named empty = none
held_in stars named (taken v) = some (single v)
held_in stars named (from_default v) = some (single v)
held_in stars named (star_count n) = some (tuple stars)
held_in stars named (named_count n) = some (dict named)

-- an error for a detail that is a name, or a count; none for another detail
abbrev pub by_name : (Part → List ℕ) → (List ℕ → FunctionError) → Detail → Option FunctionError
by_name read f (name p) = some (f (read p))
by_name read f no_detail = none
by_name read f (count n) = none
by_name read f (count_and_name n p) = none
by_name read f (bounds a b c) = none

abbrev pub by_count : (ℕ → FunctionError) → Detail → Option FunctionError
by_count f (count n) = some (f n)
by_count f no_detail = none
by_count f (name p) = none
by_count f (count_and_name n p) = none
by_count f (bounds a b c) = none

-- is this the number of some names and the first of them?
abbrev pub counts_names : (Part → List ℕ) → ℕ → Part → List Named → Bool
counts_names read n p [] = false
counts_names read n p (v ∷ vs) = eqb n (length (v ∷ vs)) && same_bytes (read p) v.name.bytes

-- 24's detail, where it is the number of the names in the remainder and the first of them: the Rust lists them all
abbrev pub by_names : (Part → List ℕ) → List Named → Detail → Option FunctionError
by_names read named (count_and_name n p) = cond (counts_names read n p named) (some (ExtraNamedArg (map (λ v. v.name.bytes) named))) none
by_names read named no_detail = none
by_names read named (name p) = none
by_names read named (count n) = none
by_names read named (bounds a b c) = none

-- the error for a refusal by its number; none for a number that is no question of binding
unfoldable pub error_of : (Part → List ℕ) → List Named → ℕ → Detail → Option FunctionError
error_of read named n d =
    cond (eqb n 15) (some ArgsArrayIsNotIterable)
    (cond (eqb n 16 || eqb n 19) (by_name read RepeatedArg d)
    (cond (eqb n 17) (some KwArgsIsNotDict)
    (cond (eqb n 18) (some ArgsValueIsNotString)
    (cond (eqb n 20) (by_name read MissingPositionalOnly d)
    (cond (eqb n 21) (by_name read Missing d)
    (cond (eqb n 22) (by_name read MissingNamedOnly d)
    (cond (eqb n 23) (by_count ExtraPositionalArg d)
    (cond (eqb n 24) (by_names read named d) none))))))))

abbrev pub failing : {X : Type 0} → Option FunctionError → Option (Result X)
failing none = none
failing (some e) = some (err e)

-- an answer as a result: `r` where nothing is refused, else the error
abbrev pub ends : {X : Type 0} → (Part → List ℕ) → List Named → Answer → Result X → Option (Result X)
ends read named fine r = some r
ends read named (refuse n d) r = failing (error_of read named n d)

-- how the Rust ends for a list and a call, over their areas
unfoldable pub ending : List ℕ → List ℕ → List Parameter → Call → Option (Result (List (Option Held)))
ending spec_bytes call_bytes qs c =
    let stars : List Value = star_remainder qs (positionals_of c) in
    let named : List Named = named_remainder qs (named_of c) in
    ends (part_bytes spec_bytes call_bytes) named (binding_missing_first qs c) (ok (map (held_in stars named) (place qs (positionals_of c) (named_of c))))
