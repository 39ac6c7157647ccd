-- Can-fill, whole (01, collector and can-fill): after questions 1 to 11 it looks at how many positionals and which names are written, and at
-- nothing else of the call. This file mentions neither placement nor any question after 11.
use Rattle.std.specs.Prelude.{Bool, cond, not, ◌&&◌, ◌||◌, List, map, ℕ, ◌+◌, leb, ltb, eqb, length}
use Rattle.rules.specs.Listing.{all, any_from, tally}
use Rattle.rules.specs.Answer.{Answer, fine, refuse, ◌then◌, Detail}
use Rattle.rules.specs.CallRecord.{CallRecord, read_call, named_in}
use Rattle.rules.specs.Parameters.{Parameter, is_required, positional, positional_count, has_args, has_kwargs}
use Rattle.rules.specs.Lookup.{names, known}
use Rattle.rules.specs.ParameterQuestions.{ask_parameters, list_of}
use Rattle.rules.specs.CallQuestions.{ask_form}

-- how often slot i, of parameter q, is filled: once if it is positional and below p, and once for each name that is the parameter's
unfoldable pub fillings : ℕ → List (List ℕ) → ℕ → Parameter → ℕ
fillings p written i q = cond (positional q && ltb i p) 1 0 + tally (λ n. names n q) written

-- some slot is filled more than once
unfoldable pub filled_twice : List Parameter → ℕ → List (List ℕ) → Bool
filled_twice qs p written = any_from (λ i q. ltb 1 (fillings p written i q)) 0 qs

-- some required parameter's slot is not filled
unfoldable pub left_empty : List Parameter → ℕ → List (List ℕ) → Bool
left_empty qs p written = any_from (λ i q. is_required q.kind && eqb (fillings p written i q) 0) 0 qs

-- yes, if surplus positionals have *args to go to, no slot is filled twice, unknown names have **kwargs to go to, and no required slot is
-- left empty
unfoldable pub can_fill : List Parameter → ℕ → List (List ℕ) → Bool
can_fill qs p written =
    (leb p (positional_count qs) || has_args qs)
    && not (filled_twice qs p written)
    && (all (known qs) written || has_kwargs qs)
    && not (left_empty qs p written)

-- refused by one of 1 to 11, or answered
pub data Filling : Type 0 where
  refused_filling : ℕ → Detail → Filling
  answered : Bool → Filling

abbrev pub filling_of : Answer → Bool → Filling
filling_of (refuse n d) b = refused_filling n d
filling_of fine b = answered b

-- can-fill of a call record against a parameter record, each over its area
unfoldable pub fillable : ℕ → ℕ → List ℕ → List ℕ → List ℕ → List ℕ → Filling
fillable A B spec_cells spec_bytes call_cells call_bytes =
    let r : CallRecord = read_call call_cells in
    filling_of (ask_parameters A spec_cells spec_bytes then ask_form B call_cells call_bytes)
    (can_fill (list_of spec_cells spec_bytes) (length r.positionals) (map (λ p. (named_in call_bytes p).name.bytes) r.named))
