-- What can be printed (01, sheets): values, names and details that lie inside their areas. Records that pass their questions hold nothing
-- else, and printing asks for it.
use Rattle.std.specs.Prelude.{Bool, true, not, ◌&&◌, ◌||◌, List, ◌≡◌, ℕ, ◌+◌, leb, length}
use Rattle.rules.specs.Listing.{all}
use Rattle.rules.specs.Text.{Text, bytes_at, is_text, same_bytes}
use Rattle.rules.specs.Value.{Value, well_formed_default, well_formed_argument}
use Rattle.rules.specs.Answer.{Answer, fine, refuse, Detail, none, name, count, count_and_name, bounds, Area, spec_area, call_area, Part}
use Rattle.rules.specs.CallRecord.{Named}
use Rattle.rules.specs.Parameters.{Parameter, ParameterKind, required, optional, defaulted, args, kwargs, plain}

-- a value: a default, or an argument of the call
unfoldable pub printable : List ℕ → List ℕ → Value → Bool
printable spec call v = well_formed_default spec v || well_formed_argument call v

-- a text whose bytes stand where its payload says
unfoldable pub printable_text : List ℕ → Text → Bool
printable_text area t = is_text 0 area t.payload && same_bytes t.bytes (bytes_at area t.payload)

-- a named value, whose name stands in the call area
unfoldable pub printable_named : List ℕ → List ℕ → Named → Bool
printable_named spec call v = printable_text call v.name && printable spec call v.value

abbrev pub printable_default : List ℕ → ParameterKind → Bool
printable_default spec required = true
printable_default spec optional = true
printable_default spec (defaulted v) = well_formed_default spec v
printable_default spec args = true
printable_default spec kwargs = true

-- a parameter: its name, if it has one of its own, stands in the spec area, and so does its default
unfoldable pub printable_parameter : List ℕ → Parameter → Bool
printable_parameter spec q = (not (plain q.kind) || printable_text spec q.name) && printable_default spec q.kind

-- a list and a call
pub record AllPrintable (spec call : List ℕ) (qs : List Parameter) (P : List Value) (N : List Named) : Type 0 where
  pub parameters : all (printable_parameter spec) qs ≡ true
  pub positionals : all (printable spec call) P ≡ true
  pub named : all (printable_named spec call) N ≡ true

-- ---- details

abbrev pub area_of : List ℕ → List ℕ → Area → List ℕ
area_of spec call spec_area = spec
area_of spec call call_area = call

-- a place that is one of a text of at most 64 bytes
unfoldable pub part_inside : List ℕ → List ℕ → Part → Bool
part_inside spec call p =
    leb p.start 65535 && leb (p.start + p.size) (length (area_of spec call p.area)) && leb 0 p.size && leb p.size 64

abbrev pub detail_inside : List ℕ → List ℕ → Detail → Bool
detail_inside spec call none = true
detail_inside spec call (name p) = part_inside spec call p
detail_inside spec call (count n) = true
detail_inside spec call (count_and_name n p) = part_inside spec call p
detail_inside spec call (bounds a b c) = true

abbrev pub answer_inside : List ℕ → List ℕ → Answer → Bool
answer_inside spec call fine = true
answer_inside spec call (refuse n d) = detail_inside spec call d
