-- Rows of a call in counts (01, sheets): what a row asks of the rows before it, and what it adds to them.
-- B is the number of values that each part of a call may have.
use Rattle.std.specs.Prelude.{Bool, false, cond, ◌&&◌, ◌||◌, List, ℕ, ◌+◌, ltb, eqb}
use Rattle.rules.specs.Listing.{tally}
use Rattle.rules.specs.SheetLines.{Row}
use Rattle.rules.specs.SheetRows.{is_empty, is_value, is_def, step_right, CallPart, positional, named, star, item, double, entry, unknown_part, call_part, is_part, is_list, is_dict, is_other}
use Rattle.rules.specs.SheetRecords.{kind_by}
use Rattle.calls.specs.declared.head.Head.{Head}

-- ---- the parameter sheet

-- a row of a parameter sheet with so many rows before it; A is the number of parameters that a list may have
unfoldable pub parameter_fits : ℕ → ℕ → Row → Bool
parameter_fits A before r = cond (eqb before 0) (is_def r && is_empty r.value) (step_right r && ltb before (A + 3))

-- ---- the call sheet

unfoldable pub counts_of : List Row → Head
counts_of rows =
    record {
      p = tally (is_part positional) rows;
      n = tally (is_part named) rows;
      star_kind = kind_by star is_list rows;
      s = tally (is_part item) rows;
      double_kind = kind_by double is_dict rows;
      d = tally (is_part entry) rows;
    }

-- may a row of a part, with this name and this value, stand behind rows of these counts?
abbrev pub fits_as : ℕ → Head → CallPart → List ℕ → List ℕ → Bool
fits_as B k positional name value = is_empty name && is_value value && ltb k.p B
fits_as B k named name value = is_value value && ltb k.n B
fits_as B k star name value = is_empty name && (is_list value || is_other value) && eqb k.star_kind 0
fits_as B k item name value = is_empty name && is_value value && eqb k.star_kind 1 && ltb k.s B
fits_as B k double name value = is_empty name && (is_dict value || is_other value) && eqb k.double_kind 0
fits_as B k entry name value = is_value name && is_value value && eqb k.double_kind 1 && ltb k.d B
fits_as B k unknown_part name value = false

unfoldable pub fits : ℕ → Head → Row → Bool
fits B k r = fits_as B k (call_part r.part) r.name r.value

-- the counts with such a row more
abbrev pub more_as : Head → CallPart → List ℕ → Head
more_as k positional value = record { p = k.p + 1; n = k.n; star_kind = k.star_kind; s = k.s; double_kind = k.double_kind; d = k.d }
more_as k named value = record { p = k.p; n = k.n + 1; star_kind = k.star_kind; s = k.s; double_kind = k.double_kind; d = k.d }
more_as k star value = record { p = k.p; n = k.n; star_kind = cond (is_list value) 1 2; s = k.s; double_kind = k.double_kind; d = k.d }
more_as k item value = record { p = k.p; n = k.n; star_kind = k.star_kind; s = k.s + 1; double_kind = k.double_kind; d = k.d }
more_as k double value = record { p = k.p; n = k.n; star_kind = k.star_kind; s = k.s; double_kind = cond (is_dict value) 1 2; d = k.d }
more_as k entry value = record { p = k.p; n = k.n; star_kind = k.star_kind; s = k.s; double_kind = k.double_kind; d = k.d + 1 }
more_as k unknown_part value = k

unfoldable pub more : Head → Row → Head
more k r = more_as k (call_part r.part) r.value
