-- A slot of the code, and what stands in slot k by the list's parameters and the sources of names.
use Rattle.std.specs.Prelude.{◌≡◌, cond, List, ℕ, ltb, drop, get_or}
use Rattle.rules.specs.Listing.{tally}
use Rattle.rules.specs.Cells.{write_each}
use Rattle.rules.specs.Value.{Value, read_value}
use Rattle.rules.specs.CallRecord.{Head}
use Rattle.rules.specs.Parameters.{act_of}
use Rattle.rules.specs.Placement as rules
use Rattle.cells.specs.Value.{value, pair_of}
use Rattle.rules.specs.Board.{slot_cells}
use Rattle.cells.specs.Out.{stored}
use Rattle.cells.specs.Listed.{listed}
use Rattle.builder.specs.Params.{kind_for}
use Rattle.builder.specs.declared.params.Parameters.{Parameters}
use Rattle.calls.specs.Places.{position_at}
use Rattle.findings.specs.Resolved.{source_value}
use Rattle.slots.specs.declared.slots.Filled.{Filled}
use Rattle.slots.specs.declared.slots.Slot.{Slot}
use Rattle.slots.specs.declared.slots.Slot.TheVariants.{Empty, Taken, Default, Args, KWargs}

-- a slot of the code, where the remainders have `stars` and `named` elements
abbrev pub slot_in : Slot → ℕ → ℕ → rules.Slot
slot_in Empty stars named = rules.empty
slot_in (Taken p) stars named = rules.taken (pair_of p)
slot_in (Default p) stars named = rules.from_default (pair_of p)
slot_in Args stars named = rules.star_count stars
slot_in KWargs stars named = rules.named_count named

-- the slot of a parameter that is given nothing, by the code of its step and its default
abbrev pub unfilled_as : ℕ → Value → ℕ → ℕ → rules.Slot
unfilled_as code default stars named = rules.otherwise (kind_for (act_of code default)) stars named

-- slot k: from P below `next`, else from a name, else by the parameter's code
unfoldable pub slot_at : Parameters → List ℕ → List ℕ → Head → ℕ → ℕ → ℕ → ℕ → rules.Slot
slot_at p sources cells h next k stars named =
    cond (ltb k next) (rules.taken (read_value (drop (position_at 64 h k) cells)))
    (rules.taken_or (source_value cells (get_or sources k 0)) (unfilled_as (get_or p.codes k 0) (value (get_or p.default_kinds k 0) (get_or p.default_payloads k 0)) stars named))

-- the first `len` slots
abbrev pub slots_of : Parameters → List ℕ → List ℕ → Head → ℕ → ℕ → ℕ → ℕ → List rules.Slot
slots_of p sources cells h next stars named len = listed (λ k. slot_at p sources cells h next k stars named) 0 len

-- some slots written from cell 0 on, and counted
pub record Filling (slots : List rules.Slot) (before after : List ℕ) (r : Filled) : Type 0 where
  pub board : after ≡ stored before 0 (write_each slot_cells slots)
  pub taken : r.taken ≡ tally rules.is_taken slots
  pub defaulted : r.defaulted ≡ tally rules.is_defaulted slots
