-- The pairs of the named remainder as they are written, and the board of an accepted call by the list and the sources of names.
use Rattle.std.specs.Prelude.{◌≡◌, List, ◌++◌, ℕ, ◌+◌, ◌-◌, ◌≤◌, ◌<◌, length, get_or}
use Rattle.rules.specs.Listing.{tally}
use Rattle.rules.specs.Cells.{write_each}
use Rattle.rules.specs.Value.{call_text, value_cells}
use Rattle.rules.specs.CallRecord.{Head}
use Rattle.rules.specs.Placement as rules
use Rattle.rules.specs.Board.{slot_cells, named_cells}
use Rattle.cells.specs.Record.{pair_at}
use Rattle.cells.specs.Out.{stored}
use Rattle.builder.specs.declared.spec.ParametersSpec.{ParametersSpec}
use Rattle.calls.specs.Head.{Few}
use Rattle.calls.specs.Values.{values_in}
use Rattle.findings.specs.Entries.{held_names}
use Rattle.slots.specs.Slots.{slots_of}
use Rattle.answers.specs.declared.answer.Counts.{Counts}

-- the pairs of the named remainder stand near, under names that are texts
pub record RestHeld (cells rest : List ℕ) (count : ℕ) : Type 0 where
  pub few : count ≤ 128
  pub pairs : length rest ≡ 128
  pub near : (j : ℕ) → j < count → get_or rest j 0 ≤ 2048
  pub text : (j : ℕ) → j < count → (pair_at cells (get_or rest j 0)).kind ≡ call_text

-- how many values of P find no positional parameter
abbrev pub star_left : ℕ → Head → ℕ
star_left positional h = h.p + h.s - positional

-- the slots of a list, where the named remainder has `count` elements
abbrev pub slots_in : ParametersSpec → List ℕ → Head → ℕ → List ℕ → ℕ → List rules.Slot
slots_in l cells h next sources count = slots_of l.params sources cells h next (star_left l.indices.num_positional h) count l.params.len

-- the cells that are written
abbrev pub written_in : ParametersSpec → List ℕ → List ℕ → Head → ℕ → List ℕ → List ℕ → ℕ → List ℕ
written_in l area cells h next sources rest count =
    write_each slot_cells (slots_in l cells h next sources count)
    ++ (write_each value_cells (values_in cells h l.indices.num_positional (star_left l.indices.num_positional h)) ++ write_each named_cells (held_names area cells rest count))

-- a list and a call within the limits, and a board that has room for them
pub record BoardReady (l : ParametersSpec) (cells : List ℕ) (h : Head) (rest : List ℕ) (count : ℕ) (board : List ℕ) : Type 0 where
  pub room : l.params.len ≤ 64
  pub few_positional : l.indices.num_positional ≤ 64
  pub few : Few 64 h
  pub held : RestHeld cells rest count
  pub long : 896 ≤ length board

pub record BoardWritten (l : ParametersSpec) (cells : List ℕ) (h : Head) (next : ℕ) (sources rest : List ℕ) (count : ℕ) (before after : List ℕ) (r : Counts) : Type 0 where
  pub board : (area : List ℕ) → after ≡ stored before 0 (written_in l area cells h next sources rest count)
  pub taken : r.taken ≡ tally rules.is_taken (slots_in l cells h next sources count)
  pub defaulted : r.defaulted ≡ tally rules.is_defaulted (slots_in l cells h next sources count)
  pub star : r.star ≡ star_left l.indices.num_positional h
  pub named : r.named ≡ count
