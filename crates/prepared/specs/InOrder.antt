-- A call whose arguments stand in the list's order, one for each parameter: the values of P for the first ones, and the named values of N,
-- each named after its own parameter, for the others. What the code asks of such a call, and what it then writes.
use Rattle.std.specs.Prelude.{◌≡◌, Result, Ok, Err, Bool, true, false, ◌&&◌, List, [], ◌∷◌, ◌++◌, map, ℕ, zero, suc, ◌+◌, ◌*◌, ◌<◌, ◌≤◌, length, drop, get_or}
use Rattle.rules.specs.Cells.{write_each}
use Rattle.rules.specs.Text.{bytes_at}
use Rattle.rules.specs.Value.{Value, value_cells, call_text, well_formed_key}
use Rattle.rules.specs.Answer.{fine}
use Rattle.rules.specs.CallRecord.{Head, head_width, read_head, Call, Named, entries_of, positionals_of, named_of}
use Rattle.rules.specs.CallQuestions.{ask_form}
use Rattle.rules.specs.Parameters.{Parameter, positional_count}
use Rattle.rules.specs.Lookup.{names}
use Rattle.rules.specs.Accessors.{is_word}
use Rattle.rules.specs.Listing.{all}
use Rattle.rules.specs.Binding.{star_passes, double_passes}
use Rattle.cells.specs.Record.{pair_at}
use Rattle.cells.specs.Out.{stored}
use Rattle.cells.specs.declared.question.Question.TheVariants.{ShortBoard}
use Rattle.answers.specs.declared.answer.Counts.{Counts}
use Rattle.answers.specs.declared.answer.Refusal.{Refusal}
use Rattle.answers.specs.declared.answer.Refusal.TheVariants.{Record}
use Rattle.calls.specs.Head.{items_from, named_from, entries_from}
use Rattle.calls.specs.Runs.{values_at, pairs_at}
use Rattle.prepared.specs.Prepared.{is_prepared}
use Rattle.prepared.specs.Rows.{row_at, param_at, Keyed}
use Rattle.prepared.specs.Load.{by_position}

-- ---- the call

-- each named value is named after its own parameter, and there are as many
abbrev pub in_turn : List Parameter → List Named → Bool
in_turn [] [] = true
in_turn [] (v ∷ vs) = false
in_turn (q ∷ qs) [] = false
in_turn (q ∷ qs) (v ∷ vs) = names v.name.bytes q && in_turn qs vs

-- both stars pass, P has no more values than there are positional parameters, every key is a text, and N names the other parameters in turn
pub record InOrder (qs : List Parameter) (c : Call) : Type 0 where
  pub star : star_passes c.star ≡ true
  pub double : double_passes c.double ≡ true
  pub few : length (positionals_of c) ≤ positional_count qs
  pub texts : all (λ e. is_word e.key) (entries_of c.double) ≡ true
  pub named : in_turn (drop (length (positionals_of c)) qs) (named_of c) ≡ true

-- ---- how it is seen

-- cells that are a prepared list of `len` rows, and a call record with this head that passes 9 to 11
pub record OrderReady (spec list cells area : List ℕ) (h : Head) (len : ℕ) : Type 0 where
  pub prepared : is_prepared spec list ≡ true
  pub count : len ≡ get_or list 0 0
  pub read : h ≡ read_head cells
  pub formed : ask_form 64 cells area ≡ fine

-- the last of the first `count` rows is positional, if there is one
abbrev pub positional_to : List ℕ → ℕ → Bool
positional_to list zero = true
positional_to list (suc k) = by_position (row_at list k).step.code (row_at list k).style

-- `count` rows from number `row` on, and as many pairs with keys from a cell on
pub record TurnReady (spec list cells area : List ℕ) (from count row : ℕ) : Type 0 where
  pub keyed : Keyed spec list (row + count)
  pub few : row + count ≤ 64
  pub near : from ≤ 1024
  pub within : from + 4 * count ≤ length cells
  pub keys : (k : ℕ) → k < count → well_formed_key area (pair_at cells (from + 4 * k)) ≡ true

-- the pair at a cell is named after a row: its key is a text, the name of the row's parameter
pub record NamedAfter (spec list cells area : List ℕ) (pair row : ℕ) : Type 0 where
  pub text : (pair_at cells pair).kind ≡ call_text
  pub named : names (bytes_at area (pair_at cells pair).payload) (param_at spec list row) ≡ true

-- ---- what is written

-- the values of a run of pairs
abbrev pub pair_values : List ℕ → ℕ → ℕ → List Value
pair_values cells from count = map (λ p. p.value) (pairs_at cells from count)

-- all values as they stand in the record: the written ones, the items, those of the written pairs, those of the entries
unfoldable pub values_in_order : List ℕ → Head → List Value
values_in_order cells h =
    (values_at cells head_width h.p ++ values_at cells (items_from h) h.s) ++ (pair_values cells (named_from h) h.n ++ pair_values cells (entries_from h) h.d)

-- 14 is asked, and then they are the slots
pub record InOrderEnds (cells : List ℕ) (h : Head) (len : ℕ) (before after : List ℕ) (r : Result Counts Refusal) : Type 0 where
  pub short : length before < 896 → (r ≡ Err (Record ShortBoard)) × (after ≡ before)
  pub long : 896 ≤ length before → (r ≡ Ok (record { taken = len; defaulted = 0; star = 0; named = 0 })) × (after ≡ stored before 0 (write_each value_cells (values_in_order cells h)))
