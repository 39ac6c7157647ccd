-- Laws of the board of an accepted call: its three parts stored one behind the other; and, where the names are resolved against a prepared
-- list, that the board and the counts are those of placement.
-- Assumes nothing.
use mathlib.Core.Path.{◌≡◌, refl, sym, ap, ap₂, ◌∙◌}
use mathlib.Core.List.{List, [], ◌∷◌, ◌++◌, append_assoc}
use Prim.Native.Nat.{ℕ, ◌+◌, ◌-◌, ◌*◌, min, ◌≤◌, ◌<◌}
use native.Mathlib.Omega.{arith}
use lib.ListN.{length, take, get_or, length-append, length-drop, length-map, length-take}
use lib.Seq.{get_or-drop}
use Rattle.rules.specs.Listing.{tally}
use Rattle.rules.specs.Cells.{write_each}
use Rattle.rules.specs.Value.{Value, no_value, value_cells}
use Rattle.rules.specs.CallRecord.{Head, Named}
use Rattle.rules.specs.Placement as rules
use Rattle.rules.specs.Parameters.{Parameter, positional_count}
use Rattle.rules.specs.Board.{slot_value, slot_cells, named_cells, written, board_after}
use Rattle.rules.proofs.LawsRecord.{length_write_each}
use Rattle.cells.specs.Out.{stored}
use Rattle.cells.specs.Listed.{listed}
use Rattle.builder.specs.Params.{parameters_in}
use Rattle.builder.specs.declared.spec.ParametersSpec.{ParametersSpec}
use Rattle.cells.proofs.LawsListed.{length_listed, elements}
use Rattle.findings.specs.Resolved.{named_at, Resolved}
use Rattle.findings.specs.Resolve.{Prepared}
use Rattle.answers.specs.Answer as answer
use Rattle.findings.specs.Entries.{held_names}
use Rattle.slots.specs.Slots.{slots_of, Filling}
use Rattle.calls.specs.Values.{positional_at, values_in}
use Rattle.slots.specs.Board.{star_left, slots_in, written_in, BoardReady, BoardWritten}
use Rattle.answers.specs.declared.answer.Counts.{Counts}
use Rattle.slots.specs.declared.slots.Filled.{Filled}
use Rattle.cells.proofs.LawsOut.{stored_stored, stored_first}
use Rattle.cells.proofs.LawsWrite.{value_cells_two}
use Rattle.slots.proofs.LawsPairs.{named_wide}
use Rattle.slots.proofs.LawsPlaced.{place_is, slots_are}

-- ---- three parts, one behind the other

module _ (slots : List rules.Slot) (values : List Value) (names : List Named) (len star count : ℕ) (few-slots : length slots ≡ len) (few_values : length values ≡ star) (few_names : length names ≡ count) where
  slots_wide : length (write_each slot_cells slots) ≡ 2 * len
  unfolding slot_cells
  slots_wide = length_write_each 2 (λ cells. rules.empty) slot_cells (λ s. value_cells_two (slot_value s)) slots ∙ ap (λ n. 2 * n) few-slots

  values_wide : length (write_each value_cells values) ≡ 2 * star
  values_wide = length_write_each 2 (λ cells. no_value) value_cells value_cells_two values ∙ ap (λ n. 2 * n) few_values

  names_wide : length (write_each named_cells names) ≡ 4 * count
  names_wide = length_wide names ∙ ap (λ n. 4 * n) few_names
    where
      length_wide : (vs : List Named) → length (write_each named_cells vs) ≡ 4 * length vs
      length_wide [] = refl
      length_wide (v ∷ vs) = length_write_each 4 (λ cells. v) named_cells named_wide (v ∷ vs)

  pub parts_length : length (write_each slot_cells slots ++ (write_each value_cells values ++ write_each named_cells names)) ≡ 2 * len + (2 * star + 4 * count)
  parts_length =
      length-append (write_each slot_cells slots) (write_each value_cells values ++ write_each named_cells names)
      ∙ ap₂ (λ a b. a + b) slots_wide (length-append (write_each value_cells values) (write_each named_cells names) ∙ ap₂ (λ a b. a + b) values_wide names_wide)

  pub parts_stored : (before : List ℕ) → 2 * len + 2 * star + 4 * count ≤ length before
      → stored (stored (stored before 0 (write_each slot_cells slots)) (2 * len) (write_each value_cells values)) (2 * len + 2 * star) (write_each named_cells names)
      ≡ stored before 0 (write_each slot_cells slots ++ (write_each value_cells values ++ write_each named_cells names))
  parts_stored before room =
      ap (λ b. stored b (2 * len + 2 * star) (write_each named_cells names)) first
      ∙ stored_stored before (write_each slot_cells slots ++ write_each value_cells values) (write_each named_cells names) 0 (2 * len + 2 * star) (omega (arith, both)) (omega (arith, names_wide))
      ∙ ap (stored before 0) (append_assoc (write_each slot_cells slots) (write_each value_cells values) (write_each named_cells names))
    where
      both : length (write_each slot_cells slots ++ write_each value_cells values) ≡ 2 * len + 2 * star
      both = length-append (write_each slot_cells slots) (write_each value_cells values) ∙ ap₂ (λ a b. a + b) slots_wide values_wide

      first : stored (stored before 0 (write_each slot_cells slots)) (2 * len) (write_each value_cells values) ≡ stored before 0 (write_each slot_cells slots ++ write_each value_cells values)
      first = stored_stored before (write_each slot_cells slots) (write_each value_cells values) 0 (2 * len) (omega (arith, slots_wide)) (omega (arith, values_wide))

module _ {l : ParametersSpec} {cells rest before : List ℕ} {h : Head} {count star : ℕ} (next : ℕ) (sources : List ℕ) (ready : BoardReady l cells h rest count before) (left : star ≡ star_left l.indices.num_positional h) where
  abbrev slots_of_lem : List rules.Slot
  slots_of_lem = slots_of l.params sources cells h next star count l.params.len

  abbrev counted : Filled → Counts
  counted f = record { taken = f.taken; defaulted = f.defaulted; star = star; named = count }

  held_length : (area : List ℕ) → length (held_names area cells rest count) ≡ count
  held_length area = length-map (take count rest) (named_at area cells) ∙ length-take count rest ∙ least
    where
      least : min count (length rest) ≡ count
      least = omega (arith, ready.held.few, ready.held.pairs)

  -- the cells fit
  pub written_fits : (area : List ℕ) → length (written_in l area cells h next sources rest count) ≤ length before
  written_fits area =
      omega (
        arith,
        parts_length (slots_in l cells h next sources count) (values_in cells h l.indices.num_positional (star_left l.indices.num_positional h)) (held_names area cells rest count) l.params.len (star_left l.indices.num_positional h) count (length_listed _ 0 l.params.len) (length_listed (positional_at cells h) l.indices.num_positional (star_left l.indices.num_positional h)) (held_length area),
        ready.room,
        ready.few.few_p,
        ready.few.few_s,
        ready.held.few,
        ready.long,
      )

  pub board_written : {slots-in values-in after : List ℕ} {f : Filled} → Filling slots_of_lem before slots-in f
      → values-in ≡ stored slots-in (2 * l.params.len) (write_each value_cells (values_in cells h l.indices.num_positional star))
      → ((area : List ℕ) → after ≡ stored values-in (2 * l.params.len + 2 * star) (write_each named_cells (held_names area cells rest count)))
      → BoardWritten l cells h next sources rest count before after (counted f)
  board_written {f = f} fill ev en =
      record {
        board =
            λ area.
            en area
            ∙ ap (λ b. stored b (2 * l.params.len + 2 * star) (write_each named_cells (held_names area cells rest count))) (ev ∙ ap (λ b. stored b (2 * l.params.len) (write_each value_cells (values_in cells h l.indices.num_positional star))) fill.board)
            ∙ parts_stored slots_of_lem (values_in cells h l.indices.num_positional star) (held_names area cells rest count) l.params.len star count (length_listed _ 0 l.params.len) (length_listed (positional_at cells h) l.indices.num_positional star) (held_length area) before
            (omega (arith, ready.room, ready.few.few_p, ready.few.few_s, ready.held.few, ready.long))
            ∙ ap (λ n. stored before 0 (write_each slot_cells (slots_of l.params sources cells h next n count l.params.len) ++ (write_each value_cells (values_in cells h l.indices.num_positional n) ++ write_each named_cells (held_names area cells rest count)))) left;
        taken = fill.taken ∙ ap (λ n. tally rules.is_taken (slots_of l.params sources cells h next n count l.params.len)) left;
        defaulted = fill.defaulted ∙ ap (λ n. tally rules.is_defaulted (slots_of l.params sources cells h next n count l.params.len)) left;
        star = left;
        named = refl;
      }

-- ---- what placement gives

pub remainder_length : (qs : List Parameter) (cells area : List ℕ) (N : List Named) (sources rest : List ℕ) (count : ℕ) → Resolved qs cells area N sources rest count → count ≤ 128 → length (rules.named_remainder qs N) ≡ count
remainder_length qs cells area N sources rest count r few = ap length r.rest_is ∙ length-map (take count rest) (named_at area cells) ∙ length-take count rest ∙ least
  where
    least : min count (length rest) ≡ count
    least = omega (arith, r.pairs)

module _ (spec : List ℕ) (l : ParametersSpec) (list : Prepared spec l) (cells area : List ℕ) (P : List Value) (N : List Named) (sources rest : List ℕ) (count next : ℕ)
    (upto : next ≡ min (length P) (positional_count (parameters_in spec l.params))) (r : Resolved (parameters_in spec l.params) cells area N sources rest count) (few : count ≤ 128) (h : Head)
    (values : (k : ℕ) → k < length P → get_or P k no_value ≡ positional_at cells h k) (long : length P ≡ h.p + h.s) where
  abbrev qs : List Parameter
  qs = parameters_in spec l.params

  pub star_length : length (rules.star_remainder qs P) ≡ star_left l.indices.num_positional h
  unfolding rules.star_remainder
  star_length = length-drop (positional_count qs) P ∙ ap₂ (λ a b. a - b) long (sym list.is_list.positional)

  star_is : rules.star_remainder qs P ≡ values_in cells h l.indices.num_positional (star_left l.indices.num_positional h)
  unfolding rules.star_remainder
  star_is = elements (positional_at cells h) no_value l.indices.num_positional (rules.star_remainder qs P) each ∙ ap (listed (positional_at cells h) l.indices.num_positional) star_length
    where
      each : (k : ℕ) → k < length (rules.star_remainder qs P) → get_or (rules.star_remainder qs P) k no_value ≡ positional_at cells h (l.indices.num_positional + k)
      each k below =
          get_or-drop (positional_count qs) P k no_value
          ∙ values (positional_count qs + k) (omega (arith, length-drop (positional_count qs) P))
          ∙ ap (λ n. positional_at cells h (n + k)) (sym list.is_list.positional)

  place_slots : rules.place qs P N ≡ slots_in l cells h next sources count
  place_slots =
      place_is spec l list cells area P N sources rest count next upto r h values (star_left l.indices.num_positional h) count
      ∙ slots_are spec l list cells area P N sources rest count next upto r h values (length (rules.star_remainder qs P)) (length (rules.named_remainder qs N))
      ∙ ap₂ (λ a b. slots_of l.params sources cells h next a b l.params.len) star_length (remainder_length qs cells area N sources rest count r few)

  written_is : written qs P N ≡ written_in l area cells h next sources rest count
  unfolding written
  written_is = ap₂ (λ a b. write_each slot_cells a ++ b) place_slots (ap₂ (λ a b. write_each value_cells a ++ write_each named_cells b) star_is r.rest_is)

  module _ (before after : List ℕ) (c : Counts) (so : BoardWritten l cells h next sources rest count before after c) where
    pub board_placed : BoardReady l cells h rest count before → after ≡ board_after qs P N before
    unfolding board_after
    board_placed ready =
        so.board area ∙ ap (stored before 0) (sym written_is)
        ∙ stored_first before (written qs P N) (rw written_is (written_fits next sources ready refl area))

    pub counts_placed : answer.counts_of c ≡ rules.counts_of qs P N
    unfolding rules.counts_of
    counts_placed = four (so.taken ∙ ap (tally rules.is_taken) (sym place_slots)) (so.defaulted ∙ ap (tally rules.is_defaulted) (sym place_slots)) (so.star ∙ sym star_length) (so.named ∙ sym (remainder_length qs cells area N sources rest count r few))
      where
        four : {a b d e a' b' d' e' : ℕ} → a ≡ a' → b ≡ b' → d ≡ d' → e ≡ e' → ◌≡◌ {A = rules.Counts} (record { taken = a; defaulted = b; star = d; named = e }) (record { taken = a'; defaulted = b'; star = d'; named = e' })
        four p q u v = rw (p, q, u, v)
