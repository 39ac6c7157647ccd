-- What a board shows, line by line, is 01's text (01, sheets), if the list and the call can be printed. In this order: lines at indices and lines
-- of lists; cells read off a board that was written; what two cells show; the slot of a parameter, which shows what the definition prints.
-- Assumes nothing.
use mathlib.Core.Path.{◌≡◌, refl, sym, ap, ap₂, ◌∙◌}
use mathlib.Core.Bool.{Bool, true, false, cond, not, ◌&&◌, ◌||◌, false≢true, true≢false}
use mathlib.Core.List.{List, [], ◌∷◌, ◌++◌, map, append_assoc, append-nil}
use mathlib.Core.Option.{none, some}
use Prim.Native.Nat.{ℕ, zero, suc, ◌+◌, ◌*◌, ◌<◌, ◌^◌}
use native.Mathlib.Nat.{add-zero}
use native.Mathlib.Omega.{arith}
use lib.Dec.{eqb, ltb}
use lib.ListN.{length, drop, get_or, length-map, get_or-map}
use lib.Seq.{drop_at, drop-drop}
use borrow.Author.Tests.{ne_eqb, ltb-true}
use Rattle.rules.specs.Listing.{all}
use Rattle.rules.specs.Cells.{read_each, write_each}
use Rattle.rules.specs.Text.{Text, is_text, bytes_at}
use Rattle.rules.specs.Value.{Value, no_value, value_width, value_cells, read_value, spec_text, call_text, well_formed, well_formed_default, well_formed_argument}
use Rattle.rules.specs.CallRecord.{Named, Pair, pair_width, pair_cells, read_pair}
use Rattle.rules.specs.Parameters.{Parameter, ParameterKind, required, optional, defaulted, args, kwargs, plain, positional, nameable}
use Rattle.rules.specs.Lookup.{names}
use Rattle.rules.specs.Placement.{Slot, empty, taken, from_default, star_count, named_count, from_p, partner, otherwise, taken_or, slot_of}
use Rattle.rules.specs.Board.{slot_value, slot_cells, named_cells}
use Rattle.rules.specs.SheetValue.{decimal, print_value}
use Rattle.rules.specs.SheetOutput.{line, slot_name, slot_text, slot_lines, star_lines, named_lines}
use Rattle.sheet_output.specs.Printable.{printable, printable_text, printable_named, printable_parameter, printable_default}
use Rattle.rules.proofs.LawsListing.{and_left, and_right}
use Rattle.rules.proofs.LawsRecord.{length_write_each, read_each_write_each, value_cells_wide, read_value_value_cells, pair_cells_wide, read_pair_pair_cells}
use Rattle.sheet_output.proofs.LawsPrintable.{printable_slot, printable_inside, printable_bytes, parameter_text}
use Rattle.cells.specs.Record.{pair_at}
use Rattle.cells.specs.Value.{value, well_formed_slot}
use Rattle.cells.proofs.LawsListed.{all_at}
use Rattle.calls.proofs.LawsEach.{each_at}
use Rattle.sheet_output.specs.Line.{shown_name, shown_value, shown_as}
use Rattle.sheet_output.specs.Parts.{lines_to}
use Rattle.sheet_output.proofs.LawsLine.{shown_as_plain}

-- ---- lines at indices, and lines of lists

lines_front : (f : ℕ → List ℕ) (k : ℕ) → lines_to f (suc k) ≡ f 0 ++ lines_to (λ i. f (suc i)) k
lines_front f zero = sym (append-nil (f 0))
lines_front f (suc k) = ap (λ l. l ++ f (suc k)) (lines_front f k) ∙ append_assoc (f 0) (lines_to (λ i. f (suc i)) k) (f (suc k))

pub lines_same : (f g : ℕ → List ℕ) (k : ℕ) → ((j : ℕ) → j < k → f j ≡ g j) → lines_to f k ≡ lines_to g k
lines_same f g zero h = refl
lines_same f g (suc k) h = ap₂ (λ a b. a ++ b) (lines_same f g k (λ j l. h j (omega arith))) (h k (omega arith))

module _ (spec call : List ℕ) where
  pub slot_lines_lem : (d : Parameter) (e : Slot) (i : ℕ) (qs : List Parameter) (ss : List Slot) → length ss ≡ length qs
      → slot_lines spec call i qs ss ≡ lines_to (λ k. line (decimal (i + k)) (slot_name (get_or qs k d).kind (get_or qs k d).name.bytes) (slot_text spec call (get_or ss k e))) (length qs)
  slot_lines_lem d e i [] ss h = refl
  slot_lines_lem d e i (q ∷ qs) [] h = absurd (omega arith)
  slot_lines_lem d e i (q ∷ qs) (s ∷ ss) h =
      let f : ℕ → List ℕ = λ k. line (decimal (i + k)) (slot_name (get_or (q ∷ qs) k d).kind (get_or (q ∷ qs) k d).name.bytes) (slot_text spec call (get_or (s ∷ ss) k e)) in
      ap₂ (λ a b. a ++ b) (ap (λ n. line (decimal n) (slot_name q.kind q.name.bytes) (slot_text spec call s)) (sym (add-zero i)))
      (slot_lines_lem d e (suc i) qs ss (omega arith)
      ∙ lines_same (λ k. line (decimal (suc i + k)) (slot_name (get_or qs k d).kind (get_or qs k d).name.bytes) (slot_text spec call (get_or ss k e))) (λ k. f (suc k)) (length qs)
      (λ j l. ap (λ n. line (decimal n) (slot_name (get_or qs j d).kind (get_or qs j d).name.bytes) (slot_text spec call (get_or ss j e))) (step i j)))
      ∙ sym (lines_front f (length qs))
    where
      step : (a b : ℕ) → suc a + b ≡ a + suc b
      step a b = omega arith

  pub star_lines_lem : (vs : List Value) → star_lines spec call vs ≡ lines_to (λ k. line (115 ∷ 116 ∷ 97 ∷ 114 ∷ []) [] (print_value spec call (get_or vs k no_value))) (length vs)
  star_lines_lem [] = refl
  star_lines_lem (v ∷ vs) =
      ap (λ l. line (115 ∷ 116 ∷ 97 ∷ 114 ∷ []) [] (print_value spec call v) ++ l) (star_lines_lem vs)
      ∙ sym (lines_front (λ k. line (115 ∷ 116 ∷ 97 ∷ 114 ∷ []) [] (print_value spec call (get_or (v ∷ vs) k no_value))) (length vs))

  pub named_lines_lem : (d : Named) (vs : List Named)
      → named_lines spec call vs ≡ lines_to (λ k. line (110 ∷ 97 ∷ 109 ∷ 101 ∷ 100 ∷ []) (get_or vs k d).name.bytes (print_value spec call (get_or vs k d).value)) (length vs)
  named_lines_lem d [] = refl
  named_lines_lem d (v ∷ vs) =
      ap (λ l. line (110 ∷ 97 ∷ 109 ∷ 101 ∷ 100 ∷ []) v.name.bytes (print_value spec call v.value) ++ l) (named_lines_lem d vs)
      ∙ sym (lines_front (λ k. line (110 ∷ 97 ∷ 109 ∷ 101 ∷ 100 ∷ []) (get_or (v ∷ vs) k d).name.bytes (print_value spec call (get_or (v ∷ vs) k d).value)) (length vs))

-- ---- cells read off a board

-- a run that begins at an index is read back
module _ {X : Type 0} (width : ℕ) (read : List ℕ → X) (write : X → List ℕ) (wide : (x : X) → length (write x) ≡ width) (back : (x : X) (rest : List ℕ) → read (write x ++ rest) ≡ x) where
  run_read : (at : ℕ) (cells rest : List ℕ) (xs : List X) (k : ℕ) (d : X) → drop at cells ≡ write_each write xs ++ rest → k < length xs → read (drop (at + width * k) cells) ≡ get_or xs k d
  run_read at cells rest xs k d e h =
      sym (each_at width read cells at (length xs) k d h)
      ∙ ap (λ l. get_or (read_each width read (length xs) l) k d) e
      ∙ ap (λ l. get_or l k d) (read_each_write_each width read write wide back xs rest)

slot_cells_lem : (ss : List Slot) → write_each slot_cells ss ≡ write_each value_cells (map slot_value ss)
unfolding slot_cells
slot_cells_lem [] = refl
slot_cells_lem (s ∷ ss) = ap (λ l. value_cells (slot_value s) ++ l) (slot_cells_lem ss)

-- a named value as the pair that it is written as
abbrev pair_of_named : Named → Pair
pair_of_named v = record { key = record { kind = call_text; payload = v.name.payload }; value = v.value }

named_cells_lem : (vs : List Named) → write_each named_cells vs ≡ write_each pair_cells (map pair_of_named vs)
unfolding named_cells
named_cells_lem [] = refl
named_cells_lem (v ∷ vs) = ap (λ l. pair_cells (pair_of_named v) ++ l) (named_cells_lem vs)

module _ (ss : List Slot) (vs : List Value) (ns : List Named) (rest : List ℕ) where
  abbrev cells : List ℕ
  cells = (write_each slot_cells ss ++ (write_each value_cells vs ++ write_each named_cells ns)) ++ rest

  slots_at : drop 0 cells ≡ write_each value_cells (map slot_value ss) ++ ((write_each value_cells vs ++ write_each named_cells ns) ++ rest)
  slots_at =
      append_assoc (write_each slot_cells ss) (write_each value_cells vs ++ write_each named_cells ns) rest
      ∙ ap (λ l. l ++ ((write_each value_cells vs ++ write_each named_cells ns) ++ rest)) (slot_cells_lem ss)

  slots_long : length (write_each value_cells (map slot_value ss)) ≡ 2 * length ss
  unfolding value_width
  slots_long = length_write_each 2 read_value value_cells value_cells_wide (map slot_value ss) ∙ ap (λ n. 2 * n) (length-map ss slot_value)

  behind_slots : drop (2 * length ss) cells ≡ write_each value_cells vs ++ (write_each named_cells ns ++ rest)
  behind_slots =
      ap (drop (2 * length ss)) slots_at
      ∙ drop_at (write_each value_cells (map slot_value ss)) ((write_each value_cells vs ++ write_each named_cells ns) ++ rest) (2 * length ss) slots_long
      ∙ append_assoc (write_each value_cells vs) (write_each named_cells ns) rest

  stars_long : length (write_each value_cells vs) ≡ 2 * length vs
  unfolding value_width
  stars_long = length_write_each 2 read_value value_cells value_cells_wide vs

  behind_stars : drop (2 * length ss + 2 * length vs) cells ≡ write_each pair_cells (map pair_of_named ns) ++ rest
  behind_stars =
      sym (drop-drop (2 * length vs) (2 * length ss) cells)
      ∙ ap (drop (2 * length vs)) behind_slots
      ∙ drop_at (write_each value_cells vs) (write_each named_cells ns ++ rest) (2 * length vs) stars_long
      ∙ ap (λ l. l ++ rest) (named_cells_lem ns)

  pub slot_at : (k : ℕ) → k < length ss → pair_at cells (2 * k) ≡ slot_value (get_or ss k empty)
  unfolding pair_at value_width no_value
  slot_at k h =
      ap (λ n. read_value (drop n cells)) (zero_front (2 * k))
      ∙ run_read 2 read_value value_cells value_cells_wide read_value_value_cells 0 cells ((write_each value_cells vs ++ write_each named_cells ns) ++ rest) (map slot_value ss) k no_value slots_at (rw (length-map ss slot_value) h)
      ∙ get_or-map slot_value ss k empty
    where
      zero_front : (n : ℕ) → n ≡ 0 + n
      zero_front n = omega arith

  pub star_at : (k : ℕ) → k < length vs → pair_at cells (2 * length ss + 2 * k) ≡ get_or vs k no_value
  unfolding pair_at value_width
  star_at k h = run_read 2 read_value value_cells value_cells_wide read_value_value_cells (2 * length ss) cells (write_each named_cells ns ++ rest) vs k no_value behind_slots h

  named_pair : (d : Named) (k : ℕ) → k < length ns → read_pair (drop (2 * length ss + 2 * length vs + 4 * k) cells) ≡ pair_of_named (get_or ns k d)
  unfolding pair_width
  named_pair d k h =
      run_read 4 read_pair pair_cells pair_cells_wide read_pair_pair_cells (2 * length ss + 2 * length vs) cells rest (map pair_of_named ns) k (pair_of_named d) behind_stars (rw (length-map ns pair_of_named) h)
      ∙ get_or-map pair_of_named ns k d

  pub key_at : (d : Named) (k : ℕ) → k < length ns → pair_at cells (2 * length ss + 2 * length vs + 4 * k) ≡ record { kind = call_text; payload = (get_or ns k d).name.payload }
  unfolding pair_at read_pair
  key_at d k h = ap (λ p. p.key) (named_pair d k h)

  pub value_at : (d : Named) (k : ℕ) → k < length ns → pair_at cells (2 * length ss + 2 * length vs + 4 * k + 2) ≡ (get_or ns k d).value
  unfolding pair_at read_pair value_width
  value_at d k h =
      ap read_value (sym (drop-drop 2 (2 * length ss + 2 * length vs + 4 * k) cells)) ∙ ap (λ p. p.value) (named_pair d k h)

-- ---- what two cells show

past : (kind k : ℕ) → k < 8 → eqb (suc (suc (suc (suc (suc (suc (suc (suc kind)))))))) k ≡ false
past kind k h = ne_eqb (suc (suc (suc (suc (suc (suc (suc (suc kind)))))))) k (λ e. omega arith)

or_same : (b : Bool) → (b || b) ≡ true → b ≡ true
or_same true e = refl
or_same false e = e

either : (b : Bool) → (b || false) ≡ true → b ≡ true
either true e = refl
either false e = e

-- a value that can be printed is one on a board, by its kind
well_slot : (spec call : List ℕ) (kind payload : ℕ) → printable spec call (value kind payload) ≡ true → well_formed_slot spec call (value kind payload) ≡ true
unfolding printable well_formed_slot well_formed_default well_formed_argument well_formed spec_text call_text
well_slot spec call zero payload e = e
well_slot spec call (suc zero) payload e = or_same (eqb payload 0 || false || false || false || false || false) e
well_slot spec call (suc (suc zero)) payload e = or_same (ltb payload 2 || false || false || false || false) e
well_slot spec call (suc (suc (suc zero))) payload e = refl
well_slot spec call (suc (suc (suc (suc zero)))) payload e = refl
well_slot spec call (suc (suc (suc (suc (suc zero))))) payload e = either (is_text 0 spec payload || false) e
well_slot spec call (suc (suc (suc (suc (suc (suc zero)))))) payload e = e
well_slot spec call (suc (suc (suc (suc (suc (suc (suc zero))))))) payload e = or_same (ltb payload (2 ^ 32)) e
well_slot spec call (suc (suc (suc (suc (suc (suc (suc (suc kind)))))))) payload e =
    absurd (false≢true (simp (past kind 1 (omega arith), past kind 2 (omega arith), past kind 3 (omega arith), past kind 4 (omega arith), past kind 5 (omega arith), past kind 6 (omega arith), past kind 7 (omega arith)) at e))

module _ (spec call : List ℕ) where
  pub value_is : (v : Value) → printable spec call v ≡ true → shown_value spec call v ≡ print_value spec call v
  unfolding shown_value
  value_is v e = ap (λ b. cond b (print_value spec call v) []) (well_slot spec call v.kind v.payload e)

  pub name_is : (area : List ℕ) (t : Text) → printable_text area t ≡ true → shown_name area t.payload ≡ t.bytes
  unfolding shown_name
  name_is area t e = ap (λ b. cond b (bytes_at area t.payload) []) (printable_inside area t e) ∙ sym (printable_bytes area t e)

  -- a plain parameter's slot holds nothing, or a value that can be printed
  abbrev shows : Slot → Bool
  shows empty = true
  shows (taken v) = printable spec call v
  shows (from_default v) = printable spec call v
  shows (star_count n) = false
  shows (named_count n) = false

  shows_is : (s : Slot) → shows s ≡ true → shown_value spec call (slot_value s) ≡ slot_text spec call s
  unfolding shown_value well_formed_slot well_formed_default well_formed_argument well_formed spec_text call_text no_value
  shows_is empty e = refl
  shows_is (taken v) e = value_is v e
  shows_is (from_default v) e = value_is v e
  shows_is (star_count n) e = absurd (false≢true e)
  shows_is (named_count n) e = absurd (false≢true e)

  shows_printable : (s : Slot) → shows s ≡ true → printable_slot spec call s ≡ true
  shows_printable empty e = refl
  shows_printable (taken v) e = e
  shows_printable (from_default v) e = e
  shows_printable (star_count n) e = refl
  shows_printable (named_count n) e = refl

  -- ---- the slot of a parameter

  partner_none : (q : Parameter) (N : List Named) → plain q.kind ≡ false → partner q N ≡ none
  unfolding names nameable
  partner_none q [] e = refl
  partner_none q (v ∷ vs) e = rw e (partner_none q vs e)

  partner_printable : (q : Parameter) (N : List Named) → all (printable_named spec call) N ≡ true → (s : Slot) → shows s ≡ true → shows (taken_or (partner q N) s) ≡ true
  unfolding printable_named
  partner_printable q [] e s h = h
  partner_printable q (v ∷ vs) e s h =
      go (names v.name.bytes q) (partner_printable q vs (and_right (printable_named spec call v) (all (printable_named spec call) vs) e) s h)
    where
      go : (b : Bool) → shows (taken_or (partner q vs) s) ≡ true → shows (taken_or (cond b (some v.value) (partner q vs)) s) ≡ true
      go true r = and_right (printable_text call v.name) (printable spec call v.value) (and_left (printable_named spec call v) (all (printable_named spec call) vs) e)
      go false r = r

  otherwise_shows : (k : ParameterKind) (stars named : ℕ) → plain k ≡ true → printable_default spec k ≡ true → shows (otherwise k stars named) ≡ true
  unfolding printable
  otherwise_shows required stars named p e = refl
  otherwise_shows optional stars named p e = refl
  otherwise_shows (defaulted v) stars named p e = ap (λ b. b || well_formed_argument call v) e
  otherwise_shows args stars named p e = p
  otherwise_shows kwargs stars named p e = p

  module _ (P : List Value) (N : List Named) (positionals : all (printable spec call) P ≡ true) (given : all (printable_named spec call) N ≡ true) (stars named i : ℕ) (q : Parameter) (right : printable_parameter spec q ≡ true) where
    slot_shows : plain q.kind ≡ true → shows (slot_of P N stars named i q) ≡ true
    unfolding slot_of from_p printable_parameter
    slot_shows p = go (positional q) (ltb i (length P)) refl
      where
        go : (b t : Bool) → ltb i (length P) ≡ t → shows (cond (b && t) (taken (get_or P i no_value)) (taken_or (partner q N) (otherwise q.kind stars named))) ≡ true
        go true true t = all_at (printable spec call) P i no_value (ltb-true i (length P) t) positionals
        go true false t = partner_printable q N given (otherwise q.kind stars named) (otherwise_shows q.kind stars named p (and_right (not (plain q.kind) || printable_text spec q.name) (printable_default spec q.kind) right))
        go false t t' = partner_printable q N given (otherwise q.kind stars named) (otherwise_shows q.kind stars named p (and_right (not (plain q.kind) || printable_text spec q.name) (printable_default spec q.kind) right))

    slot_count_lem : plain q.kind ≡ false → slot_of P N stars named i q ≡ otherwise q.kind stars named
    unfolding slot_of from_p positional
    slot_count_lem p = rw (p, partner_none q N p)

    count_is : (k : ParameterKind) → plain k ≡ false → shown_as spec call k (slot_value (otherwise k stars named)) ≡ slot_text spec call (otherwise k stars named)
    count_is required p = absurd (true≢false p)
    count_is optional p = absurd (true≢false p)
    count_is (defaulted v) p = absurd (true≢false p)
    count_is args p = refl
    count_is kwargs p = refl

    count_printable : (k : ParameterKind) → plain k ≡ false → printable_slot spec call (otherwise k stars named) ≡ true
    count_printable required p = refl
    count_printable optional p = refl
    count_printable (defaulted v) p = absurd (true≢false p)
    count_printable args p = refl
    count_printable kwargs p = refl

    pub shown_is : shown_as spec call q.kind (slot_value (slot_of P N stars named i q)) ≡ slot_text spec call (slot_of P N stars named i q)
    shown_is = go (plain q.kind) refl
      where
        go : (b : Bool) → plain q.kind ≡ b → shown_as spec call q.kind (slot_value (slot_of P N stars named i q)) ≡ slot_text spec call (slot_of P N stars named i q)
        go true p = shown_as_plain spec call (slot_value (slot_of P N stars named i q)) q.kind p ∙ shows_is (slot_of P N stars named i q) (slot_shows p)
        go false p = rw (slot_count_lem p) (count_is q.kind p)

    pub slot_is_printable : printable_slot spec call (slot_of P N stars named i q) ≡ true
    slot_is_printable = go (plain q.kind) refl
      where
        go : (b : Bool) → plain q.kind ≡ b → printable_slot spec call (slot_of P N stars named i q) ≡ true
        go true p = shows_printable (slot_of P N stars named i q) (slot_shows p)
        go false p = rw (slot_count_lem p) (count_printable q.kind p)

  pub slot_name_is : (q : Parameter) → printable_parameter spec q ≡ true → slot_name q.kind (shown_name spec q.name.payload) ≡ slot_name q.kind q.name.bytes
  slot_name_is q right = go q.kind (λ p. name_is spec q.name (parameter_text spec q right p))
    where
      go : (k : ParameterKind) → (plain k ≡ true → shown_name spec q.name.payload ≡ q.name.bytes) → slot_name k (shown_name spec q.name.payload) ≡ slot_name k q.name.bytes
      go required h = h refl
      go optional h = h refl
      go (defaulted v) h = h refl
      go args h = refl
      go kwargs h = refl
