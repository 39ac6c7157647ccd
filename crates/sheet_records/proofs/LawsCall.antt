-- The cells of a call record (01, cells, texts and records), part by part: the record's runs as the rows of a part in their order, how
-- many cells each takes, and the record by its head and its four parts.
-- Assumes nothing.
use mathlib.Core.Path.{◌≡◌, refl, sym, ap, ap₂, ◌∙◌}
use mathlib.Core.Bool.{Bool, true, false, cond}
use mathlib.Core.List.{List, [], ◌∷◌, ◌++◌, map, append-nil}
use Prim.Native.Nat.{ℕ, zero, suc, ◌+◌, ◌-◌, ◌*◌, ◌≤◌, ◌<◌}
use native.Mathlib.Numerals.{add-one}
use native.Mathlib.Omega.{arith}
use lib.ListN.{length, get_or, length-append}
use Rattle.rules.specs.Cells.{write_each}
use Rattle.rules.specs.Listing.{tally}
use Rattle.rules.specs.Value.{value_width, value_cells, read_value}
use Rattle.rules.specs.CallRecord.{Pair, pair_width, pair_cells, read_pair, encode_call}
use Rattle.rules.specs.SheetLines.{Row}
use Rattle.rules.specs.SheetRows.{CallPart, positional, named, item, entry, is_part}
use Rattle.rules.specs.SheetRecords.{call_texts, area_of, Placed, placed_from, row_value, named_pair, entry_pair, of_part, call_record}
use Rattle.rules.proofs.LawsRecord.{length_write_each, value_cells_wide, pair_cells_wide}
use Rattle.rules.proofs.LawsSheetForm.{part_many}
use Rattle.sheet_lines.specs.Word.{call_part_of}
use Rattle.sheet_lines.specs.declared.word.CallPart as code
use Rattle.sheet_lines.specs.declared.word.CallPart.TheVariants.{Positional, Named, Item, Entry}
use Rattle.sheet_records.specs.Text.{name_text, row_texts}
use Rattle.sheet_records.specs.Run.{text_kind, key_cells, last_value, row_cells, run_from}
use Rattle.sheet_records.specs.Call.{part_at, parts_from, CountsOf}
use Rattle.calls.specs.Head.{head_of, head_cells}
use Rattle.calls.specs.declared.head.Head.{Head}

-- a row whose texts lie at `at`
abbrev placed : Row → ℕ → Placed
placed r at = record { row = r; at = at }

-- ---- texts

pub call_texts_lem : (r : Row) → row_texts true r ≡ call_texts r
unfolding row_texts name_text call_texts
call_texts_lem r = refl

pub call_area : (rows : List Row) → area_of (row_texts true) rows ≡ area_of call_texts rows
call_area [] = refl
call_area (r ∷ rows) = ap₂ (λ a b. a ++ b) (call_texts_lem r) (call_area rows)

-- ---- a part of the record

-- the cells of its rows
value_cells_lem : (at : ℕ) (r : Row) → value_cells (last_value true at r) ≡ value_cells (row_value (placed r at))
unfolding last_value text_kind name_text row_value
value_cells_lem at r = refl

named_cells_lem : (at : ℕ) (r : Row) → key_cells true named at r ++ value_cells (last_value true at r) ≡ pair_cells (named_pair (placed r at))
unfolding last_value text_kind name_text row_value pair_cells named_pair
named_cells_lem at r = refl

entry_cells : (at : ℕ) (r : Row) → key_cells true entry at r ++ value_cells (last_value true at r) ≡ pair_cells (entry_pair (placed r at))
unfolding last_value text_kind name_text row_value pair_cells entry_pair
entry_cells at r = refl

module _ {X : Type 0} (part : CallPart) (f : Placed → X) (write : X → List ℕ) (same : (at : ℕ) (r : Row) → key_cells true part at r ++ value_cells (last_value true at r) ≡ write (f (placed r at))) where
  part_run : (at : ℕ) (rows : List Row) → write_each write (map f (of_part part (placed_from at rows))) ≡ run_from true part at rows
  unfolding of_part row_cells
  part_run at [] = refl
  part_run at (r ∷ rows) = go (is_part part r) (part_run (at + length (call_texts r)) rows ∙ ap (λ l. run_from true part (at + length l) rows) (sym (call_texts_lem r)))
    where
      rest : List Placed
      rest = of_part part (placed_from (at + length (call_texts r)) rows)

      go : (b : Bool)
          → write_each write (map f rest) ≡ run_from true part (at + length (row_texts true r)) rows
          → write_each write (map f (cond b (placed r at ∷ rest) rest))
          ≡ cond b (key_cells true part at r ++ value_cells (last_value true at r)) [] ++ run_from true part (at + length (row_texts true r)) rows
      go true e = ap₂ (λ a b. a ++ b) (sym (same at r)) e
      go false e = e

-- the parts as the code lists them
abbrev pub parts : List code.CallPart
parts = Positional ∷ Named ∷ Item ∷ Entry ∷ []

pub part_listed : (n : ℕ) → n < 4 → call_part_of (get_or parts n Positional) ≡ part_at n
part_listed zero h = refl
part_listed (suc zero) h = refl
part_listed (suc (suc zero)) h = refl
part_listed (suc (suc (suc n))) h = let last : n ≡ 0 = omega arith in rw last

-- one part more
pub parts_next : (rows : List Row) (n : ℕ) → n < 4 → (part : CallPart) → part ≡ part_at n → parts_from rows n (4 - n) ≡ run_from true part 0 rows ++ parts_from rows (n + 1) (4 - (n + 1))
unfolding parts_from
parts_next rows n h part e =
    let k : 4 - n ≡ suc (4 - (n + 1)) = omega arith in
    ap (parts_from rows n) k ∙ ap₂ (λ p m. run_from true p 0 rows ++ parts_from rows m (4 - (n + 1))) (sym e) (sym (add-one n))

-- none more
pub parts_none : (rows : List Row) (n : ℕ) → 4 ≤ n → parts_from rows n (4 - n) ≡ []
unfolding parts_from
parts_none rows n h = let k : 4 - n ≡ 0 = omega arith in rw k

-- ---- how many cells each part takes

module _ (rows : List Row) where
  values_length : (part : CallPart) → ((at : ℕ) (r : Row) → key_cells true part at r ++ value_cells (last_value true at r) ≡ value_cells (row_value (placed r at)))
      → length (run_from true part 0 rows) ≡ 2 * tally (is_part part) rows
  unfolding value_width
  values_length part same =
      ap length (sym (part_run part row_value value_cells same 0 rows))
      ∙ length_write_each 2 read_value value_cells value_cells_wide (map row_value (of_part part (placed_from 0 rows)))
      ∙ ap (λ n. 2 * n) (part_many part row_value rows)

  pairs_length : (part : CallPart) (f : Placed → Pair) → ((at : ℕ) (r : Row) → key_cells true part at r ++ value_cells (last_value true at r) ≡ pair_cells (f (placed r at)))
      → length (run_from true part 0 rows) ≡ 4 * tally (is_part part) rows
  unfolding pair_width
  pairs_length part f same =
      ap length (sym (part_run part f pair_cells same 0 rows))
      ∙ length_write_each 4 read_pair pair_cells pair_cells_wide (map f (of_part part (placed_from 0 rows)))
      ∙ ap (λ n. 4 * n) (part_many part f rows)

  -- ---- the record

  module _ (k : Head) (counts : CountsOf rows k) where
    pub call_cells : encode_call (call_record rows) ≡ head_cells (head_of k) ++ parts_from rows 0 4
    unfolding encode_call call_record parts_from
    call_cells = simp (part_many positional row_value rows, part_many named named_pair rows, part_many item row_value rows, part_many entry entry_pair rows, counts.positionals, counts.named, counts.star, counts.items, counts.double, counts.entries, part_run positional row_value value_cells value_cells_lem 0 rows, part_run named named_pair pair_cells named_cells_lem 0 rows, part_run item row_value value_cells value_cells_lem 0 rows, part_run entry entry_pair pair_cells entry_cells 0 rows, append-nil)

    pub parts_length : length (head_cells (head_of k) ++ parts_from rows 0 4) ≤ 774
    unfolding parts_from
    parts_length =
        simp (length-append)
        (omega (arith, values_length positional value_cells_lem, pairs_length named named_pair named_cells_lem, values_length item value_cells_lem, pairs_length entry entry_pair entry_cells, counts.positionals, counts.named, counts.items, counts.entries, counts.few_positionals, counts.few_named, counts.few_items, counts.few_entries))
