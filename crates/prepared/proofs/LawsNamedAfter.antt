-- Laws of pairs that are named after rows, in this order: two texts inside their areas that have one length and one key; whether the last of
-- some rows is positional; a pair that is named after a row.
-- Assumes nothing.
use mathlib.Core.Path.{◌≡◌, refl, sym, ap, ◌∙◌}
use mathlib.Core.Bool.{Bool, true, false}
use mathlib.Core.List.{List}
use Prim.Native.Nat.{ℕ, zero, suc, ◌+◌, ◌-◌, ◌*◌, ◌/◌, ◌%◌, ◌<◌, ◌≤◌}
use native.Mathlib.Omega.{arith}
use lib.Dec.{ltb}
use lib.ListN.{length, drop, get_or, length-drop}
use lib.Seq.{length-take-le}
use Rattle.rules.specs.Text.{start_of, size_of, bytes_at, inside, same_bytes}
use Rattle.rules.specs.Value.{call_text, well_formed_key}
use Rattle.rules.proofs.LawsText.{eq_same_bytes}
use Rattle.cells.specs.Text.{part_at, key_of}
use Rattle.cells.specs.Record.{pair_at}
use Rattle.cells.proofs.LawsRecord.{pair_at_is}
use Rattle.cells.proofs.LawsWord.{Bytes, bytes_take, bytes_drop, key_from_same, key_all, within, part_inside_lem, bytes_few}
use Rattle.calls.proofs.LawsKeys.{text_inside}
use Rattle.builder.specs.Params.{may_be_named}
use Rattle.prepared.specs.Prepared.{Row}
use Rattle.prepared.specs.Rows.{row_at, param_at, Keyed}
use Rattle.prepared.specs.Load.{by_position}
use Rattle.prepared.specs.InOrder.{positional_to, NamedAfter}
use Rattle.prepared.proofs.LawsRows.{row_at_cells, key_cell, name_cell, may_be_named_cells, names_bytes}
use Rattle.prepared.proofs.LawsSlots.{slot_inside}
use Rattle.prepared.proofs.LawsLoad.{by_0, by_3, by_4}

-- ---- texts inside their areas

bytes_at_lem : (area : List ℕ) (payload : ℕ) → Bytes area → Bytes (bytes_at area payload)
unfolding bytes_at
bytes_at_lem area payload bytes = bytes_take (size_of payload) (drop (start_of payload) area) (bytes_drop (start_of payload) area bytes)

-- such a text has as many bytes as its payload says
size_inside : (area : List ℕ) (payload : ℕ) → inside area payload ≡ true → length (bytes_at area payload) ≡ payload % 256
unfolding bytes_at start_of size_of
size_inside area payload e =
    length-take-le (payload % 256) (drop (payload / 256) area) (rw (length-drop (payload / 256) area) (omega (arith, within area payload e)))

module _ (a : List ℕ) (x : ℕ) (b : List ℕ) (y : ℕ) (one : inside a x ≡ true) (other : inside b y ≡ true) where
  -- short ones of one length and one key have the same bytes
  key_same : Bytes a → Bytes b → x % 256 ≡ y % 256 → x % 256 ≤ 8 → key_of (bytes_at a x) ≡ key_of (bytes_at b y) → bytes_at a x ≡ bytes_at b y
  key_same p q sized few e =
      key_from_same (bytes_at a x) (bytes_at b y) (size_inside a x one ∙ sized ∙ sym (size_inside b y other)) (bytes_at_lem a x p) (bytes_at_lem b y q)
      (sym (key_all (bytes_at a x) (bytes_few a x few)) ∙ e ∙ key_all (bytes_at b y) (bytes_few b y (rw (← sized) few)))

  pub short_same : Bytes a → Bytes b → x % 256 ≡ y % 256 → x % 256 ≤ 8 → key_of (bytes_at a x) ≡ key_of (bytes_at b y) → true ≡ same_bytes (bytes_at a x) (bytes_at b y)
  short_same p q sized few e = sym (eq_same_bytes (bytes_at a x) (bytes_at b y) (key_same p q sized few e))

  pub part_same : same_bytes (part_at a x) (part_at b y) ≡ same_bytes (bytes_at a x) (bytes_at b y)
  part_same = rw (part_inside_lem a x one, part_inside_lem b y other)

-- ---- the last of some rows

last_row : (list : List ℕ) (count : ℕ) → (count ≡ 0 → ⊥) → by_position (get_or list (2 + 6 * (count - 1)) 0) (get_or list (2 + 6 * (count - 1) + 1) 0) ≡ positional_to list count
last_row list zero some = absurd (some refl)
last_row list (suc k) some = let e : suc k - 1 ≡ k = omega arith in rw e (sym (ap (λ (r : Row). by_position r.step.code r.style) (row_at_cells list k)))

module _ (list : List ℕ) (count : ℕ) (some : count ≡ 0 → ⊥) where
  pub last_3 : 1 ≤ get_or list (2 + 6 * (count - 1)) 0 → get_or list (2 + 6 * (count - 1)) 0 < 4 → ltb (get_or list (2 + 6 * (count - 1) + 1) 0) 2 ≡ positional_to list count
  last_3 l u = by_3 (get_or list (2 + 6 * (count - 1)) 0) (get_or list (2 + 6 * (count - 1) + 1) 0) l u ∙ last_row list count some

  pub last_0 : get_or list (2 + 6 * (count - 1)) 0 < 1 → false ≡ positional_to list count
  last_0 u = by_0 (get_or list (2 + 6 * (count - 1)) 0) (get_or list (2 + 6 * (count - 1) + 1) 0) u ∙ last_row list count some

  pub last_4 : 4 ≤ get_or list (2 + 6 * (count - 1)) 0 → false ≡ positional_to list count
  last_4 l = by_4 (get_or list (2 + 6 * (count - 1)) 0) (get_or list (2 + 6 * (count - 1) + 1) 0) l ∙ last_row list count some

-- ---- a pair that is named after a row: its key is a text, and the row can be named

module _
    (spec list cells area : List ℕ) (pair row : ℕ) (keyed : Keyed spec list (row + 1)) (formed : well_formed_key area (pair_at cells pair) ≡ true)
    (text : get_or cells pair 0 ≡ 6) (may : may_be_named (get_or list (2 + 6 * row) 0) (get_or list (2 + 6 * row + 1) 0) ≡ true)
  where
    pub key_inside : inside area (get_or cells (pair + 1) 0) ≡ true
    unfolding well_formed_key call_text
    key_inside = text_inside 0 area (get_or cells (pair + 1) 0) (rw (pair_at_is cells pair, text) at formed)

    pub row_inside : inside spec (get_or list (2 + 6 * row + 2) 0) ≡ true
    row_inside = slot_inside spec list row keyed (may_be_named_cells list row ∙ may)

    pub keys_same
        : {key : ℕ} → key ≡ key_of (bytes_at area (get_or cells (pair + 1) 0)) → get_or list (2 + 6 * row + 5) 0 ≡ key
        → key_of (bytes_at area (get_or cells (pair + 1) 0)) ≡ key_of (bytes_at spec (get_or list (2 + 6 * row + 2) 0))
    keys_same {key} ek e = sym ek ∙ sym e ∙ sym (key_cell list row) ∙ keyed.keys row (omega arith) ∙ ap (λ n. key_of (bytes_at spec n)) (name_cell list row)

    pub after_row
        : {same : Bool} → same ≡ same_bytes (bytes_at area (get_or cells (pair + 1) 0)) (bytes_at spec (get_or list (2 + 6 * row + 2) 0)) → same ≡ true
        → NamedAfter spec list cells area pair row
    unfolding param_at call_text
    after_row {same} es t =
        record {
          text = rw (pair_at_is cells pair) text;
          named =
              sym
              (names_bytes spec (bytes_at area (pair_at cells pair).payload) (row_at list row) {a = true} (sym (may_be_named_cells list row ∙ may)) refl
              {x = bytes_at spec (get_or list (2 + 6 * row + 2) 0)} (ap (bytes_at spec) (sym (name_cell list row)))
              {b = true} (rw (pair_at_is cells pair) (sym t ∙ es)));
        }
