-- Laws of the slots by which `rows_right` sees that a name is new: the slot of each nameable row so far is marked, so a row whose slot is
-- not has a name of its own. Assumes nothing.
use mathlib.Core.Path.{◌≡◌, refl, sym, ap, ◌∙◌}
use mathlib.Core.Bool.{Bool, true, false}
use mathlib.Core.List.{List}
use Prim.Native.Nat.{ℕ, zero, suc, ◌+◌, ◌*◌, ◌%◌, ◌<◌, ◌≤◌}
use native.Mathlib.Decide.{dec_le}
use native.Mathlib.Omega.{arith}
use lib.Dec.{eqb}
use lib.ListN.{length, get_or, set, length-set}
use lib.Seq.{get_or-set_same, get_or-set_other}
use borrow.Author.Tests.{eqb-true, eqb-false}
use Rattle.rules.specs.Listing.{any}
use Rattle.rules.specs.Text.{text_in, bytes_at, same_bytes, inside}
use Rattle.rules.specs.Parameters.{Parameter, nameable}
use Rattle.rules.specs.Lookup.{names, known}
use Rattle.cells.specs.Listed.{listed}
use Rattle.rules.proofs.LawsListing.{and_right}
use Rattle.rules.proofs.LawsText.{same_bytes_eq}
use Rattle.cells.specs.Text.{last_key}
use Rattle.builder.specs.Params.{parameter_of, may_be_named}
use Rattle.prepared.specs.Prepared.{parameter_of_row}
use Rattle.prepared.specs.Rows.{row_at, param_at, slot_at, Keyed}
use Rattle.prepared.proofs.LawsRows.{never, name_cell}

any_none : {X : Type 0} (test : X → Bool) (at : ℕ → X) (i n : ℕ) → ((j : ℕ) → i ≤ j → j < i + n → test (at j) ≡ false) → any test (listed at i n) ≡ false
any_none test at i zero f = refl
any_none test at i (suc n) f =
    rw (f i (omega arith) (omega arith), any_none test at (suc i) n (λ j l u. f j (omega arith) (omega arith)))

unnamed : (bytes : List ℕ) (q : Parameter) → nameable q ≡ false → names bytes q ≡ false
unfolding names
unnamed bytes q e = rw e

-- ---- the slot of a row's name

pub slot_below : (area cells : List ℕ) (i : ℕ) → slot_at area cells i < 929
unfolding slot_at
slot_below area cells i = omega arith

module _ (area cells : List ℕ) (i : ℕ) (k : Keyed area cells (i + 1)) where
  pub slot_inside : may_be_named (row_at cells i).step.code (row_at cells i).style ≡ true → inside area (get_or cells (2 + 6 * i + 2) 0) ≡ true
  slot_inside m = rw (name_cell cells i) at (k.named_inside i (omega arith) m)

-- a row that names these bytes has their slot
named_slot : (area cells bytes : List ℕ) (j : ℕ) → names bytes (param_at area cells j) ≡ true → last_key bytes % 929 ≡ slot_at area cells j
unfolding slot_at names param_at parameter_of_row parameter_of text_in
named_slot area cells bytes j t =
    ap (λ l. last_key l % 929) (same_bytes_eq bytes (bytes_at area (row_at cells j).step.name) (and_right (nameable (param_at area cells j)) (same_bytes bytes (bytes_at area (row_at cells j).step.name)) t))

-- ---- marks

-- that of each nameable row before row i is marked
pub record Marked (area cells : List ℕ) (used : List Bool) (i : ℕ) : Type 0 where
  pub size : length used ≡ 929
  pub marked : (j : ℕ) → j < i → nameable (param_at area cells j) ≡ true → get_or used (slot_at area cells j) false ≡ true

module _ (area cells : List ℕ) (used : List Bool) (i : ℕ) (m : Marked area cells used i) where
  pub slot_new : {s : ℕ} → s ≡ slot_at area cells i → get_or used s false ≡ false → known (listed (param_at area cells) 0 i) (bytes_at area (row_at cells i).step.name) ≡ false
  unfolding known slot_at
  slot_new {s} es new = any_none (names bytes) (param_at area cells) 0 i (λ j l u. go j (omega arith) (nameable (param_at area cells j)) refl (names bytes (param_at area cells j)) refl)
    where
      bytes : List ℕ
      bytes = bytes_at area (row_at cells i).step.name

      go : (j : ℕ) → j < i → (b : Bool) → nameable (param_at area cells j) ≡ b → (d : Bool) → names bytes (param_at area cells j) ≡ d → names bytes (param_at area cells j) ≡ false
      go j u true t true e = absurd (never (sym new ∙ ap (λ n. get_or used n false) (es ∙ named_slot area cells bytes j e) ∙ m.marked j u t))
      go j u true t false e = e
      go j u false t d e = unnamed bytes (param_at area cells j) t

  -- row i's slot is marked with the others
  pub slot_marked : {next : List Bool} {s : ℕ} → s ≡ slot_at area cells i → next ≡ set used s true → Marked area cells next (i + 1)
  slot_marked {next} {s} es stored = record { size = ap length en ∙ length-set used (slot_at area cells i) true ∙ m.size; marked = λ j u t. ap (λ l. get_or l (slot_at area cells j) false) en ∙ held j u t (dec_le (suc j) i) }
    where
      en : next ≡ set used (slot_at area cells i) true
      en = stored ∙ ap (λ n. set used n true) es

      here : get_or (set used (slot_at area cells i) true) (slot_at area cells i) false ≡ true
      here = get_or-set_same used (slot_at area cells i) true false (omega (arith, m.size, slot_below area cells i))

      before : (s : ℕ) → get_or used s false ≡ true → (b : Bool) → eqb s (slot_at area cells i) ≡ b → get_or (set used (slot_at area cells i) true) s false ≡ true
      before s e true t = ap (λ k. get_or (set used (slot_at area cells i) true) k false) (eqb-true s (slot_at area cells i) t) ∙ here
      before s e false t = get_or-set_other used (slot_at area cells i) s true false (eqb-false s (slot_at area cells i) t) ∙ e

      held : (j : ℕ) → j < i + 1 → nameable (param_at area cells j) ≡ true → Dec (suc j ≤ i) → get_or (set used (slot_at area cells i) true) (slot_at area cells j) false ≡ true
      held j u t (yes l) = before (slot_at area cells j) (m.marked j l t) (eqb (slot_at area cells j) (slot_at area cells i)) refl
      held j u t (no l) = let e : i ≡ j = omega arith in rw (← e) here

  -- a row that is not nameable has none
  pub slot_kept : {next : List Bool} → next ≡ used → nameable (param_at area cells i) ≡ false → Marked area cells next (i + 1)
  slot_kept {next} en f = record { size = ap length en ∙ m.size; marked = λ j u t. ap (λ l. get_or l (slot_at area cells j) false) en ∙ held j u t (dec_le (suc j) i) }
    where
      last : (j : ℕ) → i ≡ j → nameable (param_at area cells j) ≡ true → get_or used (slot_at area cells j) false ≡ true
      last j e t = let z : false ≡ true = sym f ∙ ap (λ k. nameable (param_at area cells k)) e ∙ t in absurd (never z)

      held : (j : ℕ) → j < i + 1 → nameable (param_at area cells j) ≡ true → Dec (suc j ≤ i) → get_or used (slot_at area cells j) false ≡ true
      held j u t (yes l) = m.marked j l t
      held j u t (no l) = last j (omega arith) t
