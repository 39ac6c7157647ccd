-- Laws of the loop of `rows_right`, in this order: what holds before a row; the ways out; a row that is right, whose name is asked
-- next; the ways on to the row behind it. Assumes nothing.
use mathlib.Core.Path.{◌≡◌, refl, sym, ap, ◌∙◌}
use mathlib.Core.Bool.{Bool, true, false, ◌&&◌}
use mathlib.Core.List.{List, []}
use Prim.Native.Nat.{ℕ, suc, ◌+◌, ◌-◌, ◌*◌, ◌%◌, ◌<◌, ◌≤◌}
use native.Mathlib.Decide.{dec_le}
use native.Mathlib.Omega.{arith}
use lib.ListN.{length, get_or, set}
use Rattle.rules.specs.Text.{text_in, bytes_at, inside}
use Rattle.rules.specs.Value.{Value}
use Rattle.rules.specs.Parameters.{nameable, act_of, act, next_style, rank}
use Rattle.rules.specs.Lookup.{known}
use Rattle.rules.specs.Passed.{names_apart}
use Rattle.rules.proofs.LawsListing.{and_no_left, and_no_right}
use Rattle.cells.specs.Listed.{listed}
use Rattle.cells.specs.Text.{key_of, last_key}
use Rattle.builder.specs.Params.{style_for, parameter_of, may_be_named}
use Rattle.prepared.specs.Prepared.{Row, parameter_of_row, row_right, rows_right}
use Rattle.prepared.specs.Rows.{row_at, param_at, slot_at, Keyed, stands}
use Rattle.prepared.proofs.LawsRows.{nameable_row}
use Rattle.prepared.proofs.LawsSlots.{Marked, slot_new, slot_marked, slot_kept}
use Rattle.prepared.proofs.LawsCheck.{right_key, right_inside, right_style, right_stands, rows_style, rows_row, rows_next, apart_twice, apart_new, apart_unnamed, each_keyed}

-- the answer for the n rows
unfoldable pub asked : List ℕ → List ℕ → ℕ → Bool
asked area cells n = rows_right area 0 (listed (row_at cells) 0 n) && names_apart [] (listed (param_at area cells) 0 n)

-- before row i: both its halves are the answers for the rows from it on, and of the rows before it each is right, with its slot marked
pub record SoFar (area cells : List ℕ) (n : ℕ) (used : List Bool) (least i : ℕ) : Type 0 where
  pub rows : rows_right area 0 (listed (row_at cells) 0 n) ≡ rows_right area least (listed (row_at cells) i (n - i))
  pub apart : names_apart [] (listed (param_at area cells) 0 n) ≡ names_apart (listed (param_at area cells) 0 i) (listed (param_at area cells) i (n - i))
  pub right : (j : ℕ) → j < i → row_right area (row_at cells j) ≡ true
  pub marks : Marked area cells used i

-- row i is r, which is right and not too early
pub record Right (area cells : List ℕ) (n : ℕ) (used : List Bool) (least i : ℕ) (r : Row) : Type 0 where
  pub so_far : SoFar area cells n used least i
  pub there : i < n
  pub row : r ≡ row_at cells i
  pub in_order : least ≤ r.style
  pub right : true ≡ row_right area r

module _ (area cells : List ℕ) (n : ℕ) where
  no_rows : false ≡ rows_right area 0 (listed (row_at cells) 0 n) → false ≡ asked area cells n
  unfolding asked
  no_rows e = sym (and_no_left (rows_right area 0 (listed (row_at cells) 0 n)) (names_apart [] (listed (param_at area cells) 0 n)) (sym e))

  no_names : false ≡ names_apart [] (listed (param_at area cells) 0 n) → false ≡ asked area cells n
  unfolding asked
  no_names e = sym (and_no_right (rows_right area 0 (listed (row_at cells) 0 n)) (names_apart [] (listed (param_at area cells) 0 n)) (sym e))

module _ (area cells : List ℕ) (n : ℕ) (used : List Bool) (least i : ℕ) (s : SoFar area cells n used least i) where
  module _ (h : i < n) {r : Row} (er : r ≡ row_at cells i) where
    pub too_early : r.style < least → false ≡ asked area cells n
    too_early e = no_rows area cells n (rows_style area cells n i least s.rows h er e)

    module _ (l : least ≤ r.style) {a : Bool} (ea : a ≡ row_right area r) where
      pub row_wrong : a ≡ false → false ≡ asked area cells n
      row_wrong k = no_rows area cells n (rows_row area cells n i least s.rows h er l ea k)

      pub row_right_lem : a ≡ true → Right area cells n used least i r
      row_right_lem k = record { so_far = s; there = h; row = er; in_order = l; right = sym k ∙ ea }

-- ---- behind the questions of row i by itself

module _ {area cells : List ℕ} {n : ℕ} {used : List Bool} {least i : ℕ} {r : Row} (now : Right area cells n used least i r) where
  -- all rows up to this one are right
  each_here : (j : ℕ) → j < i + 1 → row_right area (row_at cells j) ≡ true
  each_here j u = split (dec_le (suc j) i)
    where
      here : i ≡ j → row_right area (row_at cells j) ≡ true
      here e = ap (λ k. row_right area (row_at cells k)) (sym e) ∙ ap (row_right area) (sym now.row) ∙ sym now.right

      split : Dec (suc j ≤ i) → row_right area (row_at cells j) ≡ true
      split (yes l) = now.so_far.right j l
      split (no l) = here (omega arith)

  pub keyed_here : 2 + 6 * n ≤ length cells → Keyed area cells (i + 1)
  keyed_here h = each_keyed area cells (i + 1) (omega (arith, now.there)) each_here

  pub style_here : r.style < 3
  style_here = right_style area r (sym now.right)

  slot_here : {slot : ℕ} → slot ≡ last_key (bytes_at area r.step.name) % 929 → slot ≡ slot_at area cells i
  unfolding slot_at
  slot_here e = e ∙ ap (λ (q : Row). last_key (bytes_at area q.step.name) % 929) now.row

  -- on to the next row
  on
      : {marked : List Bool} {after : ℕ}
      → ((v : Value) → stands r.step.code r.style v ≡ true → after ≡ rank (next_style (style_for r.style) (act_of r.step.code v)))
      → names_apart [] (listed (param_at area cells) 0 n) ≡ names_apart (listed (param_at area cells) 0 (i + 1)) (listed (param_at area cells) (i + 1) (n - (i + 1)))
      → Marked area cells marked (i + 1)
      → SoFar area cells n marked after (i + 1)
  unfolding act
  on {marked} {after} ea apart marks =
      record {
        rows =
            rows_next area cells n i least now.so_far.rows now.there now.row now.in_order now.right refl after
            (ea r.step.default (right_stands area r (sym now.right)));
        apart = apart;
        right = each_here;
        marks = marks;
      }

  module _ {named : Bool} (en : named ≡ may_be_named r.step.code r.style) where
    nameable_here : nameable (param_at area cells i) ≡ named
    unfolding param_at
    nameable_here = nameable_row area (row_at cells i) ∙ ap (λ (q : Row). may_be_named q.step.code q.style) (sym now.row) ∙ sym en

    pub slot_asked : named ≡ true → (inside area r.step.name ≡ true) × (r.key ≡ key_of (bytes_at area r.step.name))
    slot_asked t = (right_inside area r (sym now.right) (sym en ∙ t), right_key area r (sym now.right))

    pub twice : named ≡ true → {old : Bool} → old ≡ known (listed (param_at area cells) 0 i) (bytes_at area (row_at cells i).step.name) → old ≡ true → false ≡ asked area cells n
    unfolding param_at parameter_of_row parameter_of text_in
    twice t eo k = no_names area cells n (apart_twice (param_at area cells) n i now.so_far.apart now.there (nameable_here ∙ t) (sym eo ∙ k))

    pub on_unnamed
        : {marked : List Bool} {after : ℕ}
        → ((v : Value) → stands r.step.code r.style v ≡ true → after ≡ rank (next_style (style_for r.style) (act_of r.step.code v)))
        → named ≡ false
        → marked ≡ used
        → SoFar area cells n marked after (i + 1)
    on_unnamed ea f em =
        on ea (apart_unnamed (param_at area cells) n i now.so_far.apart now.there (nameable_here ∙ f))
        (slot_kept area cells used i now.so_far.marks em (nameable_here ∙ f))

  module _
      {marked : List Bool}
      {after : ℕ}
      (ea : (v : Value) → stands r.step.code r.style v ≡ true → after ≡ rank (next_style (style_for r.style) (act_of r.step.code v)))
      {slot : ℕ}
      (es : slot ≡ last_key (bytes_at area r.step.name) % 929)
      (em : marked ≡ set used slot true)
    where
      pub on_unknown : {old : Bool} → old ≡ known (listed (param_at area cells) 0 i) (bytes_at area (row_at cells i).step.name) → old ≡ false → SoFar area cells n marked after (i + 1)
      unfolding param_at parameter_of_row parameter_of text_in
      on_unknown eo k =
          on ea (apart_new (param_at area cells) n i now.so_far.apart now.there (sym eo ∙ k))
          (slot_marked area cells used i now.so_far.marks (slot_here es) em)

      pub on_new : get_or used slot false ≡ false → SoFar area cells n marked after (i + 1)
      on_new new = on_unknown refl (slot_new area cells used i now.so_far.marks (slot_here es) new)
