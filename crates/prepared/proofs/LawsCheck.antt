-- Laws of the question whether some cells are a prepared list, in this order: what a right row gives; a loop over the rows; a loop over the
-- names; the whole. Assumes nothing.
use mathlib.Core.Path.{◌≡◌, refl, sym, ap, ◌∙◌}
use mathlib.Core.Bool.{Bool, true, false, not, ◌&&◌, ◌||◌, false≢true}
use mathlib.Core.List.{List, []}
use Prim.Native.Nat.{ℕ, zero, suc, ◌+◌, ◌-◌, ◌*◌, ◌<◌, ◌≤◌}
use native.Mathlib.Decide.{dec_le}
use native.Mathlib.Omega.{arith}
use lib.Dec.{ltb, leb, eqb}
use lib.ListN.{length, get_or}
use borrow.Author.Tests.{ltb-true, eqb-true, le-leb, lt-leb}
use Rattle.rules.specs.Text.{bytes_at, is_text, inside}
use Rattle.rules.specs.Value.{no_value}
use Rattle.rules.specs.Parameters.{Parameter, nameable, required, optional, defaulted, args, kwargs, Act, adds, slash, bare_star, unknown_code, act, act_of, may_stand, next_style, rank, plain, takes_name}
use Rattle.rules.specs.ParameterQuestions.{has_name, step_name, uses_right}
use Rattle.rules.specs.Lookup.{known}
use Rattle.rules.specs.Passed.{names_apart}
use Rattle.rules.proofs.LawsListing.{and_left, and_right}
use Rattle.cells.specs.Listed.{listed}
use Rattle.cells.proofs.LawsListed.{listed_next, listed_more}
use Rattle.builder.specs.Params.{style_for, kind_for, may_be_named}
use Rattle.builder.proofs.LawsParams.{plain_any}
use Rattle.calls.proofs.LawsKeys.{text_inside}
use Rattle.cells.specs.Text.{key_of}
use Rattle.prepared.specs.Prepared.{Row, adds_one, row_right, rows_right, is_prepared, prepared_length, front_width, row_width}
use Rattle.prepared.specs.Rows.{row_at, param_at, stands, Keyed}
use Rattle.prepared.proofs.LawsRows.{rows_listed, list_listed}

-- ---- a right row

plain_named : (a : Act) → plain (kind_for a) ≡ true → has_name a ≡ true
plain_named (adds required) e = refl
plain_named (adds optional) e = refl
plain_named (adds (defaulted v)) e = refl
plain_named (adds args) e = absurd (false≢true e)
plain_named (adds kwargs) e = absurd (false≢true e)
plain_named slash e = absurd (false≢true e)
plain_named bare_star e = absurd (false≢true e)
plain_named unknown_code e = absurd (false≢true e)

module _ (area : List ℕ) (r : Row) (t : row_right area r ≡ true) where
  abbrev standing : Bool
  standing = stands r.step.code r.style r.step.default

  abbrev named : Bool
  named = step_name area r.step

  abbrev used : Bool
  used = uses_right area (act r.step) r.step.name r.step.default

  abbrev keyed : Bool
  keyed = eqb r.key (key_of (bytes_at area r.step.name))

  all_of : (standing && named && used && keyed) ≡ true
  unfolding row_right act
  all_of = t

  pub right_key : r.key ≡ key_of (bytes_at area r.step.name)
  right_key = eqb-true r.key (key_of (bytes_at area r.step.name)) (and_right (standing && named && used) keyed all_of)

  pub right_name : step_name area r.step ≡ true
  right_name = and_right standing named (and_left (standing && named) used (and_left (standing && named && used) keyed all_of))

  pub right_stands : stands r.step.code r.style r.step.default ≡ true
  right_stands = and_left standing named (and_left (standing && named) used (and_left (standing && named && used) keyed all_of))

  pub right_style : r.style < 3
  right_style =
      ltb-true r.style 3
      (and_right (adds_one (act_of r.step.code r.step.default)) (ltb r.style 3)
      (and_left (adds_one (act_of r.step.code r.step.default) && ltb r.style 3) (may_stand (style_for r.style) (act_of r.step.code r.step.default)) right_stands))

  -- a row that can be named has a name inside the area
  pub right_inside : may_be_named r.step.code r.style ≡ true → inside area r.step.name ≡ true
  unfolding step_name act may_be_named
  right_inside m =
      text_inside 1 area r.step.name
      (rw (plain_named (act_of r.step.code r.step.default) (plain_any r.step.code r.step.default no_value ∙ and_left _ (takes_name (style_for r.style)) m)) at right_name)

-- ---- a loop over the rows: what is left to ask from row i on

module _ (area cells : List ℕ) (n i least : ℕ) {whole : Bool} (left : whole ≡ rows_right area least (listed (row_at cells) i (n - i))) where
  module _ (h : i < n) {r : Row} (er : r ≡ row_at cells i) where
    parts : (a b : Bool) → a ≡ leb least r.style → b ≡ row_right area r
        → whole ≡ (a && b && rows_right area (rank (next_style (style_for r.style) (act r.step))) (listed (row_at cells) (i + 1) (n - (i + 1))))
    parts a b ea eb = left ∙ ap (rows_right area least) (listed_next (row_at cells) i n h) ∙ rw (← er, ← ea, ← eb)

    pub rows_style : r.style < least → false ≡ whole
    rows_style s = sym (parts false (row_right area r) (sym (lt-leb least r.style s)) refl)

    module _ (s : least ≤ r.style) {a : Bool} (ea : a ≡ row_right area r) where
      pub rows_row : a ≡ false → false ≡ whole
      rows_row k = sym (parts true false (sym (le-leb least r.style s)) (sym k ∙ ea))

      pub rows_next : a ≡ true → (next : ℕ) → next ≡ rank (next_style (style_for r.style) (act r.step)) → whole ≡ rows_right area next (listed (row_at cells) (i + 1) (n - (i + 1)))
      rows_next k next en = rw en (parts true true (sym (le-leb least r.style s)) (sym k ∙ ea))

-- all rows are right where their question is answered by yes
each_right : (area cells : List ℕ) (least i n : ℕ) → rows_right area least (listed (row_at cells) i n) ≡ true → (j : ℕ) → i ≤ j → j < i + n → row_right area (row_at cells j) ≡ true
each_right area cells least i zero t j l u = absurd (omega arith)
each_right area cells least i (suc n) t j l u = split (dec_le (suc i) j) (each_right area cells next (suc i) n (and_right (leb least r.style && row_right area r) rest t) j)
  where
    r : Row
    r = row_at cells i

    next : ℕ
    next = rank (next_style (style_for r.style) (act r.step))

    rest : Bool
    rest = rows_right area next (listed (row_at cells) (suc i) n)

    here : i ≡ j → row_right area (row_at cells j) ≡ true
    here e = rw (← e) (and_right (leb least r.style) (row_right area r) (and_left (leb least r.style && row_right area r) rest t))

    split : Dec (suc i ≤ j) → (suc i ≤ j → j < suc i + n → row_right area (row_at cells j) ≡ true) → row_right area (row_at cells j) ≡ true
    split (yes h) more = more h (omega arith)
    split (no h) more = here (omega arith)

pub each_keyed : (area cells : List ℕ) (n : ℕ) → 2 + 6 * n ≤ length cells → ((j : ℕ) → j < n → row_right area (row_at cells j) ≡ true) → Keyed area cells n
each_keyed area cells n h right =
    record { long = h; named_inside = λ j u. right_inside area (row_at cells j) (right j u); keys = λ j u. right_key area (row_at cells j) (right j u) }

pub rows_keyed : (area cells : List ℕ) (n : ℕ) → 2 + 6 * n ≤ length cells → rows_right area 0 (listed (row_at cells) 0 n) ≡ true → Keyed area cells n
rows_keyed area cells n h t = each_keyed area cells n h (λ j u. each_right area cells 0 0 n t j (omega arith) (omega arith))

-- ---- a loop over the names: those from index i on against all before them

module _ (p : ℕ → Parameter) (n i : ℕ) {whole : Bool} (left : whole ≡ names_apart (listed p 0 i) (listed p i (n - i))) where
  module _ (h : i < n) where
    parts_apart : (b : Bool) → b ≡ (not (nameable (p i)) || not (known (listed p 0 i) (p i).name.bytes))
        → whole ≡ (b && names_apart (listed p 0 (i + 1)) (listed p (i + 1) (n - (i + 1))))
    parts_apart b eb = left ∙ ap (names_apart (listed p 0 i)) (listed_next p i n h) ∙ rw (← eb, ← listed_more p i)

    pub apart_twice : nameable (p i) ≡ true → known (listed p 0 i) (p i).name.bytes ≡ true → false ≡ whole
    apart_twice a b = sym (parts_apart false (rw (a, b)))

    pub apart_new : known (listed p 0 i) (p i).name.bytes ≡ false → whole ≡ names_apart (listed p 0 (i + 1)) (listed p (i + 1) (n - (i + 1)))
    apart_new b = parts_apart true (go (nameable (p i)))
      where
        go : (a : Bool) → true ≡ (not a || not (known (listed p 0 i) (p i).name.bytes))
        go true = rw b
        go false = refl

    pub apart_unnamed : nameable (p i) ≡ false → whole ≡ names_apart (listed p 0 (i + 1)) (listed p (i + 1) (n - (i + 1)))
    apart_unnamed a = parts_apart true (rw a)

-- ---- the whole, from the answers in their order

module _ (area cells : List ℕ) (n : ℕ) (en : n ≡ get_or cells 0 0) where
  whole_of
      : (a b d : Bool)
      → a ≡ leb n 64
      → b ≡ leb (2 + 6 * n) (length cells)
      → d ≡ is_text 1 area (get_or cells 1 0)
      → (a && b && d && rows_right area 0 (listed (row_at cells) 0 n) && names_apart [] (listed (param_at area cells) 0 n)) ≡ is_prepared area cells
  unfolding is_prepared prepared_length front_width row_width
  whole_of a b d ea eb ed = rw (rows_listed, list_listed, ← en, ← ea, ← eb, ← ed)

  pub not_few : 64 < n → false ≡ is_prepared area cells
  not_few h = whole_of false _ _ (sym (lt-leb n 64 h)) refl refl

  module _ (few : n ≤ 64) where
    pub not_long : length cells < 2 + 6 * n → false ≡ is_prepared area cells
    not_long h = whole_of true false _ (sym (le-leb n 64 few)) (sym (lt-leb (2 + 6 * n) (length cells) h)) refl

    module _ (long : 2 + 6 * n ≤ length cells) {d : Bool} (ed : d ≡ is_text 1 area (get_or cells 1 0)) where
      pub not_named : d ≡ false → false ≡ is_prepared area cells
      not_named k = whole_of true true false (sym (le-leb n 64 few)) (sym (le-leb (2 + 6 * n) (length cells) long)) (sym k ∙ ed)

      pub is_asked
          : d ≡ true → {e : Bool} → e ≡ (rows_right area 0 (listed (row_at cells) 0 n) && names_apart [] (listed (param_at area cells) 0 n)) → e ≡ is_prepared area cells
      is_asked k ee = ee ∙ whole_of true true true (sym (le-leb n 64 few)) (sym (le-leb (2 + 6 * n) (length cells) long)) (sym k ∙ ed)
