-- Laws of the rows of a prepared list, in this order: by consuming the cells they are those by index; which codes may stand under which
-- style, and the style that follows; a name with its key; what a row by itself is asked; a search for a name over rows.
-- Assumes nothing.
use mathlib.Core.Path.{◌≡◌, refl, sym, ap, ap₂, ◌∙◌}
use mathlib.Core.Bool.{Bool, true, false, ◌&&◌, ◌||◌, and-true, and-false}
use mathlib.Core.List.{List, ◌∷◌, map}
use Prim.Native.Nat.{ℕ, zero, suc, ◌+◌, ◌*◌, ◌/◌, ◌%◌, ◌<◌, ◌≤◌}
use native.Mathlib.Nat.{add-zero}
use native.Mathlib.Numerals.{add-one}
use native.Mathlib.Omega.{arith}
use lib.Dec.{ltb, leb, eqb}
use lib.ListN.{length, drop, get_or}
use lib.Seq.{drop-drop, get_or-drop}
use native.Mathlib.Decide.{dec_le}
use borrow.Author.Tests.{le-ltb, le-leb, lt-leb, eqb-true, eqb-false}
use Rattle.std.specs.List.{list_any, range_with_len}
use Rattle.rules.specs.Cells.{read_each}
use Rattle.rules.specs.Listing.{any}
use Rattle.rules.specs.Text.{start_of, size_of, text_in, bytes_at, inside, is_text, same_bytes}
use Rattle.rules.specs.Value.{Value, no_value, read_value}
use Rattle.rules.specs.Parameters.{Parameter, no_more, named_only, act, act_of, comes_before, next_style, rank, nameable}
use Rattle.rules.specs.ParameterQuestions.{step_name, uses_right}
use Rattle.rules.specs.Lookup.{names, known}
use Rattle.rules.proofs.LawsText.{same_bytes_eq}
use Rattle.cells.specs.Listed.{listed}
use Rattle.builder.specs.Params.{style_for, parameter_of, may_be_named}
use Rattle.builder.proofs.LawsCodes.{code_3, code_4, code_0, has_name_3, has_name_4}
use Rattle.builder.proofs.LawsParams.{plain_any}
use Rattle.cells.specs.Text.{key_of}
use Rattle.prepared.specs.Prepared.{Row, read_row, row_width, front_width, rows_in, list_in, parameter_of_row, row_right}
use Rattle.prepared.specs.Rows.{row_at, param_at, stands, Keyed}

-- ---- the rows by their index

read_each_listed : (cells : List ℕ) (i n : ℕ) → read_each 6 read_row n (drop (2 + 6 * i) cells) ≡ listed (row_at cells) i n
unfolding row_at
read_each_listed cells i zero = refl
read_each_listed cells i (suc n) =
    let e : 2 + 6 * i + 6 ≡ 2 + 6 * suc i = omega arith in
    ap (λ (rs : List Row). read_row (drop (2 + 6 * i) cells) ∷ rs) (rw (drop-drop, e) (read_each_listed cells (suc i) n))

pub rows_listed : (cells : List ℕ) → rows_in cells ≡ listed (row_at cells) 0 (get_or cells 0 0)
unfolding rows_in row_width front_width
rows_listed cells = read_each_listed cells 0 (get_or cells 0 0)

pub map_listed : {X Y : Type 0} (g : X → Y) (f : ℕ → X) (i n : ℕ) → map g (listed f i n) ≡ listed (λ k. g (f k)) i n
map_listed g f i zero = refl
map_listed g f i (suc n) = ap (λ l. g (f i) ∷ l) (map_listed g f (suc i) n)

pub list_listed : (area cells : List ℕ) → list_in area cells ≡ listed (param_at area cells) 0 (get_or cells 0 0)
unfolding list_in param_at
list_listed area cells = ap (map (parameter_of_row area)) (rows_listed cells) ∙ map_listed (parameter_of_row area) (row_at cells) 0 (get_or cells 0 0)

-- row i by its six cells
abbrev pub cells_at : List ℕ → ℕ → Row
cells_at cells i =
    record {
      step =
          record {
            code = get_or cells (2 + 6 * i) 0;
            name = get_or cells (2 + 6 * i + 2) 0;
            default = record { kind = get_or cells (2 + 6 * i + 3) 0; payload = get_or cells (2 + 6 * i + 4) 0 };
          };
      style = get_or cells (2 + 6 * i + 1) 0;
      key = get_or cells (2 + 6 * i + 5) 0;
    }

pub row_at_cells : (cells : List ℕ) (i : ℕ) → row_at cells i ≡ cells_at cells i
unfolding row_at read_row read_value
row_at_cells cells i =
    let f : 2 + 6 * i + 3 + 1 ≡ 2 + 6 * i + 4 = omega arith in
    simp (drop-drop, get_or-drop, add-zero, f)

-- ---- codes and styles

pub never : false ≡ true → ⊥
never e = let z : ◌≡◌ {A = ℕ} 0 1 = cc in omega arith

under_no_more : (style : ℕ) → (ltb style 3 && comes_before (style_for style) no_more) ≡ ltb style 3
unfolding comes_before
under_no_more zero = refl
under_no_more (suc zero) = refl
under_no_more (suc (suc zero)) = refl
under_no_more (suc (suc (suc n))) = rw (le-ltb (suc (suc (suc n))) 3 (omega arith))

under_named_only : (style : ℕ) → (ltb style 3 && comes_before (style_for style) named_only) ≡ ltb style 2
unfolding comes_before
under_named_only zero = refl
under_named_only (suc zero) = refl
under_named_only (suc (suc zero)) = refl
under_named_only (suc (suc (suc n))) = rw (le-ltb (suc (suc (suc n))) 3 (omega arith), le-ltb (suc (suc (suc n))) 2 (omega arith))

module _ (style : ℕ) (v : Value) where
  pub stands_3 : (code : ℕ) → 1 ≤ code → code < 4 → ltb style 3 ≡ stands code style v
  stands_3 code l u = sym (code_3 (λ n. stands n style v ≡ ltb style 3) (under_no_more style) (under_no_more style) (under_no_more style) code l u)

  pub stands_6 : (code : ℕ) → code ≡ 6 → ltb style 2 ≡ stands code style v
  stands_6 code e = rw e (sym (under_named_only style))

  pub stands_7 : (code : ℕ) → code ≡ 7 → ltb style 3 ≡ stands code style v
  stands_7 code e = rw e (sym (under_no_more style))

  pub stands_0 : (code : ℕ) → code < 1 → false ≡ stands code style v
  stands_0 code u = rw (code_0 v code u)

  pub stands_4 : (code : ℕ) → 4 ≤ code → (code ≡ 6 → ⊥) → (code ≡ 7 → ⊥) → false ≡ stands code style v
  stands_4 code l six seven =
      code_4 v (λ n. (n ≡ 6 → ⊥) → (n ≡ 7 → ⊥) → false ≡ stands n style v)
      (λ a b. refl) (λ a b. refl) (λ a b. absurd (a refl)) (λ a b. absurd (b refl)) (λ n e a b. rw e) code l six seven

pub rank_number : (style : ℕ) → style < 3 → style ≡ rank (style_for style)
rank_number zero h = refl
rank_number (suc zero) h = refl
rank_number (suc (suc zero)) h = refl
rank_number (suc (suc (suc n))) h = absurd (omega arith)

module _ (code style : ℕ) (v : Value) where
  pub after_6 : code ≡ 6 → 2 ≡ rank (next_style (style_for style) (act_of code v))
  after_6 e = rw e

  pub after_other : 4 ≤ code → (code ≡ 6 → ⊥) → stands code style v ≡ true → 3 ≡ rank (next_style (style_for style) (act_of code v))
  after_other l six t = go (eqb code 7) refl
    where
      go : (b : Bool) → eqb code 7 ≡ b → 3 ≡ rank (next_style (style_for style) (act_of code v))
      go true e = rw (eqb-true code 7 e)
      go false e = absurd (never (stands_4 style v code l six (eqb-false code 7 e) ∙ t))

  pub after_3 : style < 3 → code < 4 → stands code style v ≡ true → style ≡ rank (next_style (style_for style) (act_of code v))
  after_3 h u t = split (dec_le 1 code)
    where
      split : Dec (1 ≤ code) → style ≡ rank (next_style (style_for style) (act_of code v))
      split (yes l) = code_3 (λ n. style ≡ rank (next_style (style_for style) (act_of n v))) (rank_number style h) (rank_number style h) (rank_number style h) code l u
      split (no l) = absurd (never (stands_0 style v code (omega arith) ∙ t))

-- ---- a name with its key: whether it is a parameter's name, and the key is its own

module _ (area : List ℕ) (name : ℕ) where
  pub text_start : 16777215 < name → is_text 1 area name ≡ false
  unfolding is_text inside start_of
  text_start h = rw (lt-leb (name / 256) 65535 (omega arith))

  pub text_none : name % 256 ≡ 0 → is_text 1 area name ≡ false
  unfolding is_text size_of
  text_none e = rw (lt-leb 1 (name % 256) (omega arith), and-false (inside area name))

  pub text_long : 64 < name % 256 → is_text 1 area name ≡ false
  unfolding is_text size_of
  text_long h = rw (lt-leb (name % 256) 64 h) (and-false (inside area name && leb 1 (name % 256)))

  pub text_end : length area < name / 256 + name % 256 → is_text 1 area name ≡ false
  unfolding is_text inside start_of size_of
  text_end h = rw (lt-leb (name / 256 + name % 256) (length area) h, and-false (leb (name / 256) 65535))

  pub text_right : name ≤ 16777215 → (name % 256 ≡ 0 → ⊥) → name % 256 ≤ 64 → name / 256 + name % 256 ≤ length area → is_text 1 area name ≡ true
  unfolding is_text inside start_of size_of
  text_right s n l e = rw (le-leb (name / 256) 65535 (omega arith), le-leb (name / 256 + name % 256) (length area) e, le-leb 1 (name % 256) (omega arith), le-leb (name % 256) 64 l)

  module _ (key : ℕ) where
    pub not_named : is_text 1 area name ≡ false → false ≡ (is_text 1 area name && eqb key (key_of (bytes_at area name)))
    not_named e = rw e

    pub named_key : is_text 1 area name ≡ true → {k : ℕ} → k ≡ key_of (bytes_at area name) → eqb key k ≡ (is_text 1 area name && eqb key (key_of (bytes_at area name)))
    named_key e ek = rw (e, ek)

-- ---- a row by itself: a answers where it stands, d its default and unused cells, w its name with its key where it has one, k is its name's key

module _ (area : List ℕ) (r : Row) where
  abbrev keyed : Bool
  keyed = eqb r.key (key_of (bytes_at area r.step.name))

  right_of
      : (a b d : Bool)
      → a ≡ stands r.step.code r.style r.step.default
      → b ≡ step_name area r.step
      → d ≡ uses_right area (act r.step) r.step.name r.step.default
      → (a && b && d && keyed) ≡ row_right area r
  unfolding row_right act
  right_of a b d ea eb ed = rw (ea, eb, ed)

  -- those of codes 1 to 3 have a name
  name_3 : r.step.code < 4 → stands r.step.code r.style r.step.default ≡ true → is_text 1 area r.step.name ≡ step_name area r.step
  unfolding step_name act
  name_3 u t = split (dec_le 1 r.step.code)
    where
      split : Dec (1 ≤ r.step.code) → is_text 1 area r.step.name ≡ step_name area r.step
      split (yes l) = rw (has_name_3 r.step.default r.step.code l u)
      split (no l) = absurd (never (stands_0 r.style r.step.default r.step.code (omega arith) ∙ t))

  name_4 : 4 ≤ r.step.code → true ≡ step_name area r.step
  unfolding step_name act
  name_4 l = rw (has_name_4 r.step.default r.step.code l)

  module _ {a : Bool} (ea : a ≡ stands r.step.code r.style r.step.default) where
    pub right_stands : a ≡ false → false ≡ row_right area r
    right_stands n = rw n at (right_of a _ _ ea refl refl)

    module _ (ta : a ≡ true) {d : Bool} (ed : d ≡ uses_right area (act r.step) r.step.name r.step.default) where
      pub right_uses : d ≡ false → false ≡ row_right area r
      right_uses n = rw (n, and-false (a && step_name area r.step)) at (right_of a _ d ea refl ed)

      module _ (td : d ≡ true) where
        pub right_name : r.step.code < 4 → {w : Bool} → w ≡ (is_text 1 area r.step.name && keyed) → w ≡ row_right area r
        right_name u ew =
            ew
            ∙ rw (ta, td, and-true (is_text 1 area r.step.name)) at (right_of a (is_text 1 area r.step.name) d ea (name_3 u (sym ea ∙ ta)) ed)

        pub right_key : 4 ≤ r.step.code → {k : ℕ} → k ≡ key_of (bytes_at area r.step.name) → eqb r.key k ≡ row_right area r
        right_key l ek = ap (eqb r.key) ek ∙ (rw (ta, td) at (right_of a true d ea (name_4 l) ed))

-- ---- a search for a name over rows

pub nameable_row : (area : List ℕ) (r : Row) → nameable (parameter_of_row area r) ≡ may_be_named r.step.code r.style
unfolding nameable parameter_of_row parameter_of may_be_named
nameable_row area r = rw (plain_any r.step.code r.step.default no_value)

module _ (area bytes : List ℕ) (r : Row) where
  names_row : names bytes (parameter_of_row area r) ≡ (may_be_named r.step.code r.style && same_bytes bytes (bytes_at area r.step.name))
  unfolding names parameter_of_row parameter_of text_in
  names_row = ap (λ (b : Bool). b && same_bytes bytes (bytes_at area r.step.name)) (nameable_row area r)

  -- equal bytes have equal keys, so a row with another key has another name
  pub names_key : r.key ≡ key_of (bytes_at area r.step.name) → {k : ℕ} → k ≡ key_of bytes → (r.key ≡ k → ⊥) → names bytes (parameter_of_row area r) ≡ false
  names_key er {k} ek n = names_row ∙ go (may_be_named r.step.code r.style) (same_bytes bytes (bytes_at area r.step.name)) refl
    where
      go : (m b : Bool) → same_bytes bytes (bytes_at area r.step.name) ≡ b → (m && b) ≡ false
      go true true e = absurd (n (er ∙ ap key_of (sym (same_bytes_eq bytes (bytes_at area r.step.name) e)) ∙ sym ek))
      go true false e = refl
      go false true e = refl
      go false false e = refl

  -- from the answers: a where it can be named, b where the bytes x of its name are these
  module _ {a : Bool} (ea : a ≡ may_be_named r.step.code r.style) where
    pub names_style : a ≡ false → a ≡ names bytes (parameter_of_row area r)
    names_style f = f ∙ sym (names_row ∙ rw (← ea, f))

    pub names_bytes : a ≡ true → {x : List ℕ} → x ≡ bytes_at area r.step.name → {b : Bool} → b ≡ same_bytes bytes x → b ≡ names bytes (parameter_of_row area r)
    names_bytes t ex eb = eb ∙ sym (names_row ∙ rw (← ea, t, ← ex))

-- ---- by the cells of a row

pub key_cell : (cells : List ℕ) (i : ℕ) → (row_at cells i).key ≡ get_or cells (2 + 6 * i + 5) 0
key_cell cells i = ap (λ (r : Row). r.key) (row_at_cells cells i)

pub name_cell : (cells : List ℕ) (i : ℕ) → (row_at cells i).step.name ≡ get_or cells (2 + 6 * i + 2) 0
name_cell cells i = ap (λ (r : Row). r.step.name) (row_at_cells cells i)

-- row i's name, by the bytes that its cell names, is not that of a row before it with another key
pub other_key
    : (area cells bytes : List ℕ) (i j : ℕ) → Keyed area cells (i + 1) → bytes ≡ bytes_at area (get_or cells (2 + 6 * i + 2) 0) → j < i
    → (get_or cells (2 + 6 * j + 5) 0 ≡ get_or cells (2 + 6 * i + 5) 0 → ⊥) → names bytes (param_at area cells j) ≡ false
unfolding param_at
other_key area cells bytes i j keyed eb h n =
    names_key area bytes (row_at cells j) (keyed.keys j (omega arith))
    (sym (key_cell cells i) ∙ keyed.keys i (omega arith) ∙ ap (λ m. key_of (bytes_at area m)) (name_cell cells i) ∙ ap key_of (sym eb))
    (λ e. n (sym (key_cell cells j) ∙ e))

-- a test of the numbers from i on is one of what they list
any_range
    : {X : Type 0} (test : ℕ → Bool) (f : X → Bool) (at : ℕ → X) (i n : ℕ) → ((j : ℕ) → i ≤ j → j < i + n → test j ≡ f (at j))
    → list_any test (range_with_len i n) ≡ any f (listed at i n)
any_range test f at i zero h = refl
any_range test f at i (suc n) h =
    ap₂ (λ a b. a || b) (h i (omega arith) (omega arith)) (rw add-one (any_range test f at (suc i) n (λ j l u. h j (omega arith) (omega arith))))

-- the rows before row i that have its key and its name are those that have its name
pub known_range
    : (area cells bytes : List ℕ) (i : ℕ) → Keyed area cells (i + 1) → bytes ≡ bytes_at area (get_or cells (2 + 6 * i + 2) 0)
    → list_any (λ j. eqb (get_or cells (2 + 6 * j + 5) 0) (get_or cells (2 + 6 * i + 5) 0) && names bytes (param_at area cells j)) (range_with_len 0 i)
    ≡ known (listed (param_at area cells) 0 i) bytes
unfolding known
known_range area cells bytes i keyed eb =
    any_range (λ j. eqb (get_or cells (2 + 6 * j + 5) 0) (get_or cells (2 + 6 * i + 5) 0) && names bytes (param_at area cells j)) (names bytes) (param_at area cells) 0 i
    (λ j l u. go j (omega arith) (eqb (get_or cells (2 + 6 * j + 5) 0) (get_or cells (2 + 6 * i + 5) 0)) refl)
  where
    go : (j : ℕ) → j < i → (b : Bool) → eqb (get_or cells (2 + 6 * j + 5) 0) (get_or cells (2 + 6 * i + 5) 0) ≡ b → (b && names bytes (param_at area cells j)) ≡ names bytes (param_at area cells j)
    go j u true e = refl
    go j u false e = sym (other_key area cells bytes i j keyed eb u (eqb-false (get_or cells (2 + 6 * j + 5) 0) (get_or cells (2 + 6 * i + 5) 0) e))

-- row i's name by its bytes, as its cell names them
pub known_bytes
    : (area cells bytes : List ℕ) (i : ℕ) (qs : List Parameter) → bytes ≡ bytes_at area (get_or cells (2 + 6 * i + 2) 0)
    → known qs (bytes_at area (row_at cells i).step.name) ≡ known qs bytes
known_bytes area cells bytes i qs eb = ap (λ n. known qs (bytes_at area n)) (name_cell cells i) ∙ ap (known qs) (sym eb)

pub may_be_named_cells : (cells : List ℕ) (i : ℕ) → may_be_named (row_at cells i).step.code (row_at cells i).style ≡ may_be_named (get_or cells (2 + 6 * i) 0) (get_or cells (2 + 6 * i + 1) 0)
may_be_named_cells cells i = ap (λ (r : Row). may_be_named r.step.code r.style) (row_at_cells cells i)
