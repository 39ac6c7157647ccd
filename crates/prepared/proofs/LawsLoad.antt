-- Laws of loading a prepared list, in this order: which rows are counted, by code and style; counts and first indices after one more row;
-- a column after one more store; the columns as a list. Assumes nothing.
use mathlib.Core.Path.{◌≡◌, refl, sym, ap, ◌∙◌}
use mathlib.Core.Bool.{Bool, true, false, cond}
use mir.Val.{bool_byte}
use mathlib.Core.List.{List}
use Rattle.std.specs.Prelude.{Option, Some, None}
use Rattle.std.specs.Option.{option_or}
use Prim.Native.Nat.{ℕ, zero, suc, ◌+◌, ◌*◌, ◌<◌, ◌≤◌}
use native.Mathlib.Nat.{zero-add, add-zero}
use native.Mathlib.Decide.{dec_le}
use native.Mathlib.Omega.{arith}
use lib.Dec.{ltb, eqb}
use lib.ListN.{length, get_or, set, length-set}
use lib.Seq.{get_or-set_same, get_or-set_other}
use borrow.Author.Tests.{le-ltb, ne_eqb}
use Rattle.rules.specs.Value.{Value, no_value}
use Rattle.rules.specs.Listing.{tally, first_from}
use Rattle.rules.specs.Parameters.{Parameter, pos_or_named, comes_before, act_of, takes_position, positional as rules-positional, positional_only, is_args, is_kwargs, positional_only_count, positional_count, args_index, kwargs_index}
use Rattle.cells.specs.Listed.{listed}
use Rattle.cells.proofs.LawsListed.{or_first, length_listed, listed_more, Listed-same, tally_snoc, first_snoc}
use Rattle.builder.specs.Params.{style_for, kind_for, parameter_of, parameter_at, parameters_in}
use Rattle.builder.specs.Spec.{index_of}
use Rattle.builder.specs.Build.{IsList}
use Rattle.builder.specs.declared.params.Parameters.{Parameters}
use Rattle.builder.specs.declared.spec.ParametersSpec.{ParametersSpec}
use Rattle.builder.proofs.LawsCodes.{code_3, code_4, code_0, plain_code, plain_above}
use Rattle.builder.proofs.LawsParams.{plain_any}
use Rattle.prepared.specs.Prepared.{Row, parameter_of_row, list_in}
use Rattle.prepared.specs.Rows.{row_at, param_at}
use Rattle.prepared.specs.Load.{by_position, only_by_position, rest_of_names, or_at, IndicesOf}
use Rattle.prepared.proofs.LawsRows.{cells_at, row_at_cells, list_listed}

-- ---- by code and style

takes_position_number : (style : ℕ) → ltb style 2 ≡ takes_position (style_for style)
takes_position_number zero = refl
takes_position_number (suc zero) = refl
takes_position_number (suc (suc zero)) = refl
takes_position_number (suc (suc (suc n))) = le-ltb (suc (suc (suc n))) 2 (omega arith)

first_number : (style : ℕ) → ltb style 1 ≡ comes_before (style_for style) pos_or_named
unfolding comes_before
first_number zero = refl
first_number (suc zero) = refl
first_number (suc (suc zero)) = refl
first_number (suc (suc (suc n))) = le-ltb (suc (suc (suc n))) 1 (omega arith)

module _ (code style : ℕ) where
  pub by_3 : 1 ≤ code → code < 4 → ltb style 2 ≡ by_position code style
  unfolding by_position
  by_3 l u = rw (plain_code no_value code l u) (takes_position_number style)

  pub by_0 : code < 1 → false ≡ by_position code style
  unfolding by_position
  by_0 u = rw (code_0 no_value code u)

  pub by_4 : 4 ≤ code → false ≡ by_position code style
  unfolding by_position
  by_4 l = rw (plain_above no_value code l)

  pub only_3 : 1 ≤ code → code < 4 → ltb style 1 ≡ only_by_position code style
  unfolding only_by_position
  only_3 l u = rw (plain_code no_value code l u) (first_number style)

  pub only_0 : code < 1 → false ≡ only_by_position code style
  unfolding only_by_position
  only_0 u = rw (code_0 no_value code u)

  pub only_4 : 4 ≤ code → false ≡ only_by_position code style
  unfolding only_by_position
  only_4 l = rw (plain_above no_value code l)

module _ (code : ℕ) where
  pub rest_3 : 1 ≤ code → code < 4 → false ≡ rest_of_names code
  unfolding rest_of_names
  rest_3 l u = code_3 (λ n. false ≡ is_kwargs (kind_for (act_of n no_value))) refl refl refl code l u

  pub rest_6 : code ≡ 6 → false ≡ rest_of_names code
  unfolding rest_of_names
  rest_6 e = rw e

  pub rest_0 : code < 1 → true ≡ rest_of_names code
  unfolding rest_of_names
  rest_0 u = rw (code_0 no_value code u)

  pub rest_4 : 4 ≤ code → (code ≡ 6 → ⊥) → true ≡ rest_of_names code
  unfolding rest_of_names
  rest_4 l six =
      code_4 no_value (λ n. (n ≡ 6 → ⊥) → true ≡ is_kwargs (kind_for (act_of n no_value)))
      (λ a. refl) (λ a. refl) (λ a. absurd (a refl)) (λ a. refl) (λ n e a. rw e) code l six

kwargs_any : (code : ℕ) (v w : Value) → is_kwargs (kind_for (act_of code v)) ≡ is_kwargs (kind_for (act_of code w))
kwargs_any zero v w = refl
kwargs_any (suc zero) v w = refl
kwargs_any (suc (suc zero)) v w = refl
kwargs_any (suc (suc (suc zero))) v w = refl
kwargs_any (suc (suc (suc (suc zero)))) v w = refl
kwargs_any (suc (suc (suc (suc (suc zero))))) v w = refl
kwargs_any (suc (suc (suc (suc (suc (suc zero)))))) v w = refl
kwargs_any (suc (suc (suc (suc (suc (suc (suc zero))))))) v w = refl
kwargs_any (suc (suc (suc (suc (suc (suc (suc (suc n)))))))) v w = refl

args_code : (code : ℕ) (v : Value) → is_args (kind_for (act_of code v)) ≡ eqb code 6
args_code zero v = refl
args_code (suc zero) v = refl
args_code (suc (suc zero)) v = refl
args_code (suc (suc (suc zero))) v = refl
args_code (suc (suc (suc (suc zero)))) v = refl
args_code (suc (suc (suc (suc (suc zero))))) v = refl
args_code (suc (suc (suc (suc (suc (suc zero)))))) v = refl
args_code (suc (suc (suc (suc (suc (suc (suc zero))))))) v = refl
args_code (suc (suc (suc (suc (suc (suc (suc (suc n)))))))) v = sym (ne_eqb (suc (suc (suc (suc (suc (suc (suc (suc n)))))))) 6 (λ e. omega arith))

-- ---- the same of a row

module _ (area : List ℕ) (r : Row) where
  pub row_position : by_position r.step.code r.style ≡ rules-positional (parameter_of_row area r)
  unfolding rules-positional by_position parameter_of_row parameter_of
  row_position = rw (plain_any r.step.code r.step.default no_value)

  row_only : only_by_position r.step.code r.style ≡ positional_only (parameter_of_row area r)
  unfolding positional_only only_by_position parameter_of_row parameter_of
  row_only = rw (plain_any r.step.code r.step.default no_value)

  row_args : eqb r.step.code 6 ≡ is_args (parameter_of_row area r).kind
  unfolding parameter_of_row parameter_of
  row_args = sym (args_code r.step.code r.step.default)

  row_kwargs : rest_of_names r.step.code ≡ is_kwargs (parameter_of_row area r).kind
  unfolding rest_of_names parameter_of_row parameter_of
  row_kwargs = kwargs_any r.step.code no_value r.step.default

-- a test of rows that is one of parameters, put to the cells of row i
by_Row
    : (area cells : List ℕ) (i : ℕ) (f : Row → Bool) (test : Parameter → Bool) → ((r : Row) → f r ≡ test (parameter_of_row area r))
    → f (cells_at cells i) ≡ test (param_at area cells i)
unfolding param_at
by_Row area cells i f test law = ap f (sym (row_at_cells cells i)) ∙ law (row_at cells i)

-- ---- one more row

tally_next : (test : Parameter → Bool) (p : ℕ → Parameter) (i count : ℕ) (b : Bool) → count ≡ tally test (listed p 0 i) → b ≡ test (p i) → cond b (count + 1) count ≡ tally test (listed p 0 (i + 1))
tally_next test p i count b ec eb = sym (ap (tally test) (listed_more p i) ∙ tally_snoc test (listed p 0 i) (p i) ∙ rw (← ec, ← eb))

or_at_first : (x : Option ℕ) (b : Bool) (i : ℕ) → index_of (or_at x b i) ≡ or_first (index_of x) b i
or_at_first (Some j) b i = refl
or_at_first None true i = refl
or_at_first None false i = refl

first_next : (test : Parameter → Bool) (p : ℕ → Parameter) (i : ℕ) (x : Option ℕ) (b : Bool) → index_of x ≡ first_from test 0 (listed p 0 i) → b ≡ test (p i) → index_of (or_at x b i) ≡ first_from test 0 (listed p 0 (i + 1))
first_next test p i x b ex eb =
    or_at_first x b i
    ∙ rw (ex, eb)
    (sym (ap (first_from test 0) (listed_more p i) ∙ first_snoc test 0 (listed p 0 i) (p i) ∙ ap (or_first (first_from test 0 (listed p 0 i)) (test (p i))) (zero-add (length (listed p 0 i)) ∙ length_listed p 0 i)))

-- the counts and indices of the first i rows
pub record Indexed (cells : List ℕ) (i only positional : ℕ) (args kwargs : Option ℕ) : Type 0 where
  pub only_few : only ≤ i
  pub few : positional ≤ i
  pub indices : (area : List ℕ) → IndicesOf (listed (param_at area cells) 0 i) (record { num_positional_only = only; num_positional = positional; args = args; kwargs = kwargs })

pub indexed_none : (cells : List ℕ) → Indexed cells 0 0 0 None None
unfolding positional_only_count positional_count args_index kwargs_index
indexed_none cells =
    record {
      only_few = omega arith;
      few = omega arith;
      indices = λ area. record { positional_only = refl; positional = refl; args = refl; kwargs = refl };
    }

counted_few : (b : Bool) (count i : ℕ) → count ≤ i → cond b (count + 1) count ≤ i + 1
counted_few true count i h = omega arith
counted_few false count i h = omega arith

pub indexed_next
    : (cells : List ℕ) (i only positional : ℕ) (args kwargs : Option ℕ) (o s : ℕ) (x y : Option ℕ) {a b k : Bool}
    → Indexed cells i only positional args kwargs
    → a ≡ only_by_position (get_or cells (2 + 6 * i) 0) (get_or cells (2 + 6 * i + 1) 0)
    → o ≡ cond a (only + 1) only
    → b ≡ by_position (get_or cells (2 + 6 * i) 0) (get_or cells (2 + 6 * i + 1) 0)
    → s ≡ cond b (positional + 1) positional
    → x ≡ or_at args (eqb (get_or cells (2 + 6 * i) 0) 6) i
    → k ≡ rest_of_names (get_or cells (2 + 6 * i) 0)
    → y ≡ or_at kwargs k i
    → Indexed cells (i + 1) o s x y
unfolding positional_only_count positional_count args_index kwargs_index
indexed_next cells i only positional args kwargs o s x y {a} {b} {k} h ea eo eb es ex ek ey =
    record {
      only_few = rw eo (counted_few a only i h.only_few);
      few = rw es (counted_few b positional i h.few);
      indices =
          λ area.
          record {
            positional_only = eo ∙ tally_next positional_only (param_at area cells) i only a (h.indices area).positional_only (ea ∙ by_Row area cells i (λ r. only_by_position r.step.code r.style) positional_only (row_only area));
            positional = es ∙ tally_next rules-positional (param_at area cells) i positional b (h.indices area).positional (eb ∙ by_Row area cells i (λ r. by_position r.step.code r.style) rules-positional (row_position area));
            args = ap index_of ex ∙ first_next (λ q. is_args q.kind) (param_at area cells) i args (eqb (get_or cells (2 + 6 * i) 0) 6) (h.indices area).args (by_Row area cells i (λ r. eqb r.step.code 6) (λ q. is_args q.kind) (row_args area));
            kwargs = ap index_of ey ∙ first_next (λ q. is_kwargs q.kind) (param_at area cells) i kwargs k (h.indices area).kwargs (ek ∙ by_Row area cells i (λ r. rest_of_names r.step.code) (λ q. is_kwargs q.kind) (row_kwargs area));
          };
    }

-- the same row by row: a count goes up where the test holds, and an index is kept where it doesn't
plus_flag : (n : ℕ) (b : Bool) → n + bool_byte b ≡ cond b (n + 1) n
plus_flag n true = refl
plus_flag n false = add-zero n

or_at_kept : (x : Option ℕ) (b : Bool) (i : ℕ) → b ≡ false → x ≡ or_at x b i
or_at_kept (Some j) b i e = refl
or_at_kept None b i e = rw e

module _ (cells : List ℕ) (i only positional : ℕ) (args kwargs : Option ℕ) (h : Indexed cells i only positional args kwargs) where
  abbrev code : ℕ
  code = get_or cells (2 + 6 * i) 0

  abbrev style : ℕ
  style = get_or cells (2 + 6 * i + 1) 0

  -- one that is counted
  pub indexed_plain : 1 ≤ code → code < 4 → Indexed cells (i + 1) (only + bool_byte (ltb style 1)) (positional + bool_byte (ltb style 2)) args kwargs
  indexed_plain l u =
      indexed_next cells i only positional args kwargs _ _ _ _ h
      (only_3 code style l u) (plus_flag only (ltb style 1)) (by_3 code style l u) (plus_flag positional (ltb style 2))
      (or_at_kept args (eqb code 6) i (ne_eqb code 6 (λ e. omega arith))) (rest_3 code l u) (or_at_kept kwargs false i refl)

  -- `*args`
  pub indexed_args : code ≡ 6 → Indexed cells (i + 1) only positional (option_or args (Some i)) kwargs
  indexed_args e =
      let l : 4 ≤ code = omega arith in
      indexed_next cells i only positional args kwargs _ _ _ _ h (only_4 code style l) refl (by_4 code style l) refl
      (ap (λ n. or_at args (eqb n 6) i) (sym e)) (rest_6 code e) (or_at_kept kwargs false i refl)

  -- any other is read as `**kwargs`
  pub indexed_kwargs : (1 ≤ code → code < 4 → ⊥) → (code ≡ 6 → ⊥) → Indexed cells (i + 1) only positional args (option_or kwargs (Some i))
  indexed_kwargs plain six = split (dec_le 4 code) (dec_le 1 code)
    where
      kept : args ≡ or_at args (eqb code 6) i
      kept = or_at_kept args (eqb code 6) i (ne_eqb code 6 six)

      split : Dec (4 ≤ code) → Dec (1 ≤ code) → Indexed cells (i + 1) only positional args (option_or kwargs (Some i))
      split (yes l) d = indexed_next cells i only positional args kwargs _ _ _ _ h (only_4 code style l) refl (by_4 code style l) refl kept (rest_4 code l six) refl
      split (no l) (yes g) = absurd (plain g (omega arith))
      split (no l) (no g) = indexed_next cells i only positional args kwargs _ _ _ _ h (only_0 code style (omega arith)) refl (by_0 code style (omega arith)) refl kept (rest_0 code (omega arith)) refl

-- ---- the columns

-- the first i elements are these, of the 64 that there are
pub record Column (value : ℕ → ℕ) (i : ℕ) (xs : List ℕ) : Type 0 where
  pub wide : length xs ≡ 64
  pub held : (j : ℕ) → j < i → get_or xs j 0 ≡ value j

pub column_next : (value : ℕ → ℕ) (i : ℕ) (xs : List ℕ) → Column value i xs → i < 64 → Column value (i + 1) (set xs i (value i))
column_next value i xs k h =
    record {
      wide = length-set xs i (value i) ∙ k.wide;
      held = λ j u. split j u (dec_le (suc j) i);
    }
  where
    here : get_or (set xs i (value i)) i 0 ≡ value i
    here = get_or-set_same xs i (value i) 0 (omega (arith, k.wide))

    split : (j : ℕ) → j < i + 1 → Dec (suc j ≤ i) → get_or (set xs i (value i)) j 0 ≡ value j
    split j u (yes l) = get_or-set_other xs i j (value i) 0 (λ e. omega arith) ∙ k.held j l
    split j u (no l) = let e : i ≡ j = omega arith in rw (← e) here

-- five columns, each a cell of the first i rows
pub record Loaded (cells : List ℕ) (i : ℕ) (codes styles names kinds payloads : List ℕ) : Type 0 where
  pub code : Column (λ j. get_or cells (2 + 6 * j) 0) i codes
  pub style : Column (λ j. get_or cells (2 + 6 * j + 1) 0) i styles
  pub name : Column (λ j. get_or cells (2 + 6 * j + 2) 0) i names
  pub kind : Column (λ j. get_or cells (2 + 6 * j + 3) 0) i kinds
  pub payload : Column (λ j. get_or cells (2 + 6 * j + 4) 0) i payloads

pub column_none : (value : ℕ → ℕ) (xs : List ℕ) → length xs ≡ 64 → Column value 0 xs
column_none value xs e = record { wide = e; held = λ j u. absurd (omega arith) }

pub loaded_none : (cells codes styles names kinds payloads : List ℕ) → length codes ≡ 64 → length styles ≡ 64 → length names ≡ 64 → length kinds ≡ 64
    → length payloads ≡ 64 → Loaded cells 0 codes styles names kinds payloads
loaded_none cells codes styles names kinds payloads c s n k p =
    record {
      code = column_none _ codes c;
      style = column_none _ styles s;
      name = column_none _ names n;
      kind = column_none _ kinds k;
      payload = column_none _ payloads p;
    }

module _ (cells : List ℕ) (i : ℕ) (codes styles names kinds payloads : List ℕ) (l : Loaded cells i codes styles names kinds payloads) where
  pub loaded_next
      : i < 64
      → Loaded cells (i + 1) (set codes i (get_or cells (2 + 6 * i) 0)) (set styles i (get_or cells (2 + 6 * i + 1) 0))
      (set names i (get_or cells (2 + 6 * i + 2) 0)) (set kinds i (get_or cells (2 + 6 * i + 3) 0)) (set payloads i (get_or cells (2 + 6 * i + 4) 0))
  loaded_next h =
      record {
        code = column_next (λ j. get_or cells (2 + 6 * j) 0) i codes l.code h;
        style = column_next (λ j. get_or cells (2 + 6 * j + 1) 0) i styles l.style h;
        name = column_next (λ j. get_or cells (2 + 6 * j + 2) 0) i names l.name h;
        kind = column_next (λ j. get_or cells (2 + 6 * j + 3) 0) i kinds l.kind h;
        payload = column_next (λ j. get_or cells (2 + 6 * j + 4) 0) i payloads l.payload h;
      }

module _ (cells : List ℕ) (p : Parameters) (l : Loaded cells p.len p.codes p.styles p.names p.default_kinds p.default_payloads) where
  loaded_at : (area : List ℕ) (j : ℕ) → j < p.len → parameter_at area p j ≡ param_at area cells j
  unfolding parameter_at param_at parameter_of_row
  loaded_at area j h = rw (row_at_cells, l.code.held j h, l.style.held j h, l.name.held j h, l.kind.held j h, l.payload.held j h)

  pub loaded_list
      : (area : List ℕ) (s : ParametersSpec) → s.params ≡ p → p.len ≡ get_or cells 0 0 → p.len ≤ 64 → IndicesOf (listed (param_at area cells) 0 p.len) s.indices
      → IsList area s (list_in area cells)
  unfolding parameters_in
  loaded_list area s is e few x =
      record {
        room = rw is few;
        parameters = ap (parameters_in area) is ∙ Listed-same _ _ 0 p.len (λ j a u. loaded_at area j (omega arith)) ∙ same;
        positional_only = x.positional_only ∙ ap positional_only_count same;
        positional = x.positional ∙ ap positional_count same;
        args = x.args ∙ ap args_index same;
        kwargs = x.kwargs ∙ ap kwargs_index same;
      }
    where
      same : listed (param_at area cells) 0 p.len ≡ list_in area cells
      same = rw e (sym (list_listed area cells))
