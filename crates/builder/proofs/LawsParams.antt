-- Laws of the parameters as the code holds them, in this order: a style's number gives the style back; which parameters are nameable; one
-- more parameter at the end of the columns; a search over them. Assumes nothing.
use Rattle.std.specs.List.{list_any, range_with_len}
use mathlib.Core.Path.{◌≡◌, refl, sym, ap, ◌∙◌}
use mathlib.Core.Bool.{Bool, true, false, ◌&&◌, and_comm}
use mathlib.Core.List.{List}
use Prim.Native.Nat.{ℕ, zero, suc, ◌+◌, ◌<◌, ◌≤◌}
use native.Mathlib.Numerals.{add-one}
use native.Mathlib.Omega.{arith}
use native.Mathlib.Decide.{dec_le}
use mathlib.Core.Logic.{◌⊎◌, ⊎_elim}
use lib.ListN.{length, get_or, set}
use lib.Seq.{get_or-set_same, get_or-set_other}
use Rattle.rules.specs.Listing.{any}
use Rattle.rules.specs.Text.{same_bytes, bytes_at, text_in}
use Rattle.rules.specs.Lookup.{names, known}
use Rattle.rules.specs.Value.{Value, no_value}
use Rattle.rules.specs.Parameters.{Style, pos_only, pos_or_named, named_only, no_more, rank, act, act_of, plain, takes_name, nameable}
use Rattle.builder.specs.declared.params.Parameters.{Parameters}
use Rattle.builder.specs.declared.params.Step.{Step}
use Rattle.cells.specs.Listed.{listed}
use Rattle.builder.specs.Params.{style_for, kind_for, parameter_of, parameter_at, parameters_in, step_of, Longer, may_be_named, named_at, known_in}
use Rattle.builder.proofs.LawsCodes.{code_0, plain_code, plain_above}
use Rattle.cells.proofs.LawsListed.{listed_more, Listed-same, snoc_same}

pub style_for_rank : (s : Style) → style_for (rank s) ≡ s
style_for_rank pos_only = refl
style_for_rank pos_or_named = refl
style_for_rank named_only = refl
style_for_rank no_more = refl

-- whether a code is plain does not depend on the default beside it
pub plain_any : (code : ℕ) (v w : Value) → plain (kind_for (act_of code v)) ≡ plain (kind_for (act_of code w))
plain_any code v w = split (dec_le 4 code) (dec_le 1 code)
  where
    split : Dec (4 ≤ code) → Dec (1 ≤ code) → plain (kind_for (act_of code v)) ≡ plain (kind_for (act_of code w))
    split (yes h) d = plain_above v code h ∙ sym (plain_above w code h)
    split (no h) (yes l) = plain_code v code l (omega arith) ∙ sym (plain_code w code l (omega arith))
    split (no h) (no l) = rw (code_0 v code (omega arith), code_0 w code (omega arith))

pub may_be_named_below : (code style : ℕ) → code < 1 → may_be_named code style ≡ false
unfolding may_be_named
may_be_named_below zero style h = refl
may_be_named_below (suc n) style h = absurd (omega arith)

pub may_be_named_above : (code style : ℕ) → 4 ≤ code → may_be_named code style ≡ false
unfolding may_be_named
may_be_named_above code style h = rw (plain_above no_value code h)

pub may_be_named_plain : (code style : ℕ) → 1 ≤ code → code < 4 → may_be_named code style ≡ takes_name (style_for style)
unfolding may_be_named
may_be_named_plain code style l u = rw (plain_code no_value code l u)

pub takes_name_number : (style : ℕ) → 1 ≤ style → style < 3 → takes_name (style_for style) ≡ true
takes_name_number zero l u = absurd (omega arith)
takes_name_number (suc zero) l u = refl
takes_name_number (suc (suc zero)) l u = refl
takes_name_number (suc (suc (suc n))) l u = absurd (omega arith)

pub takes_name_other : (style : ℕ) → (style < 1) ⊎ (3 ≤ style) → takes_name (style_for style) ≡ false
takes_name_other zero h = refl
takes_name_other (suc zero) h = absurd (⊎_elim (λ a. omega arith) (λ b. omega arith) h)
takes_name_other (suc (suc zero)) h = absurd (⊎_elim (λ a. omega arith) (λ b. omega arith) h)
takes_name_other (suc (suc (suc n))) h = refl

pub nameable_at
    : (area : List ℕ) (p : Parameters) (i : ℕ)
    → nameable (parameter_at area p i) ≡ may_be_named (get_or p.codes i 0) (get_or p.styles i 0)
unfolding nameable parameter_at parameter_of may_be_named
nameable_at area p i = rw (plain_any (get_or p.codes i 0) _ no_value)

-- ---- one more parameter at the end

-- the columns with one more entry
abbrev pub stored : Parameters → Step → ℕ → Parameters
stored p s style =
    record {
      codes = set p.codes p.len s.code;
      styles = set p.styles p.len style;
      names = set p.names p.len s.name;
      default_kinds = set p.default_kinds p.len s.default_kind;
      default_payloads = set p.default_payloads p.len s.default_payload;
      len = p.len + 1;
    }

-- every column has an entry at n
pub record Room (p : Parameters) (n : ℕ) : Type 0 where
  pub codes : n < length p.codes
  pub styles : n < length p.styles
  pub names : n < length p.names
  pub kinds : n < length p.default_kinds
  pub payloads : n < length p.default_payloads

module _ (p : Parameters) (s : Step) (n : ℕ) where
  stored_before : (area : List ℕ) (j : ℕ) → j < p.len → parameter_at area (stored p s n) j ≡ parameter_at area p j
  unfolding parameter_at
  stored_before area j h =
      let ne : j ≡ p.len → ⊥ = λ e. omega arith in
      rw (
        get_or-set_other p.codes p.len j s.code 0 ne,
        get_or-set_other p.styles p.len j n 0 ne,
        get_or-set_other p.names p.len j s.name 0 ne,
        get_or-set_other p.default_kinds p.len j s.default_kind 0 ne,
        get_or-set_other p.default_payloads p.len j s.default_payload 0 ne,
      )

  module _ (style : Style) (e : n ≡ rank style) (r : Room p p.len) where
    stored_at
        : (area : List ℕ)
        → parameter_at area (stored p s n) p.len
        ≡ record { kind = kind_for (act (step_of s)); style = style; name = text_in area s.name }
    unfolding parameter_at parameter_of act step_of
    stored_at area =
        rw (
          get_or-set_same p.codes p.len s.code 0 r.codes,
          get_or-set_same p.styles p.len n 0 r.styles,
          get_or-set_same p.names p.len s.name 0 r.names,
          get_or-set_same p.default_kinds p.len s.default_kind 0 r.kinds,
          get_or-set_same p.default_payloads p.len s.default_payload 0 r.payloads,
          e,
          style_for_rank style,
        )

    pub longer_stored : Longer p s style (stored p s n)
    unfolding parameters_in
    longer_stored =
        record {
          len = refl;
          list = λ area.
              listed_more (parameter_at area (stored p s n)) p.len
              ∙ snoc_same (Listed-same _ _ 0 p.len (λ j l u. stored_before area j (omega arith))) (stored_at area);
        }

-- ---- a search over them

pub names_at
    : (area bytes : List ℕ) (p : Parameters) (i : ℕ)
    → names bytes (parameter_at area p i)
    ≡ may_be_named (get_or p.codes i 0) (get_or p.styles i 0) && same_bytes bytes (bytes_at area (get_or p.names i 0))
unfolding names parameter_at parameter_of text_in
names_at area bytes p i =
    ap (λ (b : Bool). b && same_bytes bytes (bytes_at area (get_or p.names i 0))) (nameable_at area p i)

-- a search over the columns is one over the list that they are
module _ (area bytes : List ℕ) (p : Parameters) where
  any_range : (i n : ℕ) → list_any (named_at area p bytes) (range_with_len i n) ≡ any (named_at area p bytes) (listed (λ j. j) i n)
  any_range i zero = refl
  any_range i (suc n) = rw (add-one, any_range (suc i) n)

  pub known_any : list_any (named_at area p bytes) (range_with_len 0 p.len) ≡ known_in area p bytes
  unfolding known_in
  known_any = any_range 0 p.len

  Known-from
      : (i n : ℕ)
      → any (names bytes) (listed (parameter_at area p) i n)
      ≡ any (named_at area p bytes) (listed (λ j. j) i n)
  unfolding named_at
  Known-from i zero = refl
  Known-from i (suc n) =
      rw (
        Known-from (suc i) n,
        names_at area bytes p i,
        and_comm (may_be_named (get_or p.codes i 0) (get_or p.styles i 0)) (same_bytes bytes (bytes_at area (get_or p.names i 0))),
      )

  pub known_columns : known (parameters_in area p) bytes ≡ known_in area p bytes
  unfolding known known_in parameters_in
  known_columns = Known-from 0 p.len
