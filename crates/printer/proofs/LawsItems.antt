-- Laws of the items of a style: which codes and numbers are a style's, and that this is so of the parameter at an index; the mark behind a
-- name; the items of parameters that are joined or tested alike; what a loop over the columns asks for.
-- Assumes nothing.
use Rattle.std.specs.List.{list_any, range_with_len}
use mathlib.Core.Path.{◌≡◌, refl, sym, ap, ap₂, ◌∙◌}
use mathlib.Core.Bool.{Bool, true, false, cond, ◌&&◌, false≢true}
use mathlib.Core.List.{List, [], ◌∷◌, ◌++◌, map}
use Prim.Native.Nat.{ℕ, zero, suc, ◌+◌, ◌-◌, ◌≤◌, ◌<◌}
use native.Mathlib.Nat.{zero-add}
use native.Mathlib.Numerals.{add-one}
use native.Mathlib.Omega.{arith}
use lib.Dec.{eqb}
use lib.ListN.{get_or}
use borrow.Author.Tests.{ne_eqb}
use Rattle.rules.specs.Listing.{any, keep}
use Rattle.rules.specs.Text.{bytes_at, text_in}
use Rattle.rules.specs.Value.{Value, no_value}
use Rattle.rules.specs.Parameters.{Style, pos_only, pos_or_named, named_only, no_more, rank, comes_before, act_of, Parameter}
use Rattle.rules.specs.Printed.{mark, printed_name, item, items_of}
use Rattle.cells.specs.Listed.{listed}
use Rattle.builder.specs.Params.{style_for, kind_for, parameter_of, parameter_at, parameters_in}
use Rattle.builder.specs.declared.params.Parameters.{Parameters}
use Rattle.builder.proofs.LawsCodes.{code_4, plain_code, plain_above}
use Rattle.builder.proofs.LawsParams.{plain_any}
use Rattle.cells.proofs.LawsListed.{listed_more, listed_append}
use Rattle.printer.specs.declared.line.Line.{Line}
use Rattle.printer.specs.Line.{mark_for, Room, Added}
use Rattle.printer.specs.Items.{under, is_under}
use Rattle.printer.proofs.LawsLine.{room_same, added_same, added_none, room_front, room_rest, added_then}

-- ---- a code and the number of a style

pub is_under_plain : (s : Style) (code number : ℕ) → 1 ≤ code → code < 4 → is_under s code number ≡ eqb number (rank s)
unfolding is_under
is_under_plain s code number l u = rw (plain_code no_value code l u)

pub is_under_below : (s : Style) (code number : ℕ) → code < 1 → is_under s code number ≡ false
unfolding is_under
is_under_below s zero number h = refl
is_under_below s (suc n) number h = absurd (omega arith)

pub is_under_above : (s : Style) (code number : ℕ) → 4 ≤ code → is_under s code number ≡ false
unfolding is_under
is_under_above s code number h = rw (plain_above no_value code h)

-- a number above 2 is no style's but the last one's
rank_number : (number : ℕ) (s : Style) → comes_before s no_more ≡ true → eqb (rank (style_for number)) (rank s) ≡ eqb number (rank s)
unfolding comes_before
rank_number zero s e = refl
rank_number (suc zero) s e = refl
rank_number (suc (suc zero)) s e = refl
rank_number (suc (suc (suc n))) pos_only e = sym (ne_eqb (suc (suc (suc n))) 0 (λ z. omega arith))
rank_number (suc (suc (suc n))) pos_or_named e = sym (ne_eqb (suc (suc (suc n))) 1 (λ z. omega arith))
rank_number (suc (suc (suc n))) named_only e = sym (ne_eqb (suc (suc (suc n))) 2 (λ z. omega arith))
rank_number (suc (suc (suc n))) no_more e = absurd (false≢true e)

pub Under-at
    : (s : Style) (area : List ℕ) (p : Parameters) (i : ℕ) → comes_before s no_more ≡ true
    → under s (parameter_at area p i) ≡ is_under s (get_or p.codes i 0) (get_or p.styles i 0)
unfolding under is_under parameter_at parameter_of
Under-at s area p i e = ap₂ (λ a b. a && b) (plain_any (get_or p.codes i 0) _ no_value) (rank_number (get_or p.styles i 0) s e)

-- whether there is one, put to each index
module _ (s : Style) (area : List ℕ) (p : Parameters) (e : comes_before s no_more ≡ true) where
  any_range
      : (i n : ℕ)
      → list_any (λ k. is_under s (get_or p.codes k 0) (get_or p.styles k 0)) (range_with_len i n)
      ≡ any (under s) (listed (parameter_at area p) i n)
  any_range i zero = refl
  any_range i (suc n) = rw (add-one, any_range (suc i) n, Under-at s area p i e)

  pub any_under
      : list_any (λ k. is_under s (get_or p.codes k 0) (get_or p.styles k 0)) (range_with_len 0 p.len)
      ≡ any (under s) (parameters_in area p)
  unfolding parameters_in
  any_under = any_range 0 p.len

-- ---- the mark

-- of 2 and 3, and of any other code
pub mark_left_out : (code : ℕ) → 2 ≤ code → code < 4 → mark_for code ≡ 32 ∷ 61 ∷ 32 ∷ 46 ∷ 46 ∷ 46 ∷ []
unfolding mark_for
mark_left_out zero l u = absurd (omega arith)
mark_left_out (suc zero) l u = absurd (omega arith)
mark_left_out (suc (suc zero)) l u = refl
mark_left_out (suc (suc (suc zero))) l u = refl
mark_left_out (suc (suc (suc (suc n)))) l u = absurd (omega arith)

pub mark_below : (code : ℕ) → code < 2 → mark_for code ≡ []
unfolding mark_for
mark_below zero u = refl
mark_below (suc zero) u = refl
mark_below (suc (suc n)) u = absurd (omega arith)

pub mark_above : (code : ℕ) → 4 ≤ code → mark_for code ≡ []
unfolding mark_for
mark_above = code_4 no_value (λ n. mark (kind_for (act_of n no_value)) ≡ []) refl refl refl refl (λ n e. rw e)

-- it does not depend on the default
pub mark_any : (code : ℕ) (v : Value) → mark (kind_for (act_of code v)) ≡ mark_for code
unfolding mark_for
mark_any zero v = refl
mark_any (suc zero) v = refl
mark_any (suc (suc zero)) v = refl
mark_any (suc (suc (suc zero))) v = refl
mark_any (suc (suc (suc (suc n)))) v = code_4 v (λ m. mark (kind_for (act_of m v)) ≡ []) refl refl refl refl (λ m e. rw e) (suc (suc (suc (suc n)))) (omega arith) ∙ sym (mark_above (suc (suc (suc (suc n)))) (omega arith))

-- ---- items of parameters

pub items_append : (test : Parameter → Bool) (qs rs : List Parameter) → items_of test (qs ++ rs) ≡ items_of test qs ++ items_of test rs
unfolding items_of
items_append test [] rs = refl
items_append test (q ∷ qs) rs = go (test q) (items_append test qs rs)
  where
    go : (b : Bool) → map item (keep test (qs ++ rs)) ≡ map item (keep test qs) ++ map item (keep test rs)
        → map item (cond b (q ∷ keep test (qs ++ rs)) (keep test (qs ++ rs))) ≡ map item (cond b (q ∷ keep test qs) (keep test qs)) ++ map item (keep test rs)
    go true e = ap {B = List (List ℕ)} (λ r. item q ∷ r) e
    go false e = e

-- of one parameter
pub items_hit : (test : Parameter → Bool) (q : Parameter) → test q ≡ true → items_of test (q ∷ []) ≡ item q ∷ []
unfolding items_of
items_hit test q e = rw e

pub items_miss : (test : Parameter → Bool) (q : Parameter) → test q ≡ false → items_of test (q ∷ []) ≡ []
unfolding items_of
items_miss test q e = rw e

pub items_same : (f g : Parameter → Bool) → ((q : Parameter) → f q ≡ g q) → (qs : List Parameter) → items_of f qs ≡ items_of g qs
unfolding items_of
items_same f g e [] = refl
items_same f g e (q ∷ qs) = go (f q) (g q) (e q) (items_same f g e qs)
  where
    go : (a b : Bool) → a ≡ b → map item (keep f qs) ≡ map item (keep g qs) → map item (cond a (q ∷ keep f qs) (keep f qs)) ≡ map item (cond b (q ∷ keep g qs) (keep g qs))
    go true true p h = ap {B = List (List ℕ)} (λ r. item q ∷ r) h
    go true false p h = absurd (false≢true (sym p))
    go false true p h = absurd (false≢true p)
    go false false p h = h

-- ---- the parameter at an index

pub items_at
    : (s : Style) (area : List ℕ) (p : Parameters) (i : ℕ) (text : List ℕ) → comes_before s no_more ≡ true
    → is_under s (get_or p.codes i 0) (get_or p.styles i 0) ≡ true
    → text ≡ printed_name (bytes_at area (get_or p.names i 0))
    → items_of (under s) (parameter_at area p i ∷ []) ≡ (text ++ mark_for (get_or p.codes i 0)) ∷ []
unfolding item parameter_at parameter_of text_in
items_at s area p i text e u t =
    items_hit (under s) (parameter_at area p i) (Under-at s area p i e ∙ u) ∙ ap {B = List (List ℕ)} (λ x. x ∷ []) its_item
  where
    its_item : item (parameter_at area p i) ≡ text ++ mark_for (get_or p.codes i 0)
    its_item = ap₂ (λ a b. a ++ b) (sym t) (mark_any (get_or p.codes i 0) _)

-- ---- a loop over the columns: the items before an index, the one at it, and those behind it

-- none at first
pub items_none : (s : Style) (area : List ℕ) (p : Parameters) (line : Line) → Room (items_of (under s) (parameters_in area p)) line
    → Added (items_of (under s) (listed (parameter_at area p) 0 0)) line line
unfolding items_of
items_none s area p line room = added_none line (omega arith)

-- and all of them at the end
pub items_whole : (s : Style) (area : List ℕ) (p : Parameters) (line : Line) (i : ℕ) → i ≡ p.len → (end : Line)
    → Added (items_of (under s) (listed (parameter_at area p) 0 i)) line end → Added (items_of (under s) (parameters_in area p)) line end
unfolding parameters_in
items_whole s area p line i e end a = added_same _ _ (ap (λ n. items_of (under s) (listed (parameter_at area p) 0 n)) e) a

module _ (s : Style) (area : List ℕ) (p : Parameters) (line : Line)
    (room : Room (items_of (under s) (parameters_in area p)) line) (i : ℕ) (h : i < p.len) where
  -- the list, cut at the index
  cut : parameters_in area p ≡ listed (parameter_at area p) 0 (i + 1) ++ listed (parameter_at area p) (i + 1) (p.len - (i + 1))
  unfolding parameters_in
  cut =
      let e : p.len ≡ (i + 1) + (p.len - (i + 1)) = omega arith in
      ap (listed (parameter_at area p) 0) e ∙ listed_append (parameter_at area p) 0 (i + 1) (p.len - (i + 1)) ∙ rw zero-add

  one_more : items_of (under s) (listed (parameter_at area p) 0 (i + 1)) ≡ items_of (under s) (listed (parameter_at area p) 0 i) ++ items_of (under s) (parameter_at area p i ∷ [])
  one_more = ap (items_of (under s)) (listed_more (parameter_at area p) i) ∙ items_append (under s) (listed (parameter_at area p) 0 i) (parameter_at area p i ∷ [])

  room_more : Room (items_of (under s) (listed (parameter_at area p) 0 i) ++ items_of (under s) (parameter_at area p i ∷ [])) line
  room_more =
      room_same _ _ line one_more
      (room_front (items_of (under s) (listed (parameter_at area p) 0 (i + 1))) (items_of (under s) (listed (parameter_at area p) (i + 1) (p.len - (i + 1)))) line
      (room_same _ _ line (ap (items_of (under s)) cut ∙ items_append (under s) (listed (parameter_at area p) 0 (i + 1)) (listed (parameter_at area p) (i + 1) (p.len - (i + 1)))) room))

  module _ (end : Line) (done : Added (items_of (under s) (listed (parameter_at area p) 0 i)) line end) where
    pub items_room : Room (items_of (under s) (parameter_at area p i ∷ [])) end
    items_room = room_rest (items_of (under s) (listed (parameter_at area p) 0 i)) (items_of (under s) (parameter_at area p i ∷ [])) line room_more end done

    pub items_more : (next : Line) → Added (items_of (under s) (parameter_at area p i ∷ [])) end next
        → Added (items_of (under s) (listed (parameter_at area p) 0 (i + 1))) line next
    items_more next a =
        added_same _ _ (sym one_more)
        (added_then (items_of (under s) (listed (parameter_at area p) 0 i)) (items_of (under s) (parameter_at area p i ∷ [])) line room_more end done next a)
