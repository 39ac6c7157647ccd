-- Laws of the printed list as a line of items: each of its parts by what the code asks of the list, and the whole, written in its order.
-- Assumes nothing.
use mathlib.Core.Path.{◌≡◌, refl, sym, ap, ap₂, ◌∙◌}
use mathlib.Core.Bool.{Bool, true, false, cond, not, ◌&&◌, ◌||◌}
use mathlib.Core.List.{List, [], ◌∷◌, ◌++◌, map, append_assoc}
use Rattle.std.specs.Prelude as std
use Rattle.std.specs.Option.{option_copied, option_or, option_to_list}
use Rattle.std.specs.Bool.{then_some}
use Rattle.std.specs.Borrow.{Bor, MutBor}
use mathlib.Core.Option.{Option, none, some}
use Prim.Native.Nat.{ℕ, suc, ◌+◌, ◌≤◌}
use native.Mathlib.Nat.{zero-add}
use native.Mathlib.Omega.{arith}
use lib.Dec.{eqb}
use lib.ListN.{length}
use Rattle.rules.specs.Listing.{any, keep, first_from}
use Rattle.rules.specs.Parameters.{Style, pos_only, pos_or_named, named_only, no_more, rank, comes_before, Parameter, plain, takes_position, takes_name, positional, nameable, positional_only, is_args, is_kwargs, has_args, has_kwargs, args_index, kwargs_index}
use Rattle.rules.specs.Printed.{item, items_of, either_way, name_only, if_any, slash_item, star_item, kwargs_item, printed}
use Rattle.cells.specs.Out.{Put, Begins}
use Rattle.builder.specs.Params.{parameters_in}
use Rattle.builder.specs.Spec.{index_of}
use Rattle.builder.specs.declared.spec.ParametersSpec.{ParametersSpec}
use Rattle.printer.specs.Items.{under}
use Rattle.printer.specs.Line.{cursor_of, led, Room, Added}
use Rattle.printer.specs.Printed.{positional_items, named_items, ListWritten}
use Rattle.printer.specs.declared.line.Line.{Line}
use Rattle.cells.proofs.LawsOut.{stored_first}
use Rattle.printer.proofs.LawsLine.{join_led}
use Rattle.printer.proofs.LawsItems.{items_same}

-- ---- the sorts are those of a style

only_under : (q : Parameter) → positional_only q ≡ under pos_only q
unfolding positional_only under comes_before
only_under q = ap (λ b. plain q.kind && b) (go q.style)
  where
    go : (s : Style) → comes_before s pos_or_named ≡ eqb (rank s) 0
    go pos_only = refl
    go pos_or_named = refl
    go named_only = refl
    go no_more = refl

either_under : (q : Parameter) → either_way q ≡ under pos_or_named q
unfolding either_way positional nameable under
either_under q = go (plain q.kind) q.style
  where
    go : (p : Bool) (s : Style) → (p && takes_position s && (p && takes_name s)) ≡ (p && eqb (rank s) 1)
    go true pos_only = refl
    go true pos_or_named = refl
    go true named_only = refl
    go true no_more = refl
    go false s = refl

named_under : (q : Parameter) → name_only q ≡ under named_only q
unfolding name_only positional nameable under
named_under q = go (plain q.kind) q.style
  where
    go : (p : Bool) (s : Style) → (not (p && takes_position s) && (p && takes_name s)) ≡ (p && eqb (rank s) 2)
    go true pos_only = refl
    go true pos_or_named = refl
    go true named_only = refl
    go true no_more = refl
    go false s = refl

-- ---- the indices

abbrev found : Option ℕ → Bool
found none = false
found (some i) = true

first_any : (test : Parameter → Bool) (i : ℕ) (qs : List Parameter) → found (first_from test i qs) ≡ any test qs
first_any test i [] = refl
first_any test i (q ∷ qs) = go (test q) (first_any test (suc i) qs)
  where
    go : (b : Bool) → found (first_from test (suc i) qs) ≡ any test qs → found (cond b (some i) (first_from test (suc i) qs)) ≡ (b || any test qs)
    go true e = refl
    go false e = e

is_found : (index : std.Option ℕ) → std.is_some index ≡ found (index_of index)
is_found (std.Some i) = refl
is_found std.None = refl

pub given_args : (index : std.Option ℕ) (qs : List Parameter) → index_of index ≡ args_index qs → std.is_some index ≡ has_args qs
unfolding args_index has_args
given_args index qs e = is_found index ∙ ap found e ∙ first_any (λ q. is_args q.kind) 0 qs

pub given_kwargs : (index : std.Option ℕ) (qs : List Parameter) → index_of index ≡ kwargs_index qs → std.is_some index ≡ has_kwargs qs
unfolding kwargs_index has_kwargs
given_kwargs index qs e = is_found index ∙ ap found e ∙ first_any (λ q. is_kwargs q.kind) 0 qs

-- ---- the signs, each where the code asks for it

-- there are items of a sort where a parameter is of it
if_any_any : (test : Parameter → Bool) (qs : List Parameter) (xs : List (List ℕ)) → if_any (items_of test qs) xs ≡ cond (any test qs) xs []
unfolding items_of
if_any_any test [] xs = refl
if_any_any test (q ∷ qs) xs = go (test q) (if_any_any test qs xs)
  where
    go : (b : Bool) → if_any (map item (keep test qs)) xs ≡ cond (any test qs) xs []
        → if_any (map item (cond b (q ∷ keep test qs) (keep test qs))) xs ≡ cond (b || any test qs) xs []
    go true e = refl
    go false e = e

-- a text where a test says so, as items
shown_if : (b : Bool) (text : Bor (List ℕ)) (sign : std.Option (Bor (List ℕ))) → sign ≡ then_some b text → option_to_list (option_copied sign) ≡ cond b (text.now ∷ []) []
shown_if true text sign e = ap (λ s. option_to_list (option_copied s)) e
shown_if false text sign e = ap (λ s. option_to_list (option_copied s)) e

pub slash_sign : (b : Bool) (text : Bor (List ℕ)) (sign : std.Option (Bor (List ℕ))) (qs : List Parameter)
    → sign ≡ then_some b text → text.now ≡ 47 ∷ [] → b ≡ any (under pos_only) qs → option_to_list (option_copied sign) ≡ slash_item qs
unfolding slash_item
slash_sign b text sign qs e t f =
    shown_if b text sign e ∙ ap₂ (λ b x. cond b (x ∷ []) []) f t
    ∙ sym (ap (λ is. if_any is ((47 ∷ []) ∷ [])) (items_same positional_only (under pos_only) only_under qs) ∙ if_any_any (under pos_only) qs ((47 ∷ []) ∷ []))

pub kwargs_sign : (b : Bool) (text : Bor (List ℕ)) (sign : std.Option (Bor (List ℕ))) (qs : List Parameter)
    → sign ≡ then_some b text → text.now ≡ 42 ∷ 42 ∷ 107 ∷ 119 ∷ 97 ∷ 114 ∷ 103 ∷ 115 ∷ [] → b ≡ has_kwargs qs
    → option_to_list (option_copied sign) ≡ kwargs_item qs
unfolding kwargs_item
kwargs_sign b text sign qs e t f = shown_if b text sign e ∙ ap₂ (λ b x. cond b (x ∷ []) []) f t

-- the one where there is one, or else the other
pub star_sign : (a b : Bool) (long short : Bor (List ℕ)) (args bare sign : std.Option (Bor (List ℕ))) (qs : List Parameter)
    → sign ≡ option_or args bare → args ≡ then_some a long → bare ≡ then_some b short
    → long.now ≡ 42 ∷ 97 ∷ 114 ∷ 103 ∷ 115 ∷ [] → short.now ≡ 42 ∷ []
    → a ≡ has_args qs → b ≡ any (under named_only) qs → option_to_list (option_copied sign) ≡ star_item qs
unfolding star_item
star_sign a b long short args bare sign qs e f g s t h i =
    ap (λ o. option_to_list (option_copied o)) (e ∙ ap₂ option_or f g) ∙ either a b ∙ ap₂ (λ x y. cond x ((42 ∷ 97 ∷ 114 ∷ 103 ∷ 115 ∷ []) ∷ []) (cond y ((42 ∷ []) ∷ []) [])) h i
    ∙ sym
    (ap (cond (has_args qs) ((42 ∷ 97 ∷ 114 ∷ 103 ∷ 115 ∷ []) ∷ []))
    (ap (λ is. if_any is ((42 ∷ []) ∷ [])) (items_same name_only (under named_only) named_under qs) ∙ if_any_any (under named_only) qs ((42 ∷ []) ∷ [])))
  where
    either : (x y : Bool) → option_to_list (option_copied (option_or (then_some x long) (then_some y short))) ≡ cond x ((42 ∷ 97 ∷ 114 ∷ 103 ∷ 115 ∷ []) ∷ []) (cond y ((42 ∷ []) ∷ []) [])
    either true y = ap {B = List (List ℕ)} (λ x. x ∷ []) s
    either false true = ap {B = List (List ℕ)} (λ x. x ∷ []) t
    either false false = refl

-- ---- the halves, by what the code asks

pub positional_parts : (slash : List (List ℕ)) (qs : List Parameter) → slash ≡ slash_item qs
    → positional_items qs ≡ items_of (under pos_only) qs ++ (slash ++ items_of (under pos_or_named) qs)
unfolding positional_items
positional_parts slash qs e =
    ap₂ (λ a b. a ++ b) (items_same positional_only (under pos_only) only_under qs)
    (ap₂ (λ a b. a ++ b) (sym e) (items_same either_way (under pos_or_named) either_under qs))

pub named_parts : (star kwargs : List (List ℕ)) (qs : List Parameter) → star ≡ star_item qs → kwargs ≡ kwargs_item qs
    → named_items qs ≡ star ++ (items_of (under named_only) qs ++ kwargs)
unfolding named_items
named_parts star kwargs qs e f =
    ap₂ (λ a b. a ++ b) (sym e) (ap₂ (λ a b. a ++ b) (items_same name_only (under named_only) named_under qs) (sym f))

-- ---- the whole

pub printed_led : (qs : List Parameter) → printed qs ≡ led false (positional_items qs ++ named_items qs)
unfolding printed positional_items named_items
printed_led qs = join_led (items_of positional_only qs ++ (slash_item qs ++ (items_of either_way qs ++ (star_item qs ++ (items_of name_only qs ++ kwargs_item qs))))) ∙ ap (led false) (sym regroup)
  where
    regroup : (items_of positional_only qs ++ (slash_item qs ++ items_of either_way qs)) ++ (star_item qs ++ (items_of name_only qs ++ kwargs_item qs))
        ≡ items_of positional_only qs ++ (slash_item qs ++ (items_of either_way qs ++ (star_item qs ++ (items_of name_only qs ++ kwargs_item qs))))
    regroup = simp append_assoc

-- on a line of no item, room for the list is room for both halves
module _ {out : MutBor (List ℕ)} (line : Line) (b : Begins out (cursor_of line)) (none_begun : line.begun ≡ false) where
  pub list_room : (qs : List Parameter) → length (printed qs) ≤ length out.now → Room (positional_items qs ++ named_items qs) line
  list_room qs h = rw (none_begun, b.at) (omega (arith, ap length (printed_led qs), ap length b.held))

  -- and with both halves it is the printed list
  pub list_written : (area : List ℕ) (l : ParametersSpec) (end : Line) (after : List ℕ) → length (printed (parameters_in area l.params)) ≤ length out.now
      → Added (positional_items (parameters_in area l.params) ++ named_items (parameters_in area l.params)) line end → after ≡ end.out.now
      → ListWritten area l out.now after end.at
  list_written area l end after h a f =
      let qs = parameters_in area l.params in
      let p : Put (printed qs) 0 out.now end.out.now end.at = rw (none_begun, b.at, b.held, sym (printed_led qs)) at a.wrote.put in
      record { held = f ∙ p.held ∙ stored_first out.now (printed qs) h; ends = p.ends ∙ zero-add (length (printed qs)) }
