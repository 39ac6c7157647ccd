-- Laws of a line of items, in this order: items behind items, which from the first on are joined; the line with more items, and room for
-- them; the parts of one item. Assumes nothing.
use mathlib.Core.Path.{◌≡◌, refl, sym, ap, subst, ◌∙◌}
use mathlib.Core.Bool.{Bool, true, false}
use mathlib.Core.List.{List, [], ◌∷◌, ◌++◌, append_assoc, append-nil}
use Prim.Native.Nat.{ℕ, ◌+◌, ◌≤◌}
use native.Mathlib.Omega.{arith}
use lib.ListN.{length}
use Rattle.rules.specs.Printed.{comma, join}
use Rattle.cells.specs.Out.{Wrote}
use Rattle.cells.proofs.LawsOut.{wrote_none, wrote_same, wrote_front, wrote_rest, wrote_then}
use Rattle.printer.specs.declared.line.Line.{Line}
use Rattle.printer.specs.Line.{cursor_of, between, led, begun_by, mark_for, Room, Added}

-- ---- items behind items

pub led_append : (begun : Bool) (xs ys : List (List ℕ)) → led begun (xs ++ ys) ≡ led begun xs ++ led (begun_by begun xs) ys
led_append begun [] ys = refl
led_append begun (x ∷ []) ys = sym (append_assoc (between begun) (x ++ []) (led true ys) ∙ ap (λ l. between begun ++ l) (append_assoc x [] (led true ys)))
led_append begun (x ∷ y ∷ xs) ys =
    ap (λ l. between begun ++ (x ++ l)) (led_append true (y ∷ xs) ys)
    ∙ sym (append_assoc (between begun) (x ++ led true (y ∷ xs)) (led true ys) ∙ ap (λ l. between begun ++ l) (append_assoc x (led true (y ∷ xs)) (led true ys)))

begun_by_append : (begun : Bool) (xs ys : List (List ℕ)) → begun_by begun (xs ++ ys) ≡ begun_by (begun_by begun xs) ys
begun_by_append begun [] ys = refl
begun_by_append begun (x ∷ xs) [] = refl
begun_by_append begun (x ∷ xs) (y ∷ ys) = refl

-- from the first on, they are joined
pub join_led : (xs : List (List ℕ)) → join comma xs ≡ led false xs
join_led [] = refl
join_led (x ∷ xs) = behind x xs
  where
    behind : (x : List ℕ) (xs : List (List ℕ)) → join comma (x ∷ xs) ≡ x ++ led true xs
    behind x [] = sym (append-nil x)
    behind x (y ∷ ys) = ap (λ l. x ++ (comma ++ l)) (behind y ys)

-- ---- the line with more items

pub room_same : (xs ys : List (List ℕ)) (line : Line) → xs ≡ ys → Room xs line → Room ys line
room_same xs ys line e h = subst (λ zs. Room zs line) e h

pub added_same : {line next : Line} (xs ys : List (List ℕ)) → xs ≡ ys → Added xs line next → Added ys line next
added_same {line = line} {next = next} xs ys e a = subst (λ zs. Added zs line next) e a

-- nothing more
pub added_none : (line : Line) → line.at ≤ length line.out.now → Added [] line line
added_none line h = record { wrote = wrote_none [] (cursor_of line) refl (omega arith); begun = refl }

pub added_nothing : (xs : List (List ℕ)) (line : Line) → xs ≡ [] → Room xs line → Added xs line line
added_nothing xs line e h = added_same [] xs (sym e) (added_none line (omega (arith, room_same xs [] line e h)))

module _ (xs ys : List (List ℕ)) (line : Line) (room : Room (xs ++ ys) line) where
  whole : line.at + length (led line.begun xs ++ led (begun_by line.begun xs) ys) ≤ length line.out.now
  whole = rw (led_append line.begun xs ys) at room

  pub room_front : Room xs line
  room_front = wrote_front (led line.begun xs) (led (begun_by line.begun xs) ys) (cursor_of line) whole

  module _ (next : Line) (a : Added xs line next) where
    pub room_rest : Room ys next
    room_rest = rw a.begun (wrote_rest (led line.begun xs) (led (begun_by line.begun xs) ys) (cursor_of line) whole (cursor_of next) a.wrote)

    pub added_then : (end : Line) → Added ys next end → Added (xs ++ ys) line end
    added_then end b =
        record {
          wrote =
              wrote_same (led line.begun xs ++ led (begun_by line.begun xs) ys) (led line.begun (xs ++ ys)) (sym (led_append line.begun xs ys))
              (wrote_then (led line.begun xs) (led (begun_by line.begun xs) ys) (cursor_of line) whole (cursor_of next) a.wrote (cursor_of end)
              (wrote_same (led next.begun ys) (led (begun_by line.begun xs) ys) (ap (λ g. led g ys) a.begun) b.wrote));
          begun = b.begun ∙ ap (λ g. begun_by g ys) a.begun ∙ sym (begun_by_append line.begun xs ys);
        }

-- three runs of items in a row, written one after the other
module _ (xs ys zs : List (List ℕ)) (line : Line) (room : Room (xs ++ (ys ++ zs)) line) where
  pub three_first : Room xs line
  three_first = room_front xs (ys ++ zs) line room

  module _ (first : Line) (a : Added xs line first) where
    behind_first : Room (ys ++ zs) first
    behind_first = room_rest xs (ys ++ zs) line room first a

    pub three_second : Room ys first
    three_second = room_front ys zs first behind_first

    module _ (second : Line) (b : Added ys first second) where
      pub three_third : Room zs second
      three_third = room_rest ys zs first behind_first second b

      pub three_added : (third : Line) → Added zs second third → Added (xs ++ (ys ++ zs)) line third
      three_added third c = added_then xs (ys ++ zs) line room first a third (added_then ys zs first behind_first second b third c)

-- ---- one item: what stands ahead of it, the name, the mark

module _ (text marked : List ℕ) (line : Line) (room : Room ((text ++ marked) ∷ []) line) where
  parts : line.at + length (between line.begun ++ (text ++ marked)) ≤ length line.out.now
  parts = rw (append-nil (text ++ marked)) at room

  pub item_between : line.at + length (between line.begun) ≤ length line.out.now
  item_between = wrote_front (between line.begun) (text ++ marked) (cursor_of line) parts

  module _ (from : Line) (p : Wrote (between line.begun) (cursor_of line) (cursor_of from)) where
    behind : from.at + length (text ++ marked) ≤ length from.out.now
    behind = wrote_rest (between line.begun) (text ++ marked) (cursor_of line) parts (cursor_of from) p

    pub item_name : from.at + length text ≤ length from.out.now
    item_name = wrote_front text marked (cursor_of from) behind

    module _ (named : Line) (q : Wrote text (cursor_of from) (cursor_of named)) where
      pub item_mark : named.at + length marked ≤ length named.out.now
      item_mark = wrote_rest text marked (cursor_of from) behind (cursor_of named) q

      pub item_added : (end : Line) → Wrote marked (cursor_of named) (cursor_of end) → Added ((text ++ marked) ∷ []) line (record end { begun = true })
      item_added end m =
          record {
            wrote =
                wrote_same (between line.begun ++ (text ++ marked)) (led line.begun ((text ++ marked) ∷ []))
                (ap (λ l. between line.begun ++ l) (sym (append-nil (text ++ marked))))
                (wrote_then (between line.begun) (text ++ marked) (cursor_of line) parts (cursor_of from) p (cursor_of end)
                (wrote_then text marked (cursor_of from) behind (cursor_of named) q (cursor_of end) m));
            begun = refl;
          }

-- ---- a sign, which has no mark

pub sign_item : (sign : List ℕ) → sign ∷ [] ≡ (sign ++ mark_for 0) ∷ []
unfolding mark_for
sign_item sign = ap {B = List (List ℕ)} (λ x. x ∷ []) (sym (append-nil sign))
