-- Writing a run bit by bit (01, records and areas of sheets), as a loop over rows asks: what is left to write, where it goes, and that
-- writing it ends what was begun. A start, one run more, the end; then what was stored by way of a struct that holds what is lent; then a
-- run from cell 0 on, as a record's contract says it.
-- Assumes nothing.
use mathlib.Core.Path.{◌≡◌, refl, sym, ap, subst, ◌∙◌}
use mathlib.Core.List.{List, [], ◌∷◌, ◌++◌}
use Prim.Native.Nat.{ℕ, ◌+◌, ◌≤◌}
use native.Mathlib.Omega.{arith}
use lib.ListN.{length, set}
use borrow.Author.Tests.{le-leb}
use Rattle.rules.specs.Cells.{over}
use Rattle.cells.specs.Out.{stored, Put}
use Rattle.cells.proofs.LawsOut.{stored_first, stored_length, put_none, put_front, put_rest, put_then}

-- `left` of `all` is to be stored from `next` on; whatever does so has stored `all` from `first` on
pub record Left (all : List ℕ) (first : ℕ) (out₀ left : List ℕ) (next : ℕ) (out : List ℕ) : Type 0 where
  pub room : next + length left ≤ length out
  pub same : length out ≡ length out₀
  pub finish : (after : List ℕ) (end : ℕ) → Put left next out after end → Put all first out₀ after end

pub left_start : (all : List ℕ) (first : ℕ) (out : List ℕ) → first + length all ≤ length out → Left all first out all first out
left_start all first out h = record { room = h; same = refl; finish = λ after end p. p }

module _ {all out₀ out : List ℕ} {first next : ℕ} (run rest : List ℕ) where
  -- one run more fits
  pub left_room : (left : List ℕ) → left ≡ run ++ rest → Left all first out₀ left next out → next + length run ≤ length out
  left_room left e l = put_front run rest next out (subst (λ r. next + length r ≤ length out) e l.room)

  -- and was stored
  pub left_next : (left : List ℕ) → left ≡ run ++ rest → Left all first out₀ left next out → (held : List ℕ) (after : ℕ) → Put run next out held after
      → Left all first out₀ rest after held
  left_next left e l held after p =
      let fits : next + length (run ++ rest) ≤ length out = subst (λ r. next + length r ≤ length out) e l.room in
      record {
        room = put_rest run rest next out fits held after p;
        same = ap length p.held ∙ stored_length out run next (put_front run rest next out fits) ∙ l.same;
        finish = λ end last q. l.finish end last (subst (λ r. Put r next out end last) (sym e) (put_then run rest next out fits held end after last p q));
      }

-- nothing is left
pub left_done : {all out₀ out : List ℕ} {first next : ℕ} (left : List ℕ) → left ≡ [] → Left all first out₀ left next out → Put all first out₀ out next
left_done {out = out} {next = next} left e l = l.finish out next (put_none left out next e l.room)

-- ---- by way of a struct

-- it began with what is lent, at `from`, and what is there now is what it ended with
pub put_lent : {xs lent before held after : List ℕ} {from at end : ℕ} → before ≡ lent → at ≡ from → after ≡ held → Put xs at before held end → Put xs from lent after end
put_lent e f g p = rw (sym e, sym f, g) p

-- ---- from cell 0 on

pub put_over : {xs out after : List ℕ} {end : ℕ} → length xs ≤ length out → Put xs 0 out after end → after ≡ over xs out
put_over {xs = xs} {out = out} h p = p.held ∙ stored_first out xs h

-- one cell
pub put_first : (v : ℕ) (out : List ℕ) → 1 ≤ length out → Put (v ∷ []) 0 out (set out 0 v) 1
unfolding stored
put_first v [] h = absurd (omega arith)
put_first v (x ∷ xs) h = record { held = rw (le-leb 1 (length (x ∷ xs)) h); ends = refl }
