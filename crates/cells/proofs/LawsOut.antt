-- Cells stored one run after the other (01, board): lent cells that hold what was written
-- so far, and after it what they held, hold one run more after a store at the end of what was written. That is what a loop that
-- writes asks for. Then what is stored at any index: nothing, a run behind a run, a run from cell 0 on, one element more of a run;
-- and bytes put behind bytes, by index and by cursor.
-- Assumes nothing.
use mathlib.Core.Path.{◌≡◌, refl, sym, ap, subst, ◌∙◌}
use mathlib.Core.List.{List, [], ◌∷◌, ◌++◌, append_assoc, append-nil}
use Prim.Native.Nat.{ℕ, ◌+◌, ◌≤◌, ◌<◌}
use native.Mathlib.Numerals.{add-one}
use native.Mathlib.Omega.{arith}
use lib.ListN.{length, take, drop, get_or, set, length-append, length-drop, take-append-drop}
use lib.Seq.{length-take-le, sets-eq, take-suc, take-append_seam, drop-append-add, drop-drop}
use borrow.Author.Tests.{le-leb}
use Rattle.rules.specs.Cells.{over}
use Rattle.cells.specs.Out.{stored, Put, Wrote}
use Rattle.cells.specs.declared.out.Cursor.{Cursor}

pub over_length : (done cells : List ℕ) → length done ≤ length cells → length (over done cells) ≡ length cells
unfolding over
over_length done cells h = simp (length-append, length-drop) (omega arith)

-- at the very end of what was written
stored_next : (done old xs : List ℕ) → length done + length xs ≤ length old → stored (over done old) (length done) xs ≡ over (done ++ xs) old
unfolding stored over
stored_next done old xs h =
    let fits : length done + length xs ≤ length (over done old) = rw (over_length done old (omega arith)) h in
    rw
    (le-leb (length done + length xs) (length (done ++ drop (length done) old)) fits, take-append_seam, drop-append-add, drop-drop, length-append)

-- cells that hold `done` and then what `old` held, if `xs` fits after it
pub stored_over : (cells done old xs : List ℕ) (at : ℕ) → cells ≡ over done old → at ≡ length done → at + length xs ≤ length old
    → stored cells at xs ≡ over (done ++ xs) old
stored_over cells done old xs at e a h =
    ap (λ (held : List ℕ). stored held at xs) e
    ∙ ap (λ (n : ℕ). stored (over done old) n xs) a
    ∙ stored_next done old xs (omega arith)

-- ---- at any index

-- a run stored inside is what stands before it, the run, and what stands behind it
stored_inside : (cells xs : List ℕ) (at : ℕ) → at + length xs ≤ length cells → stored cells at xs ≡ over (take at cells ++ xs) cells
unfolding over
stored_inside cells xs at h =
    stored_over cells (take at cells) cells xs at
    (sym (ap (λ n. take at cells ++ drop n cells) front ∙ take-append-drop at cells)) (sym front) h
  where
    front : length (take at cells) ≡ at
    front = length-take-le at cells (omega arith)

pub stored_none : (cells : List ℕ) (at : ℕ) → at ≤ length cells → stored cells at [] ≡ cells
unfolding over
stored_none cells at h =
    stored_inside cells [] at (omega arith)
    ∙ ap (λ l. l ++ drop (length l) cells) (append-nil (take at cells))
    ∙ ap (λ n. take at cells ++ drop n cells) (length-take-le at cells h)
    ∙ take-append-drop at cells

pub stored_stored : (cells xs ys : List ℕ) (at next : ℕ) → next ≡ at + length xs → next + length ys ≤ length cells → stored (stored cells at xs) next ys ≡ stored cells at (xs ++ ys)
stored_stored cells xs ys at next e h =
    stored_over (stored cells at xs) (take at cells ++ xs) cells ys next (stored_inside cells xs at (omega arith)) (e ∙ sym (length-append (take at cells) xs ∙ ap (λ n. n + length xs) (length-take-le at cells (omega arith)))) h
    ∙ ap (λ l. over l cells) (append_assoc (take at cells) xs ys)
    ∙ sym (stored_inside cells (xs ++ ys) at (fits (length-append xs ys)))
  where
    fits : length (xs ++ ys) ≡ length xs + length ys → at + length (xs ++ ys) ≤ length cells
    fits l = omega arith

pub stored_first : (cells xs : List ℕ) → length xs ≤ length cells → stored cells 0 xs ≡ over xs cells
stored_first cells xs h = stored_inside cells xs 0 (omega arith)

-- a run that fits changes no length
pub stored_length : (cells xs : List ℕ) (at : ℕ) → at + length xs ≤ length cells → length (stored cells at xs) ≡ length cells
stored_length cells xs at h =
    ap length (stored_inside cells xs at h)
    ∙ over_length (take at cells ++ xs) cells (fits (length-append (take at cells) xs) (length-take-le at cells (omega arith)))
  where
    fits : length (take at cells ++ xs) ≡ length (take at cells) + length xs → length (take at cells) ≡ at → length (take at cells ++ xs) ≤ length cells
    fits l t = omega arith

-- one byte more of a text
pub stored_more : (cells text held : List ℕ) (at k : ℕ) → held ≡ stored cells at (take k text) → length held ≡ length cells → k < length text → at + length text ≤ length cells
    → set held (at + k) (get_or text k 0) ≡ stored cells at (take (k + 1) text)
unfolding stored
stored_more cells text held at k e l h room =
    let front : length (take k text) ≡ k = length-take-le k text (omega arith) in
    set_stored
    ∙ ap (λ z. stored z (at + k) (get_or text k 0 ∷ [])) e
    ∙ stored_stored cells (take k text) (get_or text k 0 ∷ []) at (at + k) (ap (λ n. at + n) (sym front)) (omega arith)
    ∙ ap (stored cells at) (sym (ap (λ n. take n text) (add-one k) ∙ take-suc text k 0 h))
  where
    set_stored : set held (at + k) (get_or text k 0) ≡ stored held (at + k) (get_or text k 0 ∷ [])
    set_stored = rw (le-leb (at + k + 1) (length held) (omega arith)) (sets-eq (get_or text k 0 ∷ []) held (at + k) (omega arith))

-- ---- bytes behind bytes

pub put_none : (bytes out : List ℕ) (at : ℕ) → bytes ≡ [] → at + length bytes ≤ length out → Put bytes at out out at
put_none bytes out at e h =
    let l : length bytes ≡ 0 = ap length e in
    record { held = sym (ap (stored out at) e ∙ stored_none out at (omega arith)); ends = omega arith }

pub put_same : {at next : ℕ} {out after : List ℕ} (xs ys : List ℕ) → xs ≡ ys → Put xs at out after next → Put ys at out after next
put_same {at = at} {next = next} {out = out} {after = after} xs ys e p = subst (λ zs. Put zs at out after next) e p

module _ (xs ys : List ℕ) (at : ℕ) (out : List ℕ) (room : at + length (xs ++ ys) ≤ length out) where
  both : at + length xs + length ys ≤ length out
  both = omega (arith, room, length-append xs ys)

  pub put_front : at + length xs ≤ length out
  put_front = omega (arith, both)

  pub put_rest : (held : List ℕ) (next : ℕ) → Put xs at out held next → next + length ys ≤ length held
  put_rest held next p =
      let n : next ≡ at + length xs = p.ends in
      let l : length held ≡ length out = ap length p.held ∙ stored_length out xs at put_front in
      omega (arith, both)

  pub put_then : (held after : List ℕ) (next end : ℕ) → Put xs at out held next → Put ys next held after end → Put (xs ++ ys) at out after end
  put_then held after next end p q =
      record {
        held = q.held ∙ ap (λ h. stored h next ys) p.held ∙ stored_stored out xs ys at next p.ends fits;
        ends =
            let n : next ≡ at + length xs = p.ends in
            let e : end ≡ next + length ys = q.ends in
            omega (arith, length-append xs ys);
      }
    where
      fits : next + length ys ≤ length out
      fits = let n : next ≡ at + length xs = p.ends in omega (arith, both)

-- ---- the same of a cursor

pub wrote_none : (text : List ℕ) (line : Cursor) → text ≡ [] → line.at + length text ≤ length line.out.now → Wrote text line line
wrote_none text line e h = record { put = put_none text line.out.now line.at e h; same_reference = refl }

pub wrote_same : {line next : Cursor} (xs ys : List ℕ) → xs ≡ ys → Wrote xs line next → Wrote ys line next
wrote_same xs ys e w = record { put = put_same xs ys e w.put; same_reference = w.same_reference }

module _ (xs ys : List ℕ) (line : Cursor) (room : line.at + length (xs ++ ys) ≤ length line.out.now) where
  pub wrote_front : line.at + length xs ≤ length line.out.now
  wrote_front = put_front xs ys line.at line.out.now room

  module _ (next : Cursor) (w : Wrote xs line next) where
    pub wrote_rest : next.at + length ys ≤ length next.out.now
    wrote_rest = put_rest xs ys line.at line.out.now room next.out.now next.at w.put

    pub wrote_then : (end : Cursor) → Wrote ys next end → Wrote (xs ++ ys) line end
    wrote_then end v =
        record {
          put = put_then xs ys line.at line.out.now room next.out.now end.out.now next.at end.at w.put v.put;
          same_reference = v.same_reference ∙ w.same_reference;
        }

-- where the room is told by lengths
module _ (xs : List ℕ) (line next : Cursor) (w : Wrote xs line next) where
  pub wrote_room : (n : ℕ) → line.at + length xs + n ≤ length line.out.now → next.at + n ≤ length next.out.now
  wrote_room n room =
      let e : next.at ≡ line.at + length xs = w.put.ends in
      let l : length next.out.now ≡ length line.out.now = ap length w.put.held ∙ stored_length line.out.now xs line.at (omega arith) in
      omega (arith, room)

  pub wrote_both : (ys : List ℕ) (end : Cursor) → line.at + length xs + length ys ≤ length line.out.now → Wrote ys next end → Wrote (xs ++ ys) line end
  wrote_both ys end room v = wrote_then xs ys line (omega (arith, room, length-append xs ys)) next w end v
