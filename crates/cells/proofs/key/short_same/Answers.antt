-- `cells::key::short_same` meets its contract: both texts are short and of one length, and their bytes are compared. Assumes nothing.
use mathlib.Core.Path.{◌≡◌, sym, ap, ◌∙◌}
use Prim.Native.Nat.{◌≤◌}
use native.Mathlib.Omega.{arith}
use borrow.Author.Tests.{not-false}
use lib.ListN.{take, drop}
use Rattle.rules.specs.Text.{same_bytes, bytes_at, start_of, size_of}
use Rattle.cells.specs.Text.{HasWord}
use Rattle.cells.proofs.LawsWord.{short_inside}
use Rattle.cells.proofs.key.short_same.Goals as goal
use Rattle.cells.proofs.key.short_same.Goals.{Else-not-has_word-2}

-- what the tests tell
one_word : (c : Else-not-has_word-2) → HasWord c.args.a.now c.args.x
one_word c = c.has_word.ensures (not-false _ c.if-not-has_word.false-raw)

other_word : (c : Else-not-has_word-2) → HasWord c.args.b.now c.args.y
other_word c = c.has_word-2.ensures (not-false _ c.if-not-has_word-2.false-raw)

some : (c : Else-not-has_word-2) → 1 ≤ size_of c.args.x
unfolding size_of
some c = omega (arith, c.if-len-eq0.false)

few : (c : Else-not-has_word-2) → size_of c.args.x ≤ 8
unfolding size_of
few c = c.if-len-gt8.false

sized : (c : Else-not-has_word-2) → size_of c.args.y ≡ size_of c.args.x
unfolding size_of
sized c = c.if-y-len.false

pub same_bytes-requires : goal.same_bytes-requires
unfolding start_of size_of
same_bytes-requires c = ((one_word c).room, (other_word c).room, some c, few c)

pub returns : goal.returns
unfolding bytes_at start_of size_of
returns c =
    let a = c.args in
    λ e. record {
      one = short_inside a.a.now a.x (one_word (goal.at.returns c).Else-not-has_word-2) (few (goal.at.returns c).Else-not-has_word-2);
      other = short_inside a.b.now a.y (other_word (goal.at.returns c).Else-not-has_word-2) (rw (sized (goal.at.returns c).Else-not-has_word-2) (few (goal.at.returns c).Else-not-has_word-2));
      same = ap (λ n. same_bytes (bytes_at a.a.now a.x) (take n (drop (start_of a.y) a.b.now))) (sized (goal.at.returns c).Else-not-has_word-2) ∙ sym c.same_bytes.ensures ∙ e;
    }
