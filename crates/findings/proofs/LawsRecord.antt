-- The parts of a call record by index (01, cells, texts and records): how many values are written, written pairs as a list by index, and that each
-- of their names is well formed. `h` is the head that was read.
-- Assumes nothing.
use mathlib.Core.Path.{◌≡◌, refl, sym, ap, ◌∙◌}
use mathlib.Core.Bool.{true}
use mathlib.Core.List.{List, [], ◌∷◌}
use Prim.Native.Nat.{ℕ, zero, suc, ◌+◌, ◌*◌, ◌<◌}
use native.Mathlib.Omega.{arith}
use lib.ListN.{length, drop}
use lib.Seq.{drop-drop}
use Rattle.rules.specs.Cells.{read_each}
use Rattle.rules.specs.Value.{value_width, read_value, well_formed_name}
use Rattle.rules.specs.Answer.{fine}
use Rattle.rules.specs.CallRecord.{Head, Pair, head_width, pair_width, read_head, read_pair, read_call}
use Rattle.rules.specs.CallQuestions.{well_formed_pair, ask_form}
use Rattle.cells.specs.Record.{pair_at}
use Rattle.cells.specs.Listed.{listed}
use Rattle.calls.specs.Head.{named_from}
use Rattle.calls.specs.Runs.{pairs_at}
use Rattle.cells.proofs.LawsListed.{all_at}
use Rattle.calls.proofs.LawsEach.{each_length, each_at}
use Rattle.calls.proofs.LawsForm.{pair_name}
use Rattle.calls.proofs.LawsCall.{call_positionals, formed_named, form_lengths, form_parts}

-- pairs that are consumed, as a list by index
pub pairs_listed : {X : Type 0} (read : List ℕ → X) (cells : List ℕ) (from i n : ℕ) → read_each 4 read n (drop (from + 4 * i) cells) ≡ listed (λ k. read (drop (from + 4 * k) cells)) i n
pairs_listed read cells from i zero = refl
pairs_listed {X} read cells from i (suc n) =
    let e : from + 4 * i + 4 ≡ from + 4 * suc i = omega arith in
    ap {B = List X} (λ rest. read (drop (from + 4 * i) cells) ∷ rest) (rw (drop-drop, e) (pairs_listed read cells from (suc i) n))

module _ (cells area : List ℕ) (h : Head) (read : h ≡ read_head cells) where
  pub positionals_are : length (read_call cells).positionals ≡ h.p
  positionals_are = ap length (call_positionals cells h read) ∙ each_length value_width read_value h.p (drop head_width cells)

  module _ (passed : ask_form 64 cells area ≡ fine) where
    -- the name of written pair k
    pub name_formed : (k : ℕ) → k < h.n → well_formed_name area (pair_at cells (named_from h + 4 * k)) ≡ true
    unfolding pair_width
    name_formed k below =
        pair_name area cells (named_from h + 4 * k)
        (ap (well_formed_pair area) (sym (each_at pair_width read_pair cells (named_from h) h.n k any_pair below))
        ∙ all_at (well_formed_pair area) (pairs_at cells (named_from h) h.n) k any_pair (rw (each_length pair_width read_pair h.n (drop (named_from h) cells)) below)
        (formed_named cells h read 64 (form_lengths 64 cells area passed) area (form_parts 64 cells area passed)).formed)
      where
        any_pair : Pair
        any_pair = read_pair []
