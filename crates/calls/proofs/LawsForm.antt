-- Question 11 (01, the questions, call record) as the code asks it: of a value, a name and a key, by what reading the two cells answered; of
-- a run of them, by number; of a run of pairs, by the run of what stands first in each and the run of the values. And the
-- name of a written pair and the key of an entry that are well formed. Assumes nothing.
use Rattle.std.specs.Prelude.{Some, None}
use Rattle.std.specs.Option.{is_some}
use mathlib.Core.Path.{◌≡◌, refl, ap, ◌∙◌}
use mathlib.Core.Bool.{Bool, true, false, cond, ◌&&◌}
use mathlib.Core.List.{List}
use Prim.Native.Nat.{ℕ, zero, suc, ◌+◌, ◌*◌, ◌<◌}
use native.Mathlib.Omega.{arith}
use lib.Dec.{eqb}
use lib.ListN.{drop, get_or}
use lib.Seq.{drop-drop}
use mir.Syntax.{w64}
use mir.Val.{to_z}
use Rattle.rules.specs.Cells.{read_each}
use Rattle.rules.specs.Value.{Value, no_value, value_width, read_value, call_text, well_formed_argument, well_formed_name, well_formed_key}
use Rattle.rules.specs.CallRecord.{pair_width, read_pair}
use Rattle.rules.specs.CallQuestions.{well_formed_pair, well_formed_entry}
use Rattle.rules.proofs.LawsListing.{and_left}
use Rattle.cells.specs.Text.{text_of}
use Rattle.cells.specs.Value.{value, value_as, read_argument, read_name, read_key}
use Rattle.cells.specs.Record.{pair_at}
use Rattle.cells.proofs.LawsRecord.{pair_at_is}
use Rattle.cells.specs.declared.value.Key.TheVariants.{Word, Number}
use Rattle.calls.specs.Runs.{run_formed, pairs_formed}
use Rattle.calls.proofs.LawsEach.{each_at}

-- ---- two cells

-- a value, a name or a key was read where the two cells are one
pub argument_read : (area : List ℕ) (kind payload : ℕ) → is_some (read_argument area kind payload) ≡ well_formed_argument area (value kind payload)
unfolding read_argument
argument_read area kind payload = go (well_formed_argument area (value kind payload))
  where
    go : (b : Bool) → is_some (cond b (Some (value_as kind payload)) None) ≡ b
    go true = refl
    go false = refl

pub name_read : (area : List ℕ) (kind payload : ℕ) → is_some (read_name area kind payload) ≡ well_formed_name area (value kind payload)
unfolding read_name
name_read area kind payload = go (well_formed_name area (value kind payload))
  where
    go : (b : Bool) → is_some (cond b (Some (text_of payload)) None) ≡ b
    go true = refl
    go false = refl

pub key_read : (area : List ℕ) (kind payload : ℕ) → is_some (read_key area kind payload) ≡ well_formed_key area (value kind payload)
unfolding read_key
key_read area kind payload = go (well_formed_key area (value kind payload))
  where
    go : (b : Bool) → is_some (cond b (Some (cond (eqb kind call_text) (Word (text_of payload)) (Number (to_z w64 payload)))) None) ≡ b
    go true = refl
    go false = refl

-- ---- a run

-- number k of a run by its two cells
pub run_at : (test : Value → Bool) (cells : List ℕ) (from width count k : ℕ) → k < count
    → test (get_or (read_each width read_value count (drop from cells)) k no_value) ≡ test (value (get_or cells (from + width * k) 0) (get_or cells (from + width * k + 1) 0))
unfolding pair_at
run_at test cells from width count k below =
    ap test (each_at width read_value cells from count k no_value below ∙ pair_at_is cells (from + width * k))

-- ---- a run of pairs

and_swap : (a b c d : Bool) → (a && b && (c && d)) ≡ (a && c && (b && d))
and_swap true true c d = refl
and_swap true false true d = refl
and_swap true false false d = refl
and_swap false b c d = refl

module _ (test : Value → Bool) (area cells : List ℕ) where
  -- it is well formed if what stands first in each pair is, and the values are
  pairs_parts : (from count : ℕ) → pairs_formed test area cells from count
      ≡ (run_formed test cells from pair_width count && run_formed (well_formed_argument area) cells (from + value_width) pair_width count)
  unfolding read_pair
  pairs_parts from zero = refl
  pairs_parts from (suc count) =
      let e : from + value_width + pair_width ≡ from + pair_width + value_width = omega arith in
      rw (drop-drop value_width from cells, drop-drop pair_width from cells, drop-drop pair_width (from + value_width) cells, e)
      (ap (λ b. test (read_value (drop from cells)) && well_formed_argument area (read_value (drop (from + value_width) cells)) && b) (pairs_parts (from + pair_width) count)
      ∙ and_swap (test (read_value (drop from cells))) (well_formed_argument area (read_value (drop (from + value_width) cells)))
      (run_formed test cells (from + pair_width) pair_width count) (run_formed (well_formed_argument area) cells (from + pair_width + value_width) pair_width count))

  module _ (from count : ℕ) where
    pub pairs_pass : run_formed test cells from pair_width count ≡ true
        → pairs_formed test area cells from count ≡ run_formed (well_formed_argument area) cells (from + value_width) pair_width count
    pairs_pass e = pairs_parts from count ∙ ap (λ b. b && run_formed (well_formed_argument area) cells (from + value_width) pair_width count) e

    pub pairs_fail : run_formed test cells from pair_width count ≡ false → pairs_formed test area cells from count ≡ false
    pairs_fail e = pairs_parts from count ∙ ap (λ b. b && run_formed (well_formed_argument area) cells (from + value_width) pair_width count) e

-- ---- the name of a written pair, and the key of an entry

module _ (area cells : List ℕ) (at : ℕ) where
  pub pair_name : well_formed_pair area (read_pair (drop at cells)) ≡ true → well_formed_name area (pair_at cells at) ≡ true
  unfolding well_formed_pair read_pair pair_at
  pair_name e = and_left (well_formed_name area (read_value (drop at cells))) (well_formed_argument area (read_value (drop value_width (drop at cells)))) e

  pub entry_key : well_formed_entry area (read_pair (drop at cells)) ≡ true → well_formed_key area (pair_at cells at) ≡ true
  unfolding well_formed_entry read_pair pair_at
  entry_key e = and_left (well_formed_key area (read_value (drop at cells))) (well_formed_argument area (read_value (drop value_width (drop at cells)))) e
