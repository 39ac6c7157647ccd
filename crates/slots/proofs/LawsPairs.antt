-- Laws of the named remainder's pairs as they are written: their cells, and one pair more.
-- Assumes nothing.
use mathlib.Core.Path.{◌≡◌, refl, sym, ap, ap₂, ◌∙◌}
use mathlib.Core.List.{List, [], ◌∷◌, ◌++◌, map}
use Prim.Native.Nat.{ℕ, zero, suc, ◌+◌, ◌*◌, ◌≤◌}
use native.Mathlib.Nat.{zero-add}
use native.Mathlib.Omega.{arith}
use lib.ListN.{length, take, drop, get_or}
use lib.Seq.{take-suc}
use Rattle.rules.specs.Cells.{write_each}
use Rattle.rules.specs.Value.{value_cells, read_value, call_text}
use Rattle.rules.specs.CallRecord.{Named, pair_cells, named_in, read_pair}
use Rattle.rules.specs.Text.{text_in}
use Rattle.rules.specs.Board.{named_cells}
use Rattle.rules.proofs.LawsListing.{map_append}
use Rattle.cells.specs.Record.{pair_at}
use Rattle.cells.specs.Out.{stored}
use Rattle.cells.specs.Listed.{listed}
use Rattle.cells.proofs.LawsListed.{listed_snoc}
use Rattle.findings.specs.Resolved.{named_at}
use Rattle.findings.specs.Entries.{held_names}
use Rattle.findings.proofs.LawsResolved.{named_at_value}
use Rattle.cells.proofs.LawsOut.{stored_stored}
use Rattle.cells.proofs.LawsWrite.{written_more, value_cells_two}

-- the remainder's named values, by their number
pub held_listed : (area cells rest : List ℕ) (k : ℕ) → k ≤ length rest → held_names area cells rest k ≡ listed (λ j. named_at area cells (get_or rest j 0)) 0 k
held_listed area cells rest zero h = refl
held_listed area cells rest (suc k) h =
    ap (map (named_at area cells)) (take-suc rest k 0 (omega arith))
    ∙ map_append (named_at area cells) (take k rest) (get_or rest k 0 ∷ [])
    ∙ ap (λ vs. vs ++ (named_at area cells (get_or rest k 0) ∷ [])) (held_listed area cells rest k (omega arith))
    ∙ sym (listed_snoc (λ j. named_at area cells (get_or rest j 0)) 0 k ∙ ap (λ n. listed (λ j. named_at area cells (get_or rest j 0)) 0 k ++ (named_at area cells (get_or rest n 0) ∷ [])) (zero-add k))

-- the cells of a named value are those of its pair
named_cells_lem : (area cells : List ℕ) (pair : ℕ) → (pair_at cells pair).kind ≡ call_text → named_cells (named_at area cells pair) ≡ value_cells (pair_at cells pair) ++ value_cells (pair_at cells (pair + 2))
unfolding named_cells pair_cells named_at named_in text_in read_pair pair_at
named_cells_lem area cells pair e =
    ap₂ (λ k v. value_cells (record { kind = k; payload = (read_value (drop pair cells)).payload }) ++ value_cells v) (sym e) (named_at_value area cells pair)

pub named_wide : (v : Named) → length (named_cells v) ≡ 4
unfolding named_cells pair_cells value_cells
named_wide v = refl

-- one pair more, by its two values
pub named_more : (area cells rest : List ℕ) (k at : ℕ) (before now : List ℕ) → (pair_at cells (get_or rest k 0)).kind ≡ call_text → at + 4 * k + 4 ≤ length before
    → now ≡ stored before at (write_each named_cells (listed (λ j. named_at area cells (get_or rest j 0)) 0 k)) → length now ≡ length before
    → stored (stored now (at + 4 * k) (value_cells (pair_at cells (get_or rest k 0)))) (at + 4 * k + 2) (value_cells (pair_at cells (get_or rest k 0 + 2)))
    ≡ stored before at (write_each named_cells (listed (λ j. named_at area cells (get_or rest j 0)) 0 (k + 1)))
named_more area cells rest k at before now text fits so long =
    stored_stored now (value_cells (pair_at cells (get_or rest k 0))) (value_cells (pair_at cells (get_or rest k 0 + 2))) (at + 4 * k) (at + 4 * k + 2) (ap (λ n. at + 4 * k + n) (sym (value_cells_two (pair_at cells (get_or rest k 0)))))
    (omega (arith, value_cells_two (pair_at cells (get_or rest k 0 + 2))))
    ∙ ap₂ (λ b l. stored b (at + 4 * k) l) so (sym (named_cells_lem area cells (get_or rest k 0) text))
    ∙ ap (λ j. stored (stored before at (write_each named_cells (listed (λ i. named_at area cells (get_or rest i 0)) 0 k))) (at + 4 * k) (named_cells (named_at area cells (get_or rest j 0)))) (sym (zero-add k))
    ∙ written_more 4 named_cells named_wide (λ j. named_at area cells (get_or rest j 0)) 0 k at before fits
