-- `sheet_records::run::Run::write_key` meets its contract: the pair is that of a step, of a name or of a key, by what is wanted.
-- Assumes nothing.
use mathlib.Core.Path.{◌≡◌, refl, ap, ap₂, ◌∙◌}
use mathlib.Core.Bool.{true, cond}
use mathlib.Core.List.{[]}
use Prim.Native.Nat.{ℕ}
use native.Mathlib.Omega.{arith}
use lib.Dec.{ltb}
use lib.ListN.{length}
use Rattle.std.specs.Option.{is_some}
use Rattle.rules.specs.Text.{payload_of}
use Rattle.rules.specs.Value.{call_text, value_cells}
use Rattle.rules.specs.SheetLines.{Row}
use Rattle.cells.specs.Value.{pair_of, value}
use Rattle.sheet_lines.specs.Row.{row_of}
use Rattle.sheet_lines.specs.Word.{call_part_of, part_read}
use Rattle.sheet_lines.specs.declared.word.CallPart.{CallPart}
use Rattle.sheet_lines.specs.declared.word.CallPart.TheVariants.{Positional, Named, Star, Item, Double, Entry}
use Rattle.sheet_records.specs.Run.{key_cells}
use Rattle.sheet_records.proofs.LawsRun.{added_none, added_same}
use Rattle.sheet_records.proofs.run.Run.write_key.Goals as goal
use Rattle.sheet_records.proofs.run.Run.write_key.Goals.{Joined-wanted, in-None, in-Some+in-Named, in-Some+in-Entry}

-- the parts that the last arm is left with
no_key : (w : CallPart) → (w ≡ Named → ⊥) → (w ≡ Entry → ⊥) → (at : ℕ) (r : Row) → key_cells true (call_part_of w) at r ≡ []
no_key Positional named entry at r = refl
no_key Named named entry at r = absurd (named refl)
no_key Star named entry at r = refl
no_key Item named entry at r = refl
no_key Double named entry at r = refl
no_key Entry named entry at r = absurd (entry refl)

pub returns-in_default : goal.returns-in_default
returns-in_default c =
    let a = c.args in
    let r = row_of a.row in
    added_none (key_cells (is_some a.wanted) (part_read a.wanted) a.text r) a.self.now
    (rw c.in-Some.is (no_key c.in-Some.part c.in_default.not-Named c.in_default.not-Entry a.text r)) c.requires.1

-- the pair that is written
pair : (c : Joined-wanted) → let a = c.args in value_cells (pair_of c.match-wanted.pair) ≡ key_cells (is_some a.wanted) (part_read a.wanted) a.text (row_of a.row)
unfolding call_text
pair c =
    let a = c.args in
    let r = row_of a.row in
    elim c.match-wanted.branch [
      | in-None w ↦ rw w.in-None.is (ap value_cells (ap pair_of (w.pair-is ∙ w.new-pair.ensures) ∙ ap₂ value w.code_of-code.ensures (w.step_name.ensures ∙ ap (λ (x : ℕ). cond (ltb x 4) (payload_of a.text (length r.name)) 0) w.code_of-code.ensures)))
      | in-Some+in-Named w ↦ rw (w.in-Some.is, w.in-Named.is) (ap value_cells (ap pair_of (w.pair-is ∙ w.new.ensures) ∙ ap (value 6) w.payload_of.ensures))
      | in-Some+in-Entry w ↦ rw (w.in-Some.is, w.in-Entry.is) (ap value_cells (ap pair_of w.pair-is ∙ w.value_at.ensures))
    ]

pub put-requires : goal.put-requires
unfolding value_cells
put-requires c = omega (arith, ap length (pair (goal.at.put-requires c).Joined-wanted), c.requires.1)

pub returns : goal.returns
returns c =
    let a = c.args in
    added_same (value_cells (pair_of c.match-wanted.pair)) (key_cells (is_some a.wanted) (part_read a.wanted) a.text (row_of a.row))
    (pair (goal.at.returns c).Joined-wanted) c.put.ensures
