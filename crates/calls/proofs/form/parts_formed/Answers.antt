-- `calls::form::parts_formed` meets its contract: question 11 by the head that was read, part by part.
-- Assumes nothing.
use mathlib.Core.Path.{◌≡◌, sym, ap, ◌∙◌}
use mathlib.Core.Bool.{◌&&◌}
use native.Mathlib.Omega.{arith}
use borrow.Author.Rules.{rules}
use Rattle.rules.specs.Value.{value_width, well_formed_argument, well_formed_name, well_formed_key}
use Rattle.rules.specs.CallRecord.{head_width}
use Rattle.calls.specs.Head.{head_of, Few, named_from, items_from}
use Rattle.calls.specs.Runs.{run_formed, pairs_formed}
use Rattle.calls.proofs.LawsCall.{lengths_few, positionals_within, named_within, items_within, entries_within, parts_by}
use Rattle.calls.proofs.LawsForm.{name_read, key_read}
use Rattle.calls.proofs.form.parts_formed.Goals as goal
use Rattle.calls.proofs.form.parts_formed.Goals.{After-read_head-h, Joined-values_formed, Joined-pairs_formed, then-values_formed, else-values_formed, then-pairs_formed, else-pairs_formed}

few : (c : After-read_head-h) → Few 64 (head_of c.read_head-h.result)
few c = lengths_few _ _ c.read_head-h.ensures 64 c.requires

pub named_from-requires : goal.named_from-requires
named_from-requires c = few (goal.at.named_from-requires c).After-read_head-h

pub items_from-requires : goal.items_from-requires
items_from-requires c = few (goal.at.items_from-requires c).After-read_head-h

pub entries_from-requires : goal.entries_from-requires
entries_from-requires c = few (goal.at.entries_from-requires c).After-read_head-h

pub values_formed-requires : goal.values_formed-requires
unfolding head_width value_width
values_formed-requires c = λ k below. omega (arith, positionals_within _ _ c.read_head-h.ensures 64 c.requires)

pub pairs_formed-requires-clause-within : goal.pairs_formed-requires-clause-within
pairs_formed-requires-clause-within c =
    rw c.named_from.ensures (named_within _ _ c.read_head-h.ensures 64 c.requires)

pub values_formed-requires-then-pairs_formed : goal.values_formed-requires-then-pairs_formed
unfolding value_width
values_formed-requires-then-pairs_formed c =
    λ k below. omega (arith, c.items_from.ensures, items_within _ _ c.read_head-h.ensures 64 c.requires)

pub pairs_formed-requires-then-values_formed-2-clause-within : goal.pairs_formed-requires-then-values_formed-2-clause-within
pairs_formed-requires-then-values_formed-2-clause-within c =
    rw c.entries_from.ensures (entries_within _ _ c.read_head-h.ensures 64 c.requires)

-- what the first two parts answer together, and the first three
two : (c : Joined-values_formed) → let a = c.args in let h = head_of c.read_head-h.result in
    c.if-values_formed.value
    ≡ (run_formed (well_formed_argument a.record.now.area.now) a.record.now.cells.now head_width value_width h.p && pairs_formed (well_formed_name a.record.now.area.now) a.record.now.area.now a.record.now.cells.now (named_from h) h.n)
unfolding head_width value_width
two c =
    let a = c.args in
    let h = head_of c.read_head-h.result in
    elim c.if-values_formed.branch [
      | then-values_formed w ↦
          w.value-is
          ∙ w.pairs_formed.ensures (well_formed_name a.record.now.area.now) (record { told = λ kind payload b k p read. sym (name_read a.record.now.area.now kind payload) ∙ search rules })
          ∙ ap (λ at. pairs_formed (well_formed_name a.record.now.area.now) a.record.now.area.now a.record.now.cells.now at h.n) w.named_from.ensures
          ∙ sym (ap (λ b. b && pairs_formed (well_formed_name a.record.now.area.now) a.record.now.area.now a.record.now.cells.now (named_from h) h.n) (sym c.values_formed.ensures ∙ w.if-values_formed.true))
      | else-values_formed w ↦
          w.value-is ∙ w.if-values_formed.false
          ∙ sym (ap (λ b. b && pairs_formed (well_formed_name a.record.now.area.now) a.record.now.area.now a.record.now.cells.now (named_from h) h.n) (sym c.values_formed.ensures ∙ w.if-values_formed.false))
    ]

three : (c : Joined-pairs_formed) → let a = c.args in let h = head_of c.read_head-h.result in
    c.if-pairs_formed.value ≡ (c.if-values_formed.value && run_formed (well_formed_argument a.record.now.area.now) a.record.now.cells.now (items_from h) value_width h.s)
unfolding value_width
three c =
    let a = c.args in
    let h = head_of c.read_head-h.result in
    elim c.if-pairs_formed.branch [
      | then-pairs_formed w ↦
          w.value-is ∙ w.values_formed-then-pairs_formed.ensures
          ∙ ap (λ at. run_formed (well_formed_argument a.record.now.area.now) a.record.now.cells.now at 2 h.s) w.items_from.ensures
          ∙ sym (ap (λ b. b && run_formed (well_formed_argument a.record.now.area.now) a.record.now.cells.now (items_from h) 2 h.s) w.if-pairs_formed.true)
      | else-pairs_formed w ↦
          w.value-is ∙ w.if-pairs_formed.false
          ∙ sym (ap (λ b. b && run_formed (well_formed_argument a.record.now.area.now) a.record.now.cells.now (items_from h) 2 h.s) w.if-pairs_formed.false)
    ]

pub returns-then-values_formed-2 : goal.returns-then-values_formed-2
returns-then-values_formed-2 c =
    let places = goal.at.returns-then-values_formed-2 c in
    let area = c.args.record.now.area.now in
    c.pairs_formed-then-values_formed-2.ensures (well_formed_key area) (record { told = λ kind payload b k p read. sym (key_read area kind payload) ∙ search rules })
    ∙ sym (parts_by _ _ c.read_head-h.ensures _ ∙ rw (← two places.Joined-values_formed, ← three places.Joined-pairs_formed, c.if-values_formed-2.true, c.entries_from.ensures))

pub returns-else-values_formed-2 : goal.returns-else-values_formed-2
returns-else-values_formed-2 c =
    let places = goal.at.returns-else-values_formed-2 c in
    c.if-values_formed-2.false
    ∙ sym (parts_by _ _ c.read_head-h.ensures _ ∙ rw (← two places.Joined-values_formed, ← three places.Joined-pairs_formed, c.if-values_formed-2.false))
