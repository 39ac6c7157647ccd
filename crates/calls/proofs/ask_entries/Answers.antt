-- `calls::ask_entries` meets its contract: what passed 9 to 11 gives 12 what it requires. Assumes nothing.
use mathlib.Core.Path.{◌≡◌, sym, ◌∙◌}
use Rattle.rules.specs.CallRecord.{read_call}
use Rattle.rules.specs.CallQuestions.{entries_differ}
use Rattle.calls.specs.Keys.{ask_keys}
use Rattle.calls.proofs.LawsCall.{lengths_few, entries_by, formed_entries, form_lengths, form_parts}
use Rattle.calls.proofs.ask_entries.Goals as goal
use Rattle.calls.proofs.ask_entries.Goals.{After-keys_differ}

-- 12, by what its function answered
twelve : (c : After-keys_differ) → let s = c.args in
    entries_differ s.record.now.area.now (read_call s.record.now.cells.now) ≡ c.keys_differ.result
twelve c =
    entries_by _ _ c.read_head-h.ensures _ ∙ rw (sym c.entries_from.ensures) (sym c.keys_differ.ensures)

pub entries_from-requires : goal.entries_from-requires
entries_from-requires c = lengths_few _ _ c.read_head-h.ensures 64 (form_lengths 64 _ _ c.requires)

pub keys_differ-requires : goal.keys_differ-requires
keys_differ-requires c =
    let p = c.requires in
    rw c.entries_from.ensures (formed_entries _ _ c.read_head-h.ensures 64 (form_lengths 64 _ _ p) _ (form_parts 64 _ _ p))

pub returns-then-not-keys_differ : goal.returns-then-not-keys_differ
unfolding ask_keys
returns-then-not-keys_differ c = rw (c.requires, twelve (goal.at.returns-then-not-keys_differ c).After-keys_differ ∙ c.if-not-keys_differ.true)

pub returns : goal.returns
unfolding ask_keys
returns c = rw (c.requires, twelve (goal.at.returns c).After-keys_differ ∙ c.if-not-keys_differ.false)
