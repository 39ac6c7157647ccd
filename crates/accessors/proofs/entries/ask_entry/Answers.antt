-- `accessors::entries::ask_entry` meets its contract: what 18 and 19 answer for the key that was read.
-- Assumes nothing.
use mathlib.Core.Path.{◌≡◌, sym, ap, ◌∙◌}
use Rattle.std.specs.Prelude.{Option, Some}
use Rattle.rules.specs.Binding.{ask_entry}
use Rattle.cells.specs.Record.{key_at}
use Rattle.cells.specs.declared.value.Key.{Key}
use mathlib.Core.List.{[]}
use Rattle.calls.specs.Head.{head_of}
use Rattle.calls.specs.Places.{named_at}
use Rattle.calls.specs.Named.{pair_entry, names_in}
use Rattle.accessors.specs.Entries.{entries_answer}
use Rattle.accessors.proofs.LawsEntries.{name_asked, key_asked, entry_read, pair_key}
use Rattle.accessors.proofs.entries.ask_entry.Goals as goal
use Rattle.accessors.proofs.entries.ask_entry.Goals.{After-key_at}

-- the answer, by the key that was read
read_as : (c : After-key_at) {r : Option Key} → c.key_at.result ≡ r → let a = c.args in
    let names = names_in a.call.now.area.now a.call.now.cells.now (head_of a.call.now.head) a.count in
    entries_answer (key_asked a.call.now.area.now names r) ≡ ask_entry [] [] names (pair_entry a.call.now.area.now a.call.now.cells.now (head_of a.call.now.head) a.count).key
read_as c {r} e =
    let a = c.args in
    let names = names_in a.call.now.area.now a.call.now.cells.now (head_of a.call.now.head) a.count in
    entry_read a.call.now.area.now a.call.now.cells.now (named_at 64 (head_of a.call.now.head) a.count) c.requires.0 names r
    (ap (key_at a.call.now.area.now a.call.now.cells.now) (sym c.named_at.ensures) ∙ sym c.key_at.ensures ∙ e)
    ∙ ap (ask_entry [] [] names) (sym (pair_key a.call.now.area.now a.call.now.cells.now (head_of a.call.now.head) a.count))

pub returns-in-Some-Word : goal.returns-in-Some-Word
returns-in-Some-Word c =
    let a = c.args in
    let names = names_in a.call.now.area.now a.call.now.cells.now (head_of a.call.now.head) a.count in
    ap entries_answer (c.ask_name.ensures ∙ ap (name_asked a.call.now.area.now names) c.payload.ensures)
    ∙ read_as (goal.at.returns-in-Some-Word c).After-key_at (c.in-Some-Word.is ∙ ap Some c.in-Some-Word.field-0-is)

pub returns-in-Some-Number : goal.returns-in-Some-Number
returns-in-Some-Number c = read_as (goal.at.returns-in-Some-Number c).After-key_at (c.in-Some-Number.is ∙ ap Some c.in-Some-Number.field-0-is)

pub returns-in-None : goal.returns-in-None
returns-in-None c = read_as (goal.at.returns-in-None c).After-key_at c.in-None.is
