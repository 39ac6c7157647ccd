-- `accessors::entries::ask_name` meets its contract: the answer of 19 by whether the name was found.
-- Assumes nothing.
use mathlib.Core.Path.{◌≡◌, sym, ap, ◌∙◌}
use mathlib.Core.Bool.{cond}
use Rattle.std.specs.Prelude.{Ok, Err}
use Rattle.rules.specs.Text.{among}
use Rattle.rules.specs.Binding.{texts_of}
use Rattle.cells.specs.Text.{part_at}
use Rattle.calls.specs.Head.{head_of}
use Rattle.calls.specs.Named.{names_in}
use Rattle.answers.specs.declared.answer.EntryRefusal.TheVariants.{Repeated}
use Rattle.accessors.proofs.entries.ask_name.Goals as goal
use Rattle.accessors.proofs.entries.ask_name.Goals.{After-is_named}

-- what was answered of the name
tested : (c : After-is_named) → let a = c.args in
    among (part_at a.call.now.area.now a.payload) (texts_of (names_in a.call.now.area.now a.call.now.cells.now (head_of a.call.now.head) a.count)) ≡ c.is_named.result
tested c =
    let a = c.args in
    sym (c.is_named.ensures ∙ ap (λ l. among l (texts_of (names_in a.call.now.area.now a.call.now.cells.now (head_of a.call.now.head) a.count))) c.part.ensures.bytes)

pub returns-then-is_named : goal.returns-then-is_named
returns-then-is_named c = sym (ap (λ b. cond b (Err (Repeated c.args.payload)) (Ok tt)) (tested (goal.at.returns-then-is_named c).After-is_named ∙ c.if-is_named.true))

pub returns : goal.returns
returns c = sym (ap (λ b. cond b (Err (Repeated c.args.payload)) (Ok tt)) (tested (goal.at.returns c).After-is_named ∙ c.if-is_named.false))
