-- `cells::value::read_name` meets its contract: a name by the key that was read (`name_of_key`).
-- Assumes nothing.
use Rattle.std.specs.Prelude.{Option, Some, List, ℕ}
use mathlib.Core.Path.{◌≡◌, sym, ap, ◌∙◌}
use borrow.Author.Tests.{eq-eqb, ne_eqb}
use Rattle.cells.specs.declared.value.Key.{Key}
use Rattle.cells.specs.Value.{read_key, read_name}
use Rattle.cells.proofs.LawsReading.{name_of, name_of_key}
use Rattle.cells.proofs.value.read_name.Goals as goal

-- the name that a key which was read is
name : (area : List ℕ) (kind payload : ℕ) {k r : Option Key} → k ≡ read_key area kind payload → k ≡ r → name_of r ≡ read_name area kind payload
name area kind payload read was = ap name_of (sym was ∙ read) ∙ name_of_key area payload kind

pub returns-in_err-t : goal.returns-in_err-t
returns-in_err-t c = c.from_residual.ensures ∙ name _ _ _ c.read_key.ensures c.in_err-t.was

pub returns-in-Word : goal.returns-in-Word
returns-in-Word c = sym (rw (ne_eqb _ _ c.if-t-ne0.true)) ∙ name _ _ _ c.read_key.ensures (c.in_ok-t.was ∙ ap Some c.in-Word.is)

pub returns-in_default : goal.returns-in_default
returns-in_default c = sym (rw (eq-eqb _ _ c.if-t-ne0.false)) ∙ name _ _ _ c.read_key.ensures (c.in_ok-t.was ∙ ap Some c.in-Word.is)

pub returns-in_default-2 : goal.returns-in_default-2
returns-in_default-2 c = name _ _ _ c.read_key.ensures (c.in_ok-t.was ∙ ap Some c.in_default.is)
