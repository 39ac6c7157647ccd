-- `builder::take_steps` meets its contract. The loop's invariant: no step was refused, and the questions and parameters of the whole record are those
-- so far and those of the steps that are left.
-- Assumes nothing.
use mathlib.Core.Path.{◌≡◌}
use Rattle.std.specs.Prelude.{Ok}
use Rattle.builder.proofs.LawsBuild.{Left}
use Rattle.builder.proofs.take_steps.Given as goal

abbrev pub invariant-loop-i : goal.invariant-loop-i
invariant-loop-i l = record {
  fine : l.stepped.answer ≡ Ok tt;
  left : Left l.«record».cells.now l.«record».area.now l.m l.stepped.builder l.i;
}
